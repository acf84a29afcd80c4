-- A call made on a copy of the words with lists of its own, of k entries at most, has the refusal of the call itself: a refusal looks at the state and at how long the lent
-- lists are, and 512 entries, or 16, are as good as more.
-- Assumes nothing.
use Rattle.std.specs.Prelude.{◌≡◌, ◌≤◌}
use Rattle.laws.specs.Basics.{sym, ◌∙◌, ap, List, ℕ, min, length, take, replicate, length-replicate, length-take-le}
use Rattle.model.specs.declared.Run.{Run}
use Rattle.model.specs.Refusals.{checkpoint_refusal, deliver_refusal, recover_refusal}
use Rattle.theory_recording.proofs.Recording.{checkpoint_scratch, deliver_scratch, recover_scratch}

-- The first entries of a list of zeros.
front : (k most size : ℕ) (lent : List ℕ) → (k ≡ min size most) × (k ≤ most) → length lent ≡ size → length {A = ℕ} (take k (replicate most 0)) ≡ min (length lent) most
front k most size lent h e = length-take-le k (replicate most 0) (rw (length-replicate {A = ℕ} most 0) h.1) ∙ h.0 ∙ ap (λ (n : ℕ). min n most) (sym e)

module _ (s t : Run) (same : s ≡ t) (k size : ℕ) (lent : List ℕ) (few : (k ≡ min size 512) × (k ≤ 512)) (long : length lent ≡ size) where
  pub checkpoint_alike : (i : ℕ) → checkpoint_refusal s i (take k (replicate 512 0)) ≡ checkpoint_refusal t i lent
  checkpoint_alike i = checkpoint_scratch s i _ lent (front k 512 size lent few long) ∙ ap (λ (s : Run). checkpoint_refusal s i lent) same

  pub deliver_alike : (m : ℕ) → deliver_refusal s m (take k (replicate 512 0)) ≡ deliver_refusal t m lent
  deliver_alike m = deliver_scratch s m _ lent (front k 512 size lent few long) ∙ ap (λ (s : Run). deliver_refusal s m lent) same

  pub recover_alike : (F j members : ℕ) (line : List ℕ) → (j ≡ min members 16) × (j ≤ 16) → length line ≡ members
      → recover_refusal s F (take k (replicate 512 0)) (take j (replicate 16 0)) ≡ recover_refusal t F lent line
  recover_alike F j members line few-members long-line =
      recover_scratch s F _ lent _ line (front k 512 size lent few long) (front j 16 members line few-members long-line) ∙ ap (λ (s : Run). recover_refusal s F lent line) same
