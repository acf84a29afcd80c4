-- Words that numbered steps leave, where no step changes how many they are: a word that no step touches, and one that a step sets and none after it touches.
-- Assumes nothing.
use Rattle.std.specs.Prelude.{◌≡◌, ◌<◌}
use Rattle.laws.specs.Basics.{refl, ◌∙◌, List, ℕ, zero, suc, arith, length, by_eq}
use Rattle.laws.specs.Loops.{iter}
use Rattle.words.specs.Layout.{word}

module _ (f : ℕ → List ℕ → List ℕ) (size : (i : ℕ) (v : List ℕ) → length (f i v) ≡ length v) (w : List ℕ) where
  pub iter_length : (n : ℕ) → length (iter n f w) ≡ length w
  unfolding iter
  iter_length zero = refl
  iter_length (suc n) = size n (iter n f w) ∙ iter_length n

  pub iter_stays : (n k : ℕ) → ((i : ℕ) → i < n → (v : List ℕ) → word (f i v) k ≡ word v k) → word (iter n f w) k ≡ word w k
  unfolding iter
  iter_stays zero k stays = refl
  iter_stays (suc n) k stays = stays n (omega arith) (iter n f w) ∙ iter_stays n k (λ i lt. stays i (omega arith))

  pub iter_at : (n i k x : ℕ) → i < n → ((v : List ℕ) → length v ≡ length w → word (f i v) k ≡ x)
      → ((j : ℕ) → i < j → j < n → (v : List ℕ) → word (f j v) k ≡ word v k) → word (iter n f w) k ≡ x
  unfolding iter
  iter_at zero i k x lt here later = absurd (omega arith)
  iter_at (suc n) i k x lt here later = by_eq i n
      (λ e. rw e at here (iter n f w) (iter_length n))
      (λ ne. later n (omega arith) (omega arith) (iter n f w) ∙ iter_at n i k x (omega arith) here (λ j a b. later j a (omega arith)))
