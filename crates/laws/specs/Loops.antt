-- What a loop that counts up has done after i iterations, as a function of i: a list with its entries below i replaced, i numbered steps, a test of
-- every index below i. Each has its value before the first iteration and the law of one more iteration, where the code's count is `i + 1`.
use Rattle.std.specs.Prelude.{◌≡◌, Bool, true, false, List, ◌⊎◌, length, get_or, set}
use Rattle.std.proofs.Math.Path.{refl}
use Rattle.std.proofs.Common.{ap, sym, ◌∙◌, ⊎_elim, eq-or-lt_of_le, add-one, arith, get_or-set_same, ext_get_or}
use Prim.Native.Nat.{ℕ, zero, suc, ◌+◌, ◌<◌, ◌≤◌}
use Rattle.std.proofs.Math.ListN.{length-set}
use Rattle.std.proofs.Math.Seq.{get_or-set_other}
use Rattle.std.proofs.lemmas.List.{set-get_or}
use Rattle.laws.specs.Lists.{table}
use Rattle.laws.specs.Search.{any_below, all_below}
use Rattle.laws.specs.Tables.{length_table, get_d_table}

-- One of two cases, named before what follows from each: so each side knows what it may use.
pub either : {A B C : Type 0} → A ⊎ B → (A → C) → (B → C) → C
either s f g = ⊎_elim f g s

-- the list l with its entries below n replaced by f
unfoldable pub set_below : {A : Type 0} → ℕ → (ℕ → A) → List A → List A
set_below zero f l = l
set_below (suc n) f l = set (set_below n f l) n (f n)

module _ {A : Type 0} (f : ℕ → A) (l : List A) where
  pub below_none : l ≡ set_below 0 f l
  unfolding set_below
  below_none = refl

  pub below_length : (n : ℕ) → length (set_below n f l) ≡ length l
  unfolding set_below
  below_length zero = refl
  below_length (suc n) = length-set (set_below n f l) n (f n) ∙ below_length n

  -- an entry that is not reached yet
  pub below_above : (n k : ℕ) (d : A) → n ≤ k → get_or (set_below n f l) k d ≡ get_or l k d
  unfolding set_below
  below_above zero k d h = refl
  below_above (suc n) k d h = get_or-set_other (set_below n f l) n k (f n) d (omega arith) ∙ below_above n k d (omega arith)

  -- an entry that is replaced, where the list has it
  pub below_at : (n k : ℕ) (d : A) → k < n → k < length l → get_or (set_below n f l) k d ≡ f k
  unfolding set_below
  below_at zero k d h b = absurd (omega arith)
  below_at (suc n) k d h b =
      either (eq-or-lt_of_le {n = k} {m = n} (omega arith))
      (λ e. rw e (get_or-set_same (set_below n f l) n (f n) d (simp below_length (omega arith))))
      (λ lt. get_or-set_other (set_below n f l) n k (f n) d (omega arith) ∙ below_at n k d lt b)

  -- all entries replaced: nothing of l is left but its length
  pub below_all : (n : ℕ) → length l ≡ n → set_below n f l ≡ table n f
  below_all n h =
      ext_get_or (f 0) (set_below n f l) (table n f) (below_length n ∙ h ∙ sym (length_table n f))
      (λ k lt. let b : k < n = rw (below_length, h) at lt in below_at n k (f 0) b (rw h b) ∙ sym (get_d_table n f k (f 0) b))

  -- one iteration, at entry i of the list v that the iterations before it have left: the entry is as it was in l, and it is written or left alone
  module _ (v : List A) (i : ℕ) (inv : v ≡ set_below i f l) where
    pub step_old : (d : A) → get_or v i d ≡ get_or l i d
    step_old d = ap (λ (w : List A). get_or w i d) inv ∙ below_above i i d (omega arith)

    pub step_set : (x : A) → x ≡ f i → set v i x ≡ set_below (i + 1) f l
    unfolding set_below
    step_set x e = rw (add-one, inv, e)

    pub step_keep : (d : A) → get_or l i d ≡ f i → v ≡ set_below (i + 1) f l
    step_keep d e = sym (set-get_or v i d) ∙ step_set (get_or v i d) (step_old d ∙ e)

-- step 0, then step 1, up to step n - 1
unfoldable pub iter : {A : Type 0} → ℕ → (ℕ → A → A) → A → A
iter zero f a = a
iter (suc n) f a = f n (iter n f a)

pub iter_none : {A : Type 0} (f : ℕ → A → A) (a : A) → a ≡ iter 0 f a
unfolding iter
iter_none f a = refl

pub iter_more : {A : Type 0} (f : ℕ → A → A) (a b : A) (i : ℕ) (r : A) → b ≡ iter i f a → r ≡ f i b → r ≡ iter (i + 1) f a
unfolding iter
iter_more f a b i r e g = rw (add-one, g, e)

-- Some index below i passes: the mark so far, and the two ways on.
module _ (t : ℕ → Bool) where
  pub any_zero : false ≡ any_below 0 t
  unfolding any_below
  any_zero = refl

  pub any_yes : (i : ℕ) → t i ≡ true → true ≡ any_below (i + 1) t
  unfolding any_below
  any_yes i e = rw (add-one, e)

  pub any_no : (i : ℕ) (b : Bool) → b ≡ any_below i t → t i ≡ false → b ≡ any_below (i + 1) t
  unfolding any_below
  any_no i b inv e = rw (add-one, e, inv)

  -- Every index below i passes.
  pub all_zero : true ≡ all_below 0 t
  unfolding all_below
  all_zero = refl

  pub all_yes : (i : ℕ) (b : Bool) → b ≡ all_below i t → t i ≡ true → b ≡ all_below (i + 1) t
  unfolding all_below
  all_yes i b inv e = rw (add-one, e, inv)
