-- Every element of a list passes a test: for lists put together, cut, repeated and laid out by index. A search for one given number.
use Rattle.std.specs.Prelude.{◌≡◌, refl, Bool, true, false, ◌&&◌, List, [], ◌∷◌, ◌++◌, ℕ, zero, suc, ◌≤◌, ◌<◌, eqb, length, get_or, drop, replicate}
use Rattle.std.proofs.Common.{sym, ◌∙◌, arith, eq-eqb, eqb-true}
use Rattle.laws.specs.Choice.{by_bool}
use Rattle.laws.specs.Truth.{and_left, and_right, and_both}
use Rattle.laws.specs.Lists.{table}
use Rattle.laws.specs.Search.{any_below, any_in, any_out}
use Rattle.laws.specs.Tests.{every}

-- Two tests that hold of each other are one.
pub same_test : (a b : Bool) → (a ≡ true → b ≡ true) → (b ≡ true → a ≡ true) → a ≡ b
same_test true b f g = sym (f refl)
same_test false b f g = by_bool b (λ e. g e ∙ sym e) (λ e. sym e)

-- Every element of two lists one after the other.
pub every_append : {A : Type 0} (t : A → Bool) (a b : List A) → every t a ≡ true → every t b ≡ true → every t (a ++ b) ≡ true
unfolding every
every_append t [] b p q = q
every_append t (x ∷ a) b p q = rw (and_left (t x) (every t a) p) (every_append t a b (and_right (t x) (every t a) p) q)

-- Every element of a list of one.
pub every_single : {A : Type 0} (t : A → Bool) (x : A) → t x ≡ true → every t (x ∷ []) ≡ true
unfolding every
every_single t x e = rw e

-- Every element of the empty list.
pub every_nil : {A : Type 0} (t : A → Bool) → every t [] ≡ true
unfolding every
every_nil t = refl

-- Every element after a place.
pub every_drop : {A : Type 0} (t : A → Bool) (k : ℕ) (l : List A) → every t l ≡ true → every t (drop k l) ≡ true
unfolding every
every_drop t zero l e = e
every_drop t (suc k) [] e = refl
every_drop t (suc k) (x ∷ l) e = every_drop t k l (and_right (t x) (every t l) e)

-- Every element from a place on, by its index.
pub every_from : {A : Type 0} (t : A → Bool) (d : A) (k : ℕ) (l : List A) → ((i : ℕ) → k ≤ i → i < length l → t (get_or l i d) ≡ true) → every t (drop k l) ≡ true
unfolding every
every_from t d zero [] h = refl
every_from t d (suc k) [] h = refl
every_from t d zero (x ∷ l) h = rw (h 0 (omega arith) (omega arith)) (every_from t d zero l (λ i a b. h (suc i) (omega arith) (omega arith)))
every_from t d (suc k) (x ∷ l) h = every_from t d k l (λ i a b. h (suc i) (omega arith) (omega arith))

-- Every element of a list of one element repeated.
pub every_replicate : {A : Type 0} (t : A → Bool) (k : ℕ) (x : A) → t x ≡ true → every t (replicate k x) ≡ true
unfolding every
every_replicate t zero x e = refl
every_replicate t (suc k) x e = rw e (every_replicate t k x e)

-- Every element of a list laid out by index.
pub every_table : {A : Type 0} (t : A → Bool) (n : ℕ) (f : ℕ → A) → ((j : ℕ) → j < n → t (f j) ≡ true) → every t (table n f) ≡ true
unfolding table
every_table t zero f h = every_nil t
every_table t (suc n) f h = every_append t (table n f) (f n ∷ []) (every_table t n f (λ j lt. h j (omega arith))) (every_single t (f n) (h n (omega arith)))

-- Some number below the bound passes a test and is k: k passes it, where only numbers below the bound do.
pub any_at : (n : ℕ) (t : ℕ → Bool) (k : ℕ) → (t k ≡ true → k < n) → any_below n (λ j. t j && eqb j k) ≡ t k
any_at n t k h = same_test _ _
    (λ e.
    let w = any_out n _ e in
    let same : w.0 ≡ k = eqb-true w.0 k (and_right (t w.0) (eqb w.0 k) w.2) in
    rw same at (and_left (t w.0) (eqb w.0 k) w.2))
    (λ e. any_in n _ k (h e) (and_both (t k) (eqb k k) e (eq-eqb k k refl)))
