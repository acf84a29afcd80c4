-- What is left of a list after a place, tested. A loop that walks a list has, after i iterations, passed the first i elements and has `drop i` before
-- it; these laws take one element off what is left, and say what is left of a list that is used up.
use Rattle.std.specs.Prelude.{◌≡◌, refl, Bool, true, false, ◌&&◌, ◌||◌, List, [], ◌∷◌, map, ℕ, zero, suc, ◌+◌, ◌≤◌, ◌<◌, length, get_or, take, drop, ltb, Some}
use Rattle.std.proofs.Common.{sym, ◌∙◌, add-one, arith, drop_of_length-le, ltb-true, ltb-false}
use Rattle.std.proofs.Math.Seq.{drop-cons}
use Rattle.laws.specs.Choice.{by_bool}
use Rattle.laws.specs.Lists.{last_of}
use Rattle.laws.specs.Search.{all_below, all_out}
use Rattle.laws.specs.Tests.{every, some_of}
use Rattle.laws.specs.Truth.{and_left, and_right, and_no_right, never_both}

-- Three tests that must all hold, grouped to the left and to the right.
pub and_group : (a b c : Bool) → ((a && b) && c) ≡ (a && (b && c))
and_group true b c = refl
and_group false b c = refl

pub and_true : (a : Bool) → (a && true) ≡ a
and_true true = refl
and_true false = refl

pub or_false : (a : Bool) → (a || false) ≡ a
or_false true = refl
or_false false = refl

-- Two tests that must both hold, the other way round.
pub and_swap : (a b : Bool) → (a && b) ≡ (b && a)
and_swap true true = refl
and_swap true false = refl
and_swap false true = refl
and_swap false false = refl

module _ {A : Type 0} (t : A → Bool) (l : List A) (i : ℕ) where
  -- one element taken off what is left
  pub every_rest : (d : A) → i < length l → every t (drop i l) ≡ (t (get_or l i d) && every t (drop (i + 1) l))
  unfolding every
  every_rest d h = rw (add-one, drop-cons l i d h)

  -- nothing is left
  pub every_done : length l ≤ i → every t (drop i l) ≡ true
  unfolding every
  every_done h = rw (drop_of_length-le l h)

-- An iteration of a loop that keeps a mark and goes on: the mark so far and the test of what is left are the test of the whole.
module _ {A : Type 0} (t : A → Bool) (l : List A) (i : ℕ) (d : A) (h : i < length l) (mark whole : Bool) where
  pub every_step : (mark && every t (drop i l)) ≡ whole → ((mark && t (get_or l i d)) && every t (drop (i + 1) l)) ≡ whole
  every_step inv = and_group mark (t (get_or l i d)) (every t (drop (i + 1) l)) ∙ rw (← every_rest t l i d h) inv

-- The loop's end: the mark is the test of the whole.
module _ {A : Type 0} (t : A → Bool) (l : List A) (i : ℕ) (h : length l ≤ i) (mark whole : Bool) where
  pub every_end : (mark && every t (drop i l)) ≡ whole → mark ≡ whole
  every_end inv = sym (and_true mark) ∙ rw (every_done t l i h) at inv

-- Every element passes: by index.
pub every_at : {A : Type 0} (t : A → Bool) (l : List A) (k : ℕ) (d : A) → k < length l → every t l ≡ true → t (get_or l k d) ≡ true
unfolding every
every_at t [] k d h e = absurd (omega arith)
every_at t (x ∷ l) zero d h e = and_left (t x) (every t l) e
every_at t (x ∷ l) (suc k) d h e = every_at t l k d (omega arith) (and_right (t x) (every t l) e)

-- Every element after a place passes: by index.
pub every_beyond : {A : Type 0} (t : A → Bool) (n : ℕ) (l : List A) (k : ℕ) (d : A) → every t (drop n l) ≡ true → n ≤ k → k < length l → t (get_or l k d) ≡ true
unfolding every
every_beyond t zero l k d e low under = every_at t l k d under e
every_beyond t (suc n) [] k d e low under = absurd (omega arith)
every_beyond t (suc n) (x ∷ l) zero d e low under = absurd (omega arith)
every_beyond t (suc n) (x ∷ l) (suc k) d e low under = every_beyond t n l k d e (omega arith) (omega arith)

pub every_by : {A : Type 0} (t : A → Bool) (l : List A) (d : A) → ((k : ℕ) → k < length l → t (get_or l k d) ≡ true) → every t l ≡ true
unfolding every
every_by t [] d h = refl
every_by t (x ∷ l) d h = rw (h 0 (omega arith)) (every_by t l d (λ k lt. h (suc k) (omega arith)))

-- Some element passes: by index.
pub some_at : {A : Type 0} (t : A → Bool) (l : List A) (k : ℕ) (d : A) → k < length l → t (get_or l k d) ≡ true → some_of t l ≡ true
unfolding some_of
some_at t [] k d h e = absurd (omega arith)
some_at t (x ∷ l) zero d h e = rw e
some_at t (x ∷ l) (suc k) d h e = by_bool (t x) (λ q. rw q) (λ q. rw q (some_at t l k d (omega arith) e))

pub some_where : {A : Type 0} (t : A → Bool) (l : List A) (d : A) → some_of t l ≡ true → (k : ℕ) × (k < length l) × (t (get_or l k d) ≡ true)
unfolding some_of
some_where t [] d e = never_both false e refl
some_where t (x ∷ l) d e = by_bool (t x)
    (λ q. (0, omega arith, q))
    (λ q. let w = some_where t l d (rw q at e) in (suc w.0, omega (arith, w.1), w.2))

-- The last of the first h elements.
pub last_take : {A : Type 0} (l : List A) (h : ℕ) (d : A) → h < length l → last_of (take (suc h) l) ≡ Some (get_or l h d)
unfolding last_of
last_take [] h d b = absurd (omega arith)
last_take (x ∷ l) zero d b = refl
last_take (x ∷ l) (suc h) d b = rw (last_take l h d (omega arith))

-- An iteration of a loop that keeps a mark over all indexes and goes on.
pub all_step : (t : ℕ → Bool) (i : ℕ) (mark : Bool) → mark ≡ all_below i t → (mark && t i) ≡ all_below (i + 1) t
unfolding all_below
all_step t i mark inv = rw (add-one, inv) (and_swap (all_below i t) (t i))

-- A loop over the indexes that stops at the first one that fails.
pub all_stop : (n : ℕ) (t : ℕ → Bool) (i : ℕ) → i < n → t i ≡ false → false ≡ all_below n t
all_stop n t i h e = by_bool (all_below n t) (λ q. never_both (t i) (all_out n t q i h) e) (λ q. sym q)

-- A number is below another or it is not.
pub by_lt {ℓ} : {P : Type ℓ} (k n : ℕ) → (k < n → P) → (n ≤ k → P) → P
by_lt k n f g = by_bool (ltb k n) (λ e. f (ltb-true k n e)) (λ e. g (ltb-false k n e))

pub every_map : {A B : Type 0} (t : B → Bool) (f : A → B) (l : List A) → every t (map f l) ≡ every (λ x. t (f x)) l
unfolding every
every_map t f [] = refl
every_map t f (x ∷ l) = rw (every_map t f l)

-- Two tests of every element together.
pub every_both : {A : Type 0} (t u : A → Bool) (l : List A) → every (λ x. t x && u x) l ≡ (every t l && every u l)
unfolding every
every_both t u [] = refl
every_both t u (x ∷ l) = by_bool (t x)
    (λ e. rw (e, every_both t u l) (by_bool (u x)
    (λ q. rw q)
    (λ q. rw q (sym (and_no_right (every t l) false refl)))))
    (λ e. rw e)

-- Two tests of all indexes together.
pub all_both : (n : ℕ) (t u : ℕ → Bool) → all_below n (λ k. t k && u k) ≡ (all_below n t && all_below n u)
unfolding all_below
all_both zero t u = refl
all_both (suc n) t u = by_bool (t n)
    (λ e. rw (e, all_both n t u) (by_bool (u n)
    (λ q. rw q)
    (λ q. rw q (sym (and_no_right (all_below n t) false refl)))))
    (λ e. rw e)
