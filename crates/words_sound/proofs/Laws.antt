-- Tests of a list that is laid out by index, as tests of the indexes: of all its entries, of those from a place on, of the chosen ones; and numbers that ascend,
-- one more at a time.
-- Assumes nothing.
use Rattle.std.specs.Prelude.{◌≡◌, ◌&&◌, ◌||◌, ◌∷◌, ◌++◌, ◌+◌, ◌≤◌, ◌<◌}
use Rattle.laws.specs.Basics.{refl, sym, ◌∙◌, Bool, true, false, not, List, [], ℕ, zero, suc, arith, ltb, leb, length, take, drop, length-append, length-take-le, lt-ltb, le-ltb, ltb-true, pick, by_bool}
use lib.Seq.{get_or-take, ext_get_or}
use Rattle.laws.specs.{Elements.same_test, Elements.every_from, Lists.select, Lists.table, Search.all_below, Search.all_in, Search.all_out, Select.select_append}
use Rattle.laws.specs.{Rows.and_group, Rows.and_swap, Rows.and_true, Rows.every_beyond, Rows.by_lt, Tables.length_table, Tables.get_d_table}
use Rattle.laws.specs.{Tests.every, Tests.count_below, Truth.and_left, Truth.and_right, Truth.and_both, Truth.or_left, Truth.or_in_right, Truth.or_right}
use Rattle.model.specs.Sound.{ascending}

pub not_twice : (b : Bool) → not (not b) ≡ b
not_twice true = refl
not_twice false = refl

pub cons_same : {A : Type 0} (a b : A) (l m : List A) → a ≡ b → l ≡ m → a ∷ l ≡ b ∷ m
cons_same a b l m e f = rw (e, f)

pub both_false : (a b : Bool) → a ≡ false → b ≡ false → a ≡ b
both_false a b e f = e ∙ sym f

pub every_append_is : {A : Type 0} (t : A → Bool) (a b : List A) → every t (a ++ b) ≡ (every t a && every t b)
unfolding every
every_append_is t [] b = refl
every_append_is t (x ∷ a) b = rw (every_append_is t a b) (sym (and_group (t x) (every t a) (every t b)))

pub every_one : {A : Type 0} (t : A → Bool) (x : A) → every t (x ∷ []) ≡ t x
unfolding every
every_one t x = and_true (t x)

-- Every entry of a table passes: every number below its bound does.
pub every_table_is : {A : Type 0} (t : A → Bool) (n : ℕ) (f : ℕ → A) → every t (table n f) ≡ all_below n (λ k. t (f k))
unfolding table all_below every
every_table_is t zero f = refl
every_table_is t (suc n) f =
    every_append_is t (table n f) (f n ∷ [])
    ∙ and_swap (every t (table n f)) (every t (f n ∷ []))
    ∙ rw (every_one t (f n), every_table_is t n f)

-- Those from a place on.
pub every_after : {A : Type 0} (t : A → Bool) (h n : ℕ) (f : ℕ → A) → every t (drop h (table n f)) ≡ all_below n (λ k. ltb k h || t (f k))
every_after t h n f = same_test (every t (drop h (table n f))) (all_below n (λ k. ltb k h || t (f k)))
    (λ e. all_in n (λ k. ltb k h || t (f k)) (λ k lt. by_lt k h
    (λ less. or_left (ltb k h) (t (f k)) (lt-ltb k h less))
    (λ from. or_in_right (ltb k h) (t (f k)) (rw (get_d_table n f k (f 0) lt) at (every_beyond t h (table n f) k (f 0) e from (rw (length_table n f) lt))))))
    (λ e. every_from t (f 0) h (table n f) (λ k from lt.
    let under : k < n = rw (length_table n f) at lt in
    rw (get_d_table n f k (f 0) under) (or_right (ltb k h) (t (f k)) (le-ltb k h from) (all_out n (λ k. ltb k h || t (f k)) e k under))))

-- A test of the numbers below n and another of those from n on.
pub all_split : (n m : ℕ) (t u : ℕ → Bool) → n ≤ m → (all_below n t && all_below m (λ k. ltb k n || u k)) ≡ all_below m (λ k. pick (ltb k n) (t k) (u k))
all_split n m t u le = same_test (all_below n t && all_below m (λ k. ltb k n || u k)) (all_below m (λ k. pick (ltb k n) (t k) (u k)))
    (λ e. all_in m (λ k. pick (ltb k n) (t k) (u k)) (λ k lt. by_bool (ltb k n)
    (λ q. rw q (all_out n t (and_left (all_below n t) (all_below m (λ k. ltb k n || u k)) e) k (ltb-true k n q)))
    (λ q. rw q (or_right (ltb k n) (u k) q (all_out m (λ k. ltb k n || u k) (and_right (all_below n t) (all_below m (λ k. ltb k n || u k)) e) k lt)))))
    (λ e. and_both (all_below n t) (all_below m (λ k. ltb k n || u k))
    (all_in n t (λ k lt. rw (lt-ltb k n lt) at (all_out m (λ k. pick (ltb k n) (t k) (u k)) e k (omega arith))))
    (all_in m (λ k. ltb k n || u k) (λ k lt. by_bool (ltb k n)
    (λ q. or_left (ltb k n) (u k) q)
    (λ q. or_in_right (ltb k n) (u k) (rw q at (all_out m (λ k. pick (ltb k n) (t k) (u k)) e k lt))))))

-- The first entries of a table.
pub take_table : {A : Type 0} (h n : ℕ) (f : ℕ → A) → h ≤ n → take h (table n f) ≡ table h f
take_table h n f le = ext_get_or (f 0) (take h (table n f)) (table h f) (size ∙ sym (length_table h f))
    (λ i lt. let under : i < h = rw size at lt in get_or-take h (table n f) i (f 0) under ∙ get_d_table n f i (f 0) (omega arith) ∙ sym (get_d_table h f i (f 0) under))
  where
    size : length (take h (table n f)) ≡ h
    size = length-take-le h (table n f) (rw (length_table n f) le)

-- The chosen entries of a table.
module _ {A : Type 0} (c : A → Bool) (f : ℕ → A) where
  pub select_more : (n : ℕ) → select c (table (suc n) f) ≡ select c (table n f) ++ pick (c (f n)) (f n ∷ []) []
  unfolding table select
  select_more n = select_append c (table n f) (f n ∷ [])

  one_chosen : (t : A → Bool) (n : ℕ) (all : Bool) → all ≡ all_below n (λ k. not (c (f k)) || t (f k))
      → (all && every t (pick (c (f n)) (f n ∷ []) [])) ≡ all_below (suc n) (λ k. not (c (f k)) || t (f k))
  unfolding all_below every
  one_chosen t n all so_far = by_bool (c (f n))
      (λ e. rw (e, so_far, and_true (t (f n))) (and_swap (all_below n (λ k. not (c (f k)) || t (f k))) (t (f n))))
      (λ e. rw (e, so_far) (and_true (all_below n (λ k. not (c (f k)) || t (f k)))))

  -- Every chosen one passes: each number whose entry is chosen does.
  pub every_chosen : (t : A → Bool) (n : ℕ) → every t (select c (table n f)) ≡ all_below n (λ k. not (c (f k)) || t (f k))
  unfolding table all_below every select
  every_chosen t zero = refl
  every_chosen t (suc n) = rw (select_more n, every_append_is) (one_chosen t n (every t (select c (table n f))) (every_chosen t n))

  pub length_chosen : (n : ℕ) → length (select c (table n f)) ≡ count_below n (λ k. c (f k))
  unfolding table select count_below
  length_chosen zero = refl
  length_chosen (suc n) = rw (select_more n, length-append, length_chosen n) (by_bool (c (f n)) (λ e. rw e) (λ e. rw e))

-- The least number that may follow numbers that ascend from a bound on.
unfoldable pub next_of : ℕ → List ℕ → ℕ
next_of low [] = low
next_of low (x ∷ l) = next_of (suc x) l

pub next_snoc : (low : ℕ) (l : List ℕ) (x : ℕ) → next_of low (l ++ (x ∷ [])) ≡ suc x
unfolding next_of
next_snoc low [] x = refl
next_snoc low (y ∷ l) x = next_snoc (suc y) l x

pub ascending_snoc : (low : ℕ) (l : List ℕ) (x : ℕ) → ascending low (l ++ (x ∷ [])) ≡ (ascending low l && leb (next_of low l) x)
unfolding ascending next_of
ascending_snoc low [] x = and_true (leb low x)
ascending_snoc low (y ∷ l) x = rw (ascending_snoc (suc y) l x) (sym (and_group (leb low y) (ascending (suc y) l) (leb (next_of (suc y) l) x)))
