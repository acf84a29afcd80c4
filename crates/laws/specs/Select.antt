-- Laws of the elements that pass a test, of the last element, and of tests over lists: at ends, over rows of lists, over mapped lists.
use Rattle.std.specs.Prelude.{◌≡◌, refl, Bool, true, false, not, ◌&&◌, ◌||◌, List, [], ◌∷◌, ◌++◌, map, ℕ, zero, suc, ◌≤◌, length, Some}
use Rattle.std.proofs.Common.{sym, ◌∙◌, ap, arith}
use Rattle.laws.specs.Choice.{pick, by_bool}
use Rattle.laws.specs.Lists.{select, last_of, table, gather}
use Rattle.laws.specs.Search.{any_below}
use Rattle.laws.specs.Tests.{every, some_of}
use Rattle.laws.specs.Truth.{and_left, and_right}

pub select_append : {A : Type 0} (t : A → Bool) (a b : List A) → select t (a ++ b) ≡ select t a ++ select t b
unfolding select
select_append t [] b = refl
select_append t (x ∷ a) b = by_bool (t x)
    (λ e. rw (e, select_append t a b))
    (λ e. rw (e, select_append t a b))

pub select_one : {A : Type 0} (t : A → Bool) (x : A) → select t (x ∷ []) ≡ pick (t x) (x ∷ []) []
unfolding select
select_one t x = refl

-- Selecting twice is selecting by both tests.
pub select_select : {A : Type 0} (t u : A → Bool) (l : List A) → select t (select u l) ≡ select (λ x. u x && t x) l
unfolding select
select_select t u [] = refl
select_select t u (x ∷ l) = by_bool (u x)
    (λ e. rw (e, select_select t u l))
    (λ e. rw (e, select_select t u l))

pub select_length : {A : Type 0} (t : A → Bool) (l : List A) → length (select t l) ≤ length l
unfolding select
select_length t [] = omega arith
select_length t (x ∷ l) = by_bool (t x)
    (λ e. rw e (omega (arith, select_length t l)))
    (λ e. rw e (omega (arith, select_length t l)))

-- Where every element passes, all are chosen, and none by the opposite test.
pub all_chosen : {A : Type 0} (t : A → Bool) (l : List A) → every t l ≡ true → select t l ≡ l
unfolding every select
all_chosen t [] e = refl
all_chosen t (x ∷ l) e = rw (and_left (t x) (every t l) e, all_chosen t l (and_right (t x) (every t l) e))

pub none_chosen : {A : Type 0} (t : A → Bool) (l : List A) → every t l ≡ true → select (λ x. not (t x)) l ≡ []
unfolding every select
none_chosen t [] e = refl
none_chosen t (x ∷ l) e = rw (and_left (t x) (every t l) e) (none_chosen t l (and_right (t x) (every t l) e))

pub map_append : {A B : Type 0} (g : A → B) (a b : List A) → map g (a ++ b) ≡ map g a ++ map g b
map_append g [] b = refl
map_append {B = B} g (x ∷ a) b = ap (λ (l : List B). g x ∷ l) (map_append g a b)

-- The last element of a list with one more.
pub last_of_snoc : {A : Type 0} (l : List A) (x : A) → last_of (l ++ (x ∷ [])) ≡ Some x
unfolding last_of
last_of_snoc [] x = refl
last_of_snoc (y ∷ l) x = rw (last_of_snoc l x)

or_assoc : (a b c : Bool) → ((a || b) || c) ≡ (a || (b || c))
or_assoc true b c = refl
or_assoc false b c = refl

pub or_swap : (a b : Bool) → (a || b) ≡ (b || a)
or_swap true true = refl
or_swap true false = refl
or_swap false true = refl
or_swap false false = refl

pub some_append : {A : Type 0} (t : A → Bool) (a b : List A) → some_of t (a ++ b) ≡ (some_of t a || some_of t b)
unfolding some_of
some_append t [] b = refl
some_append t (x ∷ a) b = rw (some_append t a b) (sym (or_assoc (t x) (some_of t a) (some_of t b)))

pub some_one : {A : Type 0} (t : A → Bool) (x : A) → some_of t (x ∷ []) ≡ t x
unfolding some_of
some_one t x = or_swap (t x) false

pub some_map : {A B : Type 0} (t : B → Bool) (g : A → B) (l : List A) → some_of t (map g l) ≡ some_of (λ x. t (g x)) l
unfolding some_of
some_map t g [] = refl
some_map t g (x ∷ l) = rw (some_map t g l)

-- Some entry of a table passes: some number below its bound does.
pub some_table : {A : Type 0} (t : A → Bool) (n : ℕ) (f : ℕ → A) → some_of t (table n f) ≡ any_below n (λ k. t (f k))
unfolding table any_below some_of
some_table t zero f = refl
some_table t (suc n) f =
    some_append t (table n f) (f n ∷ [])
    ∙ or_swap (some_of t (table n f)) (some_of t (f n ∷ []))
    ∙ rw (some_one t (f n), some_table t n f)

-- Some element of lists put together passes: it does in one of them.
pub some_gather : {A : Type 0} (t : A → Bool) (n : ℕ) (f : ℕ → List A) → some_of t (gather n f) ≡ any_below n (λ k. some_of t (f k))
unfolding gather any_below some_of
some_gather t zero f = refl
some_gather t (suc n) f =
    some_append t (gather n f) (f n)
    ∙ or_swap (some_of t (gather n f)) (some_of t (f n))
    ∙ rw (some_gather t n f)
