-- What a loop over the first entries of a list has found after i iterations: the list's first i entries, tested, chosen from, laid into a table or
-- written to a list. Each law says what one entry more adds.
use Rattle.std.specs.Prelude.{◌≡◌, refl, Bool, true, false, ◌||◌, List, [], ◌∷◌, ◌++◌, ℕ, suc, ◌+◌, ◌-◌, ◌<◌, ◌≤◌, length, get_or, set, take, replicate}
use Rattle.std.proofs.Common.{append_assoc, add-one, arith, length-append, take-suc}
use Rattle.std.proofs.Math.Numerals.{unary_clauses}
use Rattle.std.proofs.lemmas.List.{length-replicate}
use Rattle.std.proofs.Math.Seq.{set-append_seam}
use Rattle.laws.specs.Choice.{by_bool}
use Rattle.laws.specs.Lists.{select, or_else, last_of, placed}
use Rattle.laws.specs.Tests.{every}
use Rattle.laws.specs.Truth.{and_both, and_left, and_right}

-- the first i + 1 entries are the first i and entry i
pub take_more : {A : Type 0} (l : List A) (i : ℕ) (d : A) → i < length l → take (i + 1) l ≡ take i l ++ (get_or l i d ∷ [])
take_more l i d h = rw add-one (take-suc l i d h)

-- Two tests that agree everywhere choose the same.
pub select_same : {A : Type 0} (t u : A → Bool) (l : List A) → ((x : A) → t x ≡ u x) → select t l ≡ select u l
unfolding select
select_same t u [] h = refl
select_same t u (x ∷ l) h = rw (h x, select_same t u l h)

-- It is enough that they agree where another test holds, which every element passes.
pub select_same_on : {A : Type 0} (g t u : A → Bool) (l : List A) → every g l ≡ true → ((x : A) → g x ≡ true → t x ≡ u x) → select t l ≡ select u l
unfolding select every
select_same_on g t u [] all h = refl
select_same_on g t u (x ∷ l) all h = rw (h x (and_left (g x) _ all), select_same_on g t u l (and_right (g x) _ all) h)

-- a table with nothing laid into it
pub placed_none : {A : Type 0} (n : ℕ) (d : A) → replicate n d ≡ placed n d []
unfolding placed
placed_none n d = simp unary_clauses

-- the next free place of a table is filled
pub placed_more : {A : Type 0} (n : ℕ) (d : A) (l : List A) (x : A) → length l < n → set (placed n d l) (length l) x ≡ placed n d (l ++ (x ∷ []))
unfolding placed
placed_more n d l x h =
    let gap : n - length l ≡ suc (n - (length l + 1)) = omega arith in
    rw (gap, set-append_seam, length-append, append_assoc)

pub placed_length : {A : Type 0} (n : ℕ) (d : A) (l : List A) → length l ≤ n → length (placed n d l) ≡ n
unfolding placed
placed_length n d l h = rw (length-append, length-replicate) (omega arith)

-- One of two tests: no more are chosen than by the two one after the other.
pub select_or : {A : Type 0} (t u : A → Bool) (l : List A) → length (select (λ x. t x || u x) l) ≤ length (select t l) + length (select u l)
unfolding select
select_or t u [] = omega arith
select_or t u (x ∷ l) =
    by_bool (t x)
    (λ e. by_bool (u x) (λ d. rw (e, d) (omega (arith, select_or t u l))) (λ d. rw (e, d) (omega (arith, select_or t u l))))
    (λ e. by_bool (u x) (λ d. rw (e, d) (omega (arith, select_or t u l))) (λ d. rw (e, d) (omega (arith, select_or t u l))))

-- Where none passes, none is chosen.
pub select_none : {A : Type 0} (t : A → Bool) (l : List A) → ((x : A) → t x ≡ false) → select t l ≡ []
unfolding select
select_none t [] h = refl
select_none t (x ∷ l) h = rw (h x) (select_none t l h)

-- What holds of every element holds of every chosen one, and of the last one.
pub every_select : {A : Type 0} (u t : A → Bool) (l : List A) → every u l ≡ true → every u (select t l) ≡ true
unfolding select every
every_select u t [] h = refl
every_select u t (x ∷ l) h =
    by_bool (t x)
    (λ e. rw e (and_both (u x) _ (and_left (u x) _ h) (every_select u t l (and_right (u x) _ h))))
    (λ e. rw e (every_select u t l (and_right (u x) _ h)))

pub every_last : {A : Type 0} (u : A → Bool) (l : List A) (d : A) → every u l ≡ true → u d ≡ true → u (or_else (last_of l) d) ≡ true
unfolding last_of every
every_last u [] d h e = e
every_last u (x ∷ l) d h e = every_last u l x (and_right (u x) _ h) (and_left (u x) _ h)
