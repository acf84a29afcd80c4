-- Laws of tests, counts and lists below a bound, as a loop over the numbers below it needs them: one more, or all at once.
use Rattle.std.specs.Prelude.{◌≡◌, refl, Bool, true, false, not, ◌&&◌, List, ℕ, zero, suc, ◌+◌}
use Rattle.std.proofs.Common.{ap, arith}
use Rattle.std.proofs.lemmas.List.Edits.{sets}
use Rattle.laws.specs.Choice.{by_bool}
use Rattle.laws.specs.Lists.{table}
use Rattle.laws.specs.Loops.{set_below}
use Rattle.laws.specs.Rows.{all_step}
use Rattle.laws.specs.Search.{all_below, any_below}
use Rattle.laws.specs.Tables.{length_table}
use Rattle.laws.specs.Written.{sets_append}

pub not_out : (a b : Bool) → not a ≡ b → a ≡ not b
not_out true b e = ap not e
not_out false b e = ap not e

-- All pass a test where none fails it.
pub all_not_any : (n : ℕ) (t u : ℕ → Bool) → ((k : ℕ) → t k ≡ u k) → all_below n (λ k. not (t k)) ≡ not (any_below n u)
unfolding all_below any_below
all_not_any zero t u h = refl
all_not_any (suc n) t u h = by_bool (u n)
    (λ e. rw (h n, e))
    (λ e. rw (h n, e) (all_not_any n t u h))

-- A mark over all processes, with one more.
pub all_and : (t : ℕ → Bool) (i : ℕ) (mark x : Bool) → mark ≡ all_below i t → x ≡ t i → (mark && x) ≡ all_below (i + 1) t
all_and t i mark x inv e = rw e (all_step t i mark inv)

-- Written one by one, the entries of a table go to the front of a list.
pub below_written : {A : Type 0} (n : ℕ) (f : ℕ → A) (l : List A) → set_below n f l ≡ sets l 0 (table n f)
unfolding set_below table
below_written zero f l = refl
below_written (suc n) f l = let place : 0 + n ≡ n = omega arith in rw (below_written n f l, sets_append, length_table n f, place)
