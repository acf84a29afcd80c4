-- What the program puts for two files and a set: the merged trace, or a line with the number of the refusal.
-- Assumes nothing.
use Rattle.std.specs.Prelude.{◌∷◌, ◌+◌}
use Rattle.laws.specs.Basics.{List, [], ℕ, length, replicate}
use Rattle.model.specs.declared.Refusal.{Refusal}
use Rattle.whole_runs.specs.Outcomes.{judged}
use Rattle.machines.specs.programs.Texts.{refused_text}
use Rattle.theory_merges.specs.Merge.{Taken, stopped, took, take_all, count_of, merge_refusal, plain_bytes}

-- What goes to standard output, and what to standard error.
pub record Printed : Type 0 where
  pub trace : List ℕ
  pub refusal : List ℕ

abbrev pub refusing : Refusal → Printed
refusing r = record { trace = []; refusal = refused_text r }

unfoldable pub putting : ℕ → Taken → Printed
putting n (stopped r) = refusing r
putting n (took taken) = record { trace = n ∷ plain_bytes taken; refusal = [] }

-- The result buffer is as long as both halves together, so that 3 is never met.
unfoldable pub printed : List ℕ → List ℕ → ℕ → Printed
printed first second set = judged (merge_refusal first second set (replicate (length first + length second) 0)) refusing (putting (count_of first) (take_all first second set))
