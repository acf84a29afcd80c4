-- `words_line::through::find_starts` meets its contract. The loop's invariant: where the vectors of the pairs passed so far start, and whether each is kept.
-- Assumes nothing.
use Rattle.std.specs.Prelude.{◌≡◌, ◌-◌, ◌≤◌}
use Rattle.laws.specs.Basics.{ap, not, ℕ, arith, eqb, rules}
use Rattle.laws.specs.{Below.all_and, Loops.set_below, Loops.below_none, Loops.step_set, Loops.all_zero, Search.all_below}
use Rattle.words.specs.Layout.{word, kept_count_at_of}
use Rattle.words_line.specs.Through.{process_of, index_of_def, start_at, starts_in}
use Rattle.words_line.proofs.{Reaching.start_most}
use Rattle.words_line.proofs.through.find_starts.Given as goal

abbrev pub invariant-loop-k : goal.invariant-loop-k
invariant-loop-k l = (l.k ≤ l.m) × (l.starts ≡ set_below l.k (start_at l.w l.named) l.initial.starts) × (l.all ≡ all_below l.k (λ j. not (eqb (start_at l.w l.named j) 0)))
