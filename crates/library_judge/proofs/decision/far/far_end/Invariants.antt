-- `library_judge::decision::far::far_end` meets its contract. The loop's invariant: the rows so far know the near end.
-- Assumes nothing.
use Rattle.std.specs.Prelude.{◌≡◌, ◌<◌}
use Rattle.laws.specs.Basics.{None, Some, ℕ, get_or}
use Rattle.library_judge.specs.decision.Rows.{entry_at}
use Rattle.library_judge.proofs.decision.far.far_end.Given as goal

abbrev pub invariant-loop-q : goal.invariant-loop-q
invariant-loop-q l = (x row : ℕ) → x < l.q → get_or l.reach x None ≡ Some row → l.near.index.0 < entry_at l.states row l.near.process
