-- `exam::facts::lines` meets its contract: the loop ends at the last number at the latest. Assumes nothing.
use Rattle.std.specs.Prelude.{◌-◌}
use Rattle.exam.proofs.facts.lines.Given as goal

abbrev pub decreases-loop-failed : goal.decreases-loop-failed
decreases-loop-failed l = 65535 - l.failed
