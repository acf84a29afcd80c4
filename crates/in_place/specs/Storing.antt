-- Whether a checkpoint of process i, taken or forced, is refused: the tests 11 and 16 of document 01's table, in its order.
-- Assumes nothing.
use Rattle.laws.specs.Basics.{ℕ, pick}
use Rattle.model.specs.declared.{Refusal.Refusal, Refusal.TheVariants.IntervalsUsed, Refusal.TheVariants.BlocksUsed, Run.Run}
use Rattle.model.specs.Refusals.{at_last_interval, past_blocks}
use Rattle.std.specs.Prelude.{Result, Ok, Err}
use Prim.{Unit, tt}

unfoldable pub storing_admission : Run → ℕ → Result (Unit {0}) Refusal
storing_admission s i = pick (at_last_interval s i) (Err IntervalsUsed) (pick (past_blocks s i) (Err BlocksUsed) (Ok tt))
