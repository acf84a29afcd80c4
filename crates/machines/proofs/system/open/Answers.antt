-- `machines::system::open` meets its contract, whatever descriptor the file has.
-- Assumes nothing.
use Rattle.machines.specs.Forms.{Comes}
use Rattle.machines.proofs.Places.{comes_as}
use Rattle.machines.proofs.system.open.Goals as goal

pub returns-in-Ok : goal.returns-in-Ok
unfolding Comes
returns-in-Ok g c = comes_as _ _ c.requires.0 c.args.source _ (_, c.open_answer.ensures)

pub returns-in-Err : goal.returns-in-Err
unfolding Comes
returns-in-Err g c = comes_as _ _ c.requires.0 c.args.source _ (_, c.open_answer-in-Err.ensures)
