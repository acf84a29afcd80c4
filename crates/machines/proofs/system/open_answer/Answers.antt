-- `machines::system::open_answer` meets its contract, by its test.
-- Assumes nothing.
use mir.Facts.{to_z-of_z}
use Rattle.machines.proofs.{Hearing.open_below, Hearing.open_done}
use Rattle.machines.proofs.system.open_answer.Goals as goal

pub returns-then-opened-lt0 : goal.returns-then-opened-lt0
returns-then-opened-lt0 c =
    open_below _ c.args.opened c.args.source (to_z-of_z c.ranges.opened) c.if-opened-lt0.true

pub returns : goal.returns
returns c =
    open_done _ c.args.opened c.args.source (to_z-of_z c.ranges.opened) c.if-opened-lt0.false
