-- `machines::system::read_answer` meets its contract, by its tests.
-- Assumes nothing.
use mir.Facts.{to_z-of_z}
use Rattle.machines.proofs.{Hearing.read_below, Hearing.read_nothing, Hearing.read_bytes}
use Rattle.machines.proofs.system.read_answer.Goals as goal

pub returns-then-got-lt0 : goal.returns-then-got-lt0
returns-then-got-lt0 c =
    read_below _ c.args.got c.args.size (to_z-of_z c.ranges.got) c.if-got-lt0.true

pub returns-then-size-eq0 : goal.returns-then-size-eq0
returns-then-size-eq0 c =
    read_nothing _ c.args.got c.args.size (to_z-of_z c.ranges.got) c.if-got-lt0.false c.if-size-eq0.true

pub returns : goal.returns
returns c =
    read_bytes _ c.args.got c.args.size (to_z-of_z c.ranges.got) c.if-got-lt0.false c.if-size-eq0.false
