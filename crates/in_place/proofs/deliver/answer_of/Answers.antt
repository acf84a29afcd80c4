-- `in_place::deliver::answer_of` meets its contract, by whether a checkpoint is forced.
-- Assumes nothing.
use Rattle.laws.specs.Basics.{rules}
use Rattle.in_place.proofs.deliver.answer_of.Goals as goal

pub returns-then-forced : goal.returns-then-forced
returns-then-forced c =
    rw (c.live_index-index.ensures, c.if-forced.true)

pub returns-else-forced : goal.returns-else-forced
returns-else-forced c =
    rw c.if-forced.false
