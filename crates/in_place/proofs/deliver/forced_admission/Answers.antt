-- `in_place::deliver::forced_admission` meets its contract. Assumes nothing.

use Rattle.in_place.proofs.deliver.forced_admission.Goals as goal

pub storing_admission-requires : goal.storing_admission-requires
storing_admission-requires c =
    c.requires

pub returns-then-forced : goal.returns-then-forced
returns-then-forced c =
    rw c.if-forced.true c.storing_admission.ensures

pub returns : goal.returns
returns c =
    rw c.if-forced.false
