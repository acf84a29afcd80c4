-- `machines::obey` meets its contract: a request's places lie inside the buffers, no call changes more of `input` than the place that it is given, and the answer is that of
-- the call.
-- Assumes nothing.
use Rattle.laws.specs.Basics.{refl}
use Rattle.machines.specs.Forms.{Placed, Leaves, Comes}
use Rattle.machines.proofs.{Places.placed_as, Places.leaves_as, Places.comes_as, Places.obeys_as}
use Rattle.machines.proofs.obey.Goals as goal

pub argument-requires : goal.argument-requires
unfolding Placed
argument-requires g c =
    (refl, placed_as _ _ c.in-Argument.is _ _ c.requires)

pub open-requires : goal.open-requires
unfolding Placed
open-requires g c =
    (refl, placed_as _ _ c.in-Open.is _ _ c.requires)

pub read-requires : goal.read-requires
unfolding Placed
read-requires g c =
    (refl, placed_as _ _ c.in-Read.is _ _ c.requires)

pub write-requires : goal.write-requires
unfolding Placed
write-requires g c =
    (refl, placed_as _ _ c.in-Write.is _ _ c.requires)

pub say-requires : goal.say-requires
unfolding Placed
say-requires g c =
    (refl, placed_as _ _ c.in-Say.is _ _ c.requires)

pub fail-requires : goal.fail-requires
unfolding Placed
fail-requires g c =
    (refl, placed_as _ _ c.in-Fail.is _ _ c.requires)

pub returns-in-Count : goal.returns-in-Count
unfolding Leaves
returns-in-Count g c =
    obeys_as _ _ refl _ _ _ _ _ c.with_source.ensures (leaves_as _ _ c.in-Count.is _ _ refl) c.count.ensures

pub returns-in-Argument : goal.returns-in-Argument
unfolding Leaves
returns-in-Argument g c =
    let (around, fits) = c.argument.ensures in
    obeys_as _ _ c.in-Argument.is _ _ _ _ _ c.with_source-in-Argument.ensures around fits

pub returns-in-Open : goal.returns-in-Open
unfolding Leaves
returns-in-Open g c =
    let is = c.in-Open.is in record { leaves = leaves_as _ _ is _ _ refl; comes = comes_as _ _ is _ _ c.open.ensures }

pub returns-in-Read : goal.returns-in-Read
unfolding Leaves
returns-in-Read g c =
    let (around, fits) = c.read.ensures in
    obeys_as _ _ c.in-Read.is _ _ _ _ _ c.with_source-in-Read.ensures around fits

pub returns-in-Write : goal.returns-in-Write
unfolding Leaves
returns-in-Write g c =
    obeys_as _ _ c.in-Write.is _ _ _ _ _ c.with_source-in-Write.ensures refl c.write.ensures

pub returns-in-Say : goal.returns-in-Say
unfolding Leaves
returns-in-Say g c =
    obeys_as _ _ c.in-Say.is _ _ _ _ _ c.with_source-in-Say.ensures refl c.say.ensures

pub returns-in-Fail : goal.returns-in-Fail
unfolding Leaves
returns-in-Fail g c =
    obeys_as _ _ c.in-Fail.is _ _ _ _ _ c.with_source-in-Fail.ensures refl c.fail.ensures

pub returns-in-Stop : goal.returns-in-Stop
unfolding Leaves Comes
returns-in-Stop g c =
    obeys_as _ _ c.in-Stop.is _ _ _ _ _ c.with_source-in-Stop.ensures refl (λ source. refl)
