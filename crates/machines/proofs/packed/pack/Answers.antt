-- `machines::packed::pack` meets its contract, by the kind of the request.
-- Assumes nothing.
use Rattle.machines.specs.declared.Request.TheVariants as request
use Rattle.machines.specs.Packed.{packed}
use Rattle.machines.proofs.{Places.packs_as}
use Rattle.machines.proofs.packed.pack.Goals as goal

pub returns-in-Stop : goal.returns-in-Stop
unfolding packed
returns-in-Stop c =
    packs_as _ request.Stop c.in-Stop.is _ _ c.put_four.ensures

pub returns-in-Read : goal.returns-in-Read
unfolding packed
returns-in-Read c =
    packs_as _ (request.Read _ _) c.in-Read.is _ _ c.put_four-in-Read.ensures

pub returns-in-Write : goal.returns-in-Write
unfolding packed
returns-in-Write c =
    packs_as _ (request.Write _) c.in-Write.is _ _ c.put_four-in-Write.ensures

pub returns-in-Say : goal.returns-in-Say
unfolding packed
returns-in-Say c =
    packs_as _ (request.Say _) c.in-Say.is _ _ c.put_four-in-Say.ensures

pub returns-in-Fail : goal.returns-in-Fail
unfolding packed
returns-in-Fail c =
    packs_as _ (request.Fail _) c.in-Fail.is _ _ c.put_four-in-Fail.ensures

pub returns-in-Count : goal.returns-in-Count
unfolding packed
returns-in-Count c =
    packs_as _ request.Count c.in-Count.is _ _ c.put_four-in-Count.ensures

pub returns-in-Argument : goal.returns-in-Argument
unfolding packed
returns-in-Argument c =
    packs_as _ (request.Argument _ _ _) c.in-Argument.is _ _ c.put_four-in-Argument.ensures

pub returns-in-Open : goal.returns-in-Open
unfolding packed
returns-in-Open c =
    packs_as _ (request.Open _) c.in-Open.is _ _ c.put_four-in-Open.ensures
