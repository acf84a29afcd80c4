-- `machines::goes_on` meets its contract, by the kind of the request.
-- Assumes nothing.
use Rattle.machines.specs.Forms.{goes_on_of}
use Rattle.machines.proofs.goes_on.Goals as goal

pub returns-in-Count : goal.returns-in-Count
unfolding goes_on_of
returns-in-Count c =
    rw c.in-Count.is

pub returns-in-Argument : goal.returns-in-Argument
unfolding goes_on_of
returns-in-Argument c =
    rw c.in-Argument.is

pub returns-in-Open : goal.returns-in-Open
unfolding goes_on_of
returns-in-Open c =
    rw c.in-Open.is

pub returns-in-Read : goal.returns-in-Read
unfolding goes_on_of
returns-in-Read c =
    rw c.in-Read.is

pub returns-in-Write : goal.returns-in-Write
unfolding goes_on_of
returns-in-Write c =
    rw c.in-Write.is

pub returns-in-Say : goal.returns-in-Say
unfolding goes_on_of
returns-in-Say c =
    rw c.in-Say.is

pub returns-in-Fail : goal.returns-in-Fail
unfolding goes_on_of
returns-in-Fail c =
    rw c.in-Fail.is

pub returns-in-Stop : goal.returns-in-Stop
unfolding goes_on_of
returns-in-Stop c =
    rw c.in-Stop.is
