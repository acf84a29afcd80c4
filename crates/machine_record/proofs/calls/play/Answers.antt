-- `machine_record::calls::play` meets its contract. Assumes nothing.
use Rattle.laws.specs.Basics.{rules}
use Rattle.machine_record.proofs.{Taking.plays_malformed, Taking.plays_event}
use Rattle.machine_record.proofs.calls.play.Goals as goal

pub returns-in-None : goal.returns-in-None
returns-in-None c =
    plays_malformed _ _ _ _ _ c.in-None.is c.decode-decoded.ensures

pub returns-in-Some : goal.returns-in-Some
returns-in-Some c =
    plays_event _ _ _ _ _ _ _ _ _ c.in-Some.is c.decode-decoded.ensures c.perform.ensures
