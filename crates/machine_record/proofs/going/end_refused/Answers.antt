-- `machine_record::going::end_refused` meets its contract. Assumes nothing.
use Rattle.laws.specs.Basics.{refl, arith, rules}
use Rattle.machine_record.specs.{Machine.ending, Lent.state_in}
use Rattle.machine_record.proofs.{Arriving.arrives_text}
use Rattle.machine_record.proofs.going.end_refused.Goals as goal

pub write_refused-size-requires : goal.write_refused-size-requires
write_refused-size-requires c =
    omega (arith, c.requires)

pub returns : goal.returns
unfolding state_in
returns c =
    λ words input lines. arrives_text words input lines 7 ending _ _ _ _ (omega (arith, c.requires, c.write_refused-size.ensures.1)) c.write_refused-size.ensures.0 refl
