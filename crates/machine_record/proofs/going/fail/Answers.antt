-- `machine_record::going::fail` meets its contract. Assumes nothing.
use Rattle.laws.specs.Basics.{refl, arith, rules}
use Rattle.machine_record.specs.{Machine.failing, Lent.state_in}
use Rattle.machine_record.proofs.{Arriving.arrives_text}
use Rattle.machine_record.proofs.going.fail.Goals as goal

pub write_word-size-requires : goal.write_word-size-requires
write_word-size-requires c =
    omega (arith, c.requires)

pub returns : goal.returns
unfolding state_in
returns c =
    λ words input lines. arrives_text words input lines 8 failing _ _ _ _ (omega (arith, c.requires, c.write_word-size.ensures.next_place)) c.write_word-size.ensures refl
