-- `machine_record::going::after_count` meets its contract. Assumes nothing.
use Rattle.laws.specs.Basics.{refl, arith, rules}
use Rattle.machines.specs.{Machines.heard_count, Forms.answer_of}
use Rattle.machine_record.specs.Lent.{state_in}
use Rattle.machine_record.proofs.{Arriving.arrives_at}
use Rattle.machine_record.proofs.Leading.{led, counted_few, counted_two, counted_many, not_counted, bytes_no_count}
use Rattle.machine_record.proofs.going.after_count.Goals as goal

pub returns-then-count-lt2 : goal.returns-then-count-lt2
unfolding state_in
returns-then-count-lt2 c =
    λ words input lines at. led (counted_few _ at input _ c.in-Number.is c.if-count-lt2.true) (rw c.at.ensures (arrives_at words input lines 3 _ _ (omega arith)))

pub returns-then-count-eq2 : goal.returns-then-count-eq2
unfolding state_in
returns-then-count-eq2 c =
    λ words input lines at. led (counted_two _ at input _ c.in-Number.is c.if-count-eq2.true) (rw c.at-then-count-eq2.ensures (arrives_at words input lines 2 _ _ (omega arith)))

pub end_with-requires : goal.end_with-requires
end_with-requires c =
    omega (arith, c.requires)

pub fail-requires : goal.fail-requires
fail-requires c =
    omega (arith, c.requires)

pub fail-requires-in-End : goal.fail-requires-in-End
fail-requires-in-End c =
    omega (arith, c.requires)

pub fail-requires-in-Done : goal.fail-requires-in-Done
fail-requires-in-Done c =
    omega (arith, c.requires)

pub fail-requires-in-Failed : goal.fail-requires-in-Failed
fail-requires-in-Failed c =
    omega (arith, c.requires)

pub returns-else-count-eq2 : goal.returns-else-count-eq2
returns-else-count-eq2 c =
    λ words input lines at. led (counted_many _ at input _ c.in-Number.is c.if-count-lt2.false c.if-count-eq2.false) (c.end_with.ensures words input lines)

pub returns-in-Bytes : goal.returns-in-Bytes
returns-in-Bytes c =
    λ words input lines at. led (not_counted _ at input _ c.in-Bytes.is (bytes_no_count _ at input)) (c.fail.ensures words input lines)

pub returns-in-End : goal.returns-in-End
unfolding heard_count answer_of
returns-in-End c =
    λ words input lines at. led (not_counted _ at input _ c.in-End.is refl) (c.fail-in-End.ensures words input lines)

pub returns-in-Done : goal.returns-in-Done
unfolding heard_count answer_of
returns-in-Done c =
    λ words input lines at. led (not_counted _ at input _ c.in-Done.is refl) (c.fail-in-Done.ensures words input lines)

pub returns-in-Failed : goal.returns-in-Failed
unfolding heard_count answer_of
returns-in-Failed c =
    λ words input lines at. led (not_counted _ at input _ c.in-Failed.is refl) (c.fail-in-Failed.ensures words input lines)
