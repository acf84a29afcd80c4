-- `machine_record::going::take_size` meets its contract. Assumes nothing.
use Rattle.laws.specs.Basics.{arith, rules}
use Rattle.machine_record.specs.Lent.{state_in}
use Rattle.machine_record.proofs.{Arriving.arrives_at, Leading.led, Leading.sized_large, Leading.sized_small}
use Rattle.machine_record.proofs.going.take_size.Goals as goal

pub end_with-requires : goal.end_with-requires
end_with-requires c =
    omega (arith, c.requires)

pub returns-then-size-gt-LARGEST_BUFFER : goal.returns-then-size-gt-LARGEST_BUFFER
returns-then-size-gt-LARGEST_BUFFER c =
    λ words input lines. rw (← c.number_in-size.ensures) (led (sized_large _ c.if-size-gt-LARGEST_BUFFER.true) (c.end_with.ensures words input lines))

pub returns : goal.returns
unfolding state_in
returns c =
    λ words input lines. rw (← c.number_in-size.ensures) (led (sized_small _ c.if-size-gt-LARGEST_BUFFER.false) (rw c.at.ensures (arrives_at words input lines 3 _ _ (omega (arith, c.if-size-gt-LARGEST_BUFFER.false)))))
