-- `listing::write_number` meets its contract. The loop's invariant: the digits after the place are stored, those of the rest are to come.
-- The measure is the rest. Assumes nothing.
use Rattle.listing.proofs.Digits.{Storing}
use Rattle.listing.proofs.write_number.Given as goal

abbrev pub invariant-loop-rest : goal.invariant-loop-rest
invariant-loop-rest l = Storing l.initial.out l.at l.x l.out l.place l.rest

abbrev pub decreases-loop-rest : goal.decreases-loop-rest
decreases-loop-rest l = l.rest
