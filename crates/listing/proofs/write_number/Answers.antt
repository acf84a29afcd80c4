-- `listing::write_number` meets its contract: the digits are stored two by two, the last ones first.
-- Assumes nothing.
use Rattle.laws.specs.Basics.{arith, length-set, rules}
use Rattle.listing.proofs.Digits.{none_stored, inside, two_before, two_stored, all_stored, all_stored_by_two}
use Rattle.listing.proofs.write_number.Goals as goal

pub loop-rest-init : goal.loop-rest-init
loop-rest-init c =
    let a = c.args in rw c.width.ensures (none_stored a.out.now a.at a.x (omega arith))

pub overflow_sub-place : goal.overflow_sub-place
overflow_sub-place c =
    omega (arith, two_before c.loop-rest.invariant c.loop-rest-test.true)

pub bounds-out-place : goal.bounds-out-place
bounds-out-place c =
    omega (arith, inside c.loop-rest.invariant c.requires, two_before c.loop-rest.invariant c.loop-rest-test.true)

pub bounds-out-place-in-loop-rest : goal.bounds-out-place-in-loop-rest
bounds-out-place-in-loop-rest c =
    simp length-set (omega (arith, inside c.loop-rest.invariant c.requires, two_before c.loop-rest.invariant c.loop-rest-test.true))

pub loop-rest-preserved : goal.loop-rest-preserved
loop-rest-preserved c =
    two_stored _ _ _ _ _ _ c.loop-rest.invariant c.loop-rest-test.true

pub bounds-out-at : goal.bounds-out-at
bounds-out-at c =
    omega (arith, inside c.loop-rest.invariant c.requires)

pub bounds-out-at-then-rest-ge10 : goal.bounds-out-at-then-rest-ge10
bounds-out-at-then-rest-ge10 c =
    let two = all_stored_by_two c.loop-rest.invariant c.if-rest-ge10.true c.loop-rest-test.false in simp length-set (omega (arith, inside c.loop-rest.invariant c.requires, two.0))

pub bounds-out-at-else-rest-ge10 : goal.bounds-out-at-else-rest-ge10
bounds-out-at-else-rest-ge10 c =
    omega (arith, inside c.loop-rest.invariant c.requires)

pub returns-then-rest-ge10 : goal.returns-then-rest-ge10
returns-then-rest-ge10 c =
    let two = all_stored_by_two c.loop-rest.invariant c.if-rest-ge10.true c.loop-rest-test.false in record { next_place = search rules; holds = two.1 }

pub returns-else-rest-ge10 : goal.returns-else-rest-ge10
returns-else-rest-ge10 c =
    record { next_place = search rules; holds = all_stored c.loop-rest.invariant c.if-rest-ge10.false }
