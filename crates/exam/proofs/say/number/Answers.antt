-- `exam::say::number` meets its contract: no number has more than 20 digits. Assumes nothing.
use Rattle.laws.specs.Basics.{arith, sym, length-take-le}
use Rattle.listing.proofs.Bounds.{twenty_digits}
use Rattle.exam.proofs.say.number.Goals as goal

pub write_number-end-requires : goal.write_number-end-requires
write_number-end-requires c =
    omega (arith, twenty_digits c.args.x)

pub slice_bounds-digits-end : goal.slice_bounds-digits-end
slice_bounds-digits-end c =
    let number = c.write_number-end in omega (arith, number.ensures.next_place, number.auto.out, twenty_digits c.args.x)

pub slice_bounds-text-end : goal.slice_bounds-text-end
slice_bounds-text-end c =
    let number = c.write_number-end in sym (length-take-le number.result number.new.out (omega (arith, number.ensures.next_place, number.auto.out, twenty_digits c.args.x)))
