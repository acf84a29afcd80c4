-- `machine_simulate::print::write_row` meets its contract: its seven texts stand one after the other.
-- Assumes nothing.
use Rattle.std.specs.Prelude.{◌≤◌}
use Rattle.laws.specs.Basics.{arith, length, rules}
use Rattle.listing.proofs.{Bounds.twenty_digits, Texts.then}
use Rattle.machine_simulate.specs.Text.{longest_text, row_text}
use Rattle.machine_simulate.proofs.print.write_row.Goals as goal

pub write_number-first-requires : goal.write_number-first-requires
write_number-first-requires c =
    omega (arith, c.requires, twenty_digits c.args.spacing)

pub write_field-one-requires : goal.write_field-one-requires
write_field-one-requires c =
    let after_0 : (c.write_number-first.result ≤ 20) × (longest_text ≤ length c.write_number-first.new.out) = (omega (arith, c.write_number-first.ensures.next_place, twenty_digits c.args.spacing), omega (arith, c.write_number-first.auto.out, c.requires)) in
    let b = after_0 in omega (arith, b.0, b.1)

pub write_field-two-requires : goal.write_field-two-requires
write_field-two-requires c =
    let after_0 : (c.write_number-first.result ≤ 20) × (longest_text ≤ length c.write_number-first.new.out) = (omega (arith, c.write_number-first.ensures.next_place, twenty_digits c.args.spacing), omega (arith, c.write_number-first.auto.out, c.requires)) in
    let after_1 : (c.write_field-one.result ≤ 41) × (longest_text ≤ length c.write_field-one.new.out) = let b = after_0 in (omega (arith, b.0, c.write_field-one.ensures.1), omega (arith, b.1, c.write_field-one.auto.out)) in
    let b = after_1 in omega (arith, b.0, b.1)

pub write_field-three-requires : goal.write_field-three-requires
write_field-three-requires c =
    let after_0 : (c.write_number-first.result ≤ 20) × (longest_text ≤ length c.write_number-first.new.out) = (omega (arith, c.write_number-first.ensures.next_place, twenty_digits c.args.spacing), omega (arith, c.write_number-first.auto.out, c.requires)) in
    let after_1 : (c.write_field-one.result ≤ 41) × (longest_text ≤ length c.write_field-one.new.out) = let b = after_0 in (omega (arith, b.0, c.write_field-one.ensures.1), omega (arith, b.1, c.write_field-one.auto.out)) in
    let after_2 : (c.write_field-two.result ≤ 62) × (longest_text ≤ length c.write_field-two.new.out) = let b = after_1 in (omega (arith, b.0, c.write_field-two.ensures.1), omega (arith, b.1, c.write_field-two.auto.out)) in
    let b = after_2 in omega (arith, b.0, b.1)

pub write_field-four-requires : goal.write_field-four-requires
write_field-four-requires c =
    let after_0 : (c.write_number-first.result ≤ 20) × (longest_text ≤ length c.write_number-first.new.out) = (omega (arith, c.write_number-first.ensures.next_place, twenty_digits c.args.spacing), omega (arith, c.write_number-first.auto.out, c.requires)) in
    let after_1 : (c.write_field-one.result ≤ 41) × (longest_text ≤ length c.write_field-one.new.out) = let b = after_0 in (omega (arith, b.0, c.write_field-one.ensures.1), omega (arith, b.1, c.write_field-one.auto.out)) in
    let after_2 : (c.write_field-two.result ≤ 62) × (longest_text ≤ length c.write_field-two.new.out) = let b = after_1 in (omega (arith, b.0, c.write_field-two.ensures.1), omega (arith, b.1, c.write_field-two.auto.out)) in
    let after_3 : (c.write_field-three.result ≤ 83) × (longest_text ≤ length c.write_field-three.new.out) = let b = after_2 in (omega (arith, b.0, c.write_field-three.ensures.1), omega (arith, b.1, c.write_field-three.auto.out)) in
    let b = after_3 in omega (arith, b.0, b.1)

pub write_field-five-requires : goal.write_field-five-requires
write_field-five-requires c =
    let after_0 : (c.write_number-first.result ≤ 20) × (longest_text ≤ length c.write_number-first.new.out) = (omega (arith, c.write_number-first.ensures.next_place, twenty_digits c.args.spacing), omega (arith, c.write_number-first.auto.out, c.requires)) in
    let after_1 : (c.write_field-one.result ≤ 41) × (longest_text ≤ length c.write_field-one.new.out) = let b = after_0 in (omega (arith, b.0, c.write_field-one.ensures.1), omega (arith, b.1, c.write_field-one.auto.out)) in
    let after_2 : (c.write_field-two.result ≤ 62) × (longest_text ≤ length c.write_field-two.new.out) = let b = after_1 in (omega (arith, b.0, c.write_field-two.ensures.1), omega (arith, b.1, c.write_field-two.auto.out)) in
    let after_3 : (c.write_field-three.result ≤ 83) × (longest_text ≤ length c.write_field-three.new.out) = let b = after_2 in (omega (arith, b.0, c.write_field-three.ensures.1), omega (arith, b.1, c.write_field-three.auto.out)) in
    let after_4 : (c.write_field-four.result ≤ 104) × (longest_text ≤ length c.write_field-four.new.out) = let b = after_3 in (omega (arith, b.0, c.write_field-four.ensures.1), omega (arith, b.1, c.write_field-four.auto.out)) in
    let b = after_4 in omega (arith, b.0, b.1)

pub write_byte-requires : goal.write_byte-requires
write_byte-requires c =
    let after_0 : (c.write_number-first.result ≤ 20) × (longest_text ≤ length c.write_number-first.new.out) = (omega (arith, c.write_number-first.ensures.next_place, twenty_digits c.args.spacing), omega (arith, c.write_number-first.auto.out, c.requires)) in
    let after_1 : (c.write_field-one.result ≤ 41) × (longest_text ≤ length c.write_field-one.new.out) = let b = after_0 in (omega (arith, b.0, c.write_field-one.ensures.1), omega (arith, b.1, c.write_field-one.auto.out)) in
    let after_2 : (c.write_field-two.result ≤ 62) × (longest_text ≤ length c.write_field-two.new.out) = let b = after_1 in (omega (arith, b.0, c.write_field-two.ensures.1), omega (arith, b.1, c.write_field-two.auto.out)) in
    let after_3 : (c.write_field-three.result ≤ 83) × (longest_text ≤ length c.write_field-three.new.out) = let b = after_2 in (omega (arith, b.0, c.write_field-three.ensures.1), omega (arith, b.1, c.write_field-three.auto.out)) in
    let after_4 : (c.write_field-four.result ≤ 104) × (longest_text ≤ length c.write_field-four.new.out) = let b = after_3 in (omega (arith, b.0, c.write_field-four.ensures.1), omega (arith, b.1, c.write_field-four.auto.out)) in
    let after_5 : (c.write_field-five.result ≤ 125) × (longest_text ≤ length c.write_field-five.new.out) = let b = after_4 in (omega (arith, b.0, c.write_field-five.ensures.1), omega (arith, b.1, c.write_field-five.auto.out)) in
    let b = after_5 in omega (arith, b.0, b.1)

pub shape_of-out : goal.shape_of-out
shape_of-out c =
    let six = c.write_byte in let five = c.write_field-five in let four = c.write_field-four in let three = c.write_field-three in let two = c.write_field-two in let one = c.write_field-one in let first = c.write_number-first in omega (arith, first.auto.out, one.auto.out, two.auto.out, three.auto.out, four.auto.out, five.auto.out, six.auto.out)

pub returns : goal.returns
unfolding row_text
returns c =
    let after_0 : (c.write_number-first.result ≤ 20) × (longest_text ≤ length c.write_number-first.new.out) = (omega (arith, c.write_number-first.ensures.next_place, twenty_digits c.args.spacing), omega (arith, c.write_number-first.auto.out, c.requires)) in
    let after_1 : (c.write_field-one.result ≤ 41) × (longest_text ≤ length c.write_field-one.new.out) = let b = after_0 in (omega (arith, b.0, c.write_field-one.ensures.1), omega (arith, b.1, c.write_field-one.auto.out)) in
    let after_2 : (c.write_field-two.result ≤ 62) × (longest_text ≤ length c.write_field-two.new.out) = let b = after_1 in (omega (arith, b.0, c.write_field-two.ensures.1), omega (arith, b.1, c.write_field-two.auto.out)) in
    let after_3 : (c.write_field-three.result ≤ 83) × (longest_text ≤ length c.write_field-three.new.out) = let b = after_2 in (omega (arith, b.0, c.write_field-three.ensures.1), omega (arith, b.1, c.write_field-three.auto.out)) in
    let after_4 : (c.write_field-four.result ≤ 104) × (longest_text ≤ length c.write_field-four.new.out) = let b = after_3 in (omega (arith, b.0, c.write_field-four.ensures.1), omega (arith, b.1, c.write_field-four.auto.out)) in
    let after_5 : (c.write_field-five.result ≤ 125) × (longest_text ≤ length c.write_field-five.new.out) = let b = after_4 in (omega (arith, b.0, c.write_field-five.ensures.1), omega (arith, b.1, c.write_field-five.auto.out)) in
    let six = c.write_byte in let five = c.write_field-five in let four = c.write_field-four in let three = c.write_field-three in let two = c.write_field-two in let one = c.write_field-one in let first = c.write_number-first in (
      then first.ensures (then one.ensures.0 (then two.ensures.0 (then three.ensures.0 (then four.ensures.0 (then five.ensures.0 six.ensures))))),
      (let b = after_5 in omega (arith, b.0, six.ensures.next_place)),
    )
