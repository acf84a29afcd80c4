-- `machine_simulate::print::write_figures` meets its contract: its five lines stand one after the other.
-- Assumes nothing.
use Rattle.std.specs.Prelude.{◌≤◌}
use Rattle.laws.specs.Basics.{arith, length, rules}
use Rattle.listing.proofs.Texts.{then}
use Rattle.machine_simulate.specs.Text.{longest_text, figures_text}
use Rattle.machine_simulate.proofs.print.write_figures.Goals as goal

pub write_figure-two-requires : goal.write_figure-two-requires
write_figure-two-requires c =
    let after_1 : (c.write_figure-one.result ≤ 52) × (longest_text ≤ length c.write_figure-one.new.out) = (omega (arith, c.write_figure-one.ensures.1), omega (arith, c.write_figure-one.auto.out, c.requires)) in
    let b = after_1 in omega (arith, b.0, b.1)

pub write_figure-three-requires : goal.write_figure-three-requires
write_figure-three-requires c =
    let after_1 : (c.write_figure-one.result ≤ 52) × (longest_text ≤ length c.write_figure-one.new.out) = (omega (arith, c.write_figure-one.ensures.1), omega (arith, c.write_figure-one.auto.out, c.requires)) in
    let after_2 : (c.write_figure-two.result ≤ 104) × (longest_text ≤ length c.write_figure-two.new.out) = let b = after_1 in (omega (arith, b.0, c.write_figure-two.ensures.1), omega (arith, b.1, c.write_figure-two.auto.out)) in
    let b = after_2 in omega (arith, b.0, b.1)

pub write_figure-four-requires : goal.write_figure-four-requires
write_figure-four-requires c =
    let after_1 : (c.write_figure-one.result ≤ 52) × (longest_text ≤ length c.write_figure-one.new.out) = (omega (arith, c.write_figure-one.ensures.1), omega (arith, c.write_figure-one.auto.out, c.requires)) in
    let after_2 : (c.write_figure-two.result ≤ 104) × (longest_text ≤ length c.write_figure-two.new.out) = let b = after_1 in (omega (arith, b.0, c.write_figure-two.ensures.1), omega (arith, b.1, c.write_figure-two.auto.out)) in
    let after_3 : (c.write_figure-three.result ≤ 156) × (longest_text ≤ length c.write_figure-three.new.out) = let b = after_2 in (omega (arith, b.0, c.write_figure-three.ensures.1), omega (arith, b.1, c.write_figure-three.auto.out)) in
    let b = after_3 in omega (arith, b.0, b.1)

pub write_figure-requires : goal.write_figure-requires
write_figure-requires c =
    let after_1 : (c.write_figure-one.result ≤ 52) × (longest_text ≤ length c.write_figure-one.new.out) = (omega (arith, c.write_figure-one.ensures.1), omega (arith, c.write_figure-one.auto.out, c.requires)) in
    let after_2 : (c.write_figure-two.result ≤ 104) × (longest_text ≤ length c.write_figure-two.new.out) = let b = after_1 in (omega (arith, b.0, c.write_figure-two.ensures.1), omega (arith, b.1, c.write_figure-two.auto.out)) in
    let after_3 : (c.write_figure-three.result ≤ 156) × (longest_text ≤ length c.write_figure-three.new.out) = let b = after_2 in (omega (arith, b.0, c.write_figure-three.ensures.1), omega (arith, b.1, c.write_figure-three.auto.out)) in
    let after_4 : (c.write_figure-four.result ≤ 208) × (longest_text ≤ length c.write_figure-four.new.out) = let b = after_3 in (omega (arith, b.0, c.write_figure-four.ensures.1), omega (arith, b.1, c.write_figure-four.auto.out)) in
    let b = after_4 in omega (arith, b.0, b.1)

pub shape_of-out : goal.shape_of-out
shape_of-out c =
    let five = c.write_figure in let four = c.write_figure-four in let three = c.write_figure-three in let two = c.write_figure-two in let one = c.write_figure-one in omega (arith, one.auto.out, two.auto.out, three.auto.out, four.auto.out, five.auto.out)

pub returns : goal.returns
unfolding figures_text
returns c =
    let after_1 : (c.write_figure-one.result ≤ 52) × (longest_text ≤ length c.write_figure-one.new.out) = (omega (arith, c.write_figure-one.ensures.1), omega (arith, c.write_figure-one.auto.out, c.requires)) in
    let after_2 : (c.write_figure-two.result ≤ 104) × (longest_text ≤ length c.write_figure-two.new.out) = let b = after_1 in (omega (arith, b.0, c.write_figure-two.ensures.1), omega (arith, b.1, c.write_figure-two.auto.out)) in
    let after_3 : (c.write_figure-three.result ≤ 156) × (longest_text ≤ length c.write_figure-three.new.out) = let b = after_2 in (omega (arith, b.0, c.write_figure-three.ensures.1), omega (arith, b.1, c.write_figure-three.auto.out)) in
    let after_4 : (c.write_figure-four.result ≤ 208) × (longest_text ≤ length c.write_figure-four.new.out) = let b = after_3 in (omega (arith, b.0, c.write_figure-four.ensures.1), omega (arith, b.1, c.write_figure-four.auto.out)) in
    let after_5 : (c.write_figure.result ≤ 260) × (longest_text ≤ length c.write_figure.new.out) = let b = after_4 in (omega (arith, b.0, c.write_figure.ensures.1), omega (arith, b.1, c.write_figure.auto.out)) in
    let five = c.write_figure in let four = c.write_figure-four in let three = c.write_figure-three in let two = c.write_figure-two in let one = c.write_figure-one in (then one.ensures.0 (then two.ensures.0 (then three.ensures.0 (then four.ensures.0 five.ensures.0))), after_5.0)
