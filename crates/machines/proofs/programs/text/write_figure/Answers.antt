-- `machines::programs::text::write_figure` meets its contract: its three texts stand one after the other.
-- Assumes nothing.
use Rattle.laws.specs.Basics.{arith}
use Rattle.listing.proofs.{Bounds.twenty_digits, Texts.then}
use Rattle.machines.specs.programs.Texts.{figure_text}
use Rattle.machines.proofs.programs.text.write_figure.Goals as goal

pub write_word-after_name-requires : goal.write_word-after_name-requires
write_word-after_name-requires c =
    omega (arith, c.requires)

pub write_number-after_figure-requires : goal.write_number-after_figure-requires
write_number-after_figure-requires c =
    let name = c.write_word-after_name in omega (arith, c.requires, name.ensures.next_place, name.auto.out, twenty_digits c.args.x)

pub write_byte-requires : goal.write_byte-requires
write_byte-requires c =
    let name = c.write_word-after_name in let number = c.write_number-after_figure in omega (arith, c.requires, name.ensures.next_place, name.auto.out, number.ensures.next_place, number.auto.out, twenty_digits c.args.x)

pub returns : goal.returns
unfolding figure_text
returns c =
    let name = c.write_word-after_name in let number = c.write_number-after_figure in let end = c.write_byte in (
      then name.ensures (then number.ensures end.ensures),
      omega (arith, name.ensures.next_place, number.ensures.next_place, end.ensures.next_place, twenty_digits c.args.x),
    )
