-- `machine_record::text::write_refused` meets its contract: its three texts stand one after the other. Assumes nothing.
use Rattle.laws.specs.Basics.{arith, rules}
use Rattle.listing.proofs.{Bounds.twenty_digits, Texts.then}
use Rattle.machines.specs.programs.Texts.{figure_text}
use Rattle.machine_record.specs.Recorded.{refused_line}
use Rattle.machine_record.proofs.text.write_refused.Goals as goal

pub write_number-after_number-requires : goal.write_number-after_number-requires
write_number-after_number-requires c =
    omega (arith, c.requires, c.write_word-after_name.ensures.next_place, c.write_word-after_name.auto.out, twenty_digits c.args.number)

pub write_figure-requires : goal.write_figure-requires
write_figure-requires c =
    let write_word = c.write_word-after_name in let write-number = c.write_number-after_number in omega (arith, c.requires, write_word.ensures.next_place, write_word.auto.out, write-number.ensures.next_place, write-number.auto.out, twenty_digits c.args.number)

pub returns : goal.returns
unfolding refused_line figure_text
returns c = (
  then c.write_word-after_name.ensures (then c.write_number-after_number.ensures c.write_figure.ensures.0),
  omega (arith, c.write_word-after_name.ensures.next_place, c.write_number-after_number.ensures.next_place, c.write_figure.ensures.1, twenty_digits c.args.number),
)
