-- `library_readers::pins_on` meets its contract. Assumes nothing.
use Rattle.laws.specs.Basics.{rules}
use Rattle.library_readers.proofs.{Readings.answer_is, Readings.pins_row}
use Rattle.library_readers.proofs.pins_on.Goals as goal

pub returns : goal.returns
returns c =
    let g = c.row_on.ensures in let z = answer_is (pins_row c.args.w.now c.requires c.args.process c.args.pins.now) g.value g.row_after in record { value = z.0; pins_after = z.1 }
