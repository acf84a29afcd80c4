-- `library_readers::vector_on` meets its contract. Assumes nothing.
use Rattle.laws.specs.Basics.{rules}
use Rattle.library_readers.proofs.{Readings.answer_is, Readings.vector_row}
use Rattle.library_readers.proofs.vector_on.Goals as goal

pub returns : goal.returns
returns c =
    let g = c.row_on.ensures in let z = answer_is (vector_row c.args.w.now c.requires c.args.process c.args.vector.now) g.value g.row_after in record { value = z.0; vector_after = z.1 }
