-- `library_readers::counted` meets its contract. Assumes nothing.
use Rattle.laws.specs.Basics.{arith}
use Rattle.listing.specs.Summarised.{report_in}
use Rattle.listing.proofs.answers.Fit.{fits_value}
use Rattle.library_readers.proofs.counted.Goals as goal

pub code_of-requires : goal.code_of-requires
unfolding report_in
code_of-requires c =
    fits_value _ 0 (omega arith) (omega arith)

pub returns : goal.returns
unfolding report_in
returns c =
    c.code_of.ensures
