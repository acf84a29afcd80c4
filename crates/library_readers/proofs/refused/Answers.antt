-- `library_readers::refused` meets its contract. Assumes nothing.
use Rattle.laws.specs.Basics.{rules}
use Rattle.listing.proofs.answers.Fit.{fits_refused}
use Rattle.library_readers.proofs.refused.Goals as goal

pub code_of-requires : goal.code_of-requires
code_of-requires c =
    rw c.from-summary.ensures (fits_refused c.args.why)

pub returns : goal.returns
returns c =
    rw (c.code_of.ensures, c.from-summary.ensures)
