-- `words::rows::start::no_checkpoint` meets its contract: zeros everywhere.
-- Assumes nothing.
use Rattle.laws.specs.Basics.{rules}
use Rattle.words.proofs.rows.start.no_checkpoint.Goals as goal

pub returns : goal.returns
returns c =
    rw (c.stored.ensures, c.zero_vector-zeros.ensures)
