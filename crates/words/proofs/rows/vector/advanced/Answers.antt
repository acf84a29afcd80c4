-- `words::rows::vector::advanced` meets its contract: one entry is set to one more.
-- Assumes nothing.
use Rattle.laws.specs.Basics.{rules}
use Rattle.model.specs.Steps.{advanced}
use Rattle.words.proofs.rows.vector.advanced.Goals as goal

pub returns : goal.returns
unfolding advanced
returns c =
    search rules
