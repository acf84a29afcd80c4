-- `words::rows::start::first_vector` meets its contract: one entry of a vector of zeros is set.
-- Assumes nothing.
use Rattle.laws.specs.Basics.{rules}
use Rattle.model.specs.Steps.{started}
use Rattle.words.proofs.rows.start.first_vector.Goals as goal

pub returns : goal.returns
unfolding started
returns c =
    λ b. search rules
