-- `theory_recording::spacing::draws::next` meets its contract.
-- Assumes nothing.
use Rattle.laws.specs.Basics.{arith}
use Rattle.theory_recording.specs.spacing.Spacing.{generated}
use Rattle.theory_recording.proofs.spacing.draws.next.Goals as goal

pub returns : goal.returns
unfolding generated
returns c = omega (arith, c.low_product.ensures)
