-- `machines::programs::text::write_refused` meets its contract.
-- Assumes nothing.
use Rattle.laws.specs.Basics.{arith}
use Rattle.machines.specs.programs.Texts.{refused_text}
use Rattle.machines.proofs.programs.text.write_refused.Goals as goal

pub returns : goal.returns
unfolding refused_text
returns c =
    (rw (← c.number_of-number.ensures) c.write_figure.ensures.0, omega (arith, c.write_figure.ensures.1))
