-- `machine_console::going::end_refused` meets its contract. Assumes nothing.
use Rattle.laws.specs.Basics.{refl, arith, rules}
use Rattle.machine_console.specs.{Consoling.Ending, Lent.state_in}
use Rattle.machine_console.proofs.{Arriving.arrives_text}
use Rattle.machine_console.proofs.going.end_refused.Goals as goal

pub returns : goal.returns
unfolding state_in
returns c =
    λ words input. rw c.at.ensures (arrives_text words input 4 Ending _ _ _ _ (omega (arith, c.requires, c.write_refused-size.ensures.1)) c.write_refused-size.ensures.0 refl)
