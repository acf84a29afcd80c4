-- `machine_console::going::fail` meets its contract. Assumes nothing.
use Rattle.laws.specs.Basics.{refl, arith, rules}
use Rattle.machine_console.specs.{Consoling.Failing, Lent.state_in}
use Rattle.machine_console.proofs.{Arriving.arrives_text}
use Rattle.machine_console.proofs.going.fail.Goals as goal

pub returns : goal.returns
unfolding state_in
returns c =
    λ words input. rw c.at.ensures (arrives_text words input 5 Failing _ _ _ _ (omega (arith, c.requires, c.write_word-size.ensures.next_place)) c.write_word-size.ensures refl)
