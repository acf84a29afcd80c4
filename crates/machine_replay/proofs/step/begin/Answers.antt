-- `machine_replay::step::begin` meets its contract.
-- Assumes nothing.
use Rattle.laws.specs.Basics.{sym, ◌∙◌, arith, rules}
use Rattle.machines.specs.Forms.{request_of_def, Placed, GoesTo}
use Rattle.machine_replay.specs.{Replaying.asks}
use Rattle.machine_replay.proofs.{Places.text_starting, Steps.state_of_lem}
use Rattle.machine_replay.proofs.step.begin.Goals as goal

pub returns : goal.returns
unfolding request_of_def asks Placed GoesTo
returns c =
    let a = c.args in let store = c.store in let there = state_of_lem a.words.now store.new.memory a.input.now a.out.now (omega (arith, store.auto.memory, c.requires.0)) _ (sym (store.ensures ∙ c.with_text-p.ensures)) in let begins = there ∙ text_starting 0 a.words.now a.input.now a.out.now c.requires.1 (omega arith) in record { out_after = begins; asks = record { stands = rw begins; inside = tt; there = tt } }
