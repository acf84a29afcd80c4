-- `machine_replay::phases::fail_input` meets its contract.
-- Assumes nothing.
use Rattle.laws.specs.Basics.{arith, rules}
use Rattle.machine_replay.proofs.{Places.enough_out, Places.printed_failing}
use Rattle.machine_replay.proofs.phases.fail_input.Goals as goal

pub write_word-size-requires : goal.write_word-size-requires
write_word-size-requires c =
    omega (arith, (enough_out _ _ _ c.requires))

pub returns : goal.returns
returns c =
    let w = c.write_word-size in rw c.with_text.ensures (printed_failing c.args.words.now c.args.input.now c.args.out.now _ w.new.out w.result c.requires w.ensures
    (omega (arith, w.ensures.next_place, enough_out _ _ _ c.requires)) w.auto.out)
