-- `machine_judge::fail` meets its contract: the name stands at the front of the buffer.
-- Assumes nothing.
use Rattle.std.specs.Prelude.{◌≤◌}
use Rattle.laws.specs.Basics.{arith, length}
use Rattle.machines.proofs.programs.Texts.{printed_inside, printed_front}
use Rattle.machine_judge.proofs.{Standing.failing_after}
use Rattle.machine_judge.proofs.fail.Goals as goal

pub write_word-size-requires : goal.write_word-size-requires
write_word-size-requires c =
    omega (arith, c.requires.1, c.requires.0.2)

pub put-requires : goal.put-requires
put-requires c =
    c.requires.0.0

pub returns : goal.returns
returns c =
    let w = c.write_word-size in let out = c.args.out.now in let name = c.args.name.now in let fits : length name ≤ length out = omega (arith, c.requires.1, c.requires.0.2) in
    failing_after c.args.memory.now _ c.args.input.now w.new.out
    (c.requires.0.0, c.requires.0.1, omega (arith, w.auto.out, c.requires.0.2)) w.result name c.put.ensures
    (printed_inside out name w.new.out w.result fits w.ensures)
    (printed_front out name w.new.out w.result fits w.ensures)
