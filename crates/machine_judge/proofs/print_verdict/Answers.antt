-- `machine_judge::print_verdict` meets its contract: the line of the verdict stands at the front of the buffer.
-- Assumes nothing.
use Rattle.std.specs.Prelude.{◌≤◌}
use Rattle.laws.specs.Basics.{sym, ◌∙◌, ap, arith, length, take, length-take-le}
use Rattle.theory_patterns.specs.Verdicts.{verdict}
use Rattle.machines.proofs.programs.Texts.{printed_inside, printed_front}
use Rattle.machine_judge.specs.Text.{verdict_text}
use Rattle.machine_judge.proofs.{Lengths.verdict_short, Lengths.small, Standing.printing_after}
use Rattle.machine_judge.proofs.print_verdict.Goals as goal

pub slice_bounds-judge-end : goal.slice_bounds-judge-end
slice_bounds-judge-end c =
    sym (length-take-le c.args.buffered c.args.input.now (omega (arith, c.requires.1, c.requires.0.1)))

pub write_verdict-size-requires : goal.write_verdict-size-requires
write_verdict-size-requires c =
    (c.requires.0.2, small _ _ c.judge-verdict.ensures)

pub put-requires : goal.put-requires
put-requires c =
    c.requires.0.0

pub returns : goal.returns
returns c =
    let w = c.write_verdict-size in let judged = c.judge-verdict in let out = c.args.out.now in let line = verdict_text judged.result in let fits : length line ≤ length out = omega (arith, verdict_short judged.result, c.requires.0.2) in
    printing_after c.args.memory.now _ c.args.input.now w.new.out
    (c.requires.0.0, c.requires.0.1, omega (arith, w.auto.out, c.requires.0.2)) w.result
    (verdict_text (verdict (take c.args.buffered c.args.input.now))) c.put.ensures
    (printed_inside out line w.new.out w.result fits w.ensures)
    (printed_front out line w.new.out w.result fits w.ensures ∙ ap verdict_text judged.ensures)
