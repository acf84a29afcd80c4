-- `library_console::shown::seen_line` meets its contract: a lent list that is too short, a refused line, and the caller's members of the line.
-- Assumes nothing.
use Rattle.laws.specs.Basics.{sym, ◌∙◌, arith, rules}
use Rattle.words.specs.Layout.{run_of}
use Rattle.model.specs.laws.Sound.{sound_state}
use Rattle.theory_roles.specs.Console.{entitled}
use Rattle.library_console.proofs.Members.{short_line_lem, line_refused, written_sound, line_written}
use Rattle.library_console.proofs.shown.seen_line.Goals as goal

pub returns-then-line-n : goal.returns-then-line-n
returns-then-line-n c =
    let a = c.args in let g = c.line.ensures in record { value = g.value; line_after = g.line_after ∙ short_line_lem (record { role = a.role; owned = a.owned }) (run_of a.w.now) a.failed a.line.now (omega (arith, c.if-line-n.true, c.count_of-n.ensures)) }

pub write_seen-requires : goal.write_seen-requires
write_seen-requires c =
    let a = c.args in let s = run_of a.w.now in let h = written_sound (record { role = a.role; owned = a.owned }) s a.failed a.line.now (omega (arith, c.if-line-n.false, c.count_of-n.ensures)) (sym c.in-Ok.is ∙ c.line-answer.ensures.value) in (omega (arith, (sound_state s h).count_most, c.count_of-n.ensures), c.if-line-n.false)

pub returns-in-Err : goal.returns-in-Err
returns-in-Err c =
    let a = c.args in let g = line_refused (record { role = a.role; owned = a.owned }) (run_of a.w.now) a.failed a.line.now (omega (arith, c.if-line-n.false, c.count_of-n.ensures)) _ (sym c.in-Err.is ∙ c.line-answer.ensures.value) in record { value = g.0; line_after = g.1 }

pub returns-in-Ok : goal.returns-in-Ok
unfolding entitled
returns-in-Ok c =
    let a = c.args in let g = line_written (record { role = a.role; owned = a.owned }) (run_of a.w.now) a.failed a.line.now (omega (arith, c.if-line-n.false, c.count_of-n.ensures)) _ _
    (sym c.in-Ok.is ∙ c.line-answer.ensures.value) c.line-answer.ensures.line_after (rw c.count_of-n.ensures at c.write_seen.ensures) in record { value = g.0; line_after = g.1 }
