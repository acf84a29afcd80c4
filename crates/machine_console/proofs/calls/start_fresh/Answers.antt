-- `machine_console::calls::start_fresh` meets its contract. Assumes nothing.
use Rattle.laws.specs.Basics.{refl, arith, rules, sym, ◌∙◌}
use Rattle.library_readers.proofs.Copying.{copied_whole}
use Rattle.machine_console.proofs.{Starting.start_accepted, Starting.start_refused}
use Rattle.machine_console.proofs.calls.start_fresh.Goals as goal

pub returns-then-refused-eq0 : goal.returns-then-refused-eq0
returns-then-refused-eq0 c =
    λ pairs line.
    let a = c.args in let e = c.start-answer.ensures in start_accepted a.role a.owned a.c c.requires.0 _ _ _ _ c.requires.2 _ _ pairs line e.value e.w_after c.from-summary.ensures (sym c.number-refused.ensures ∙ c.if-refused-eq0.true) (copied_whole _ _ _ c.requires.1 (omega (arith, c.requires.2)) c.copy_words.ensures)

pub returns-else-refused-eq0 : goal.returns-else-refused-eq0
returns-else-refused-eq0 c =
    λ pairs line.
    let a = c.args in let e = c.start-answer.ensures in start_refused a.role a.owned a.c c.requires.0 _ _ _ _ c.requires.2 _ _ pairs line e.value e.w_after c.from-summary.ensures (λ e. c.if-refused-eq0.false (c.number-refused.ensures ∙ e)) refl
