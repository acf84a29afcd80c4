-- `library_console::receivers::look_at` meets its contract: the place is not used, has the message, or has another one.
-- Assumes nothing.
use Rattle.laws.specs.Basics.{sym, ◌∙◌, rules}
use Rattle.library_console.proofs.Receiving.{room_for_one, one_unused, one_has, one_other, receiver_word}
use Rattle.library_console.proofs.receivers.look_at.Goals as goal

pub returns-then-number-eq0 : goal.returns-then-number-eq0
returns-then-number-eq0 c =
    let a = c.args in one_unused a.w.now a.m a.k a.before c.requires.3 (sym c.number_at-number.ensures ∙ c.if-number-eq0.true)

pub overflow_add-result : goal.overflow_add-result
overflow_add-result c =
    let a = c.args in let few = room_for_one a.w.now a.m a.k a.before c.requires.3 in search rules

pub returns-then-used-many : goal.returns-then-used-many
returns-then-used-many c =
    let a = c.args in one_has a.w.now a.m a.k a.before c.requires.3 (λ z. c.if-number-eq0.false (c.number_at-number.ensures ∙ z))
    (rw (c.number_at-number.ensures, c.requires.2) at c.if-used-many.true)
    (c.number_of-process.ensures ∙ sym (receiver_word a.w.now a.k))

pub overflow_add-result-2 : goal.overflow_add-result-2
overflow_add-result-2 c =
    let a = c.args in let few = room_for_one a.w.now a.m a.k a.before c.requires.3 in search rules

pub returns : goal.returns
returns c =
    let a = c.args in one_other a.w.now a.m a.k a.before c.requires.3 (λ z. c.if-number-eq0.false (c.number_at-number.ensures ∙ z))
    (rw (c.number_at-number.ensures, c.requires.2) at c.if-used-many.false)
