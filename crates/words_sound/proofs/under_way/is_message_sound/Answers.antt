-- `words_sound::under_way::is_message_sound` meets its contract. Assumes nothing.
use Rattle.laws.specs.Basics.{arith, rules}
use Rattle.words_sound.proofs.{Judging.order_fails, Judging.message_whole}
use Rattle.words_sound.proofs.under_way.is_message_sound.Goals as goal

pub returns-then-number-before : goal.returns-then-number-before
returns-then-number-before c =
    let a = c.args in order_fails a.w.now a.k a.n a.number a.before c.requires.1 c.requires.3 c.requires.4 (omega (arith, c.if-number-before.true))

pub returns : goal.returns
returns c =
    let a = c.args in message_whole a.w.now a.k a.n a.number a.before c.requires.1 c.requires.3 c.requires.4 (omega (arith, c.if-number-before.false)) c.are_ends_sound.result c.are_ends_sound.ensures
