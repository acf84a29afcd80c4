-- `words_sound::process::is_kept_numbered` meets its contract. Assumes nothing.
use Rattle.laws.specs.Basics.{rules, le-ltb}
use Rattle.words_sound.proofs.{Judging.numbered}
use Rattle.words_sound.proofs.process.is_kept_numbered.Goals as goal

pub returns-then-x-before : goal.returns-then-x-before
returns-then-x-before c =
    let a = c.args in rw (le-ltb a.before a.x c.if-x-before.true)

pub returns : goal.returns
returns c =
    let a = c.args in numbered a.w.now a.p a.k a.x a.before c.stored_at.result c.cause_at-cause_at.result c.interval_of-own.result c.index_of-index.result c.is_cause_sound-caused.result c.if-x-before.false c.stored_at.ensures c.interval_of-own.ensures c.index_of-index.ensures c.cause_at-cause_at.ensures c.is_cause_sound-caused.ensures
