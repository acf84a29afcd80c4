-- `library_replay::record::sound_after` meets its contract. Assumes nothing.
use Rattle.laws.specs.Basics.{sym, rules}
use Rattle.library_replay.proofs.record.sound_after.Goals as goal

pub returns-then-reached : goal.returns-then-reached
returns-then-reached c =
    sym (c.requires.0 c.if-reached.true)

pub returns-then-deletions-eq0 : goal.returns-then-deletions-eq0
returns-then-deletions-eq0 c =
    sym (c.requires.1 c.if-deletions-eq0.true)
