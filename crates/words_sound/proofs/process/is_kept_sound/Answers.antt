-- `words_sound::process::is_kept_sound` meets its contract. Assumes nothing.
use Rattle.laws.specs.Basics.{ap, not, ◌∙◌, rules}
use Rattle.words_sound.proofs.{Judging.pinned_row, Judging.kept_unnumbered, Judging.kept_whole}
use Rattle.words_sound.proofs.process.is_kept_sound.Goals as goal

pub returns-then-not-numbered : goal.returns-then-not-numbered
returns-then-not-numbered c =
    let a = c.args in kept_unnumbered a.w.now a.p a.k a.x a.before c.requires.3 c.requires.4 c.is_kept_numbered-numbered.result c.is_kept_numbered-numbered.ensures (ap not c.if-not-numbered.true)

pub returns : goal.returns
returns c =
    let a = c.args in kept_whole a.w.now a.p a.k a.x a.before c.requires.3 c.requires.4 c.is_kept_numbered-numbered.result c.is_kept_numbered-numbered.ensures (ap not c.if-not-numbered.false)
    c.is_among.result (c.is_among.ensures ∙ pinned_row a.w.now a.p a.x a.pins c.requires.5)
