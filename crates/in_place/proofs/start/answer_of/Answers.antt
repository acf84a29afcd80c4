-- `in_place::start::answer_of` meets its contract. Assumes nothing.
use Rattle.std.specs.Prelude.{◌≡◌}
use Rattle.laws.specs.Basics.{refl, sym, ◌∙◌, rules, not-true, not-false}
use Rattle.in_place.proofs.Judging.{few, many_processes, other_size, short_counts, outside, fine}
use Rattle.in_place.proofs.start.answer_of.Goals as goal

pub returns-then-n-lt1 : goal.returns-then-n-lt1
returns-then-n-lt1 c =
    let a = c.args in rw (few a.many a.n a.block_counts.now c.if-n-lt1.true) refl

pub returns-then-n-gt-PROCESSES : goal.returns-then-n-gt-PROCESSES
returns-then-n-gt-PROCESSES c =
    let a = c.args in rw (many_processes a.many a.n a.block_counts.now c.if-n-lt1.false c.if-n-gt-PROCESSES.true) refl

pub returns-then-many-ne-WORDS : goal.returns-then-many-ne-WORDS
returns-then-many-ne-WORDS c =
    let a = c.args in rw (other_size a.many a.n a.block_counts.now c.if-n-lt1.false c.if-n-gt-PROCESSES.false c.if-many-ne-WORDS.true) refl

pub returns-then-block_counts-n : goal.returns-then-block_counts-n
returns-then-block_counts-n c =
    let a = c.args in rw (short_counts a.many a.n a.block_counts.now c.if-n-lt1.false c.if-n-gt-PROCESSES.false c.if-many-ne-WORDS.false c.if-block_counts-n.true) refl

pub returns-then-not-ok : goal.returns-then-not-ok
returns-then-not-ok c =
    let a = c.args in rw (outside a.many a.n a.block_counts.now c.if-n-lt1.false c.if-n-gt-PROCESSES.false c.if-many-ne-WORDS.false c.if-block_counts-n.false (sym c.are_block_counts-ok.ensures ∙ c.if-not-ok.true)) refl

pub returns : goal.returns
returns c =
    let a = c.args in rw (fine a.many a.n a.block_counts.now c.if-n-lt1.false c.if-n-gt-PROCESSES.false c.if-many-ne-WORDS.false c.if-block_counts-n.false (sym c.are_block_counts-ok.ensures ∙ c.if-not-ok.false)) refl
