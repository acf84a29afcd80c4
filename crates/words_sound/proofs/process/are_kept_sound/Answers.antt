-- `words_sound::process::are_kept_sound` meets its contract. Assumes nothing.
use Rattle.std.specs.Prelude.{◌-◌}
use Rattle.laws.specs.Basics.{not, ap, ℕ, rules}
use Rattle.words.specs.Layout.{word}
use Rattle.words_sound.proofs.Judging.{Walked, none_walked, one_walked, walk_stops, walk_misses, walk_ends, last_is_lem}
use Rattle.words_sound.proofs.process.are_kept_sound.Goals as goal

pub loop-k-init : goal.loop-k-init
loop-k-init c =
    let a = c.args in none_walked a.w.now a.p a.kept_count a.first _ (rw c.pins_at-pins_at.ensures at c.row_at-pins.ensures)

pub is_kept_sound-ok-requires : goal.is_kept_sound-ok-requires
is_kept_sound-ok-requires c =
    let a = c.args in (c.requires.0, c.requires.1, search rules, ap (λ (j : ℕ). word a.w.now j) c.index_at-at.ensures, c.loop-k.invariant.last, rw c.pins_at-pins_at.ensures at c.row_at-pins.ensures)

pub returns-then-not-ok : goal.returns-then-not-ok
returns-then-not-ok c =
    let a = c.args in walk_stops a.w.now a.p a.kept_count a.first c.loop-k.k c.loop-k-test.true c.is_kept_sound-ok.result c.is_kept_sound-ok.ensures (ap not c.if-not-ok.true)

pub loop-k-preserved : goal.loop-k-preserved
loop-k-preserved c =
    let a = c.args in one_walked a.w.now a.p a.kept_count a.first c.loop-k.k c.loop-k.before _ _ c.loop-k.off _ c.loop-k.unmet _ c.vector_at-vector.result a.owns c.loop-k.invariant c.loop-k-test.true
    (rw c.pins_at-pins_at.ensures at c.row_at-pins.ensures) (ap (λ (j : ℕ). word a.w.now j) c.index_at-at.ensures) c.is_kept_sound-ok.result c.is_kept_sound-ok.ensures (ap not c.if-not-ok.false) c.without-left.ensures
    (rw c.stored_at-vector_at.ensures at c.vector_at-vector.ensures) c.requires.3 c.over_by-over.ensures

pub returns-then-before-last : goal.returns-then-before-last
returns-then-before-last c =
    let a = c.args in walk_misses a.w.now a.p a.kept_count a.first c.loop-k.k c.loop-k.before c.last_word-last.result c.loop-k.off c.loop-k.unmet c.loop-k.invariant c.loop-k-test.false
    (last_is_lem a.w.now a.p c.part_at.result c.last_word-last.result c.part_at.ensures c.last_word-last.ensures c.requires.4) c.if-before-last.true

pub returns : goal.returns
returns c =
    let a = c.args in walk_ends a.w.now a.p a.kept_count a.first c.loop-k.k c.loop-k.before c.last_word-last.result c.loop-k.off c.loop-k.unmet c.loop-k.invariant c.loop-k-test.false
    (last_is_lem a.w.now a.p c.part_at.result c.last_word-last.result c.part_at.ensures c.last_word-last.ensures c.requires.4) c.if-before-last.false c.are_zero.result c.are_zero.ensures
