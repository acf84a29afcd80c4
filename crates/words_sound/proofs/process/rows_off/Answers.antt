-- `words_sound::process::rows_off` meets its contract. Assumes nothing.
use Rattle.laws.specs.Basics.{arith, rules}
use Rattle.words_sound.proofs.{Judging.rows_are}
use Rattle.words_sound.proofs.process.rows_off.Goals as goal

pub returns : goal.returns
returns c =
    let a = c.args in rows_are a.w.now a.p c.row_at-pins.result a.columns c.row_over-outside.result c.over_by.result a.owns c.vector_at-vector.result (λ k. omega (arith, c.shared_slice_known-1.given k))
    (rw c.pins_at-pins_at.ensures at c.row_at-pins.ensures) c.requires.2 c.requires.3 (rw c.part_at-vector_at.ensures at c.vector_at-vector.ensures) c.row_over-outside.ensures c.over_by.ensures
