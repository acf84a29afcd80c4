-- `in_place_recover::process::restore::restore_live` meets its contract, by whether a pin becomes none. Assumes nothing.
use Rattle.std.specs.Prelude.{◌*◌}
use Rattle.laws.specs.Basics.{sym, ◌∙◌, ap, List, length, sets, rules}
use Rattle.model.specs.declared.Checkpoint.{Checkpoint}
use Rattle.model.specs.Steps.{listed}
use Rattle.whole_runs.specs.Outcomes.{pairs}
use Rattle.in_place_recover.proofs.ProcessRestoring.{live_part, live_gone, none_moves, none_listed, none_many}
use Rattle.in_place_recover.proofs.process.restore.restore_live.Goals as goal

pub returns-then-is_zero : goal.returns-then-is_zero
returns-then-is_zero c =
    let a = c.args in let h = c.requires.p_bound in let e = sym c.is_zero.ensures ∙ c.if-is_zero.true in record { moves = none_moves a.w.now a.p a.past a.owns h.0 _ _ _ c.vector_at-vector.ensures c.row_at-old.ensures c.known_pins-pins.ensures _ c.row_over-less.ensures e h.1.0.0 h.1.1 h.1.2; deleted_after = none_listed a.w.now a.p a.past a.owns h.0 _ _ _ c.vector_at-vector.ensures c.row_at-old.ensures c.known_pins-pins.ensures _ c.row_over-less.ensures e h.1.0.0 h.1.1 h.1.2 _ _; value = none_many a.w.now a.p a.past a.owns h.0 _ _ _ c.vector_at-vector.ensures c.row_at-old.ensures c.known_pins-pins.ensures _ c.row_over-less.ensures e h.1.0.0 h.1.1 h.1.2 }

pub returns : goal.returns
returns c =
    let a = c.args in let h = c.requires.p_bound in let part = live_part a.w.now a.p a.past a.owns h.0 _ _ _ c.vector_at-vector.ensures c.row_at-old.ensures c.known_pins-pins.ensures in let gone = live_gone a.w.now a.p a.past a.owns h.0 _ _ _ c.vector_at-vector.ensures c.row_at-old.ensures c.known_pins-pins.ensures in record { moves = rw part at c.settle.ensures.moves; deleted_after = c.settle.ensures.deleted_after ∙ ap (λ (l : List Checkpoint). sets a.deleted.now (2 * a.before) (pairs (listed a.p l))) gone; value = c.settle.ensures.value ∙ ap length gone }
