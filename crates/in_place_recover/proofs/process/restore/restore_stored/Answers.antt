-- `in_place_recover::process::restore::restore_stored` meets its contract. Assumes nothing.
use Rattle.std.specs.Prelude.{◌*◌}
use Rattle.laws.specs.Basics.{◌∙◌, ap, List, arith, length, sets, rules}
use Rattle.model.specs.{declared.Checkpoint.Checkpoint, declared.Disk.Disk, Steps.listed}
use Rattle.whole_runs.specs.Outcomes.{pairs}
use Rattle.in_place_recover.proofs.ProcessRestoring.{stored_ready, stored_gone, stored_moves}
use Rattle.in_place_recover.proofs.process.restore.restore_stored.Goals as goal

pub roll_back-requires : goal.roll_back-requires
roll_back-requires c =
    let r = c.requires.past_bound.1.0 in (c.requires.w_len.0, c.requires.w_len.1, omega (arith, c.requires.past_bound.0, r.0, r.1), r.3 c.requires.past_bound.0)

pub settle-requires : goal.settle-requires
settle-requires c =
    let a = c.args in let h = c.requires.past_bound in let u = stored_ready a.w.now c.requires.w_len.0 a.p c.requires.w_len.1 a.past a.owns h.0 h.1.0.0 _ c.roll_back.ensures h.1.1 in record {
      w_len = (
        c.roll_back.auto.w ∙ c.requires.w_len.0,
        c.requires.w_len.1,
        omega (arith, ap (λ (d : Disk). d.written) u.0, c.requires.w_len.2),
        omega (arith, ap (λ (d : Disk). d.deleted) u.0, c.requires.w_len.3),
      );
      p_bound = (omega (arith, u.1, h.1.0.0), u.2);
      p_in_bounds = (omega (arith, u.1, c.requires.p_in_bounds.0), c.requires.p_in_bounds.1);
    }

pub returns : goal.returns
returns c =
    let a = c.args in let h = c.requires.past_bound in let gone = stored_gone a.w.now c.requires.w_len.0 a.p c.requires.w_len.1 a.past a.owns h.0 h.1.0.0 _ c.roll_back.ensures _ _ _ c.vector_at-vector.ensures c.find_latest-found.ensures c.known_pins-pins.ensures in record { moves = stored_moves a.w.now c.requires.w_len.0 a.p c.requires.w_len.1 a.past a.owns h.0 h.1.0.0 _ c.roll_back.ensures _ _ _ c.vector_at-vector.ensures c.find_latest-found.ensures c.known_pins-pins.ensures _ _ c.settle.ensures.moves; deleted_after = c.settle.ensures.deleted_after ∙ ap (λ (l : List Checkpoint). sets a.deleted.now (2 * a.before) (pairs (listed a.p l))) gone; value = c.settle.ensures.value ∙ ap length gone }
