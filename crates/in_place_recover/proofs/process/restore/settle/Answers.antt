-- `in_place_recover::process::restore::settle` meets its contract. Assumes nothing.
use Rattle.std.specs.Prelude.{◌*◌}
use Rattle.laws.specs.Basics.{◌∙◌, ap, List, arith, length, length-set, sets, rules}
use Rattle.model.specs.declared.Checkpoint.{Checkpoint}
use Rattle.model.specs.Steps.{listed}
use Rattle.whole_runs.specs.Outcomes.{pairs}
use Rattle.words.specs.Layout.{word, kept_count_at_of}
use Rattle.words_process.proofs.Settling.{pinned_used}
use Rattle.in_place_recover.proofs.ProcessSettling.{none_pinned, unpinned_is, settled_size, settled_disk, settled_moves}
use Rattle.in_place_recover.proofs.process.restore.settle.Goals as goal

pub collect-stay-requires : goal.collect-stay-requires
collect-stay-requires c =
    let a = c.args in record {
      w_len = (
        c.put_row.auto.w ∙ c.requires.w_len.0,
        c.requires.w_len.1,
        omega arith,
        c.requires.p_bound.0,
        rw c.put_row.ensures (pinned_used a.w.now c.requires.w_len.0 a.p c.requires.w_len.1 a.pins (word a.w.now (kept_count_at_of a.p)) c.requires.p_bound.0 c.requires.p_bound.1),
        none_pinned _ _ _,
      );
      kept_count_in_bounds = (c.requires.p_in_bounds.0, c.requires.p_in_bounds.1);
    }

pub bill-requires : goal.bill-requires
bill-requires c =
    let a = c.args in let d = settled_disk a.w.now c.requires.w_len.0 a.p c.requires.w_len.1 a.pins _ c.put_row.ensures c.requires.p_bound.0 _ _ c.collect-stay.ensures.collected in (
      settled_size a.w.now c.requires.w_len.0 a.p c.requires.w_len.1 a.pins _ c.put_row.ensures c.requires.p_bound.0 _ _ c.collect-stay.ensures.collected,
      rw d.0 c.requires.w_len.2,
      rw d.1 c.requires.w_len.3,
      omega (arith, c.requires.p_bound.0),
    )

pub shape_of-w : goal.shape_of-w
shape_of-w c =
    c.bill.auto.w ∙ simp length-set (c.collect-stay.auto.w ∙ c.put_row.auto.w)

pub returns : goal.returns
returns c =
    let bill = c.bill.ensures in let a = c.args in let gone = unpinned_is a.w.now c.requires.w_len.0 a.p c.requires.w_len.1 a.pins _ c.put_row.ensures c.requires.p_bound.0 in record { moves = settled_moves a.w.now c.requires.w_len.0 a.p c.requires.w_len.1 a.pins _ c.put_row.ensures c.requires.p_bound.0 _ _ c.collect-stay.ensures.collected _ _ _ bill.only_disk bill.w_after.0 bill.w_after.1; deleted_after = c.collect-stay.ensures.deleted_after ∙ ap (λ (l : List Checkpoint). sets a.deleted.now (2 * a.before) (pairs (listed a.p l))) gone; value = omega (arith, c.collect-stay.ensures.kept_count_value, ap length gone) }
