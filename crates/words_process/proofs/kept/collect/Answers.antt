-- `words_process::kept::collect` meets its contract. Assumes nothing.
use Rattle.laws.specs.Basics.{◌∙◌, rules}
use Rattle.words_process.specs.Pins.{pin_row}
use Rattle.words_process.proofs.{Collecting.collected}
use Rattle.words_process.proofs.kept.collect.Goals as goal

pub split-to-requires : goal.split-to-requires
split-to-requires c =
    let u = c.first_unpinned-first.ensures in record { w_len = (c.requires.w_len.0, c.requires.w_len.1, u.1, c.requires.w_len.3, c.requires.w_len.4, u.2); kept_count_in_bounds = c.requires.kept_count_in_bounds }

pub clear_from-requires : goal.clear_from-requires
clear_from-requires c =
    let t = c.split-to in (t.auto.w ∙ c.requires.w_len.0, c.requires.w_len.1, t.ensures.split.most, c.requires.w_len.3)

pub shape_of-w : goal.shape_of-w
shape_of-w c =
    c.clear_from.auto.w ∙ c.split-to.auto.w

pub shape_of-deleted : goal.shape_of-deleted
shape_of-deleted c =
    c.split-to.auto.deleted

pub returns : goal.returns
returns c =
    let t = c.split-to in record { collected = collected c.args.w.now c.requires.w_len.0 c.args.p c.requires.w_len.1 (pin_row c.args.pins) c.args.kept_count t.new.w _ t.result c.requires.w_len.3 t.ensures.split c.clear_from.ensures; deleted_after = t.ensures.deleted_after; kept_count_value = t.ensures.kept_count_value }
