-- `words_process::kept::split` meets its contract. Assumes nothing.
use Rattle.std.specs.Prelude.{◌≡◌, ◌+◌, ◌-◌, ◌*◌, ◌≤◌, ◌<◌}
use Rattle.laws.specs.Basics.{refl, sym, ◌∙◌, ap, true, false, List, [], ℕ, arith, length, set, sets, rules}
use Rattle.laws.specs.{Loops.either, Tests.some_of}
use Rattle.model.specs.{Words.names, Words.is_pinned, Steps.listed}
use Rattle.model.specs.declared.{Checkpoint.Checkpoint, CheckpointIndex.CheckpointIndex}
use Rattle.whole_runs.specs.Outcomes.{pairs}
use Rattle.words.specs.Layout.{word, index_at_of, index_of_def, checkpoint_in}
use Rattle.words_process.specs.{Kept.Used, Kept.Split, Pins.pin_row}
use Rattle.words_process.proofs.Collecting.{pinned_is, index_is, index_there, split_first, split_stays, split_moves, unpinned, unpinned_none, unpinned_same, one_more, pair_more, pairs_none}
use Rattle.words_process.proofs.kept.split.Given as goal

abbrev pub invariant-loop-k : goal.invariant-loop-k
invariant-loop-k l = (l.from ≤ l.k) × (l.k ≤ l.kept_count) × (length l.w ≡ length l.initial.w) × (length l.deleted ≡ length l.initial.deleted) × Split l.initial.w l.p l.k (pin_row l.pins) l.w l.to × (l.deleted ≡ sets l.initial.deleted (2 * l.before) (pairs (listed l.p (unpinned l.initial.w l.p (pin_row l.pins) l.k)))) × (l.k ≡ l.to + length (unpinned l.initial.w l.p (pin_row l.pins) l.k))
