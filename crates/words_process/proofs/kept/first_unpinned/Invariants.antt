-- `words_process::kept::first_unpinned` meets its contract. Assumes nothing.
use Rattle.std.specs.Prelude.{◌≡◌, ◌+◌, ◌-◌, ◌≤◌, ◌<◌}
use Rattle.laws.specs.Basics.{sym, ◌∙◌, true, List, ℕ, arith, rules, not-false, by_eq}
use Rattle.model.specs.Words.{is_pinned}
use Rattle.words.specs.Layout.{word, index_at_of, checkpoint_in}
use Rattle.words_process.specs.{Kept.Used, Kept.AllPinned, Pins.pin_row}
use Rattle.words_process.proofs.{Collecting.pinned_is}
use Rattle.words_process.proofs.kept.first_unpinned.Given as goal

abbrev pub invariant-loop-k : goal.invariant-loop-k
invariant-loop-k l = (l.from ≤ l.k) × (l.k ≤ l.kept_count) × AllPinned l.w l.p (pin_row l.pins) l.k

abbrev pub decreases-loop-k : goal.decreases-loop-k
decreases-loop-k l = l.kept_count - l.k
