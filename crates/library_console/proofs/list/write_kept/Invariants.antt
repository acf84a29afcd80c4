-- `library_console::list::write_kept` meets its contract. The loop's invariant: the pairs of the checkpoints passed are written.
-- Assumes nothing.
use Rattle.std.specs.Prelude.{◌≡◌, ◌-◌, ◌≤◌}
use Rattle.laws.specs.Basics.{refl, ◌∙◌, arith, length, sets, rules}
use Rattle.laws.specs.Lists.{table}
use Rattle.model.specs.Steps.{listed}
use Rattle.whole_runs.specs.Outcomes.{pairs}
use Rattle.words.specs.Layout.{checkpoint_in}
use Rattle.library_console.proofs.{Listing.none_written, Listing.one_written}
use Rattle.library_console.proofs.list.write_kept.Given as goal

abbrev pub invariant-loop-k : goal.invariant-loop-k
invariant-loop-k l = (l.k ≤ l.kept_count) × (length l.deleted ≡ length l.initial.deleted) × (l.deleted ≡ sets l.initial.deleted l.at (pairs (listed l.p (table l.k (checkpoint_in l.w l.p)))))
