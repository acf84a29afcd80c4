-- `library_readers::write_kept` meets its contract. Assumes nothing.
use Rattle.std.specs.Prelude.{◌≡◌, ◌+◌, ◌-◌, ◌*◌, ◌≤◌}
use Rattle.laws.specs.Basics.{refl, ◌∙◌, List, ℕ, arith, length, sets, rules}
use Rattle.laws.specs.Lists.{table}
use Rattle.words.specs.Layout.{checkpoint_in}
use Rattle.library_readers.specs.Readings.{stored_numbers}
use Rattle.library_readers.proofs.{Three.stored_step}
use Rattle.library_readers.proofs.write_kept.Given as goal

abbrev pub invariant-loop-k : goal.invariant-loop-k
invariant-loop-k l = (l.k ≤ l.kept_count) × (length l.out ≡ length l.initial.out) × (l.out ≡ sets l.initial.out 0 (stored_numbers (table l.k (checkpoint_in l.w l.p))))
