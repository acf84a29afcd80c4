-- `library_readers::saved::bytes::write_heading` meets its contract. Assumes nothing.
use Rattle.std.specs.Prelude.{◌≡◌, ◌-◌, ◌≤◌}
use Rattle.laws.specs.Basics.{refl, ◌∙◌, ap, List, ℕ, arith, length, get_or, length-set, sets, rules}
use Rattle.laws.specs.{Below.below_written, Loops.set_below, Loops.below_none, Loops.step_set}
use Rattle.library_readers.specs.saved.Format.{heading}
use Rattle.library_readers.proofs.{saved.Parts.heading_table}
use Rattle.library_readers.proofs.saved.bytes.write_heading.Given as goal

abbrev pub invariant-loop-k : goal.invariant-loop-k
invariant-loop-k l = (l.k ≤ 10) × (l.first ≡ heading) × (length l.bytes ≡ length l.initial.bytes) × (l.bytes ≡ set_below l.k (λ q. get_or heading q 0) l.initial.bytes)
