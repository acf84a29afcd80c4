-- `library_readers::saved::bytes::has_heading` meets its contract. Assumes nothing.
use Rattle.std.specs.Prelude.{◌≡◌, ◌-◌, ◌≤◌}
use Rattle.laws.specs.Basics.{true, arith, eqb, get_or, rules}
use Rattle.laws.specs.{Loops.all_zero, Search.all_below}
use Rattle.library_readers.specs.saved.Format.{heading, has_heading_of}
use Rattle.library_readers.proofs.{saved.Parts.head_off, saved.Parts.head_on}
use Rattle.library_readers.proofs.saved.bytes.has_heading.Given as goal

abbrev pub invariant-loop-k : goal.invariant-loop-k
invariant-loop-k l = (l.k ≤ 10) × (l.first ≡ heading) × (true ≡ all_below l.k (λ q. eqb (get_or l.bytes q 0) (get_or heading q 0)))
