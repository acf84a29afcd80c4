-- `library_console::receivers::search` meets its contract. The loop's invariant: the places passed were searched.
-- Assumes nothing.
use Rattle.std.specs.Prelude.{◌≡◌, ◌-◌, ◌≤◌}
use Rattle.laws.specs.Basics.{arith, rules}
use Rattle.library_console.specs.Receivers.{SearchedTo}
use Rattle.library_console.proofs.{Receiving.none_searched}
use Rattle.library_console.proofs.receivers.search.Given as goal

abbrev pub invariant-loop-k : goal.invariant-loop-k
invariant-loop-k l = (l.k ≤ l.end) × SearchedTo l.w l.m l.k l.searched
