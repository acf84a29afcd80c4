-- `machines::programs::text::write_word` meets its contract. The loop's invariant: the first k bytes stand in their places.
-- Assumes nothing.
use Rattle.std.specs.Prelude.{◌≡◌, ◌-◌, ◌≤◌}
use Rattle.laws.specs.Basics.{length, take, sets}
use Rattle.machines.proofs.programs.text.write_word.Given as goal

abbrev pub invariant-loop-k : goal.invariant-loop-k
invariant-loop-k l = (l.k ≤ l.size) × (l.size ≡ length l.word) × (l.out ≡ sets l.initial.out l.at (take l.k l.word))

abbrev pub decreases-loop-k : goal.decreases-loop-k
decreases-loop-k l = l.size - l.k
