-- `machines::replay_input::buffer::keep` meets its contract: so far the first k bytes are moved.
-- Assumes nothing.
use Rattle.std.specs.Prelude.{◌≡◌, ◌-◌, ◌≤◌}
use Rattle.laws.specs.Basics.{take, drop, sets}
use Rattle.machines.proofs.replay_input.buffer.keep.Given as goal

abbrev pub invariant-loop-k : goal.invariant-loop-k
invariant-loop-k l = (l.k ≤ l.left) × (l.left ≡ l.end - l.from) × (l.buffer ≡ sets l.initial.buffer l.to (take l.k (drop l.from l.initial.buffer)))

abbrev pub decreases-loop-k : goal.decreases-loop-k
decreases-loop-k l = l.left - l.k
