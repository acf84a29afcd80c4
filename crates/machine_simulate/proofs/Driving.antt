-- The loop that obeys the machine: what obeying a request leaves of its state.
-- Assumes nothing.
use Rattle.std.specs.Prelude.{◌≡◌}
use Rattle.laws.specs.Basics.{List, ℕ}
use Rattle.machines.specs.{Forms.Leaves, Forms.GoesTo}
use Rattle.machines.proofs.Places.{leaves_front}
use Rattle.machine_simulate.specs.Words.{state_of}
use Rattle.machines.specs.declared.Request as requests

-- No state depends on the bytes of `input`.
pub kept : (memory input after out : List ℕ) (r : requests.Request) → GoesTo r 0 → Leaves r input after → state_of memory after out ≡ state_of memory input out
unfolding state_of
kept memory input after out r there leaves = let (front, same) = leaves_front r 0 input after there leaves in rw same
