-- The loop that obeys the machine: what obeying a request leaves of its state.
-- Assumes nothing.
use Rattle.std.specs.Prelude.{◌≡◌}
use Rattle.laws.specs.Basics.{List, ℕ}
use Rattle.machines.specs.Forms.{Leaves, GoesTo}
use Rattle.machines.proofs.Places.{leaves_front}
use Rattle.machine_console.specs.Lent.{marks_of, state_in, state_of, place_of}
use Rattle.machines.specs.declared.Request as requests

-- What the machine has not asked for is as it was, and so is its state.
pub kept : (memory words input after out : List ℕ) (r : requests.Request) → GoesTo r (place_of memory) → Leaves r input after
    → state_of memory words after out ≡ state_of memory words input out
unfolding state_of state_in marks_of
kept memory words input after out r there leaves =
    let (front, same) = leaves_front r (place_of memory) input after there leaves in
    rw (same, front)
