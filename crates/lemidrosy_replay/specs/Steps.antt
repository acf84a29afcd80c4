-- The replay program as a machine, for C: what a call leaves in the lent lists.
-- Assumes nothing.
use Rattle.std.specs.Prelude.{◌≡◌, ◌||◌}
use Rattle.laws.specs.Basics.{Bool, false, not, List, ℕ, ltb, length}
use Rattle.machines.specs.{Machines.stepped, Forms.answer_of, Forms.Asks, Packed.unpacked, Called.Called}
use Rattle.machine_replay.specs.Replaying.{State, starting, asks, replaying}
use Rattle.machine_replay.specs.Standing.{numbers, enough_room, state_of, place_of}
use Rattle.machines.specs.declared.Request as requests

-- The lent lists stand for a state, and the request is what the machine asks for there.
pub record StandsFor (words memory input out : List ℕ) (s : State) (form : requests.Request) : Type 0 where
  pub state : state_of words memory input out ≡ s
  pub asked : Asks form (place_of memory) input out (asks (length input) (state_of words memory input out))

-- There are too few numbers, or one of the other lists is too short.
unfoldable pub lacks_room_of : ℕ → Bool → Bool
lacks_room_of memory room = ltb memory numbers || not room

abbrev pub ReplayBegun : (words memory input out request memory' request' : List ℕ) → ℕ → Type 0
ReplayBegun words memory input out request memory' request' =
    Called (lacks_room_of (length memory) (enough_room (length words) (length input) (length out))) (memory' ≡ memory) request request' (StandsFor words memory' input out starting)

-- A step tests no list but the last one; what no machine left behind has stopped.
abbrev pub ReplayStepped : (words memory input out : List ℕ) (kind number : ℕ) (request words' memory' input' out' request' : List ℕ) → ℕ → Type 0
ReplayStepped words memory input out kind number request words' memory' input' out' request' =
    Called false ((words' ≡ words) × (memory' ≡ memory) × (input' ≡ input) × (out' ≡ out)) request request'
    (StandsFor words' memory' input' out' (stepped (replaying (length input) (length out)) (state_of words memory input out) (answer_of (unpacked kind number) (place_of memory) input)))
