-- Buffers that are large enough; they keep their sizes, so it is one machine all along.
-- Assumes nothing.
use Rattle.std.specs.Prelude.{◌≡◌, ◌≤◌}
use Rattle.laws.specs.Basics.{true, List, ℕ, eq-eqb, le-leb}
use Rattle.listing.specs.Lines.{longest_line}
use Rattle.words.specs.Layout.{state_size}
use Rattle.machines.specs.{Machines.Answer, Machines.stepped, Forms.Asks}
use Rattle.machine_replay.specs.{Replaying.State, Replaying.asks, Replaying.replaying, Standing.least_input, Standing.enough_room}
use Rattle.machines.specs.declared.Request as requests

pub large_enough : (words input out : ℕ) → words ≡ state_size → least_input ≤ input → longest_line ≤ out → enough_room words input out ≡ true
unfolding enough_room
large_enough words input out w i o = rw (eq-eqb words state_size w, le-leb least_input input i, le-leb longest_line out o)

module _ (size room size' room' : ℕ) (same_size : size' ≡ size) (same_room : room' ≡ room) where
  pub stepped_alike : (s t : State) (a : Answer) → t ≡ stepped (replaying size' room') s a → t ≡ stepped (replaying size room) s a
  stepped_alike s t a h = rw (same_size, same_room) at h

pub asks_alike : (size size' : ℕ) → size' ≡ size → (r : requests.Request) (place : ℕ) (input out : List ℕ) (s : State) → Asks r place input out (asks size' s) → Asks r place input out (asks size s)
asks_alike size size' same r place input out s h = rw same at h
