-- The loop that obeys the machine: where it stands before each request.
-- Assumes nothing.
use Rattle.std.specs.Prelude.{◌≡◌, ◌≤◌, ◌<◌}
use Rattle.laws.specs.Basics.{refl, sym, ◌∙◌, ap, subst, true, false, List, ℕ, leb, length, take, leb-true, by_bool, by_eq}
use Rattle.machines.specs.Machines.{Write, Answer, stepped, Reached, Ended}
use Rattle.machines.specs.Forms.{request_of_def, goes_on_of, Leaves, Asks}
use Rattle.machines.proofs.{Runs.reached_first, Runs.reached_next, Places.going_is, Places.stopped_is, Places.leaves_front}
use Rattle.machine_replay.specs.declared.place.Place.{Place}
use Rattle.machine_replay.specs.Replaying.{starting, asks, replaying}
use Rattle.machine_replay.specs.Standing.{numbers, enough_room, inside, between_in, by_phase, state_in, state_of, place_in, place_of, FromStart}
use Rattle.machine_replay.proofs.{Places.inside_out, Places.is_printing, Steps.state_of_lem, Ending.left, Ending.next_falls}
use Rattle.machines.specs.declared.Request as requests
use Rattle.machines.specs.declared.Request.TheVariants as request

-- Only a request to write leaves all of the buffer.
write_leaves : (r : requests.Request) (out text input after : List ℕ) → request_of_def r out ≡ Write text → Leaves r input after → after ≡ input
unfolding request_of_def Leaves
write_leaves request.Count out text input after e h = h
write_leaves (request.Argument i at most) out text input after e h = cc
write_leaves (request.Open size) out text input after e h = h
write_leaves (request.Read at most) out text input after e h = cc
write_leaves (request.Write size) out text input after e h = h
write_leaves (request.Say size) out text input after e h = h
write_leaves (request.Fail size) out text input after e h = h
write_leaves request.Stop out text input after e h = h

-- What the machine has not asked for is as it was, and so is its state.
module _ (words memory input after out : List ℕ) (r : requests.Request) (size : ℕ) (asks-it : Asks r (place_of memory) input out (asks size (state_of words memory input out)))
    (leaves : Leaves r input after) where
  abbrev p : Place
  p = place_in memory

  same_size : length after ≡ length input
  same_size = (leaves_front r (place_of memory) input after asks-it.there leaves).1

  front : take p.buffered after ≡ take p.buffered input
  unfolding place_of
  front = (leaves_front r (place_of memory) input after asks-it.there leaves).0

  module _ (many : 6 ≤ length memory) where
    buffered_same : enough_room (length words) (length input) (length out) ≡ true → inside p (length input) (length out) ≡ true → between_in p words after ≡ between_in p words input
    unfolding between_in asks
    buffered_same room in_lists =
        let there = inside_out p (length input) (length out) in_lists in
        by_eq p.phase 4
        (λ e. let printed = state_of_lem words memory input out many p refl ∙ is_printing {p = p} {words = words} {input = input} {out = out} (record { room = room; there = in_lists }) e in
        let same = write_leaves r out _ input after (asks-it.stands ∙ ap (asks size) printed) leaves in rw same)
        (λ ne. rw ((there.front ne).1, front))

    in_same : state_in p words after out ≡ state_in p words input out
    unfolding state_in by_phase
    in_same = by_bool (enough_room (length words) (length input) (length out))
        (λ room. by_bool (inside p (length input) (length out))
        (λ in_lists. rw (same_size, room, in_lists, buffered_same room in_lists))
        (λ no. rw (same_size, room, no)))
        (λ narrow. rw (same_size, narrow))

  pub kept : state_of words memory after out ≡ state_of words memory input out
  unfolding state_of
  kept = by_bool (leb numbers (length memory)) (λ many. rw many (in_same (leb-true numbers (length memory) many))) (λ few. rw few)

pub record Driven (size room : ℕ) (words memory input out : List ℕ) (r : requests.Request) : Type 0 where
  pub reached : Reached (replaying size room) (state_of words memory input out)
  pub led : FromStart (state_of words memory input out)
  pub asked : Asks r (place_of memory) input out (asks size (state_of words memory input out))

pub driven_first : (size room : ℕ) (words memory input out : List ℕ) (r : requests.Request) → state_of words memory input out ≡ starting
    → Asks r (place_of memory) input out (asks size (state_of words memory input out)) → Driven size room words memory input out r
unfolding FromStart
driven_first size room words memory input out r e h = record { reached = rw e (reached_first (replaying size room)); led = rw e tt; asked = h }

-- One request is obeyed, and its answer taken.
module _ (size room : ℕ) (words memory input out : List ℕ) (r : requests.Request) (h : Driven size room words memory input out r) (after : List ℕ) (leaves : Leaves r input after) where
  same_state : state_of words memory after out ≡ state_of words memory input out
  same_state = kept words memory input after out r size h.asked leaves

  pub still_from_start : FromStart (state_of words memory after out)
  still_from_start = subst FromStart (sym same_state) h.led

  module _ (words' memory' input' out' : List ℕ) (r' : requests.Request) (a : Answer) (is : state_of words' memory' input' out' ≡ stepped (replaying size room) (state_of words memory after out) a) where
    pub driven_next : Asks r' (place_of memory') input' out' (asks size (state_of words' memory' input' out')) → FromStart (state_of words' memory' input' out') → Driven size room words' memory' input' out' r'
    driven_next asked led = record {
      reached = rw (is, same_state) (reached_next (replaying size room) (state_of words memory input out) a h.reached);
      led = led;
      asked = asked;
    }

    pub driven_less : goes_on_of r ≡ true → left (state_of words' memory' input' out') < left (state_of words memory input out)
    driven_less going =
        let fell = next_falls size room (state_of words memory input out) a (λ e. going_is r out going (h.asked.stands ∙ e)) in
        rw (is, same_state) fell

pub driven_ends : (size room : ℕ) (words memory input out : List ℕ) (r : requests.Request) → Driven size room words memory input out r → goes_on_of r ≡ false → Ended (replaying size room) (state_of words memory input out)
unfolding Ended
driven_ends size room words memory input out r h e = (h.reached, sym h.asked.stands ∙ stopped_is r out e)
