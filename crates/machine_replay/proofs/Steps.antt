-- A step on lent lists: the state that stands in them, and that calls from a start led to its run.
-- Assumes nothing.
use Rattle.std.specs.Prelude.{◌≡◌, ◌&&◌, ◌+◌, ◌≤◌, ◌<◌}
use Rattle.laws.specs.Basics.{refl, ap, subst, Bool, List, ℕ, eqb, ltb, length, get_or, le-leb, lt-leb, by_bool}
use Rattle.model.specs.{Words.ones, Refusals.start_refusal, laws.Refusals.by_refusal}
use Rattle.whole_runs.specs.{Outcomes.start_outcome, WholeRuns.Reachable}
use Rattle.whole_runs.proofs.WholeRuns.{reachable_start}
use Rattle.library_replay.specs.Taken.{block_outcome}
use Rattle.library_replay.proofs.Iterations.{block_reachable}
use Rattle.machines.specs.Machines.{Answer, stepped, heard}
use Rattle.machines.proofs.Answers.{by_read, by_done}
use Rattle.machines.specs.Forms.{request_of_def, answer_of, Placed, GoesTo, Asks}
use Rattle.machine_replay.specs.declared.place.Place.{Place}
use Rattle.machine_replay.specs.Replaying.{Between, State, starting, counted, opening, reading, printing, ending, failing, stopped, most_to_read, asks, taking, onward, begun, opened, filled, wrote, next, replaying}
use Rattle.machine_replay.specs.Standing.{place_in, place_of, state_in, state_of, FromStart}
use Rattle.machines.specs.declared.Answer as answers
use Rattle.machines.specs.declared.Request as requests
use Rattle.machines.specs.declared.Request.TheVariants as request

module _ (words memory input out : List ℕ) where
  pub state_of_lem : 6 ≤ length memory → (p : Place) → p ≡ place_in memory → state_of words memory input out ≡ state_in p words input out
  unfolding state_of
  state_of_lem h p e = rw (le-leb 6 (length memory) h, e)

  pub too_short : length memory < 6 → state_of words memory input out ≡ stopped
  unfolding state_of
  too_short h = rw (lt-leb 6 (length memory) h)

  -- Where a state stands, its place is that of the numbers.
  module _ (p : Place) (is-p : p ≡ place_in memory) (stands : state_of words memory input out ≡ state_in p words input out) where
    pub stepped_there : (size room : ℕ) (form : answers.Answer)
        → stepped (replaying size room) (state_in p words input out) (answer_of form p.buffered input) ≡ stepped (replaying size room) (state_of words memory input out) (answer_of form (place_of memory) input)
    unfolding place_of
    stepped_there size room form = rw stands (ap (λ (q : Place). stepped (replaying size room) (state_in p words input out) (answer_of form q.buffered input)) is-p)

    pub asks_there : (r : requests.Request) (size : ℕ) → Asks r p.buffered input out (asks size (state_in p words input out)) → Asks r (place_of memory) input out (asks size (state_of words memory input out))
    unfolding place_of
    asks_there r size h = rw stands (subst (λ (q : Place). Asks r q.buffered input out (asks size (state_in p words input out))) is-p h)

  -- Lists in which no state stands.
  module _ (none-stands : state_of words memory input out ≡ stopped) where
    pub stays : (size room place : ℕ) (a : Answer)
        → (state_of words memory input out ≡ stepped (replaying size room) (state_of words memory input out) a) × Asks request.Stop place input out (asks size (state_of words memory input out))
    unfolding stepped next request_of_def asks Placed GoesTo
    stays size room place a = (rw none-stands, record { stands = rw none-stands; inside = tt; there = tt })

-- Calls from a start lead on.
begun_from_start : (all : Bool) (n : ℕ) → FromStart (begun all n (start_refusal n ones))
unfolding begun FromStart start_outcome
begun_from_start all n = by_refusal (start_refusal n ones)
    (λ ok. rw ok (rw ok at (reachable_start n ones ok)))
    (λ why e. rw e tt)

onward_from_start : (room : ℕ) (b : Between) → Reachable b.run → FromStart (onward room b)
unfolding onward taking FromStart
onward_from_start room b v =
    let o = block_outcome b.all b.done b.run b.buffered room in
    by_bool (eqb o.taken 0)
    (λ e. rw e v)
    (λ e. by_bool (o.going && ltb (b.done + o.taken) 1_000_000_000)
    (λ g. rw (e, g) (block_reachable b.run v b.all b.done b.buffered room o.run refl))
    (λ g. rw (e, g) tt))

pub from_start_on : (size room : ℕ) (s : State) (a : Answer) → FromStart s → FromStart (stepped (replaying size room) s a)
unfolding stepped next asks heard FromStart opened filled wrote
from_start_on size room starting a v = tt
from_start_on size room (counted single) a v = tt
from_start_on size room (opening all) a v = by_read (λ (x : Answer). FromStart (opened all x)) tt 1 (λ l some few. begun_from_start all (get_or l 0 0)) tt a
from_start_on size room (reading b) a v = by_read (λ (x : Answer). FromStart (filled room b x)) tt (most_to_read size b) (λ l some few. onward_from_start room _ v) tt a
from_start_on size room (printing b lines) a v = by_done (λ (x : Answer). FromStart (wrote (onward room b) x)) tt (onward_from_start room b v) a
from_start_on size room (ending lines) a v = by_done (λ (x : Answer). FromStart (wrote stopped x)) tt tt a
from_start_on size room (failing text) a v = tt
from_start_on size room stopped a v = tt
