-- What the replay program asks to be written, over every list of answers of the system: the listing of what it read, as far as it read.
-- Assumes nothing.
use Rattle.std.specs.Prelude.{◌≡◌, ◌&&◌, ◌∷◌, ◌++◌, ◌+◌, ◌*◌, ◌/◌, ◌≤◌}
use Rattle.laws.specs.Basics.{Bool, true, false, List, [], Option, None, Some, ℕ, length, take}
use Rattle.model.specs.declared.Refusal.{Refusal}
use Rattle.model.specs.{Words.ones, Refusals.start_refusal, Steps.start_state}
use Rattle.whole_runs.specs.Listing.{most_records, asks_for_all, goes_on_after_all, listing}
use Rattle.machines.specs.Machines.{Request, Read, Stop, Answer, Number, Bytes, End, Done, Failed, Machine, Exchange, end_met, brought, state_after, exchanges, asked, written_of, error_text_of, read_of}
use Rattle.machine_replay.specs.Replaying.{State, replaying}

-- How many words the program was started with, its own name among them.
unfoldable pub number_of : Answer → ℕ
number_of (Number words) = words
number_of (Bytes l) = 0
number_of End = 0
number_of Done = 0
number_of Failed = 0

-- The way that the arguments ask for: the first two requests are for how many words there are, and for the word after the program's name.
unfoldable pub way_of : List Exchange → Bool
way_of [] = false
way_of (e ∷ []) = false
way_of (e ∷ f ∷ talk) = asks_for_all (number_of e.answer) (brought f.answer)

-- The lines of all records of which every byte was read: left-over bytes are not judged yet.
unfoldable pub lines_of : Bool → List ℕ → List ℕ
lines_of all [] = []
lines_of all (n ∷ l) = listing all (n ∷ take (4 * (length l / 4)) l)

-- The trace stops the replay nowhere: neither the first byte nor a record does.
unfoldable pub is_start : Option Refusal → Bool
is_start None = true
is_start (Some why) = false

unfoldable pub goes_on_after : Bool → List ℕ → Bool
goes_on_after all [] = true
goes_on_after all (n ∷ l) = is_start (start_refusal n ones) && goes_on_after_all all (start_state n ones) l

-- Bytes that may follow those that were read: any, until the input has ended.
abbrev pub MayFollow : List Exchange → List ℕ → Type 0
MayFollow talk unread = end_met talk ≡ true → unread ≡ []

-- Over every list of answers. `asked` has the request that is not answered yet.
module _ (size room : ℕ) (answers : List Answer) where
  abbrev pub machine : Machine State
  machine = replaying size room

  abbrev pub talk : List Exchange
  talk = exchanges machine answers

  abbrev pub request : Request
  request = machine.ask (state_after machine answers)

  abbrev pub written : List ℕ
  written = written_of (asked machine answers)

  pub record PrintsTheListing : Type 0 where
    -- At any time, also after a failure: what was asked to be written is the front of the listing, whatever may follow.
    pub so_far : (unread : List ℕ) → MayFollow talk unread → (rest : List ℕ) × (listing (way_of talk) (read_of talk ++ unread) ≡ written ++ rest)
    -- Before more is read, the lines of all that was read are written.
    pub before_reading : (most : ℕ) → request ≡ Read most → written ≡ lines_of (way_of talk) (read_of talk)
    -- Where it stops and no failure was reported, the whole listing is written, whatever may follow.
    pub at_the_stop : request ≡ Stop → error_text_of (asked machine answers) ≡ [] → (unread : List ℕ) → MayFollow talk unread → written ≡ listing (way_of talk) (read_of talk ++ unread)
    -- It asks to read nothing past the end, a refusal that stops it, or record 1,000,000,000.
    pub no_further : (most : ℕ) → request ≡ Read most → (end_met talk ≡ false) × (goes_on_after (way_of talk) (read_of talk) ≡ true) × (length (read_of talk) + most ≤ 1 + 4 * most_records)
