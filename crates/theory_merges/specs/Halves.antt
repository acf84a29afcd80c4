-- Document 02, Note 12, "Two halves of one run": the records of two halves, orders of them, and what any two orders have in common. Merge has the merge.
-- Assumes nothing.
use Rattle.std.specs.Prelude.{◌≡◌, ◌&&◌, ◌∷◌, ◌++◌, ◌⊎◌}
use Rattle.laws.specs.Basics.{Bool, true, false, not, List, [], None, ℕ, suc, eqb, leb, pick}
use Rattle.laws.specs.Tests.{every}
use Rattle.model.specs.declared.{Run.Run, Event.Event}
use Rattle.model.specs.declared.Event.TheVariants.{Checkpoint, Send, Deliver, Lose}
use Rattle.model.specs.{Words.in_set, Refusals.start_refusal}
use Rattle.whole_runs.specs.{Outcomes.start_outcome, Calls.Call, Calls.state_after, Listing.call_of}
use Rattle.theory_merges.specs.Seen.{all_accepted}

-- What a record of a half stands for. "In a half, kinds 0 to 3 occur, and in deliver and lose .. the argument names a message by .. sender, then .. that
-- sender's running count from 1".
pub data HalfEvent : Type 0 where
  -- the process
  checkpoint_at : ℕ → HalfEvent
  -- sender and receiver
  send_to : ℕ → ℕ → HalfEvent
  -- sender and running count
  deliver_of : ℕ → ℕ → HalfEvent
  lose_of : ℕ → ℕ → HalfEvent

-- A record is a send; it is a send of process s.
unfoldable pub is_send : HalfEvent → Bool
is_send (checkpoint_at p) = false
is_send (send_to i j) = true
is_send (deliver_of s c) = false
is_send (lose_of s c) = false

unfoldable pub send_by : ℕ → HalfEvent → Bool
send_by s (checkpoint_at p) = false
send_by s (send_to i j) = eqb i s
send_by s (deliver_of q c) = false
send_by s (lose_of q c) = false

-- How many records pass a test.
unfoldable pub how_many : (HalfEvent → Bool) → List HalfEvent → ℕ
how_many t [] = 0
how_many t (x ∷ l) = pick (t x) (suc (how_many t l)) (how_many t l)

-- Records taken are listed newest first from here on. Record x, taken after those of l, is send c of process s: "that sender's running count from 1".
unfoldable pub is_send_number : ℕ → ℕ → HalfEvent → List HalfEvent → Bool
is_send_number s c x l = send_by s x && eqb c (suc (how_many (send_by s) l))

-- "run-wide numbers": the message number of send c of process s, its place among all sends taken; 0 if it was not taken.
unfoldable pub message_number : List HalfEvent → ℕ → ℕ → ℕ
message_number [] s c = 0
message_number (x ∷ l) s c = pick (is_send_number s c x l) (suc (how_many is_send l)) (message_number l s c)

-- The receiver that a send names, and the receiver of send c of process s; 0 if there is none.
unfoldable pub receives : HalfEvent → ℕ
receives (checkpoint_at p) = 0
receives (send_to i j) = j
receives (deliver_of s c) = 0
receives (lose_of s c) = 0

unfoldable pub receiver_of : List HalfEvent → ℕ → ℕ → ℕ
receiver_of [] s c = 0
receiver_of (x ∷ l) s c = pick (is_send_number s c x l) (receives x) (receiver_of l s c)

-- "The result is a plain trace with run-wide numbers": the event of record x, taken after those of l.
unfoldable pub plain_event : List HalfEvent → HalfEvent → Event
plain_event l (checkpoint_at p) = Checkpoint p
plain_event l (send_to i j) = Send i j
plain_event l (deliver_of s c) = Deliver (message_number l s c)
plain_event l (lose_of s c) = Lose (message_number l s c)

-- The calls of an order, oldest first, taken after some records.
unfoldable pub calls_from : List HalfEvent → List HalfEvent → List Call
calls_from taken [] = []
calls_from taken (x ∷ l) = call_of (plain_event taken x) ∷ calls_from (x ∷ taken) l

-- The records taken once all of an order are taken after some records.
unfoldable pub newest_first : List HalfEvent → List HalfEvent → List HalfEvent
newest_first taken [] = taken
newest_first taken (x ∷ l) = newest_first (x ∷ taken) l

-- An order "keeps both halves' orders": each record is the next of one of them, until both are at their end.
unfoldable pub KeepsBoth : List HalfEvent → List HalfEvent → List HalfEvent → Type 0
KeepsBoth first second [] = (first ≡ []) × (second ≡ [])
KeepsBoth first second (x ∷ l) =
    ((rest : List HalfEvent) × (first ≡ x ∷ rest) × KeepsBoth rest second l) ⊎ ((rest : List HalfEvent) × (second ≡ x ∷ rest) × KeepsBoth first rest l)

-- "send before delivering": the message of each delivery or loss was sent before it.
unfoldable pub was_sent : List HalfEvent → HalfEvent → Bool
was_sent taken (checkpoint_at p) = true
was_sent taken (send_to i j) = true
was_sent taken (deliver_of s c) = leb 1 (message_number taken s c)
was_sent taken (lose_of s c) = leb 1 (message_number taken s c)

unfoldable pub sends_first : List HalfEvent → List HalfEvent → Bool
sends_first taken [] = true
sends_first taken (x ∷ l) = was_sent taken x && sends_first (x ∷ taken) l

-- The process at which a record happens, where `to` gives the receiver of each message: a delivery or a loss happens at the receiver.
unfoldable pub happens_at : (ℕ → ℕ → ℕ) → HalfEvent → ℕ
happens_at to (checkpoint_at p) = p
happens_at to (send_to i j) = i
happens_at to (deliver_of s c) = to s c
happens_at to (lose_of s c) = to s c

-- The receiver of each message of both halves.
unfoldable pub receiver_in : List HalfEvent → List HalfEvent → ℕ → ℕ → ℕ
receiver_in first second = receiver_of (newest_first [] (first ++ second))

-- "a set says which processes belong to the first half": each record stands in the half of the process at which it happens.
unfoldable pub SplitBy : ℕ → List HalfEvent → List HalfEvent → Type 0
SplitBy set first second =
    (every (λ x. in_set set (happens_at (receiver_in first second) x)) first ≡ true)
    × (every (λ x. not (in_set set (happens_at (receiver_in first second) x))) second ≡ true)

-- The vectors, pins, kept checkpoints and sent marks of two states are the same.
pub record SameProcesses (s t : Run) : Type 0 where
  pub vectors : s.vectors ≡ t.vectors
  pub pins : s.pins ≡ t.pins
  pub kept : s.kept ≡ t.kept
  pub kept_count : s.kept_count ≡ t.kept_count
  pub sent : s.sent ≡ t.sent

-- "Any two orders that keep both halves and send before delivering, if every record is accepted in both, end with equal vectors, pins and kept
-- checkpoints", whatever block counts the start was given. That they send before delivering need not be asked for: a message that was not sent has the number 0 here, and its delivery is refused.
unfoldable pub OrdersAgree : Type 0
OrdersAgree = (n : ℕ) (block_counts : List ℕ) → start_refusal n block_counts ≡ None → (set : ℕ) (first second one other : List HalfEvent)
    → SplitBy set first second → KeepsBoth first second one → KeepsBoth first second other
    → all_accepted (start_outcome n block_counts).run (calls_from [] one) ≡ true → all_accepted (start_outcome n block_counts).run (calls_from [] other) ≡ true
    → SameProcesses (state_after (start_outcome n block_counts).run (calls_from [] one)) (state_after (start_outcome n block_counts).run (calls_from [] other))
