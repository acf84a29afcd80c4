-- Events with their records: the state after them and their replies, once as calls and once as a replay of the records. What Notes 9 and 10 of document 02 say of
-- "the same events" is stated with these.
-- Assumes nothing.
use Rattle.std.specs.Prelude.{◌∷◌, ◌++◌, ◌+◌, ◌*◌}
use Rattle.laws.specs.Basics.{Bool, List, [], ℕ, eqb, take}
use Rattle.laws.specs.{Lists.or_else, Tests.every}
use Rattle.model.specs.declared.{Run.Run, Event.Event}
use Rattle.model.specs.{Words.ones, Words.blank, Steps.start_state, Trace.encoded, Trace.decoded}
use Rattle.whole_runs.specs.{Calls.Reply, Calls.call, Listing.most_records, Listing.line_text, Listing.call_of, Listing.perform, Listing.state_after_records}

-- The record of an event that fits the fields; of another there is none, and no byte stands for it.
unfoldable pub record_bytes : Event → List ℕ
record_bytes e = or_else (encoded e) []

-- The records of events, one after the other.
unfoldable pub records_of : List Event → List ℕ
records_of [] = []
records_of (e ∷ l) = record_bytes e ++ records_of l

-- Events as calls, each on the state that the one before it left: the state after them, and each with its reply.
unfoldable pub state_after_events : Run → List Event → Run
state_after_events s [] = s
state_after_events s (e ∷ l) = state_after_events (call s (call_of e)).run l

pub record EventReply : Type 0 where
  pub event : Event
  pub reply : Reply

unfoldable pub performed : Run → List Event → List EventReply
performed s [] = []
performed s (e ∷ l) = record { event = e; reply = (call s (call_of e)).reply } ∷ performed (call s (call_of e)).run l

-- The replies of a replay, one for each record; `state_after_records` is the state after it.
unfoldable pub replies_of : Run → List ℕ → List Reply
replies_of s [] = []
replies_of s (a ∷ []) = []
replies_of s (a ∷ b ∷ []) = []
replies_of s (a ∷ b ∷ c ∷ []) = []
replies_of s (a ∷ b ∷ c ∷ d ∷ l) = (perform s (decoded (a ∷ b ∷ c ∷ d ∷ []))).reply ∷ replies_of (perform s (decoded (a ∷ b ∷ c ∷ d ∷ []))).run l

-- The state that the replay program reaches with a trace, none of whose records it stops at: "The first byte is n", Note 5: "a trace run uses 1", and "The program
-- ends after record 1,000,000,000 and reads nothing past it." Without a first byte there is no state; a state of zeros stands in.
unfoldable pub replayed_state : List ℕ → Run
replayed_state [] = blank 0
replayed_state (n ∷ l) = state_after_records (start_state n ones) (take (4 * most_records) l)

-- No reply is a refusal.
unfoldable pub none_refused : List Reply → Bool
none_refused = every (λ r. eqb r.report.refused 0)

-- Events with the replies of their records.
unfoldable pub paired : List Event → List Reply → List EventReply
paired [] l = []
paired (e ∷ m) [] = []
paired (e ∷ m) (r ∷ l) = record { event = e; reply = r } ∷ paired m l

-- The lines that the replay program prints for replies, where `done` records were taken before.
unfoldable pub lines_of : ℕ → List Reply → List ℕ
lines_of done [] = []
lines_of done (r ∷ l) = line_text (done + 1) r ++ lines_of (done + 1) l
