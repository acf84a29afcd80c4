-- What a run-time reads of a state, each by one reader: its answer, and the lent list as it then stands. The refusals are document 01's: 2 for a state that is not
-- sound, 3 for a list that is too short, 4 for a process not below n, 7 for a failed set with a process not below n, 8 for a message not under way. "Where several hold,
-- the lowest number is given."
-- Assumes nothing.
use Rattle.std.specs.Prelude.{◌∷◌, ◌+◌, ◌*◌}
use Rattle.laws.specs.Basics.{List, [], Option, None, Some, ℕ, ltb, length, get_or}
use Rattle.laws.specs.Lists.{select, table}
use Rattle.model.specs.Shapes.{Pin}
use Rattle.model.specs.declared.{Checkpoint.Checkpoint, Message.Message, Run.Run}
use Rattle.model.specs.declared.Refusal.TheVariants.{UnsoundState, ListTooShort, NoSuchProcess, NoSuchFailedProcess, NotUnderWay}
use Rattle.model.specs.{Words.most_under_way, Words.entry, Words.process, Words.under_way, Steps.found, Steps.lost_by}
use Rattle.model.specs.Refusals.{Rule, first_of, unsound, absent, missing, outside, no_member_of}
use Rattle.whole_runs.specs.Outcomes.{judged, written, Report, refusing, accepting, message}

pub record Reading : Type 0 where
  pub report : Report
  pub list : List ℕ

-- Refused, the lent list keeps every entry; accepted, the numbers stand at its front and the rest of it is unchanged.
unfoldable pub reading : List Rule → Option ℕ → List ℕ → List ℕ → Reading
reading rules value numbers lent = judged (first_of rules)
    (λ r. record { report = refusing r; list = lent })
    (record { report = accepting value 0; list = written lent numbers })

-- "3": a lent list with room for fewer numbers than can be asked for.
abbrev pub short : ℕ → List ℕ → Rule
short room lent = record { holds = ltb (length lent) room; gives = ListTooShort }

-- The five numbers of a run: n, the last message number used, how many messages are under way, the blocks written and the blocks deleted.
abbrev pub numbers_of : Run → List ℕ
numbers_of s = s.count ∷ s.last ∷ s.underway ∷ s.disk.written ∷ s.disk.deleted ∷ []

unfoldable pub numbers_reading : Run → List ℕ → Reading
numbers_reading s lent = reading (unsound s ∷ short 5 lent ∷ []) None (numbers_of s) lent

-- What is read of one process.
abbrev pub of_process : Run → ℕ → ℕ → List ℕ → List Rule
of_process s p room lent = unsound s ∷ short room lent ∷ record { holds = absent s p; gives = NoSuchProcess } ∷ []

-- The n entries of its vector.
abbrev pub vector_of : Run → ℕ → List ℕ
vector_of s p = table s.count (λ f. (entry (process s p).vector f).0)

unfoldable pub vector_reading : Run → ℕ → List ℕ → Reading
vector_reading s p lent = reading (of_process s p s.count lent) None (vector_of s p) lent

-- Its n pins, each as one more than the index of the checkpoint that it names, 0 for none.
unfoldable pub pin_number : Pin → ℕ
pin_number None = 0
pin_number (Some a) = a.0 + 1

abbrev pub pins_of : Run → ℕ → List ℕ
pins_of s p = table s.count (λ f. pin_number (get_or (process s p).pins f None))

unfoldable pub pins_reading : Run → ℕ → List ℕ → Reading
pins_reading s p lent = reading (of_process s p s.count lent) None (pins_of s p) lent

-- The checkpoints that it keeps, ascending: three numbers each, the index, the cause and the blocks. The value says how many they are.
unfoldable pub stored_numbers : List Checkpoint → List ℕ
stored_numbers [] = []
stored_numbers (c ∷ l) = c.index.0 ∷ c.cause ∷ c.blocks ∷ stored_numbers l

unfoldable pub kept_reading : Run → ℕ → List ℕ → Reading
kept_reading s p lent = reading (of_process s p (3 * s.count) lent) (Some (length (process s p).kept)) (stored_numbers (process s p).kept) lent

-- The messages under way, ascending: three numbers each, the number, the sender and the receiver. The value says how many they are.
unfoldable pub sent_numbers : List Message → List ℕ
sent_numbers [] = []
sent_numbers (x ∷ l) = x.number ∷ x.sender ∷ x.receiver ∷ sent_numbers l

unfoldable pub messages_reading : Run → List ℕ → Reading
messages_reading s lent = reading (unsound s ∷ short (3 * most_under_way) lent ∷ []) (Some (length (under_way s))) (sent_numbers (under_way s)) lent

-- The n entries of the vector that message m carries.
abbrev pub carried_of : Run → ℕ → List ℕ
carried_of s m = table s.count (λ f. (entry (message s m).vector f).0)

unfoldable pub carried_reading : Run → ℕ → List ℕ → Reading
carried_reading s m lent = reading (unsound s ∷ short s.count lent ∷ record { holds = missing (found s m); gives = NotUnderWay } ∷ []) None (carried_of s m) lent

-- The messages under way that a recovery of the failed set F would lose (document 02, Note 2), ascending: three numbers each, as those under way. It is asked before the
-- recovery, and refused as the line is, with 2 where some process has no state that the line rule accepts.
abbrev pub lost_messages : Run → ℕ → List Message
lost_messages s F = select (lost_by s F) (under_way s)

unfoldable pub lost_reading : Run → ℕ → List ℕ → Reading
lost_reading s F lent = reading (
    unsound s
    ∷ short (3 * most_under_way) lent
    ∷ record { holds = outside s F; gives = NoSuchFailedProcess }
    ∷ record { holds = no_member_of s F; gives = UnsoundState }
    ∷ [])
    (Some (length (lost_messages s F))) (sent_numbers (lost_messages s F)) lent
