-- Document 02, Note 7: a trace of another run-time is read into lists of events, one for each process, as the surviving history has them.
-- "No delivery forces here."
-- Assumes nothing.
use Rattle.std.specs.Prelude.{◌||◌, ◌∷◌, ◌+◌, ◌/◌}
use Rattle.laws.specs.Basics.{Bool, true, false, not, List, [], Option, None, Some, ℕ, suc, eqb, ltb, leb, length, pick}
use Rattle.laws.specs.{Tests.count_below, Update.upd}
use Rattle.model.specs.declared.{Event.Event, Refusal.Refusal}
use Rattle.model.specs.declared.Event.TheVariants.{Checkpoint, Send, Deliver, Lose, Recover}
use Rattle.model.specs.declared.Refusal.TheVariants.{NoSuchProcess, SenderIsReceiver, NotUnderWay, TooManyUnderWay, MessageNumbersUsed, IntervalsUsed, NoFirstByte, LeftOverBytes, MalformedRecord, TooManyRecords}
use Rattle.model.specs.{Words.most_under_way, Words.most_messages, Words.most_interval, Words.ones, Refusals.first_of, Refusals.start_refusal, Trace.decoded}
use Rattle.histories.specs.History.{stored, sent, received, Lists, checkpoints}
use Rattle.whole_runs.specs.{Outcomes.judged, Survival.added}

-- The pattern (001: the checkpoint and communication pattern) of what is read so far: a list of events for each process; how many messages were sent; the
-- receiver that each send named; which messages are under way.
pub record Pattern : Type 0 where
  pub lists : Lists
  pub sends : ℕ
  pub receiver : ℕ → ℕ
  pub underway : ℕ → Bool

-- "Process i stores checkpoint 0 at the start."
unfoldable pub empty : Pattern
empty = record { lists = λ p. stored ∷ []; sends = 0; receiver = λ m. 0; underway = λ m. false }

-- How many messages are under way. Numbers run from 1 to the number of sends.
abbrev pub count_under_way : Pattern → ℕ
count_under_way t = count_below (suc t.sends) t.underway

-- "Records are judged by the refusals of document 01". None is the event of a malformed record. "A record of kind 4 is refused with 14."
-- A live state's index is the own entry.
unfoldable pub record_refusal : ℕ → Pattern → Option Event → Option Refusal
record_refusal n t None = Some MalformedRecord
record_refusal n t (Some (Checkpoint i)) = first_of (
    record { holds = leb n i; gives = NoSuchProcess }
    ∷ record { holds = leb most_interval (checkpoints (t.lists i)); gives = IntervalsUsed }
    ∷ [])
record_refusal n t (Some (Send i j)) = first_of (
    record { holds = leb n i || leb n j; gives = NoSuchProcess }
    ∷ record { holds = eqb i j; gives = SenderIsReceiver }
    ∷ record { holds = leb most_under_way (count_under_way t); gives = TooManyUnderWay }
    ∷ record { holds = leb most_messages t.sends; gives = MessageNumbersUsed }
    ∷ [])
record_refusal n t (Some (Deliver m)) = first_of (record { holds = not (t.underway m); gives = NotUnderWay } ∷ [])
record_refusal n t (Some (Lose m)) = first_of (record { holds = not (t.underway m); gives = NotUnderWay } ∷ [])
record_refusal n t (Some (Recover F)) = Some MalformedRecord

-- The pattern after a record that is not refused. A delivery adds "received m" to the list of the receiver that the send named, and forces nothing; a loss
-- adds nothing: 001's patterns leave out lost messages, and those under way.
unfoldable pub taken : Pattern → Option Event → Pattern
taken t None = t
taken t (Some (Checkpoint i)) = record { lists = added t.lists i stored; sends = t.sends; receiver = t.receiver; underway = t.underway }
taken t (Some (Send i j)) = record {
  lists = added t.lists i (sent (t.sends + 1));
  sends = t.sends + 1;
  receiver = upd t.receiver (t.sends + 1) j;
  underway = upd t.underway (t.sends + 1) true;
}
taken t (Some (Deliver m)) = record {
  lists = added t.lists (t.receiver m) (received m);
  sends = t.sends;
  receiver = t.receiver;
  underway = upd t.underway m false;
}
taken t (Some (Lose m)) = record { lists = t.lists; sends = t.sends; receiver = t.receiver; underway = upd t.underway m false }
taken t (Some (Recover F)) = t

-- What a reading comes to: a refusal, or the pattern of the whole trace.
pub data Reading : Type 0 where
  refused : Refusal → Reading
  whole : Pattern → Reading

-- "the first one refused ends the reading and its number is the result. Left-over bytes are judged after the last record."
unfoldable pub read_from : ℕ → Pattern → List ℕ → Reading
read_from n t [] = whole t
read_from n t (a ∷ []) = refused LeftOverBytes
read_from n t (a ∷ b ∷ []) = refused LeftOverBytes
read_from n t (a ∷ b ∷ c ∷ []) = refused LeftOverBytes
read_from n t (a ∷ b ∷ c ∷ d ∷ l) =
    let e = decoded (a ∷ b ∷ c ∷ d ∷ []) in
    judged (record_refusal n t e) refused (read_from n (taken t e) l)

-- "17, after the first byte is judged, for more than 4,096 records." Note 5: "a trace run uses 1" as block count, so of the start's numbers only 1 can be met.
abbrev pub most_judged : ℕ
most_judged = 4096

unfoldable pub reading : List ℕ → Reading
reading [] = refused NoFirstByte
reading (n ∷ l) = judged (start_refusal n ones) refused (pick (ltb most_judged (length l / 4)) (refused TooManyRecords) (read_from n empty l))
