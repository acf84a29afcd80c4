-- Document 01, "The trace": what the replay program prints, byte by byte, and Note 11 of document 02: where it stops.
-- Assumes nothing.
use Rattle.std.specs.Prelude.{◌&&◌, ◌||◌, ◌∷◌, ◌++◌, ◌+◌, ◌/◌, ◌%◌}
use Rattle.laws.specs.Basics.{Bool, true, List, [], Option, None, Some, ℕ, zero, suc, eqb, ltb, replicate, pick}
use Rattle.laws.specs.Tests.{same}
use Rattle.model.specs.declared.{Run.Run, Event.Event, Refusal.Refusal}
use Rattle.model.specs.declared.Event.TheVariants.{Checkpoint, Send, Deliver, Lose, Recover}
use Rattle.model.specs.declared.Refusal.TheVariants.{NoFirstByte, LeftOverBytes, MalformedRecord}
use Rattle.model.specs.{Words.ones, Words.most_deletions, Words.most_processes, Refusals.start_refusal, Steps.start_state, Trace.decoded}
use Rattle.whole_runs.specs.Outcomes.{refusing}
use Rattle.whole_runs.specs.Calls.{Call, checkpoint, send, deliver, lose, recover, Reply, Answered, call}

-- "Each record gives one line, decimal, single spaces": the digits of a number, most significant first, in ASCII.
-- 20 digits are enough for every number of 64 bits.
unfoldable pub digits : ℕ → ℕ → List ℕ
digits zero n = []
digits (suc k) n = pick (ltb n 10) ((48 + n) ∷ []) (digits k (n / 10) ++ ((48 + n % 10) ∷ []))

unfoldable pub decimal : ℕ → List ℕ
decimal = digits 20

abbrev pub space : ℕ
space = 32

abbrev pub hyphen : ℕ
hyphen = 45

abbrev pub colon : ℕ
colon = 58

abbrev pub line_feed : ℕ
line_feed = 10

-- "a value (.. deliver: forced index or a hyphen; lose: a hyphen; ..)"
unfoldable pub value_text : Option ℕ → List ℕ
value_text None = hyphen ∷ []
value_text (Some v) = decimal v

-- "the count of deletions, and each as process:index": count pairs from the front of the deletion list.
unfoldable pub deletions_text : ℕ → List ℕ → List ℕ
deletions_text zero l = []
deletions_text (suc k) [] = []
deletions_text (suc k) (p ∷ []) = []
deletions_text (suc k) (p ∷ i ∷ l) = space ∷ (decimal p ++ (colon ∷ (decimal i ++ deletions_text k l)))

-- "If accepted, then a value .., the count of deletions, and each as process:index."
unfoldable pub accepted_text : Reply → List ℕ
accepted_text r = space ∷ (value_text r.report.value ++ (space ∷ (decimal r.report.deletions ++ deletions_text r.report.deletions r.deleted)))

-- "record number from 1; 0 or the refusal number."
unfoldable pub line_text : ℕ → Reply → List ℕ
line_text record-number r =
    decimal record-number ++ (space ∷ (decimal r.report.refused
    ++ (pick (eqb r.report.refused 0) (accepted_text r) [] ++ (line_feed ∷ []))))

-- The line of a refusal that belongs to the trace and to no call.
unfoldable pub refusal_text : ℕ → Refusal → List ℕ
refusal_text record-number r = line_text record-number (record { report = refusing r; rose = 0; deleted = []; line = [] })

-- The call that an event asks for, with lent lists that are long enough for 16 processes.
unfoldable pub call_of : Event → Call
call_of (Checkpoint i) = checkpoint i (replicate most_deletions 0)
call_of (Send i j) = send i j
call_of (Deliver m) = deliver m (replicate most_deletions 0)
call_of (Lose m) = lose m
call_of (Recover F) = recover F (replicate most_deletions 0) (replicate most_processes 0)

-- One record: the state after it, and the reply that its line prints. "14: .. given before any other number for that record."
unfoldable pub perform : Run → Option Event → Answered
perform s None = record { run = s; reply = record { report = refusing MalformedRecord; rose = 0; deleted = []; line = [] } }
perform s (Some e) = call s (call_of e)

-- "The program ends after record 1,000,000,000 and reads nothing past it."
abbrev pub most_records : ℕ
most_records = 1_000_000_000

-- Note 11: "The course exercises rely on the old way and start it with the argument `all`, which goes on as before. Any other argument, or more than
-- one, counts as none." `words` is how many words the program was started with, its own name the first of them, and `argument` is the word after that.
unfoldable pub asks_for_all : ℕ → List ℕ → Bool
asks_for_all words argument = eqb words 2 && same argument (97 ∷ 108 ∷ 108 ∷ [])

-- Note 11: "The replay program now stops after printing the first refusal." In the old way, `all`, "after any other refusal it goes on."
-- By the number that a record's line says: "0 or the refusal number".
unfoldable pub goes_on_of : Bool → ℕ → Bool
goes_on_of all refused = all || eqb refused 0

-- The lines of the records of a trace, where `done` records were taken before. "13 prints under the next record number and ends". After the record where
-- it stops nothing is judged, left-over bytes included.
unfoldable pub records : Bool → ℕ → Run → List ℕ → List ℕ
records all done s [] = []
records all done s (a ∷ []) = pick (ltb done most_records) (refusal_text (done + 1) LeftOverBytes) []
records all done s (a ∷ b ∷ []) = pick (ltb done most_records) (refusal_text (done + 1) LeftOverBytes) []
records all done s (a ∷ b ∷ c ∷ []) = pick (ltb done most_records) (refusal_text (done + 1) LeftOverBytes) []
records all done s (a ∷ b ∷ c ∷ d ∷ l) =
    let o = perform s (decoded (a ∷ b ∷ c ∷ d ∷ [])) in
    let line = line_text (done + 1) o.reply in
    let rest = pick (goes_on_of all o.reply.report.refused) (records all (done + 1) o.run l) [] in
    pick (ltb done most_records) (line ++ rest) []

-- Whether the replay goes on after a part of a trace: it stops at no record of it.
unfoldable pub goes_on_after_all : Bool → Run → List ℕ → Bool
goes_on_after_all all s [] = true
goes_on_after_all all s (a ∷ []) = true
goes_on_after_all all s (a ∷ b ∷ []) = true
goes_on_after_all all s (a ∷ b ∷ c ∷ []) = true
goes_on_after_all all s (a ∷ b ∷ c ∷ d ∷ l) = let o = perform s (decoded (a ∷ b ∷ c ∷ d ∷ [])) in goes_on_of all o.reply.report.refused && goes_on_after_all all o.run l

-- The state after the records of a part of a trace. Left-over bytes are no record and change nothing.
unfoldable pub state_after_records : Run → List ℕ → Run
state_after_records s [] = s
state_after_records s (a ∷ []) = s
state_after_records s (a ∷ b ∷ []) = s
state_after_records s (a ∷ b ∷ c ∷ []) = s
state_after_records s (a ∷ b ∷ c ∷ d ∷ l) = state_after_records (perform s (decoded (a ∷ b ∷ c ∷ d ∷ []))).run l

-- "The first byte is n." "12: no first byte." "A bad first byte prints record number 0 and the refusal and ends".
-- Note 5: "a trace run uses 1", as the block count of each process.
unfoldable pub started : Bool → Option Refusal → ℕ → List ℕ → List ℕ
started all (Some r) n l = refusal_text 0 r
started all None n l = records all 0 (start_state n ones) l

unfoldable pub listing : Bool → List ℕ → List ℕ
listing all [] = refusal_text 0 NoFirstByte
listing all (n ∷ l) = started all (start_refusal n ones) n l
