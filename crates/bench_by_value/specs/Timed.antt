-- What the records of a trace come to when each is made as a call after a start of n processes: how many are accepted, and the state after them.
-- Assumes nothing.
use Rattle.std.specs.Prelude.{◌*◌}
use Rattle.laws.specs.Basics.{List, Option, ℕ, eqb, length, take, drop}
use Rattle.laws.specs.Lists.{select}
use Rattle.model.specs.declared.{Refusal.Refusal, Run.Run}
use Rattle.model.specs.{Words.blank, Words.ones, Steps.start_state}
use Rattle.whole_runs.specs.{Outcomes.judged, Calls.Reply, Listing.most_records, Listing.state_after_records}
use Rattle.theory_recording.specs.Replay.{replies_of}

pub record Timed : Type 0 where
  pub accepted : ℕ
  pub run : Run

-- "The first byte is n. Then records of 32 bits"; "The program ends after record 1,000,000,000 and reads nothing past it."
unfoldable pub records_taken : List ℕ → List ℕ
records_taken trace = take (4 * most_records) (drop 1 trace)

-- How many replies are not of a refusal.
unfoldable pub accepted_of : List Reply → ℕ
accepted_of replies = length (select (λ r. eqb r.report.refused 0) replies)

-- The records of a part of a trace, starting from a state. Left-over bytes are no record.
unfoldable pub timed_records : Run → List ℕ → Timed
timed_records s part = record { accepted = accepted_of (replies_of s part); run = state_after_records s part }

-- The records of a whole trace after a start of n processes, by whether that start is refused. Note 5: "a trace run uses 1", as the block count of each process.
-- "A refused start returns a state of zeros with every pin none": then no record is made as a call.
unfoldable pub timed_trace : Option Refusal → ℕ → List ℕ → Timed
timed_trace refused n trace = judged refused (λ why. record { accepted = 0; run = blank 0 }) (timed_records (start_state n ones) (records_taken trace))
