-- An answer as one number of 64 bits, for callers to whom no enum can be handed: "Where an answer is an enum, a definition gives this paper's number and values for
-- each of its cases". The fields are the same for every call:
--   bits 0 to 7     the number of the refusal, 0 if accepted
--   bits 8 to 22    how many checkpoints were deleted
--   bit 23          1 if there is a value
--   bits 24 to 47   the value: the index stored, the message's number, how many rolled back, ..
--   bits 48 to 63   the set of entries that rose (Note 1), 0 of a call that takes nothing in
-- proofs/Back says that a report that fits is read back from its number, and proofs/Fit that the report of every call fits.
-- Assumes nothing.
use Rattle.std.specs.Prelude.{◌≡◌, ◌+◌, ◌*◌, ◌/◌, ◌%◌, ◌<◌}
use Rattle.laws.specs.Basics.{Option, None, Some, ℕ, eqb, pick}
use Rattle.model.specs.Shapes.{CheckpointAnswer, DeliverAnswer, LineAnswer, LoseAnswer, RecoverAnswer, SendAnswer, StartAnswer}
use Rattle.whole_runs.specs.Outcomes.{Report, start_report, checkpoint_report, send_report, deliver_report, lose_report, line_report, recover_report}

-- Bits 23 to 47: a value, or none.
unfoldable pub value_code_of : Option ℕ → ℕ
value_code_of None = 0
value_code_of (Some v) = 8_388_608 + 16_777_216 * v

unfoldable pub coded : Report → ℕ → ℕ
coded r rose = r.refused + 256 * r.deletions + value_code_of r.value + 281_474_976_710_656 * rose

-- What the fields have room for.
pub record Fits (r : Report) : Type 0 where
  pub refused : r.refused < 256
  pub deletions : r.deletions < 32_768
  pub value : (v : ℕ) → r.value ≡ Some v → v < 16_777_216

-- The fields read back.
unfoldable pub value_of : ℕ → Option ℕ
value_of code = pick (eqb (code / 8_388_608 % 2) 1) (Some (code / 16_777_216 % 16_777_216)) None

unfoldable pub report_of : ℕ → Report
report_of code = record { refused = code % 256; value = value_of code; deletions = code / 256 % 32_768 }

unfoldable pub rose_of : ℕ → ℕ
rose_of code = code / 281_474_976_710_656

-- The number of each answer.
abbrev pub start_code : StartAnswer → ℕ
start_code a = coded (start_report a) 0

abbrev pub checkpoint_code : CheckpointAnswer → ℕ
checkpoint_code a = coded (checkpoint_report a) 0

abbrev pub send_code : SendAnswer → ℕ
send_code a = coded (send_report a) 0

abbrev pub deliver_code : DeliverAnswer → ℕ → ℕ
deliver_code a rose = coded (deliver_report a) rose

abbrev pub lose_code : LoseAnswer → ℕ
lose_code a = coded (lose_report a) 0

abbrev pub line_code : LineAnswer → ℕ
line_code a = coded (line_report a) 0

abbrev pub recover_code : RecoverAnswer → ℕ
recover_code a = coded (recover_report a) 0
