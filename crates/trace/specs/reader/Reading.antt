-- What a reader of a trace hands on, and what it is to have read a trace: its records in their order, each once, and the left-over bytes.
-- Assumes nothing.
use Rattle.std.specs.Prelude.{◌+◌, ◌*◌}
use Rattle.laws.specs.Basics.{Bool, List, ℕ, leb, length, pick}
use Rattle.std.specs.Borrow.{Bor}
use Rattle.trace.specs.Answers.{record_at}
use Rattle.trace.specs.declared.reader.Reader.{Reader}

-- "The first byte is n. Then records of 32 bits": the record after the first byte and the records taken, nothing if no whole one is left.
unfoldable pub record_after_of : List ℕ → ℕ → List ℕ
record_after_of trace taken = record_at trace (1 + 4 * taken)

-- Whether a whole record is left.
unfoldable pub record_left_of : List ℕ → ℕ → Bool
record_left_of trace taken = leb (1 + 4 * taken + 4) (length trace)

-- The count after the next record. Where none is left, none is taken.
unfoldable pub taken_after : List ℕ → ℕ → ℕ
taken_after trace taken = pick (record_left_of trace taken) (taken + 1) taken

-- A reader that has taken nothing, and the reader after the next record.
unfoldable pub new_reader : Bor (List ℕ) → Reader
new_reader trace = record { trace = trace; taken = 0 }

unfoldable pub reader_after : Reader → Reader
reader_after r = record { trace = r.trace; taken = taken_after r.trace.now r.taken }
