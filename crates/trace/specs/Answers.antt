-- What the functions of this crate answer, in the words of the model: the part of a trace that a record is, its fields, and the event that a
-- part stands for. The record of an event is the model's `encoded`.
-- Assumes nothing.
use Rattle.std.specs.Prelude.{◌+◌}
use Rattle.laws.specs.Basics.{List, [], Option, None, ℕ, eqb, leb, length, take, drop, pick}
use Rattle.model.specs.{declared.Event.Event, declared.Fields.Fields, Trace.fields, Trace.decoded}

-- The four bytes of a trace from a place on; nothing if fewer are left.
unfoldable pub record_at : List ℕ → ℕ → List ℕ
record_at trace at = pick (leb (at + 4) (length trace)) (take 4 (drop at trace)) []

-- The fields of a part of a trace; zeros unless it has four bytes.
unfoldable pub fields_read : List ℕ → Fields
fields_read part = pick (eqb (length part) 4) (fields part) (record { kind = 0; process = 0; argument = 0 })

-- The event that a part of a trace stands for; none unless it has four bytes.
unfoldable pub event_in : List ℕ → Option Event
event_in part = pick (eqb (length part) 4) (decoded part) None
