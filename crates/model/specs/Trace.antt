-- Document 01, "The trace": records, events, and the two ways between them.
-- Assumes nothing.
use Rattle.std.specs.Prelude.{◌≡◌, ◌&&◌, ◌∷◌, ◌+◌, ◌*◌, ◌/◌, ◌%◌}
use Rattle.laws.specs.Basics.{Bool, true, false, List, [], Option, None, Some, ℕ, zero, suc, eqb, ltb, length, pick}
use Rattle.laws.specs.Tests.{every}
use Rattle.model.specs.declared.{Fields.Fields, Event.Event}
use Rattle.model.specs.declared.Event.TheVariants.{Checkpoint, Send, Deliver, Lose, Recover}

-- The number of 32 bits that four bytes are, most significant first.
unfoldable pub word : List ℕ → ℕ
word bytes = go 0 bytes
  where
    go : ℕ → List ℕ → ℕ
    go high [] = high
    go high (b ∷ l) = go (high * 256 + b) l

-- "records of 32 bits, most significant bit first: kind 3 bits, process 4 bits, argument 25 bits." 33,554,432 is 2 to the power 25, 536,870,912 is 2 to the power 29.
unfoldable pub fields : List ℕ → Fields
fields bytes = record { kind = word bytes / 536870912; process = word bytes / 33554432 % 16; argument = word bytes % 33554432 }

-- "Kinds: 0 checkpoint (argument zero); 1 send (argument is the receiver); 2 deliver and 3 lose (process zero, argument is the message number);
-- 4 recover (process zero, argument is the failed set); 5 to 7 unused." None: refusal 14, "unused kind, or a field that must be zero is not".
unfoldable pub if_zero_of : {A : Type 0} → ℕ → A → Option A
if_zero_of zero e = Some e
if_zero_of (suc k) e = None

unfoldable pub event_of_def : Fields → Option Event
event_of_def r = pick (eqb r.kind 0) (if_zero_of r.argument (Checkpoint r.process))
    (pick (eqb r.kind 1) (Some (Send r.process r.argument))
    (pick (eqb r.kind 2) (if_zero_of r.process (Deliver r.argument))
    (pick (eqb r.kind 3) (if_zero_of r.process (Lose r.argument))
    (pick (eqb r.kind 4) (if_zero_of r.process (Recover r.argument))
    None))))

-- The event that a record stands for.
unfoldable pub decoded : List ℕ → Option Event
decoded bytes = event_of_def (fields bytes)

-- Four bytes.
unfoldable pub is_record : List ℕ → Bool
is_record bytes = eqb (length bytes) 4 && every (λ b. ltb b 256) bytes

-- A record is well-formed if it stands for an event.
unfoldable pub stands : Option Event → Bool
stands None = false
stands (Some e) = true

unfoldable pub well_formed : List ℕ → Bool
well_formed bytes = is_record bytes && stands (decoded bytes)

-- The other way: the fields of an event, whether it fits them, and its four bytes.
unfoldable pub fields_of : Event → Fields
fields_of (Checkpoint i) = record { kind = 0; process = i; argument = 0 }
fields_of (Send i j) = record { kind = 1; process = i; argument = j }
fields_of (Deliver m) = record { kind = 2; process = 0; argument = m }
fields_of (Lose m) = record { kind = 3; process = 0; argument = m }
fields_of (Recover F) = record { kind = 4; process = 0; argument = F }

-- "every event that fits the fields": the process has 4 bits, the argument 25.
unfoldable pub fits : Event → Bool
fits e = ltb (fields_of e).process 16 && ltb (fields_of e).argument 33554432

unfoldable pub word_of_def : Fields → ℕ
word_of_def r = r.kind * 536870912 + r.process * 33554432 + r.argument

unfoldable pub bytes_of_def : ℕ → List ℕ
bytes_of_def w = w / 16777216 ∷ w / 65536 % 256 ∷ w / 256 % 256 ∷ w % 256 ∷ []

-- The record of an event; none if it does not fit the fields.
unfoldable pub encoded : Event → Option (List ℕ)
encoded e = pick (fits e) (Some (bytes_of_def (word_of_def (fields_of e)))) None

-- "every well-formed record stands for one event, and every event that fits the fields has one record"
pub record RecordsAreEvents : Type 0 where
  -- the event of a well-formed record fits the fields, and the record is its record
  pub one_event : (bytes : List ℕ) → well_formed bytes ≡ true → (e : Event) × (decoded bytes ≡ Some e) × (fits e ≡ true) × (encoded e ≡ Some bytes)
  -- the record of an event that fits the fields is four bytes, well-formed, and stands for that event
  pub one_record : (e : Event) → fits e ≡ true → (bytes : List ℕ) × (encoded e ≡ Some bytes) × (is_record bytes ≡ true) × (well_formed bytes ≡ true) × (decoded bytes ≡ Some e)
  -- two well-formed records that stand for the same event are the same bytes
  pub no_second_record : (one other : List ℕ) → well_formed one ≡ true → well_formed other ≡ true → decoded one ≡ decoded other → one ≡ other
