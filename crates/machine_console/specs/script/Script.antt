-- A script of console calls: which eight bytes are a call, and what it asks for. Numbers have their high byte first, and no value is cut short.
-- Assumes nothing.
use Rattle.std.specs.Prelude.{◌≡◌, ◌&&◌, ◌||◌, ◌∷◌, ◌+◌, ◌*◌}
use Rattle.laws.specs.Basics.{Bool, true, List, [], Option, None, Some, ℕ, eqb, ltb, leb, get_or, pick}
use Rattle.laws.specs.Tests.{every}
use Rattle.theory_roles.specs.declared.{Role.Role, Role.TheVariants.Operator, Role.TheVariants.JobOwner, Role.TheVariants.Viewer, Operation.Operation}
use Rattle.theory_roles.specs.declared.Operation.TheVariants.{Start, Checkpoint, Send, Deliver, Lose, Recover, Line, Earliest, List as Listing, Counts}
use Rattle.machine_console.specs.declared.{script.Call.Call, script.Read.Read}
use Rattle.machine_console.specs.declared.script.Read.TheVariants.{Ended, LeftOver, Malformed, Asks}

-- The byte in a place of a call.
abbrev pub byte : List ℕ → ℕ → ℕ
byte call place = get_or call place 0

-- Byte 0, who calls: 0 an operator, 1 a job owner, any other number below 128 a viewer. 128 more: the lent lists are one entry too short.
unfoldable pub role_of_def : ℕ → Role
role_of_def who = pick (eqb who 0 || eqb who 128) Operator (pick (eqb who 1 || eqb who 129) JobOwner Viewer)

-- Byte 3, what is asked for: 0 to 9, in this order.
abbrev pub operations : List Operation
operations = Checkpoint ∷ Send ∷ Deliver ∷ Lose ∷ Recover ∷ Line ∷ Earliest ∷ Listing ∷ Counts ∷ Start ∷ []

unfoldable pub operation_of_def : ℕ → Operation
operation_of_def code = get_or operations code Start

-- Byte 4 is a process, bytes 5 to 7 are the argument: what an operation does not use must be zero, and so must byte 5 where the argument is a failed set or an
-- index, which have 16 bits. The places of these bytes.
unfoldable pub must_be_zero : Operation → List ℕ
-- the process
must_be_zero Checkpoint = 5 ∷ 6 ∷ 7 ∷ []
-- the sender, the receiver
must_be_zero Send = []
-- the message's number
must_be_zero Deliver = 4 ∷ []
must_be_zero Lose = 4 ∷ []
-- the failed set
must_be_zero Recover = 4 ∷ 5 ∷ []
must_be_zero Line = 4 ∷ 5 ∷ []
-- the process and the index of the named checkpoint
must_be_zero Earliest = 5 ∷ []
must_be_zero Listing = 4 ∷ 5 ∷ 6 ∷ 7 ∷ []
must_be_zero Counts = 4 ∷ 5 ∷ 6 ∷ 7 ∷ []
-- the count
must_be_zero Start = 5 ∷ 6 ∷ 7 ∷ []

unfoldable pub is_clear_of : Operation → List ℕ → Bool
is_clear_of o call = every (λ place. eqb (byte call place) 0) (must_be_zero o)

-- "14: unused kind, or a field that must be zero is not": so of a call, which is then malformed.
unfoldable pub well_formed : List ℕ → Bool
well_formed call = ltb (byte call 3) 10 && is_clear_of (operation_of_def (byte call 3)) call

-- What a call asks for.
unfoldable pub call_in : Operation → List ℕ → Call
call_in o call = record {
  caller = record { role = role_of_def (byte call 0); owned = byte call 1 * 256 + byte call 2 };
  short = leb 128 (byte call 0);
  operation = o;
  process = byte call 4;
  argument = byte call 5 * 65536 + byte call 6 * 256 + byte call 7;
  low = byte call 6 * 256 + byte call 7;
}

-- None: malformed, refusal 14.
unfoldable pub call_of : List ℕ → Option Call
call_of call = pick (well_formed call) (Some (call_in (operation_of_def (byte call 3)) call)) None

unfoldable pub asked : Option Call → Read
asked None = Malformed
asked (Some c) = Asks c

-- The next bytes of a script, of which `buffered` are there: "13: .. bytes left over", as after the records of a trace.
unfoldable pub next_of : ℕ → List ℕ → Read
next_of buffered call = pick (eqb buffered 0) Ended (pick (ltb buffered 8) LeftOver (asked (call_of call)))

-- A failed set and an index are two bytes of the argument: in a call that is well-formed they are all of it (proofs/Calls).
unfoldable pub WholeArguments : Type 0
WholeArguments = (call : List ℕ) → (is_clear_of Recover call ≡ true → (call_in Recover call).argument ≡ (call_in Recover call).low)
    × (is_clear_of Line call ≡ true → (call_in Line call).argument ≡ (call_in Line call).low)
    × (is_clear_of Earliest call ≡ true → (call_in Earliest call).argument ≡ (call_in Earliest call).low)
