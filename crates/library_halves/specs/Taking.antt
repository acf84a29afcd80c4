-- What the functions that take records answer, in the words of the model.
-- Assumes nothing.
use Prim.{tt}
use Rattle.std.specs.Prelude.{◌≡◌, ◌&&◌, ◌∷◌, ◌+◌, ◌*◌, ◌/◌, ◌%◌, ◌≤◌, Result, Ok, Err}
use Rattle.laws.specs.Basics.{Bool, true, List, [], Option, ℕ, suc, eqb, length, drop, pick}
use Rattle.model.specs.declared.{Fields.Fields, Refusal.Refusal}
use Rattle.model.specs.Trace.{fields, fits}
use Rattle.theory_merges.specs.Halves.{HalfEvent, deliver_of, lose_of, plain_event}
use Rattle.theory_merges.specs.Merge.{Taken, stopped, took, is_ready, on_record, take_from, fields_in}
use Rattle.trace.specs.Answers.{record_at}
use Rattle.library_halves.specs.{declared.taking.Step.Step, declared.taking.Step.TheVariants.First, declared.taking.Step.TheVariants.Second, Log.word_in_of, Log.Logged}

-- The delivery, kind 2, or loss of the message that an argument names.
unfoldable pub message_of : ℕ → ℕ → HalfEvent
message_of kind argument = pick (eqb kind 2) (deliver_of (argument / 2097152) (argument % 2097152)) (lose_of (argument / 2097152) (argument % 2097152))

-- The answer is right about a record of one half, whatever follows it: it stops the merge, or it is taken and has this word.
unfoldable pub Judges : ℕ → ℕ → Bool → List HalfEvent → Option HalfEvent → Result ℕ Refusal → Type 0
Judges n set side l o (Err q) = (next : HalfEvent → Taken) → on_record n set l side next o ≡ stopped q
Judges n set side l o (Ok w) = (x : HalfEvent) × (w ≡ word_in_of l x) × (fits (plain_event l x) ≡ true) × ((next : HalfEvent → Taken) → on_record n set l side next o ≡ next x)

-- The records of a half after a of them; whether there is one, and it is ready.
unfoldable pub left : List ℕ → ℕ → List Fields
left half a = fields_in (drop (1 + 4 * a) half)

unfoldable pub ready_at : List HalfEvent → List ℕ → ℕ → Bool
ready_at l half a = eqb (length (record_at half (1 + 4 * a))) 4 && is_ready l (fields (record_at half (1 + 4 * a)))

-- The answer is right about the next record after a records of the first half and b of the second.
unfoldable pub Steps : ℕ → ℕ → List HalfEvent → List ℕ → List ℕ → ℕ → ℕ → Result Step Refusal → Type 0
Steps n set l first second a b (Err q) = (k : ℕ) → take_from (suc k) n set l (left first a) (left second b) ≡ stopped q
Steps n set l first second a b (Ok (First w)) = (x : HalfEvent) × (w ≡ word_in_of l x) × (fits (plain_event l x) ≡ true) × (1 + 4 * a + 4 ≤ length first)
    × ((k : ℕ) → take_from (suc k) n set l (left first a) (left second b) ≡ take_from k n set (x ∷ l) (left first (a + 1)) (left second b))
Steps n set l first second a b (Ok (Second w)) = (x : HalfEvent) × (w ≡ word_in_of l x) × (fits (plain_event l x) ≡ true) × (1 + 4 * b + 4 ≤ length second)
    × ((k : ℕ) → take_from (suc k) n set l (left first a) (left second b) ≡ take_from k n set (x ∷ l) (left first a) (left second (b + 1)))

-- The answer is right about all records: the merge stops, or takes all, and the log has them.
unfoldable pub Takes : ℕ → ℕ → List ℕ → List ℕ → ℕ → List ℕ → Result (Unit {0}) Refusal → Type 0
Takes n set first second total log (Ok tt) =
    (l : List HalfEvent) × (take_from total n set [] (left first 0) (left second 0) ≡ took l) × Logged l log × (length l ≡ total)
Takes n set first second total log (Err q) = take_from total n set [] (left first 0) (left second 0) ≡ stopped q
