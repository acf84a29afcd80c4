-- The log of a merge: a word of the merged trace for each record taken, oldest first. What is read off it, and what is written of it.
-- Assumes nothing.
use Rattle.std.specs.Prelude.{◌≡◌, ◌∷◌, ◌++◌, ◌+◌, ◌/◌, ◌%◌, ◌≤◌}
use Rattle.laws.specs.Basics.{true, List, [], None, Some, ℕ, zero, suc, eqb, length, get_or, pick}
use Rattle.laws.specs.Loops.{iter}
use Rattle.model.specs.Trace.{fields_of, fits, word_of_def, bytes_of_def}
use Rattle.theory_merges.specs.Halves.{HalfEvent, plain_event}
use Rattle.library_halves.specs.declared.{log.Tally.Tally}

-- The word of record x, taken after those of l, in the merged trace.
unfoldable pub word_in_of : List HalfEvent → HalfEvent → ℕ
word_in_of l x = word_of_def (fields_of (plain_event l x))

-- The log holds the words of the records taken, which are listed here newest first, and each fits its record.
unfoldable pub Logged : List HalfEvent → List ℕ → Type 0
Logged [] log = 0 ≤ length log
Logged (x ∷ l) log = (get_or log (length l) 0 ≡ word_in_of l x) × (fits (plain_event l x) ≡ true) × Logged l log

-- One word more, where the sends of process s are counted and its send c is looked for: kind 1 is a send, process s sent it, the argument is the receiver.
unfoldable pub tallied : Tally → ℕ → ℕ → ℕ → Tally
tallied t w s c = pick (eqb (w / 536870912) 1)
    (pick (eqb (w / 33554432 % 16) s)
    (pick (eqb (t.own + 1) c)
    (record { own = t.own + 1; all = t.all + 1; sent = Some (record { number = t.all + 1; receiver = w % 33554432 }) })
    (record { own = t.own + 1; all = t.all + 1; sent = t.sent }))
    (record { own = t.own; all = t.all + 1; sent = t.sent }))
    t

abbrev pub no_tally : Tally
no_tally = record { own = 0; all = 0; sent = None }

-- The tally of the first k words.
unfoldable pub tally_of : List ℕ → ℕ → ℕ → ℕ → Tally
tally_of log k s c = iter k (λ i t. tallied t (get_or log i 0) s c) no_tally

-- The bytes of the first k words.
unfoldable pub bytes_up_to : ℕ → List ℕ → List ℕ
bytes_up_to zero log = []
bytes_up_to (suc k) log = bytes_up_to k log ++ bytes_of_def (get_or log k 0)
