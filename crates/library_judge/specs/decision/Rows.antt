-- The states and the messages of a trace by their places: row r is the state in place r, and message m + 1 has place m.
-- Assumes nothing.
use Rattle.std.specs.Prelude.{◌≡◌, ◌<◌}
use Rattle.laws.specs.Basics.{refl, List, [], Option, None, Some, ℕ, suc, length, get_or, set, length-set, get_or-set_same, get_or-set_other}
use Rattle.model.specs.declared.Interval.{Interval}
use Rattle.model.specs.Words.{entry}
use Rattle.library_judge.specs.declared.pattern.{State.State, Fate.Fate, Fate.TheVariants.Lost, Fate.TheVariants.UnderWay, Fate.TheVariants.Received, Sent.Sent}

-- A row for each process and one for each record.
abbrev pub most_rows : ℕ
most_rows = 4112

-- What a place past the end would hold.
abbrev pub no_state : State
no_state = record { process = 0; vector = [] }

abbrev pub no_sent : Sent
no_sent = record { from = 0; carried = []; fate = Lost }

-- The process of row r, its vector, and entry f of that.
abbrev pub owner_at : List State → ℕ → ℕ
owner_at states r = (get_or states r no_state).process

abbrev pub vector_at : List State → ℕ → List Interval
vector_at states r = (get_or states r no_state).vector

abbrev pub entry_at : List State → ℕ → ℕ → ℕ
entry_at states r f = (entry (vector_at states r) f).0

-- The state that is put is there, and every other row stays.
module _ (states : List State) (r : ℕ) (x : State) where
  pub put_length : length (set states r x) ≡ length states
  put_length = length-set states r x

  pub put_same : r < length states → get_or (set states r x) r no_state ≡ x
  put_same h = get_or-set_same states r x no_state h

  pub put_other : (q : ℕ) → (q ≡ r → ⊥) → get_or (set states r x) q no_state ≡ get_or states q no_state
  put_other q ne = get_or-set_other states r q x no_state ne

-- Entry f of a row that is read.
pub row_entry : (states : List State) (r f : ℕ) → entry (vector_at states r) f ≡ record { 0 = entry_at states r f }
row_entry states r f = refl

-- The row in which message m was sent, and what it carries.
abbrev pub from_at : List Sent → ℕ → ℕ
from_at messages m = (get_or messages m no_sent).from

abbrev pub carried_at : List Sent → ℕ → List Interval
carried_at messages m = (get_or messages m no_sent).carried

-- The row of a receipt and 1, or 0; the receiver and 1 of a message under way, or 0.
abbrev pub receipt_mark : Fate → ℕ
receipt_mark Lost = 0
receipt_mark (UnderWay i) = 0
receipt_mark (Received r) = suc r

abbrev pub receiver_mark : Fate → ℕ
receiver_mark Lost = 0
receiver_mark (UnderWay i) = suc i
receiver_mark (Received r) = 0

abbrev pub to_at : List Sent → ℕ → ℕ
to_at messages m = receipt_mark (get_or messages m no_sent).fate

abbrev pub mark_at : List Sent → ℕ → ℕ
mark_at messages m = receiver_mark (get_or messages m no_sent).fate

-- A row that may be there, as a number: none is above every row.
abbrev pub row_number : Option ℕ → ℕ
row_number None = 65_535
row_number (Some r) = r

abbrev pub reach_at : List (Option ℕ) → ℕ → ℕ
reach_at reach q = row_number (get_or reach q None)
