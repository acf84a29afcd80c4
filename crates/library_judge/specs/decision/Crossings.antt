-- Which received messages cross.
-- Assumes nothing.
use Rattle.std.specs.Prelude.{◌≡◌, ◌&&◌, ◌+◌, ◌-◌, ◌≤◌, ◌<◌}
use Rattle.laws.specs.Basics.{sym, ◌∙◌, ap, Bool, not, List, Option, None, Some, ℕ, eqb, ltb, min, length, get_or, pick}
use Rattle.laws.specs.Loops.{iter, iter_none, iter_more}
use Rattle.theory_patterns.specs.declared.End.{End}
use Rattle.library_judge.specs.declared.pattern.{State.State, Sent.Sent}
use Rattle.library_judge.specs.decision.Rows.{no_sent, entry_at, receipt_mark}

-- The rows that a message names are there.
abbrev pub Inside : ℕ → Sent → Type 0
Inside rows x = (x.from < rows) × (receipt_mark x.fate ≤ rows)

-- Every row that a message names is.
abbrev pub Sized : List State → List Sent → Type 0
Sized states messages = (m : ℕ) → m < length messages → Inside (length states) (get_or messages m no_sent)

-- What the state that ends the receiver's interval knows of f.
abbrev pub known_by : List State → ℕ → Sent → ℕ
known_by states f x = entry_at states (receipt_mark x.fate - 1) f

abbrev pub known_at : List State → List Sent → ℕ → ℕ → ℕ
known_at states messages f m = known_by states f (get_or messages m no_sent)

-- A message is received and crosses for f.
unfoldable pub crosses_by : List State → ℕ → Sent → Bool
crosses_by states f x = not (eqb (receipt_mark x.fate) 0) && ltb (known_by states f x) (entry_at states x.from f)

abbrev pub crosses_at : List State → List Sent → ℕ → ℕ → Bool
crosses_at states messages f m = crosses_by states f (get_or messages m no_sent)

unfoldable pub crossing_of : List State → ℕ → Sent → Option ℕ
crossing_of states f x = pick (crosses_by states f x) (Some (known_by states f x)) None

-- The lesser of two that may be there.
unfoldable pub lesser_of : Option ℕ → Option ℕ → Option ℕ
lesser_of a None = a
lesser_of None (Some y) = Some y
lesser_of (Some x) (Some y) = Some (min x y)

unfoldable pub least_crossing_of : List State → List Sent → ℕ → ℕ → Option ℕ
least_crossing_of states messages f last = iter last (λ m a. lesser_of a (crossing_of states f (get_or messages m no_sent))) None

module _ (states : List State) (messages : List Sent) (f : ℕ) where
  pub least_none : None ≡ least_crossing_of states messages f 0
  unfolding least_crossing_of
  least_none = iter_none (λ m a. lesser_of a (crossing_of states f (get_or messages m no_sent))) None

  pub least_more : (m : ℕ) (a b r : Option ℕ) → a ≡ least_crossing_of states messages f m → b ≡ crossing_of states f (get_or messages m no_sent) → r ≡ lesser_of a b → r ≡ least_crossing_of states messages f (m + 1)
  unfolding least_crossing_of
  least_more m a b r e g h = iter_more (λ m a. lesser_of a (crossing_of states f (get_or messages m no_sent))) None a m r e (h ∙ ap (lesser_of a) g)

-- The first process for which a message crosses, and the least entry there.
abbrev pub NearEnd : List State → List Sent → ℕ → Option End → Type 0
NearEnd states messages n None = (f : ℕ) → f < n → least_crossing_of states messages f (length messages) ≡ None
NearEnd states messages n (Some e) = (e.process < n) × (least_crossing_of states messages e.process (length messages) ≡ Some e.index.0)
    × ((f : ℕ) → f < e.process → least_crossing_of states messages f (length messages) ≡ None)

-- What is found, for an option equal to it.
pub found_is : (r v : Option ℕ) (x : ℕ) → r ≡ v → r ≡ Some x → v ≡ Some x
found_is r v x e t = sym e ∙ t
