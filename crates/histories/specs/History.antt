-- Document 01, "The surviving history": the lists, and the places in them. How calls and answers build the lists is in Survival.
-- Assumes nothing.
use Rattle.std.specs.Prelude.{◌≡◌, ◌||◌, ◌∷◌, ◌<◌}
use Rattle.laws.specs.Basics.{Bool, false, List, [], ℕ, zero, suc, eqb, pick}
use mathlib.Core.List.{Memᴰ}
use Rattle.laws.specs.Search.{any_below}

-- What a process's list holds: checkpoints, "sent m" and "received m". A checkpoint's number is its place among the checkpoints
-- of its list, the first being 0: so each is "numbered one above the last there".
pub data HistoryEvent : Type 0 where
  stored : HistoryEvent
  sent : ℕ → HistoryEvent
  received : ℕ → HistoryEvent

-- "It has one list for each process." The oldest event comes first.
abbrev pub Lists : Type 0
Lists = ℕ → List HistoryEvent

-- How many checkpoints a list has. Its checkpoints are those below this number, and this number is the index of its live state:
-- "its index is one above the last checkpoint there".
unfoldable pub checkpoints : List HistoryEvent → ℕ
checkpoints [] = 0
checkpoints (stored ∷ l) = suc (checkpoints l)
checkpoints (sent m ∷ l) = checkpoints l
checkpoints (received m ∷ l) = checkpoints l

-- The part of a list up to state k: up to checkpoint k and with it; the whole list where k is the live state,
-- since "a live state stands at the end of its list".
unfoldable pub up_to : ℕ → List HistoryEvent → List HistoryEvent
up_to k [] = []
up_to zero (stored ∷ l) = stored ∷ []
up_to (suc k) (stored ∷ l) = stored ∷ up_to k l
up_to k (sent m ∷ l) = sent m ∷ up_to k l
up_to k (received m ∷ l) = received m ∷ up_to k l

-- The part of a list after state k.
unfoldable pub after_state : ℕ → List HistoryEvent → List HistoryEvent
after_state k [] = []
after_state zero (stored ∷ l) = l
after_state (suc k) (stored ∷ l) = after_state k l
after_state k (sent m ∷ l) = after_state k l
after_state k (received m ∷ l) = after_state k l

-- The part of a list before checkpoint k.
unfoldable pub before_checkpoint : ℕ → List HistoryEvent → List HistoryEvent
before_checkpoint k [] = []
before_checkpoint zero (stored ∷ l) = []
before_checkpoint (suc k) (stored ∷ l) = stored ∷ before_checkpoint k l
before_checkpoint k (sent m ∷ l) = sent m ∷ before_checkpoint k l
before_checkpoint k (received m ∷ l) = received m ∷ before_checkpoint k l

-- "A line names one state of each process": the index of a checkpoint in its list, or of its live state.
abbrev pub Line : Type 0
Line = ℕ → ℕ

-- "It is consistent if no message was sent after its sender's state in the line and received before its receiver's."
-- "Before and after go by place in a list."
unfoldable pub Consistent : ℕ → Lists → Line → Type 0
Consistent n lists line = (q p m : ℕ) → q < n → p < n → Memᴰ (sent m) (after_state (line q) (lists q)) → Memᴰ (received m) (up_to (line p) (lists p)) → ⊥

-- "sent m" stands in a list; it does in one of the lists of the n processes.
unfoldable pub is_sent : ℕ → List HistoryEvent → Bool
is_sent m [] = false
is_sent m (stored ∷ l) = is_sent m l
is_sent m (sent k ∷ l) = eqb k m || is_sent m l
is_sent m (received k ∷ l) = is_sent m l

unfoldable pub still_sent : ℕ → Lists → ℕ → Bool
still_sent n lists m = any_below n (λ p. is_sent m (lists p))

-- The part of a list before "sent m".
unfoldable pub before : ℕ → List HistoryEvent → List HistoryEvent
before m [] = []
before m (stored ∷ l) = stored ∷ before m l
before m (received k ∷ l) = received k ∷ before m l
before m (sent k ∷ l) = pick (eqb k m) [] (sent k ∷ before m l)

-- Checkpoint a of f comes causally before a place in p's list, by the messages alone; `past` is the part of the list before that place.
-- p is f and has checkpoint a there; or p received there a message m, sent by q, and checkpoint a comes before the sending of m.
pub data ComesBefore (lists : Lists) (f a : ℕ) : ℕ → List HistoryEvent → Type 0 where
  within : {p : ℕ} {past : List HistoryEvent} → p ≡ f → a < checkpoints past → ComesBefore lists f a p past
  message : {p : ℕ} {past : List HistoryEvent} (q m : ℕ) → Memᴰ (sent m) (lists q) → ComesBefore lists f a q (before m (lists q)) → Memᴰ (received m) past
      → ComesBefore lists f a p past
