-- Source document 001, definitions 1, 3 and 4, over lists of events: causal precedence, zigzag paths, and what it is to be trackable.
-- Assumes nothing.
use Rattle.std.specs.Prelude.{◌≡◌, ◌∷◌, ◌⊎◌, ◌≤◌, ◌<◌}
use Rattle.laws.specs.Basics.{List, [], Option, None, Some, ℕ, zero, suc, length}
use Rattle.histories.specs.History.{HistoryEvent, stored, sent, received, Lists, checkpoints}

-- The event at a place of a list, places counted from 0.
unfoldable pub event_at : List HistoryEvent → ℕ → Option HistoryEvent
event_at [] i = None
event_at (e ∷ l) zero = Some e
event_at (e ∷ l) (suc i) = event_at l i

-- In which interval a place lies: how many checkpoints stand before it. "Interval g lies between checkpoints g − 1 and g."
unfoldable pub interval : List HistoryEvent → ℕ → ℕ
interval [] i = 0
interval (e ∷ l) zero = 0
interval (stored ∷ l) (suc i) = suc (interval l i)
interval (sent m ∷ l) (suc i) = interval l i
interval (received m ∷ l) (suc i) = interval l i

-- An event stands in interval g of a list.
abbrev pub StandsIn : HistoryEvent → ℕ → List HistoryEvent → Type 0
StandsIn e g l = (i : ℕ) × (event_at l i ≡ Some e) × (interval l i ≡ g)

-- The place of state k: that of checkpoint k, and for the live state the end of the list. "A live state stands at the end of its list".
unfoldable pub place_of : ℕ → List HistoryEvent → ℕ
place_of k [] = 0
place_of zero (stored ∷ l) = 0
place_of (suc k) (stored ∷ l) = suc (place_of k l)
place_of k (sent m ∷ l) = suc (place_of k l)
place_of k (received m ∷ l) = suc (place_of k l)

-- Definition 1. "Event e causally precedes e' iff": an event is a process and a place; the place after the last event is the live state's.
pub data Precedes (lists : Lists) : ℕ → ℕ → ℕ → ℕ → Type 0 where
  -- "(i)": the next event of the same process
  next : {p i : ℕ} → i < length (lists p) → Precedes lists p i p (suc i)
  -- "(ii)": a send and the receipt of its message
  message : {p q i j m : ℕ} → event_at (lists p) i ≡ Some (sent m) → event_at (lists q) j ≡ Some (received m) → Precedes lists p i q j
  -- "(iii)": by way of another event
  through : {p q r i j k : ℕ} → Precedes lists p i q j → Precedes lists q j r k → Precedes lists p i r k

-- State α of a causally precedes state β of b.
abbrev pub Before : Lists → ℕ → ℕ → ℕ → ℕ → Type 0
Before lists a α b β = Precedes lists a (place_of α (lists a)) b (place_of β (lists b))

-- Definition 3. A zigzag path that begins after checkpoint α of a, and whose last message b receives in interval h. Interval g of an event is the number
-- of checkpoints before it in its list (`StandsIn e g l`), so an event after checkpoint α has an interval above α, and one before state β one of at most β
-- (`interval_after`, `interval_before` in proofs/Placing say this by places).
pub data Path (lists : Lists) (a α : ℕ) : ℕ → ℕ → Type 0 where
  -- "(i) p_a sends m_1 after c"
  one : {b g h m : ℕ} → StandsIn (sent m) g (lists a) → α < g → StandsIn (received m) h (lists b) → Path lists a α b h
  -- "(ii) if m_i .. is received by p_c, then m_{i+1} is sent by p_c in the same or a later checkpoint interval"
  onward : {c h b g j m : ℕ} → Path lists a α c h → StandsIn (sent m) g (lists c) → h ≤ g → StandsIn (received m) j (lists b) → Path lists a α b j

-- "(iii) p_b receives m_k before c": the path connects checkpoint α of a to state β of b.
abbrev pub Zigzag : Lists → ℕ → ℕ → ℕ → ℕ → Type 0
Zigzag lists a α b β = (h : ℕ) × Path lists a α b h × (h ≤ β)

-- A near end and a far end that break the rule: a checkpoint and a state, a zigzag path from the one to the other, and no causal precedence.
-- "Live end states count as far ends."
pub record Breaking (n : ℕ) (lists : Lists) (a α b β : ℕ) : Type 0 where
  pub near : a < n
  pub near_stored : α < checkpoints (lists a)
  pub far : b < n
  pub far_there : β ≤ checkpoints (lists b)
  pub path : Zigzag lists a α b β
  pub unordered : Before lists a α b β → ⊥

-- Definition 4: "each zigzag path .. between two checkpoints goes with causal precedence from the one to the other".
unfoldable pub Trackable : ℕ → Lists → Type 0
Trackable n lists = (a α b β : ℕ) → a < n → α < checkpoints (lists a) → b < n → β ≤ checkpoints (lists b) → Zigzag lists a α b β → Before lists a α b β

-- One pair comes before another "by process and index of the near end, then of the far end".
unfoldable pub Earlier : ℕ → ℕ → ℕ → ℕ → ℕ → ℕ → ℕ → ℕ → Type 0
Earlier a α b β a' α' b' β' =
    (a < a') ⊎ ((a ≡ a') × ((α < α') ⊎ ((α ≡ α') × ((b < b') ⊎ ((b ≡ b') × (β < β'))))))

pub record FirstBreaking (n : ℕ) (lists : Lists) (a α b β : ℕ) : Type 0 where
  pub breaks : Breaking n lists a α b β
  pub first : (a' α' b' β' : ℕ) → Breaking n lists a' α' b' β' → Earlier a' α' b' β' a α b β → ⊥
