-- What the states and messages hold of the lists of events and the vectors of their states: a row for each state from the first interval on, and of each message the row
-- of its send and of its receipt.
-- Assumes nothing.
use Rattle.std.specs.Prelude.{◌≡◌, ◌-◌, ◌≤◌, ◌<◌}
use Rattle.laws.specs.Basics.{List, Option, None, Some, ℕ, suc, length}
use Rattle.model.specs.Words.{most_processes}
use Rattle.histories.specs.History.{sent, received, Lists, checkpoints}
use Rattle.theory_patterns.specs.{Paths.StandsIn, Paths.FirstBreaking, Patterns.most_judged}
use Rattle.theory_patterns.proofs.Trail.{Trail, Right}
use Rattle.theory_patterns.specs.declared.BreakingPair.{BreakingPair}
use Rattle.library_judge.specs.declared.pattern.{State.State, Sent.Sent}
use Rattle.library_judge.specs.decision.Rows.{owner_at, entry_at, from_at, to_at, most_rows}
use Rattle.theory_patterns.specs.Paths as paths

-- The interval of a row: its own entry.
abbrev pub interval_of : List State → ℕ → ℕ
interval_of states r = entry_at states r (owner_at states r)

pub record Represents (n : ℕ) (lists : Lists) (vector : ℕ → ℕ → ℕ → ℕ) (rows last : ℕ) (states : List State) (messages : List Sent) : Type 0 where
  pub few : n ≤ most_processes
  pub most_rows_lem : rows ≤ most_rows
  pub most_messages : last ≤ most_judged
  -- each row is a state, with its vector
  pub owner : (r : ℕ) → r < rows → owner_at states r < n
  pub state : (r : ℕ) → r < rows → interval_of states r ≤ checkpoints (lists (owner_at states r))
  pub vector_is : (r f : ℕ) → r < rows → f < most_processes → entry_at states r f ≡ vector (owner_at states r) (interval_of states r) f
  -- each state has a row, and those of a process ascend
  pub there : (p k : ℕ) → p < n → 1 ≤ k → k ≤ checkpoints (lists p) → (r : ℕ) × (r < rows) × (owner_at states r ≡ p) × (interval_of states r ≡ k)
  pub ascends : (r x : ℕ) → r < x → x < rows → owner_at states r ≡ owner_at states x → interval_of states r < interval_of states x
  -- messages by their places, one below their numbers
  pub from_row : (m : ℕ) → m < last → from_at messages m < rows
  pub to_row : (m : ℕ) → m < last → to_at messages m ≤ rows
  pub sent_in_lem : (m : ℕ) → m < last → StandsIn (sent (suc m)) (interval_of states (from_at messages m)) (lists (owner_at states (from_at messages m)))
  pub received_in : (m : ℕ) → m < last → (to_at messages m ≡ 0 → ⊥) → StandsIn (received (suc m)) (interval_of states (to_at messages m - 1)) (lists (owner_at states (to_at messages m - 1)))
  pub all_sent : (p g m : ℕ) → StandsIn (sent m) g (lists p) → (x : ℕ) × (x < last) × (m ≡ suc x) × (owner_at states (from_at messages x) ≡ p) × (interval_of states (from_at messages x) ≡ g)
  pub all_received : (p g m : ℕ) → StandsIn (received m) g (lists p)
      → (x : ℕ) × (x < last) × (m ≡ suc x) × (to_at messages x ≡ 0 → ⊥) × (owner_at states (to_at messages x - 1) ≡ p) × (interval_of states (to_at messages x - 1) ≡ g)

-- There is a trail that they hold.
abbrev pub Holds : ℕ → List State → List Sent → Type 0
Holds n states messages = (t : Trail) × Right t × Represents n t.lists t.vector (length states) (length messages) states messages

-- What is said of lists of events by the first pair that breaks, or by none.
unfoldable pub Says : ℕ → Lists → Option BreakingPair → Type 0
Says n lists None = paths.Trackable n lists
Says n lists (Some w) = FirstBreaking n lists w.near.process w.near.index.0 w.far.process w.far.index.0

-- It is right of every trail that they hold.
unfoldable pub Judges : ℕ → List State → List Sent → Option BreakingPair → Type 0
Judges n states messages r = (t : Trail) → Right t → Represents n t.lists t.vector (length states) (length messages) states messages → Says n t.lists r
