-- What holds after every list of accepted calls. The proofs of the line's facts use these clauses alone.
use Rattle.std.specs.Prelude.{◌≡◌, ◌≤◌, ◌<◌}
use Rattle.laws.specs.Basics.{true, Some, ℕ, suc}
use Rattle.histories.specs.History.{HistoryEvent, stored, sent, received, checkpoints}
use Rattle.histories.proofs.{Places.Stands, Times.times, Run.Ideal}

-- Message m is sent in its sender's list, in some interval.
abbrev pub SentOf : Ideal → ℕ → Type 0
SentOf r m = (g : ℕ) × Stands (sent m) g (r.events (r.sender m))

-- Process p received, in an interval of at most a, a message numbered below b that carried at least e of f.
abbrev pub Informed : Ideal → ℕ → ℕ → ℕ → ℕ → ℕ → Type 0
Informed r p a b f e = (m : ℕ) × (g : ℕ) × Stands (received m) g (r.events p) × (g ≤ a) × (m < b) × (e ≤ r.carried m f)

-- A message number with a sender and a receiver in the run, which differ.
pub record Proper (r : Ideal) (m : ℕ) : Type 0 where
  pub numbered : 1 ≤ m
  pub used : m ≤ r.last
  pub from : r.sender m < r.n
  pub to : r.receiver m < r.n
  pub apart : r.sender m ≡ r.receiver m → ⊥

-- A pin of p for f that names k: k is a checkpoint, and from it to the next state p learnt all that it knows of f.
pub record Pinned (r : Ideal) (p f k : ℕ) : Type 0 where
  pub below : k < r.own p
  pub less : r.vector p k f < r.vector p (r.own p) f
  pub next : r.vector p (suc k) f ≡ r.vector p (r.own p) f

pub record Inv (r : Ideal) : Type 0 where
  -- p's list has the checkpoints below its current interval, and at least checkpoint 0
  pub counted : (p : ℕ) → r.own p ≡ checkpoints (r.events p)
  pub positive : (p : ℕ) → 1 ≤ r.own p
  -- a state's own entry is its index; checkpoint 0 knows nothing; states of one process know more and more
  pub self : (p k : ℕ) → k ≤ r.own p → r.vector p k p ≡ k
  pub blank : (p f : ℕ) → r.vector p 0 f ≡ 0
  pub rises : (p k f : ℕ) → k < r.own p → r.vector p k f ≤ r.vector p (suc k) f
  -- nobody knows the future
  pub present : (p k f : ℕ) → f < r.n → k ≤ r.own p → r.vector p k f ≤ r.own f
  -- a state that knows an interval knows what that interval knew
  pub knows : (p k q f : ℕ) → k ≤ r.own p → q < r.n → f < r.n → r.vector q (r.vector p k q) f ≤ r.vector p k f
  -- a message stands as sent in its sender's list alone, and carried the vector of the interval in which it was sent
  pub proper : (p g m : ℕ) → Stands (sent m) g (r.events p) → (p ≡ r.sender m) × Proper r m
  pub carries : (p g m f : ℕ) → Stands (sent m) g (r.events p) → f < r.n → r.carried m f ≡ r.vector p g f
  -- a received message stands in its receiver's list alone, and as sent too; its receiver knows what it carried
  pub arrived : (p g m : ℕ) → Stands (received m) g (r.events p) → (p ≡ r.receiver m) × SentOf r m
  pub takes : (p g m f : ℕ) → Stands (received m) g (r.events p) → f < r.n → r.carried m f ≤ r.vector p g f
  -- in a list each send and each receipt stands at most once
  pub single : (p : ℕ) (e : HistoryEvent) → (e ≡ stored → ⊥) → times e (r.events p) ≤ 1
  -- a message under way stands as sent, and nowhere as received
  pub underway : (m : ℕ) → r.transit m ≡ true → SentOf r m
  pub pending : (m : ℕ) → r.transit m ≡ true → (p g : ℕ) → Stands (received m) g (r.events p) → ⊥
  -- an interval that has not sent is unknown to the others
  pub marked : (p m : ℕ) → Stands (sent m) (r.own p) (r.events p) → r.mark p ≡ true
  pub known : (p k q : ℕ) → k ≤ r.own p → q < r.n → (p ≡ q → ⊥) → r.vector p k q ≡ r.own q → r.mark q ≡ true
  -- knowledge of another process comes by messages
  pub source : (p g m f : ℕ) → Stands (sent m) g (r.events p) → f < r.n → (p ≡ f → ⊥) → 1 ≤ r.carried m f → Informed r p g m f (r.carried m f)
  pub learnt : (p k f : ℕ) → k ≤ r.own p → f < r.n → (p ≡ f → ⊥) → 1 ≤ r.vector p k f → Informed r p k (suc r.last) f (r.vector p k f)
  -- where p knows f's current interval, the pin of p for f names a checkpoint; whatever a pin names, p learnt all it knows of f right after it
  pub pinned : (p f : ℕ) → f < r.n → r.vector p (r.own p) f ≡ r.own f → (k : ℕ) × (r.pin p f ≡ Some k)
  pub pins : (p f k : ℕ) → f < r.n → r.pin p f ≡ Some k → Pinned r p f k
