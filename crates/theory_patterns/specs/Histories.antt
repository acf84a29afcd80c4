-- What is claimed of the surviving histories of whole runs: each is trackable, and a state's vector says exactly which checkpoints come causally before it.
-- Assumes nothing.
use Rattle.std.specs.Prelude.{◌≡◌, ◌≤◌, ◌<◌}
use Rattle.laws.specs.Basics.{List, None, ℕ}
use mathlib.Core.List.{Memᴰ}
use Rattle.model.specs.declared.{Checkpoint.Checkpoint, Run.Run}
use Rattle.model.specs.{Words.entry, Words.process, Refusals.start_refusal}
use Rattle.histories.specs.History.{Lists, checkpoints}
use Rattle.whole_runs.specs.{Outcomes.start_outcome, Calls.Call, Calls.state_after, Calls.transcript, Survival.Surviving, Survival.surviving}
use Rattle.theory_patterns.specs.Paths.{Zigzag, Before, Trackable}

-- Source document 001: a checkpoint that a zigzag path connects to itself is useless, no consistent line has it. Here there is none.
unfoldable pub AllUseful : ℕ → Lists → Type 0
AllUseful n lists = (a α : ℕ) → a < n → α < checkpoints (lists a) → Zigzag lists a α a α → ⊥

-- Source document 001, equation 2, and document 01, "Checkpoint a of f comes causally before a state exactly if a is less than that state's entry f":
-- causal precedence is by the events of the lists alone.
abbrev pub Exact : Lists → ℕ → ℕ → ℕ → ℕ → ℕ → Type 0
Exact lists f a p k e = (Before lists f a p k → a < e) × (a < e → Before lists f a p k)

-- Every state of the surviving history h has a vector of which that holds, deleted or not; of the live states and of the kept checkpoints
-- it is the one that the state s of the run holds.
pub record EntriesAreRight (n : ℕ) (s : Run) (h : Surviving) : Type 0 where
  -- `vector p k f` is entry f of state k of p
  pub vector : ℕ → ℕ → ℕ → ℕ
  pub exact : (f a p k : ℕ) → f < n → a < checkpoints (h.lists f) → p < n → k ≤ checkpoints (h.lists p) → Exact h.lists f a p k (vector p k f)
  -- nobody knows the future; with this the clause before fixes each entry
  pub present : (f p k : ℕ) → f < n → p < n → k ≤ checkpoints (h.lists p) → vector p k f ≤ checkpoints (h.lists f)
  pub live : (p f : ℕ) → p < n → f < n → entry (process s p).vector f ≡ record { 0 = vector p (checkpoints (h.lists p)) f }
  pub kept : (p f : ℕ) (c : Checkpoint) → p < n → f < n → Memᴰ c (process s p).kept
      → (c.index.0 < checkpoints (h.lists p)) × (entry c.vector f ≡ record { 0 = vector p c.index.0 f })

-- For every accepted start and every list of calls, recoveries and sweeps included, from the state that it returned.
unfoldable pub HistoriesAreTrackable : Type 0
HistoriesAreTrackable = (n : ℕ) (block_counts : List ℕ) → start_refusal n block_counts ≡ None → (calls : List Call) →
    let s₀ = (start_outcome n block_counts).run in
    let h = surviving n block_counts (transcript s₀ calls) in
    Trackable n h.lists × AllUseful n h.lists × EntriesAreRight n (state_after s₀ calls) h
