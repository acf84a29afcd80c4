-- The line rule on the words: which states of a process are within the limits that a failed set puts on the entries, and where the latest of them stands.
-- proofs/LineRule has that they say what Steps says of the run.
-- Assumes nothing.
use Rattle.std.specs.Prelude.{◌+◌, ◌-◌, ◌≤◌, ◌<◌}
use Rattle.laws.specs.Basics.{Bool, not, List, Option, None, Some, ℕ, zero, suc, eqb, ltb, leb, length, get_or, replicate, pick}
use Rattle.laws.specs.{Loops.set_below, Search.all_below}
use Rattle.model.specs.declared.{Interval.Interval, CheckpointIndex.CheckpointIndex, Checkpoint.Checkpoint}
use Rattle.model.specs.Words.{most_processes, entry, live_index_of, live, zero_vector, failed}
use Rattle.words.specs.Layout.{word, kept_count_at_of, part_at, index_at_of, stored_at, interval_of, index_of_def, vector_in, checkpoint_in}
use Rattle.words.specs.Parts.{process_in}

-- "whose entry f is less than f's current own entry, for every failed f": the greatest entry for f that a state may have. No entry for f is above f's own one.
unfoldable pub limit_of : List ℕ → ℕ → ℕ → Interval
limit_of w F f = record { 0 = pick (failed F f) (word w (part_at f + f) - 1) (word w (part_at f + f)) }

unfoldable pub limits_in : List ℕ → ℕ → ℕ → List Interval
limits_in w n F = set_below n (limit_of w F) zero_vector

unfoldable pub is_within : List Interval → List Interval → Bool
is_within limits v = all_below most_processes (λ f. leb (entry v f).0 (entry limits f).0)

-- One above the place of the latest of the first kept checkpoints that is within the limits, 0 if there is none; and of all states, the live one last.
unfoldable pub past_kept : List ℕ → List Interval → ℕ → ℕ → ℕ
past_kept w limits p zero = 0
past_kept w limits p (suc k) = pick (is_within limits (vector_in w (stored_at p k))) (suc k) (past_kept w limits p k)

unfoldable pub past_latest : List ℕ → List Interval → ℕ → ℕ
past_latest w limits p = pick (is_within limits (vector_in w (part_at p))) (word w (kept_count_at_of p) + 1) (past_kept w limits p (word w (kept_count_at_of p)))

-- The states of process p: the checkpoints that it keeps, and after them the live one; and what a search found.
unfoldable pub state_in : List ℕ → ℕ → ℕ → Checkpoint
state_in w p k = pick (ltb k (word w (kept_count_at_of p))) (checkpoint_in w p k) (live p (process_in w p))

unfoldable pub state_before : List ℕ → ℕ → ℕ → Option Checkpoint
state_before w p zero = None
state_before w p (suc k) = Some (state_in w p k)

-- What the functions rely on: own entries at least 1, at most 16 kept checkpoints, each with an index.
abbrev pub OwnSome : ℕ → List ℕ → Type 0
OwnSome n w = (p : ℕ) → p < n → 1 ≤ word w (part_at p + p)

abbrev pub KeptCountMost : ℕ → List ℕ → Type 0
KeptCountMost n w = (p : ℕ) → p < n → word w (kept_count_at_of p) ≤ most_processes

abbrev pub KeptUsed : ℕ → List ℕ → Type 0
KeptUsed p w = (k : ℕ) → k < word w (kept_count_at_of p) → 1 ≤ word w (index_at_of p k)

abbrev pub AllUsed : ℕ → List ℕ → Type 0
AllUsed n w = (p : ℕ) → p < n → KeptUsed p w

-- Whether each of n processes has a member; one above the place of each member, 0 at n and above; and their indexes.
unfoldable pub has_members : List ℕ → ℕ → List Interval → Bool
has_members w n limits = all_below n (λ p. not (eqb (past_latest w limits p) 0))

unfoldable pub pasts_in : List ℕ → ℕ → List Interval → List ℕ
pasts_in w n limits = set_below n (past_latest w limits) (replicate most_processes 0)

-- The table has a place for each of n processes, and each has a member.
abbrev pub AllFound : ℕ → List ℕ → Type 0
AllFound n pasts = (n ≤ length pasts) × ((p : ℕ) → p < n → 1 ≤ get_or pasts p 0)

unfoldable pub index_in_of : List ℕ → ℕ → ℕ → CheckpointIndex
index_in_of w p past = pick (leb past (word w (kept_count_at_of p))) (index_of_def (word w (index_at_of p (past - 1)))) (live_index_of (interval_of (word w (part_at p + p))))

unfoldable pub indexes_in : List ℕ → ℕ → List ℕ → List CheckpointIndex
indexes_in w n pasts = set_below n (λ p. index_in_of w p (get_or pasts p 0)) (replicate most_processes (record { 0 = 0 }))
