-- The earliest consistent line through named checkpoints (document 02, Note 8), which are pairs of numbers in a lent slice.
-- proofs/Reaching has that they say what Earliest says of the run.
-- Assumes nothing.
use Rattle.std.specs.Prelude.{◌||◌, ◌+◌, ◌-◌, ◌*◌, ◌/◌, ◌%◌, ◌≤◌, ◌<◌}
use Rattle.laws.specs.Basics.{Bool, not, List, ℕ, zero, suc, max, eqb, ltb, length, get_or, replicate, pick}
use Rattle.laws.specs.{Lists.table, Loops.set_below, Search.all_below, Search.any_below}
use Rattle.model.specs.declared.Named.{Named}
use Rattle.model.specs.Words.{most_processes}
use Rattle.words.specs.Layout.{word, kept_count_at_of, index_at_of, stored_at, state_size}
use Rattle.words_line.specs.declared.through.Starts.{Starts}
use Rattle.words_line.specs.Line.{KeptUsed}

-- "a list of named checkpoints, each a process and an index": pair k is number 2k, the process, and number 2k + 1, the index. Numbers of which one is left over are no
-- pairs, and name nothing.
unfoldable pub pair_count_of : ℕ → ℕ
pair_count_of size = pick (eqb (size % 2) 1) 0 (size / 2)

abbrev pub process_of : List ℕ → ℕ → ℕ
process_of l k = get_or l (2 * k) 0

abbrev pub index_of_def : List ℕ → ℕ → ℕ
index_of_def l k = get_or l (2 * k + 1) 0

unfoldable pub named_at : List ℕ → ℕ → Named
named_at l k = record { process = process_of l k; index = record { 0 = index_of_def l k } }

unfoldable pub named_in : List ℕ → List Named
named_in l = table (pair_count_of (length l)) (named_at l)

-- One of the first pairs names process p; two of them name one process.
unfoldable pub among_first : List ℕ → ℕ → ℕ → Bool
among_first l m p = any_below m (λ k. eqb (process_of l k) p)

unfoldable pub twice_in : List ℕ → ℕ → Bool
twice_in l m = any_below m (λ k. among_first l k (process_of l k))

-- Where the vector of the checkpoint with index i starts, among the first ones that process p keeps; 0 if it is not one of them.
unfoldable pub start_of : List ℕ → ℕ → ℕ → ℕ → ℕ
start_of w p i zero = 0
start_of w p i (suc k) = pick (eqb (word w (index_at_of p k) - 1) i) (stored_at p k) (start_of w p i k)

abbrev pub start_at : List ℕ → List ℕ → ℕ → ℕ
start_at w l k = start_of w (process_of l k) (index_of_def l k) (word w (kept_count_at_of (process_of l k)))

unfoldable pub starts_in : List ℕ → List ℕ → ℕ → Starts
starts_in w l m = record { all = all_below m (λ k. not (eqb (start_at w l k) 0)); starts = set_below m (start_at w l) (replicate most_processes 0) }

-- Checkpoint i of process p comes before one of m states, whose vectors start at these words; and the greatest of their entries for p.
unfoldable pub before_some : List ℕ → List ℕ → ℕ → ℕ → ℕ → Bool
before_some w starts m p i = any_below m (λ k. ltb i (word w (get_or starts k 0 + p)))

unfoldable pub greatest_in : List ℕ → List ℕ → ℕ → ℕ → ℕ
greatest_in w starts p zero = 0
greatest_in w starts p (suc k) = max (greatest_in w starts p k) (word w (get_or starts k 0 + p))

-- What the functions rely on: the processes that m pairs name are there, with at most 16 checkpoints; the vectors lie within the words.
abbrev pub Present : ℕ → List ℕ → Type 0
Present m l = (k : ℕ) → k < m → process_of l k < most_processes

abbrev pub Searched : ℕ → List ℕ → List ℕ → Type 0
Searched m l w = (k : ℕ) → k < m → (process_of l k < most_processes) × (word w (kept_count_at_of (process_of l k)) ≤ most_processes) × KeptUsed (process_of l k) w

abbrev pub InWords : List ℕ → ℕ → Type 0
InWords starts m = (k : ℕ) → k < m → get_or starts k 0 + most_processes ≤ state_size
