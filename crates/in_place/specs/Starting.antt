-- A start on the words: all of them zero, then n and the block counts, then checkpoint 0 of each process, then the blocks that these take.
-- Assumes nothing.
use Rattle.std.specs.Prelude.{◌≡◌, ◌&&◌, ◌∷◌, ◌+◌, ◌≤◌, Err, Ok}
use Rattle.laws.specs.Basics.{not, List, [], Option, ℕ, zero, suc, eqb, ltb, leb, length, get_or, replicate, pick}
use Rattle.laws.specs.{Search.any_below, Sums.sum_below}
use Prim.{tt}
use Rattle.model.specs.Shapes.{StartAnswer}
use Rattle.model.specs.declared.Refusal.{Refusal}
use Rattle.model.specs.declared.Refusal.TheVariants.{CountOutsideRange, UnsoundState, ListTooShort, BlockCountOutsideRange}
use Rattle.model.specs.{Words.most_processes, Words.blank, Steps.start_state, Sound.is_block_count_of, Refusals.first_of}
use Rattle.whole_runs.specs.Outcomes.{Outcome, judged, start_outcome}
use Rattle.words.specs.Layout.{state_size, kept_count_at_of, blocks_at_of, part_at, pins_at_of, index_at_of}
use Rattle.words.specs.Puts.{Put, puts, one, puts4}

-- The first words are n and the block counts of the processes below it; all others are zero.
unfoldable pub zeros : List ℕ
zeros = replicate state_size 0

unfoldable pub with_counts : List ℕ → List ℕ → ℕ → List ℕ
with_counts w block_counts zero = w
with_counts w block_counts (suc k) = puts (with_counts w block_counts k) (one (blocks_at_of k) (get_or block_counts k 0) ∷ [])

unfoldable pub counted : ℕ → List ℕ → ℕ → List ℕ
counted n block_counts k = with_counts (puts zeros (one 0 n ∷ [])) block_counts k

-- "Each process stores checkpoint 0 with a vector of zeros. Then own entries are 1, others 0. Each own pin names checkpoint 0, others none."
abbrev pub first_puts : ℕ → List Put
first_puts p = one (part_at p + p) 1 ∷ one (pins_at_of p + p) 1 ∷ one (index_at_of p 0) 1 ∷ one (kept_count_at_of p) 1 ∷ []

unfoldable pub with_firsts : List ℕ → ℕ → List ℕ
with_firsts w zero = w
with_firsts w (suc k) = puts (with_firsts w k) (first_puts k)

unfoldable pub begun : ℕ → List ℕ → ℕ → List ℕ
begun n block_counts k = with_firsts (counted n block_counts n) k

-- The n processes stored one each.
unfoldable pub started_words : ℕ → List ℕ → List ℕ
started_words n block_counts = puts (begun n block_counts n) (puts4 4 (sum_below n (λ p. get_or block_counts p 0)))

-- Which start is refused, by how many words and block counts are lent too: "1: start with a count outside 1 to 16"; 2 where the words are no state's by their number;
-- 3 where fewer than n block counts are lent; Note 5: "15 .. for a block count outside 1 to 65,535".
unfoldable pub start_refusal_in : ℕ → ℕ → List ℕ → Option Refusal
start_refusal_in many n block_counts = first_of (
    record { holds = not (leb 1 n && leb n most_processes); gives = CountOutsideRange }
    ∷ record { holds = not (eqb many state_size); gives = UnsoundState }
    ∷ record { holds = ltb (length block_counts) n; gives = ListTooShort }
    ∷ record { holds = any_below n (λ p. not (is_block_count_of (get_or block_counts p 0))); gives = BlockCountOutsideRange }
    ∷ [])

-- The outcome: "A refused start returns a state of zeros with every pin none".
unfoldable pub start_outcome_in : ℕ → ℕ → List ℕ → Outcome StartAnswer
start_outcome_in many n block_counts = judged (start_refusal_in many n block_counts)
    (λ why. record { run = blank 0; answer = Err why; rose = 0; deleted = []; line = [] })
    (record { run = start_state n block_counts; answer = Ok tt; rose = 0; deleted = []; line = [] })

-- Where enough is lent, it is the outcome of document 01's start.
unfoldable pub StartsTheSame : Type 0
StartsTheSame = (n : ℕ) (block_counts : List ℕ) → n ≤ length block_counts → start_outcome_in state_size n block_counts ≡ start_outcome n block_counts

-- The words of a refused start are zero. Words of another number are left as they were: they stand for no sound state.
unfoldable pub start_words : List ℕ → ℕ → List ℕ → List ℕ
start_words w n block_counts = judged (start_refusal_in (length w) n block_counts)
    (λ why. pick (eqb (length w) state_size) zeros w)
    (started_words n block_counts)
