-- What a start leaves of 6,464 words, with 16 counts lent, is readable, and stands for the state that document 01's start returns.
-- Assumes nothing.
use Rattle.std.specs.Prelude.{◌≡◌, ◌≤◌}
use Rattle.laws.specs.Basics.{refl, List, [], None, ℕ, zero, suc, arith, leb, length, replicate, length-replicate, get_or-replicate, eq-eqb, le-leb, lt-leb, leb-true, not-false}
use Rattle.laws.specs.{Rows.by_lt, Truth.and_left}
use Rattle.model.specs.{Refusals.first_of, Refusals.start_refusal, Words.most_processes, Words.no_checkpoint, Words.blank}
use Rattle.model.specs.{Steps.checkpoint_zero, Steps.started, Steps.start_state, laws.Refusals.no_rule, laws.Refusals.by_refusal}
use Rattle.whole_runs.specs.Outcomes.{start_outcome}
use Rattle.words.specs.Layout.{state_size, word}
use Rattle.words.proofs.ViewBlank.{blank_fits}
use Rattle.library_calls.specs.run_words.Readable.{Readable}
use Rattle.library_calls.proofs.{run_words.Causes.Small, run_words.Causes.small_disk, Changing.small_readable, Keeping.Few, Keeping.small_processes}
use Rattle.in_place.specs.Starting.{zeros, start_refusal_in, start_outcome_in, start_words, started_words, StartsTheSame}
use Rattle.in_place.proofs.{Starting.zeros_length, Starting.accepted_few, Starting.started_run, Judging.starts_the_same}

-- More than 16 processes are refused whatever is lent.
pub started_so : (n : ℕ) (block_counts : List ℕ) → length block_counts ≡ 16 → start_outcome_in state_size n block_counts ≡ start_outcome n block_counts
unfolding StartsTheSame start_outcome_in start_refusal_in start_outcome start_refusal first_of
started_so n block_counts long = by_lt 16 n
    (λ many. rw (lt-leb n 16 many, le-leb 1 n (omega arith)))
    (λ few. starts_the_same n block_counts (omega arith))

-- The words of a refused start are zero.
replicate_zero : (n k : ℕ) → word (replicate n 0) k ≡ 0
replicate_zero zero k = refl
replicate_zero (suc n) zero = refl
replicate_zero (suc n) (suc k) = replicate_zero n k

zero_at : (k : ℕ) → word zeros k ≡ 0
unfolding zeros
zero_at k = replicate_zero state_size k

zeros_readable : Readable zeros
zeros_readable = record {
  fit = blank_fits zeros (λ k low lt. zero_at k) (λ k low. zero_at k) zeros_length;
  few = omega (arith, zero_at 0);
  causes = λ p k lt less used. absurd (omega (arith, zero_at 0));
}

-- Those of another stand for a state in which each process keeps checkpoint 0, of cause 0.
module _ (n : ℕ) (one : 1 ≤ n) (most : n ≤ 16) where
  blank_small : Small (blank n)
  unfolding blank
  blank_small = record {
    count_some = one;
    count_few = most;
    rows = length-replicate most_processes (replicate most_processes no_checkpoint);
    causes = λ p k lt less.
        rw (get_or-replicate most_processes p (replicate most_processes no_checkpoint) [] (omega arith), get_or-replicate most_processes k no_checkpoint no_checkpoint less)
        (omega arith);
  }

  first : (block_counts : List ℕ) (p : ℕ) → Few (started block_counts p).kept
  unfolding started checkpoint_zero
  first block_counts p zero under = omega arith
  first block_counts p (suc k) under = absurd (omega arith)

  start_small : (block_counts : List ℕ) → Small (start_state n block_counts)
  unfolding start_state
  start_small block_counts = small_disk _ (small_processes n (started block_counts) (blank n) blank_small (λ p lt. first block_counts p)) _

accepted_some : (many n : ℕ) (block_counts : List ℕ) → start_refusal_in many n block_counts ≡ None → 1 ≤ n
unfolding start_refusal_in
accepted_some many n block_counts fine = leb-true 1 n (and_left (leb 1 n) (leb n 16) (not-false _ (no_rule _ fine 0)))

pub start_readable : (w : List ℕ) (n : ℕ) (block_counts : List ℕ) → length w ≡ state_size → Readable (start_words w n block_counts)
unfolding start_words
start_readable w n block_counts long = by_refusal (start_refusal_in (length w) n block_counts)
    (λ fine.
    let few = accepted_few (length w) n block_counts fine in
    rw fine (small_readable (started_words n block_counts) (start_state n block_counts) (started_run n block_counts few) (start_small n (accepted_some (length w) n block_counts fine) few block_counts)))
    (λ why e. rw (e, eq-eqb (length w) state_size long) zeros_readable)
