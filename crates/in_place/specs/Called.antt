-- Lists of calls in place: "Each gets the state the one before it returned", here the words that the one before it left. proofs/Called has the theorem.
-- Assumes nothing.
use Rattle.std.specs.Prelude.{◌≡◌, ◌∷◌}
use Rattle.laws.specs.Basics.{List, [], ℕ, length}
use Rattle.whole_runs.specs.Calls.{Call, call, state_after}
use Rattle.words.specs.{Clean.Clean, Layout.state_size, Layout.run_of}
use Rattle.in_place.specs.{Left.Leaves, Starting.start_outcome_in, Starting.start_words}

-- v is what a call leaves of the words w, accepted or refused: two clauses of the contract of every call that writes words. A call that only reads leaves w itself.
pub record Called (w : List ℕ) (c : Call) (v : List ℕ) : Type 0 where
  pub run : run_of v ≡ (call (run_of w) c).run
  pub leaves : Leaves w v

-- The words v are what is left of w by a list of calls, oldest first.
unfoldable pub CalledAll : List ℕ → List Call → List ℕ → Type 0
CalledAll w [] v = v ≡ w
CalledAll w (c ∷ calls) v = (u : List ℕ) × Called w c u × CalledAll u calls v

-- Whatever calls follow a start, with any arguments and lent lists, the words stand for the state after those calls, and every place of them that is not in use is zero:
-- words that are stored hold nothing of what was deleted.
unfoldable pub CleanWholeRuns : Type 0
CleanWholeRuns = (w : List ℕ) (n : ℕ) (block_counts : List ℕ) → length w ≡ state_size → (calls : List Call) (v : List ℕ) → CalledAll (start_words w n block_counts) calls v
    → (run_of v ≡ state_after (start_outcome_in state_size n block_counts).run calls) × Clean v
