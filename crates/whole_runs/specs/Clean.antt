-- Note 6, "Nothing kept in vain after a restart": "The handbook says that a recovery cleans the disks fully. Prove it". proofs/Clean has the theorems.
-- Assumes nothing.
use Rattle.std.specs.Prelude.{◌≡◌, ◌∷◌, ◌++◌, ◌^◌, ◌≤◌, ◌<◌}
use Rattle.laws.specs.Basics.{Bool, true, List, [], None, ℕ}
use Rattle.model.specs.declared.Run.{Run}
use Rattle.histories.specs.History.{Lists}
use Rattle.model.specs.{Refusals.start_refusal, Refusals.recover_refusal, Words.keeps_in}
use Rattle.whole_runs.specs.{Outcomes.start_outcome, Calls.Call, Calls.recover, Calls.state_after, Calls.transcript, Survival.surviving, WholeRuns.reported}
use Rattle.whole_runs.specs.Best.{Best, InBestLine}

-- The line that a line or recover call reports is the best line: for every list of calls from an accepted start and every failed set.
unfoldable pub ReportedIsBest : Type 0
ReportedIsBest = (n : ℕ) (block_counts : List ℕ) → start_refusal n block_counts ≡ None → (calls : List Call) (F : ℕ) → F < 2 ^ n
    → Best n (surviving n block_counts (transcript (start_outcome n block_counts).run calls)).lists F (reported (state_after (start_outcome n block_counts).run calls) F)

-- "a checkpoint is kept exactly if some non-empty failed set would have it in its best line, by the message definition over the surviving history": `kept` says which
-- checkpoints are kept.
pub record OnlyNeededKept (n : ℕ) (lists : Lists) (kept : ℕ → ℕ → Bool) : Type 0 where
  pub used : (p k : ℕ) → p < n → kept p k ≡ true → (F : ℕ) × (1 ≤ F) × (F < 2 ^ n) × InBestLine n lists F p k
  pub kept_if_used : (p k F : ℕ) → p < n → 1 ≤ F → F < 2 ^ n → InBestLine n lists F p k → kept p k ≡ true

-- "straight after an accepted recovery or sweep": for every list of calls from an accepted start and an accepted recover call after it, for any failed set, the
-- empty one of a sweep too. Kept by the pairs handed out.
unfoldable pub CleanAfterRecovery : Type 0
CleanAfterRecovery = (n : ℕ) (block_counts : List ℕ) → start_refusal n block_counts ≡ None → (calls : List Call) (F : ℕ) (deleted lent : List ℕ)
    → recover_refusal (state_after (start_outcome n block_counts).run calls) F deleted lent ≡ None →
    let h = surviving n block_counts (transcript (start_outcome n block_counts).run (calls ++ (recover F deleted lent ∷ []))) in
    OnlyNeededKept n h.lists h.kept

-- Note 6 as a recover call on the state s says it of the state t that it returns: whatever calls from an accepted start led to s, if the call is accepted, t keeps
-- a checkpoint exactly if some failure would use it, judged by the surviving history of those calls and of this one after them.
unfoldable pub CleanPromise : Run → ℕ → List ℕ → List ℕ → Run → Type 0
CleanPromise s F deleted lent t = (n : ℕ) (block_counts : List ℕ) → start_refusal n block_counts ≡ None → (calls : List Call) → s ≡ state_after (start_outcome n block_counts).run calls
    → recover_refusal s F deleted lent ≡ None → OnlyNeededKept n (surviving n block_counts (transcript (start_outcome n block_counts).run (calls ++ (recover F deleted lent ∷ [])))).lists (keeps_in t)
