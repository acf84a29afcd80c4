-- The state that stands for a run as functions: the library's state after any list of accepted calls is `state_of` of the run, to the last unused place.
-- Assumes nothing.
use Rattle.std.specs.Prelude.{◌≡◌, ◌∷◌, ◌++◌, ◌-◌, ◌≤◌, ◌<◌}
use Rattle.laws.specs.Basics.{Bool, true, List, [], Option, None, Some, ℕ, zero, suc, ltb, length, pick}
use Rattle.laws.specs.Lists.{table}
use Rattle.model.specs.Shapes.{Pin}
use Rattle.model.specs.declared.{Interval.Interval, Checkpoint.Checkpoint, Message.Message}
use Rattle.model.specs.declared.{Disk.Disk, Run.Run}
use Rattle.model.specs.Words.{most_processes, most_under_way, most_messages, most_blocks, Process, blank, with_messages, with_disk}
use Rattle.model.specs.{Steps.with_processes, Sound.cause_sound, Sound.is_block_count_of}
use Rattle.histories.proofs.{Run.Ideal, Run.keeps, Counted.kept_in}

-- The values at the numbers below a bound that pass a test, in ascending order.
unfoldable pub passing : {A : Type 0} → ℕ → (ℕ → Bool) → (ℕ → A) → List A
passing zero t f = []
passing (suc k) t f = passing k t f ++ pick (t k) (f k ∷ []) []

-- A vector of n entries as a list of 16, zero at n and above.
unfoldable pub vector_of : ℕ → (ℕ → ℕ) → List Interval
vector_of n v = table most_processes (λ f. record { 0 = pick (ltb f n) (v f) 0 })

unfoldable pub pin_of_def : Option ℕ → Pin
pin_of_def None = None
pin_of_def (Some k) = Some (record { 0 = k })

unfoldable pub pins_of : Ideal → ℕ → List Pin
pins_of r p = table most_processes (λ f. pick (ltb f r.n) (pin_of_def (r.pin p f)) None)

-- State k of process p as a checkpoint: its index and its vector, and if it is stored its cause and its process's block count.
unfoldable pub checkpoint_of : Ideal → ℕ → ℕ → Checkpoint
checkpoint_of r p k = record {
  index = record { 0 = k };
  vector = vector_of r.n (r.vector p k);
  cause = pick (ltb k (r.own p)) (r.ledger.cause p k) 0;
  blocks = pick (ltb k (r.own p)) (r.ledger.block_counts p) 0;
}

-- The checkpoints that p keeps, ascending.
unfoldable pub kept_of : Ideal → ℕ → List Checkpoint
kept_of r p = passing (r.own p) (keeps r p) (checkpoint_of r p)

unfoldable pub process_of : Ideal → ℕ → Process
process_of r p = record { vector = vector_of r.n (r.vector p (r.own p)); pins = pins_of r p; mark = r.mark p; kept = kept_of r p }

unfoldable pub message_of : Ideal → ℕ → Message
message_of r m = record { number = m; sender = r.sender m; receiver = r.receiver m; vector = vector_of r.n (r.carried m) }

-- The messages under way, ascending by number.
unfoldable pub messages_of : Ideal → List Message
messages_of r = passing (suc r.last) r.transit (message_of r)

-- What was written and is not kept was deleted.
unfoldable pub disk_of : Ideal → Disk
disk_of r = record { written = r.ledger.written; deleted = r.ledger.written - kept_in r }

unfoldable pub parts_of : Ideal → Run
parts_of r = with_messages (with_processes r.n (process_of r) (blank r.n)) (messages_of r) r.last

unfoldable pub state_of : Ideal → Run
state_of r = with_disk (parts_of r) (disk_of r)

-- A ledger that the refusals and the steps keep: counts in range, causes as a sound state has them, what is kept was written, and no more than the bound.
pub record Fits (r : Ideal) : Type 0 where
  pub block_counts : (p : ℕ) → p < r.n → is_block_count_of (r.ledger.block_counts p) ≡ true
  pub causes : (p k : ℕ) → p < r.n → k < r.own p → cause_sound k (r.ledger.cause p k) ≡ true
  pub paid : kept_in r ≤ r.ledger.written
  pub room : r.ledger.written ≤ most_blocks

-- The limits that the refusals keep.
pub record Limits (r : Ideal) : Type 0 where
  pub some_process : 1 ≤ r.n
  pub few_processes : r.n ≤ most_processes
  pub few_messages : length (messages_of r) ≤ most_under_way
  pub few_numbers : r.last ≤ most_messages
  pub ledger : Fits r
