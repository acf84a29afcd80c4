-- A checkpoint and a receipt on the part of their process, in the order in which the functions compute it: the pins move first, then what no pin names is deleted,
-- then the new checkpoint is stored.
-- Assumes nothing.
use Rattle.laws.specs.Basics.{Bool, false, not, List, ℕ, pick}
use Rattle.laws.specs.Lists.{select, table}
use Rattle.model.specs.Shapes.{Pin}
use Rattle.model.specs.declared.{Interval.Interval, CheckpointIndex.CheckpointIndex, Checkpoint.Checkpoint}
use Rattle.model.specs.{Words.forced, Words.is_pinned, Words.Process, Steps.checkpointed, Steps.taken_in}
use Rattle.words_process.specs.receipts.Receipt.{kept_then_of}
use Rattle.words.specs.Layout.{word, kept_count_at_of, blocks_at_of, part_at, vector_in, mark_in, checkpoint_in}

-- The checkpoint that process i stores.
unfoldable pub stored_in : List ℕ → ℕ → CheckpointIndex → ℕ → List Interval → Checkpoint
stored_in w i index cause vector = record { index = index; vector = vector; cause = cause; blocks = word w (blocks_at_of i) }

-- The checkpoints that process i keeps, as they stand in their places, and those of them that no pin names.
unfoldable pub places_of : List ℕ → ℕ → List Checkpoint
places_of w i = table (word w (kept_count_at_of i)) (checkpoint_in w i)

unfoldable pub unpinned_in : List ℕ → ℕ → List Pin → List Checkpoint
unpinned_in w i pins = select (λ c. not (is_pinned pins c)) (places_of w i)

-- The part of process i once it has these pins: what they name stays, and then the new checkpoint is stored, if one is.
unfoldable pub settled_part : List ℕ → ℕ → List Pin → Bool → Checkpoint → Process
settled_part w i pins stores stored = record {
  vector = vector_in w (part_at i);
  pins = pins;
  mark = pick stores false (mark_in w i);
  kept = kept_then_of stores pins (places_of w i) stored;
}

-- "first do a checkpoint at i (forced)", if there is one; "Then each entry that is smaller than the carried one takes it .."
unfoldable pub received : ℕ → Bool → List Interval → Process → Process
received i stores carried P = taken_in i carried (pick stores (checkpointed forced i P) P)
