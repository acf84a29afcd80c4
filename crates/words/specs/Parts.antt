-- The part of the words that is one process's.
-- Assumes nothing.
use Rattle.std.specs.Prelude.{◌&&◌}
use Rattle.laws.specs.Basics.{Bool, List, ℕ, ltb, take}
use Rattle.model.specs.Words.{Process}
use Rattle.words.specs.Layout.{word, end_of, kept_count_at_of, part_at, pins_at_of, vector_in, pins_in, mark_in, kept_in, message_in, is_message}

-- What the words hold of process p: its vector, its pins, its sent mark, and as many checkpoints as it keeps.
unfoldable pub process_in : List ℕ → ℕ → Process
process_in w p = record {
  vector = vector_in w (part_at p);
  pins = pins_in w (pins_at_of p);
  mark = mark_in w p;
  kept = take (word w (kept_count_at_of p)) (kept_in w p);
}

-- A place of a message is in use before the end of those in use, and where the number is not 0.
unfoldable pub is_used_in : List ℕ → ℕ → Bool
is_used_in w k = ltb k (end_of w) && is_message (message_in w k)
