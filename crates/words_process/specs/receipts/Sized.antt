-- The sizes of the arrays of a state, which its type fixes and a definition over lists does not say: 16 rows of 16 places, 64 messages, each vector of 16.
-- Assumes nothing.
use Rattle.std.specs.Prelude.{◌≡◌, ◌<◌}
use Rattle.laws.specs.Basics.{[], ℕ, length, get_or}
use Rattle.model.specs.declared.Run.{Run}
use Rattle.model.specs.Words.{most_processes, most_under_way, no_checkpoint, no_message}

pub record Sized (s : Run) : Type 0 where
  pub vectors : length s.vectors.0 ≡ most_processes
  pub vector_row : (p : ℕ) → p < most_processes → length (get_or s.vectors.0 p []) ≡ most_processes
  pub pins : length s.pins.0 ≡ most_processes
  pub pin_row : (p : ℕ) → p < most_processes → length (get_or s.pins.0 p []) ≡ most_processes
  pub sent : length s.sent ≡ most_processes
  pub kept : length s.kept.0 ≡ most_processes
  pub kept_row : (p : ℕ) → p < most_processes → length (get_or s.kept.0 p []) ≡ most_processes
  pub stored : (p k : ℕ) → p < most_processes → k < most_processes → length (get_or (get_or s.kept.0 p []) k no_checkpoint).vector ≡ most_processes
  pub kept_count : length s.kept_count ≡ most_processes
  pub messages : length s.messages ≡ most_under_way
  pub carried : (k : ℕ) → k < most_under_way → length (get_or s.messages k no_message).vector ≡ most_processes
