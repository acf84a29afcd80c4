-- What follows from the clauses of a sound state: places for what it holds, and the live state after the kept checkpoints.
-- Assumes nothing.
use Rattle.std.specs.Prelude.{◌≡◌, ◌≤◌, ◌<◌}
use Rattle.laws.specs.Basics.{true, ℕ, arith, get_or}
use Rattle.model.specs.declared.Run.{Run}
use Rattle.model.specs.{Words.most_processes, Sound.sound, laws.Sound.sound_state}

module _ (s : Run) (h : sound s ≡ true) where
  -- there is a place for each process of the run
  pub place : (p : ℕ) → p < s.count → p < most_processes
  place p lt = omega (arith, (sound_state s h).count_most)

  module _ (p : ℕ) (lt : p < s.count) where
    -- no more checkpoints are kept than there are places
    pub kept_count_places : get_or s.kept_count p 0 ≤ most_processes
    kept_count_places = omega (arith, ((sound_state s h).processes p lt).kept_count_most, (sound_state s h).count_most)
