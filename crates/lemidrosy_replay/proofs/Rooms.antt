-- Whether a list that the replay is lent is too short.
-- Assumes nothing.
use Rattle.std.specs.Prelude.{◌≡◌, ◌≤◌, ◌<◌}
use Rattle.laws.specs.Basics.{sym, ◌∙◌, ap, Bool, true, false, not, ℕ, lt-ltb, le-ltb}
use Rattle.lemidrosy_replay.specs.Steps.{lacks_room_of}

module _ (memory : ℕ) (room : Bool) where
  pub few_numbers : memory < 6 → lacks_room_of memory room ≡ true
  unfolding lacks_room_of
  few_numbers h = rw (lt-ltb memory 6 h)

  pub other_room : 6 ≤ memory → (tested b : Bool) → tested ≡ room → not tested ≡ b → lacks_room_of memory room ≡ b
  unfolding lacks_room_of
  other_room h tested b same e = rw (le-ltb memory 6 h) (ap not (sym same) ∙ e)
