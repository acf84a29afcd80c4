-- A block of records for C: a progress that is too short, and one that is not.
-- Assumes nothing.
use Rattle.std.specs.Prelude.{◌≡◌, ◌∷◌, ◌≤◌, ◌<◌}
use Rattle.laws.specs.Basics.{refl, ◌∙◌, Bool, List, [], ℕ, length, sets, lt-ltb, le-ltb, pick}
use Rattle.model.specs.declared.Run.{Run}
use Rattle.model.specs.Refusals.{number}
use Rattle.listing.specs.answers.Codes.{coded, value_code_of}
use Rattle.library_replay.specs.Taken.{block_outcome}
use Rattle.lemidrosy_replay.specs.Replaying.{replaying}

module _ (all : Bool) (done : ℕ) (s : Run) (records text progress : List ℕ) where
  abbrev Leads : ℕ → Run → List ℕ → List ℕ → Type 0
  Leads code run now-text now-progress =
      (code ≡ coded (replaying all done s records text progress).report 0) × (run ≡ (replaying all done s records text progress).run)
      × (now-text ≡ (replaying all done s records text progress).text) × (now-progress ≡ (replaying all done s records text progress).progress)

  pub too_short : length progress < 3 → Leads 3 s text progress
  unfolding replaying coded value_code_of number
  too_short lt = rw (lt-ltb (length progress) 3 lt) (refl, refl, refl, refl)

  pub long_enough : 3 ≤ length progress → (taken many : ℕ) (going : Bool) (run : Run) (now-text now-progress : List ℕ)
      → taken ≡ (block_outcome all done s records (length text)).taken → many ≡ length (block_outcome all done s records (length text)).lines
      → going ≡ (block_outcome all done s records (length text)).going → now-text ≡ sets text 0 (block_outcome all done s records (length text)).lines
      → run ≡ (block_outcome all done s records (length text)).run → now-progress ≡ sets progress 0 (taken ∷ many ∷ pick going 1 0 ∷ [])
      → Leads 0 run now-text now-progress
  unfolding replaying coded value_code_of
  long_enough le taken many going run now-text now-progress a b c d e f = rw (le-ltb (length progress) 3 le) (refl, e, d, f ∙ rw (a, b, c))
