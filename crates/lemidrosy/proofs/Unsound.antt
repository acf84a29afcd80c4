-- What every reader answers to a state that is not sound.
-- Assumes nothing.
use Rattle.std.specs.Prelude.{◌≡◌, ◌∷◌}
use Rattle.laws.specs.Basics.{refl, false, List, [], Option, Some, ℕ}
use Rattle.model.specs.declared.{Run.Run, Refusal.TheVariants.UnsoundState}
use Rattle.model.specs.{Sound.sound, Refusals.number, Refusals.Rule, Refusals.unsound, laws.Refusals.refusal_in}
use Rattle.listing.specs.answers.Codes.{coded, value_code_of}
use Rattle.library_readers.specs.Readings.{Reading, reading, numbers_reading, vector_reading, pins_reading, kept_reading, messages_reading, carried_reading, lost_reading}

-- A reading that answers 2 and leaves the lent list.
abbrev pub Refuses : Reading → List ℕ → Type 0
Refuses r lent = (2 ≡ coded r.report 0) × (lent ≡ r.list)

module _ (s : Run) (off : sound s ≡ false) where
  refuses : (rules : List Rule) (value : Option ℕ) (numbers lent : List ℕ) → Refuses (reading (unsound s ∷ rules) value numbers lent) lent
  unfolding reading coded value_code_of number
  refuses rules value numbers lent = rw (refusal_in (unsound s ∷ rules) (Some UnsoundState) (0, tt, rw off, refl)) (refl, refl)

  pub numbers_unsound : (lent : List ℕ) → Refuses (numbers_reading s lent) lent
  unfolding numbers_reading
  numbers_unsound lent = refuses _ _ _ lent

  pub vector_unsound : (p : ℕ) (lent : List ℕ) → Refuses (vector_reading s p lent) lent
  unfolding vector_reading
  vector_unsound p lent = refuses _ _ _ lent

  pub pins_unsound : (p : ℕ) (lent : List ℕ) → Refuses (pins_reading s p lent) lent
  unfolding pins_reading
  pins_unsound p lent = refuses _ _ _ lent

  pub kept_unsound : (p : ℕ) (lent : List ℕ) → Refuses (kept_reading s p lent) lent
  unfolding kept_reading
  kept_unsound p lent = refuses _ _ _ lent

  pub messages_unsound : (lent : List ℕ) → Refuses (messages_reading s lent) lent
  unfolding messages_reading
  messages_unsound lent = refuses _ _ _ lent

  pub carried_unsound : (m : ℕ) (lent : List ℕ) → Refuses (carried_reading s m lent) lent
  unfolding carried_reading
  carried_unsound m lent = refuses _ _ _ lent

  pub lost_unsound : (F : ℕ) (lent : List ℕ) → Refuses (lost_reading s F lent) lent
  unfolding lost_reading
  lost_unsound F lent = refuses _ _ _ lent
