-- What saving and loading answer and leave, in each of their cases.
-- Assumes nothing.
use Rattle.std.specs.Prelude.{◌≡◌, ◌++◌, ◌+◌, ◌≤◌, ◌<◌}
use Rattle.laws.specs.Basics.{refl, ◌∙◌, true, false, List, Option, None, Some, ℕ, length, eq-eqb, ne_eqb, lt-ltb, le-ltb}
use Rattle.model.specs.declared.Refusal.TheVariants.{UnsoundState, ListTooShort}
use Rattle.model.specs.Sound.{sound}
use Rattle.whole_runs.specs.Outcomes.{accepting}
use Rattle.listing.specs.answers.Codes.{coded}
use Rattle.words.specs.Layout.{run_of}
use Rattle.library_readers.specs.{Readings.Reading, saved.Format.saved_bytes, saved.Format.words_in, saved.Format.is_whole}
use Rattle.library_readers.proofs.Readings.{refused_by, read, refused_by_lem, read_by}
use Rattle.library_readers.specs.saved.Saving.{saving, loaded_words, not_loaded, loaded_into, loading}

-- The answer and the list of an outcome.
pub answer_is : {r : Reading} {code : ℕ} {list : List ℕ} {q : Reading} → r ≡ q → code ≡ coded q.report 0 → list ≡ q.list → (code ≡ coded r.report 0) × (list ≡ r.list)
answer_is e a b = rw e (a, b)

module _ (w lent : List ℕ) where
  pub save_unsound : sound (run_of w) ≡ false → saving w lent ≡ refused_by UnsoundState lent
  unfolding saving
  save_unsound off = refused_by_lem _ _ _ lent UnsoundState (0, tt, rw off, refl)

  pub save_short : sound (run_of w) ≡ true → length lent < 12942 → saving w lent ≡ refused_by ListTooShort lent
  unfolding saving
  save_short on less = refused_by_lem _ _ _ lent ListTooShort (1, (rw on, tt), lt-ltb (length lent) 12942 less, refl)

  pub save_done : sound (run_of w) ≡ true → 12942 ≤ length lent → saving w lent ≡ read (Some 12942) (saved_bytes w) lent
  unfolding saving
  save_done on room = read_by _ _ _ lent (rw on, (le-ltb (length lent) 12942 room, tt))

other_room : (o : Option (List ℕ)) (lent : List ℕ) → (length lent ≡ 6464 → ⊥) → loaded_into o lent ≡ not_loaded lent
unfolding loaded_into
other_room None lent off = refl
other_room (Some w) lent off = rw (ne_eqb (length lent) 6464 off)

module _ (bytes lent : List ℕ) where
  pub load_room : (length lent ≡ 6464 → ⊥) → loading bytes lent ≡ not_loaded lent
  unfolding loading
  load_room off = other_room (loaded_words bytes) lent off

  pub load_broken : is_whole bytes ≡ false → loading bytes lent ≡ not_loaded lent
  unfolding loading loaded_words loaded_into
  load_broken off = rw off

  pub load_unsound : is_whole bytes ≡ true → sound (run_of (words_in bytes)) ≡ false → loading bytes lent ≡ not_loaded lent
  unfolding loading loaded_words loaded_into
  load_unsound on off = rw (on, off)

  pub load_done : length lent ≡ 6464 → is_whole bytes ≡ true → sound (run_of (words_in bytes)) ≡ true
      → loading bytes lent ≡ record { report = accepting None 0; list = words_in bytes }
  unfolding loading loaded_words loaded_into
  load_done room on sure = rw (on, sure, eq-eqb (length lent) 6464 room)
