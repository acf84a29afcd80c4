-- What was saved is loaded; and bytes that are loaded were saved, and with up to four in a row changed they are not loaded.
-- Assumes nothing.
use Rattle.std.specs.Prelude.{◌≡◌, ◌&&◌, ◌++◌}
use Rattle.laws.specs.Basics.{refl, ◌∙◌, ap, Bool, true, false, List, None, Some, ℕ, arith, pick, by_bool}
use Rattle.laws.specs.Truth.{and_left, and_right}
use Rattle.model.specs.Sound.{sound}
use Rattle.words.specs.Layout.{run_of}
use Rattle.words.proofs.ViewSound.{sound_words}
use Rattle.library_readers.specs.saved.Format.{saved_bytes, words_in, is_whole}
use Rattle.library_readers.proofs.saved.Back.{saved_words, saved_whole, whole_saved, four_changed}
use Rattle.library_readers.specs.saved.Saving.{loaded_words, SavedIsLoaded, LoadedWasSaved}

pub saved_is_loaded : (w : List ℕ) → SavedIsLoaded w
unfolding SavedIsLoaded loaded_words
saved_is_loaded w h =
    let size = (sound_words w h).size in
    rw (saved_whole w size, saved_words w size, h)

-- What it takes for bytes to give words.
given : (test : Bool) (v w : List ℕ) → pick test (Some v) None ≡ Some w → (test ≡ true) × (v ≡ w)
given true v w e = (refl, cc)
given false v w e = let never : ◌≡◌ {A = ℕ} 0 1 = cc in absurd (omega arith)

-- Bytes that are not whole give none.
broken : (bytes : List ℕ) → is_whole bytes ≡ false → loaded_words bytes ≡ None
unfolding loaded_words
broken bytes off = rw off

pub loaded_was_saved : (bytes : List ℕ) → LoadedWasSaved bytes
unfolding LoadedWasSaved loaded_words
loaded_was_saved bytes small w e =
    let found = given (is_whole bytes && sound (run_of (words_in bytes))) (words_in bytes) w e in
    let whole = and_left (is_whole bytes) _ found.0 in
    let sure = and_right (is_whole bytes) (sound (run_of (words_in bytes))) found.0 in (
      whole_saved bytes small whole ∙ ap saved_bytes found.1,
      rw found.1 at sure,
      λ before l m rest cut others same few off. broken (before ++ m ++ rest) (by_bool (is_whole (before ++ m ++ rest))
          (λ again. absurd (off (four_changed before l m rest (rw cut at small) others same few (rw cut at whole) again)))
          (λ q. q)),
    )
