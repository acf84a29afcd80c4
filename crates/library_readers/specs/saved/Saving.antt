-- What it answers and leaves to save the state that words stand for, and to load words from bytes, any at all. The bytes are those of specs/Format.
-- proofs/Promises has the two theorems.
-- Assumes nothing.
use Rattle.std.specs.Prelude.{◌≡◌, ◌&&◌, ◌∷◌, ◌++◌, ◌≤◌}
use Rattle.laws.specs.Basics.{true, List, [], Option, None, Some, ℕ, eqb, length, pick}
use Rattle.model.specs.declared.Refusal.TheVariants.{UnsoundState}
use Rattle.model.specs.{Sound.sound, Refusals.unsound}
use Rattle.whole_runs.specs.Outcomes.{refusing, accepting}
use Rattle.words.specs.Layout.{state_size, run_of}
use Rattle.library_readers.specs.{Readings.Reading, Readings.reading, Readings.short, saved.Castagnoli.Bytes}
use Rattle.library_readers.specs.saved.Format.{saved_size, saved_bytes, words_in, is_whole}

-- 2 if the words stand for no sound state, 3 if there is room for fewer bytes than are saved; else the bytes go to the front of the lent ones, and the value says how
-- many they are.
unfoldable pub saving : List ℕ → List ℕ → Reading
saving w lent = reading (unsound (run_of w) ∷ short saved_size lent ∷ []) (Some saved_size) (saved_bytes w) lent

-- The words that bytes give: bytes that are whole, of words that stand for a sound state.
unfoldable pub loaded_words : List ℕ → Option (List ℕ)
loaded_words bytes = pick (is_whole bytes && sound (run_of (words_in bytes))) (Some (words_in bytes)) None

-- 2 if the bytes give no words, or if room for another number of words is lent: then no word is written. Else the lent words are those.
abbrev pub not_loaded : List ℕ → Reading
not_loaded lent = record { report = refusing UnsoundState; list = lent }

unfoldable pub loaded_into : Option (List ℕ) → List ℕ → Reading
loaded_into None lent = not_loaded lent
loaded_into (Some w) lent = pick (eqb (length lent) state_size) (record { report = accepting None 0; list = w }) (not_loaded lent)

unfoldable pub loading : List ℕ → List ℕ → Reading
loading bytes lent = loaded_into (loaded_words bytes) lent

-- What was saved is loaded, every word of it.
unfoldable pub SavedIsLoaded : List ℕ → Type 0
SavedIsLoaded w = sound (run_of w) ≡ true → loaded_words (saved_bytes w) ≡ Some w

-- Bytes that give words were saved from them: a state has one file. The words stand for a sound state. Where up to four bytes in a row are changed, the bytes give no
-- words.
unfoldable pub LoadedWasSaved : List ℕ → Type 0
LoadedWasSaved bytes = Bytes bytes → (w : List ℕ) → loaded_words bytes ≡ Some w
    → (bytes ≡ saved_bytes w) × (sound (run_of w) ≡ true)
    × ((before l m rest : List ℕ) → bytes ≡ before ++ l ++ rest → Bytes m → length l ≡ length m → length l ≤ 4 → (l ≡ m → ⊥) → loaded_words (before ++ m ++ rest) ≡ None)
