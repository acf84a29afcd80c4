-- The words that the program is started with: decimal digits, and for the spacing one number or two with a hyphen between.
-- Assumes nothing.
use Rattle.std.specs.Prelude.{◌&&◌, ◌||◌, ◌+◌}
use Rattle.laws.specs.Basics.{Bool, true, false, List, ℕ, eqb, ltb, length, get_or, take, drop, pick}
use Rattle.laws.specs.Loops.{iter}
use Rattle.model.specs.Words.{most_processes}
use Rattle.machines.specs.programs.Numbers.{no_number, number_in}
use Rattle.theory_recording.specs.spacing.Spacing.{out_of_range, most_spacing, most_steps}
use Rattle.machine_simulate.specs.declared.{arguments.Spacings.Spacings, arguments.Numbers.Numbers}

-- The place of the first hyphen (45) of a word; its length where there is none.
unfoldable pub hyphen_or : ℕ → ℕ → ℕ → ℕ → ℕ
hyphen_or size i byte place = pick (eqb place size && eqb byte 45) i place

unfoldable pub hyphen_in_of : List ℕ → ℕ
hyphen_in_of word = iter (length word) (λ i place. hyphen_or (length word) i (get_or word i 0) place) (length word)

-- One spacing, or two with a hyphen between: a table of all from one to the other.
unfoldable pub spacings_in : List ℕ → Spacings
spacings_in word =
    let place = hyphen_in_of word in
    pick (eqb place (length word))
    (record { many = false; from = number_in (take place word); to = number_in (take place word) })
    (record { many = true; from = number_in (take place word); to = number_in (drop (place + 1) word) })

-- A word is none of what it must be: a number, and for the starting value one of 32 bits.
unfoldable pub is_wrong_of : ℕ → Spacings → ℕ → ℕ → Bool
is_wrong_of n s steps seed = eqb n no_number || eqb s.from no_number || eqb s.to no_number || eqb steps no_number || ltb 4294967295 seed

-- A table is refused: n, a spacing or the steps are out of range, or the first spacing is above the last.
unfoldable pub is_refused : ℕ → ℕ → ℕ → ℕ → Bool
is_refused n from to steps = out_of_range 1 most_processes n || out_of_range 1 most_spacing from || out_of_range 1 most_spacing to || out_of_range 1 most_steps steps || ltb to from

-- The numbers of the words, before any word is known and with one word more: word 1 is n, word 2 the spacings, word 3 the steps, word 4 the starting value.
abbrev pub no_numbers : Numbers
no_numbers = record { n = 0; spacings = record { many = false; from = 0; to = 0 }; steps = 0; seed = 0 }

unfoldable pub with_word : ℕ → Numbers → List ℕ → Numbers
with_word i k word =
    pick (eqb i 1) (record { n = number_in word; spacings = k.spacings; steps = k.steps; seed = k.seed })
    (pick (eqb i 2) (record { n = k.n; spacings = spacings_in word; steps = k.steps; seed = k.seed })
    (pick (eqb i 3) (record { n = k.n; spacings = k.spacings; steps = number_in word; seed = k.seed })
    (record { n = k.n; spacings = k.spacings; steps = k.steps; seed = number_in word })))

-- The numbers of four words.
unfoldable pub numbers_in : List ℕ → List ℕ → List ℕ → List ℕ → Numbers
numbers_in one two three four = record { n = number_in one; spacings = spacings_in two; steps = number_in three; seed = number_in four }
