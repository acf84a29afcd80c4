-- The number that a word is, by its decimal digits, and how 64 bits stand for it: no number is cut short.
-- Assumes nothing.
use Rattle.std.specs.Prelude.{◌+◌, ◌-◌, ◌*◌}
use Rattle.laws.specs.Basics.{List, Option, None, Some, ℕ, eqb, ltb, length, get_or, pick}
use Rattle.laws.specs.Loops.{iter}

-- One digit more, in ASCII: 48 to 57. A byte that is no digit makes a word that is no number.
unfoldable pub grown : Option ℕ → ℕ → Option ℕ
grown None byte = None
grown (Some value) byte = pick (ltb byte 48) None (pick (ltb 57 byte) None (Some (value * 10 + (byte - 48))))

-- All of a word, however long. One without a digit is no number.
unfoldable pub decimal_in : List ℕ → Option ℕ
decimal_in word = pick (eqb (length word) 0) None (iter (length word) (λ i value. grown value (get_or word i 0)) (Some 0))

-- Every number that 32 bits do not hold, and a word that is no number.
abbrev pub too_great : ℕ
too_great = 4294967296

abbrev pub no_number : ℕ
no_number = 4294967297

-- What stands for a word: its number, where 32 bits hold it.
unfoldable pub stands_for : Option ℕ → ℕ
stands_for None = no_number
stands_for (Some value) = pick (ltb 4294967295 value) too_great value

unfoldable pub number_in : List ℕ → ℕ
number_in word = stands_for (decimal_in word)

-- A number of 32 bits: the greatest for every greater one.
unfoldable pub at_most : ℕ → ℕ
at_most x = pick (ltb 4294967295 x) 4294967295 x
