-- Words put in place. A put fills a section, given by its place and its size; what a call leaves of the words is a list of puts, done one after the other.
-- Assumes nothing.
use Rattle.std.specs.Prelude.{◌∷◌, ◌+◌, ◌/◌, ◌%◌}
use Rattle.laws.specs.Basics.{List, [], ℕ, zero, suc, get_or, set}
use Rattle.model.specs.declared.Interval.{Interval}
use Rattle.model.specs.Words.{most_processes, entry}

pub record Put : Type 0 where
  pub at : ℕ
  pub size : ℕ
  pub fill : ℕ → ℕ

-- fill 0, fill 1, .., fill (n - 1) from a place on
unfoldable pub put_from : List ℕ → ℕ → ℕ → (ℕ → ℕ) → List ℕ
put_from w at zero fill = w
put_from w at (suc n) fill = set (put_from w at n fill) (at + n) (fill n)

abbrev pub puts : List ℕ → List Put → List ℕ
puts w [] = w
puts w (p ∷ l) = puts (put_from w p.at p.size p.fill) l

-- One word; 16 words, given as words, as a vector, or zero.
abbrev pub one : ℕ → ℕ → Put
one at x = record { at = at; size = 1; fill = λ f. x }

abbrev pub row_put : ℕ → List ℕ → Put
row_put at r = record { at = at; size = most_processes; fill = λ f. get_or r f 0 }

abbrev pub vector_put : ℕ → List Interval → Put
vector_put at v = record { at = at; size = most_processes; fill = λ f. (entry v f).0 }

abbrev pub zero_put : ℕ → Put
zero_put at = record { at = at; size = most_processes; fill = λ f. 0 }

-- A number in two words and in four, the lowest word first.
abbrev pub puts2 : ℕ → ℕ → List Put
puts2 at x = one at (x % 65_536) ∷ one (at + 1) (x / 65_536) ∷ []

abbrev pub puts4 : ℕ → ℕ → List Put
puts4 at x =
    one at (x % 65_536) ∷ one (at + 1) (x / 65_536 % 65_536) ∷ one (at + 2) (x / 4_294_967_296 % 65_536) ∷ one (at + 3) (x / 281_474_976_710_656) ∷ []
