-- The pins of one process after a recovery, as rows of words.
-- Assumes nothing.
use Rattle.laws.specs.Basics.{List, ℕ, zero, suc, eqb, get_or, replicate, pick}
use Rattle.laws.specs.Lists.{table}
use Rattle.model.specs.declared.Interval.{Interval}
use Rattle.model.specs.Words.{most_processes, entry, below}
use Rattle.words.specs.Layout.{word, index_at_of, stored_at, vector_in}

-- "a pin for f whose vector entry is not own(f) becomes none"
unfoldable pub known_row : List Interval → List Interval → List ℕ → List ℕ
known_row vector owns pins = table most_processes (λ f. pick (eqb (entry vector f).0 (entry owns f).0) (get_or pins f 0) 0)

-- "the latest checkpoint with entry f below own(f)": with one checkpoint more, later than those before it; and of the first ones that process p keeps.
unfoldable pub found_row : List ℕ → List Interval → List Interval → ℕ → List ℕ
found_row found vector owns x = table most_processes (λ f. pick (below (entry vector f) (entry owns f)) x (get_or found f 0))

unfoldable pub found_in_of : List ℕ → List Interval → ℕ → ℕ → List ℕ
found_in_of w owns p zero = replicate most_processes 0
found_in_of w owns p (suc k) = found_row (found_in_of w owns p k) (vector_in w (stored_at p k)) owns (word w (index_at_of p k))
