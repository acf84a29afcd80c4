-- The checkpoints that are listed to a caller, by the words: of one process, and of the first ones.
-- Assumes nothing.
use Rattle.laws.specs.Basics.{List, [], ℕ, pick}
use Rattle.laws.specs.Lists.{table, gather}
use Rattle.model.specs.Steps.{Deletion, listed}
use Rattle.words.specs.Layout.{word, kept_count_at_of, checkpoint_in}
use Rattle.theory_roles.specs.declared.Role.{Role}
use Rattle.theory_roles.specs.Console.{entitled_by}

unfoldable pub listed_of : Role → ℕ → ℕ → List ℕ → ℕ → List Deletion
listed_of r owned n w p = pick (entitled_by r owned n p) (listed p (table (word w (kept_count_at_of p)) (checkpoint_in w p))) []

unfoldable pub listed_below : Role → ℕ → ℕ → List ℕ → ℕ → List Deletion
listed_below r owned n w q = gather q (listed_of r owned n w)
