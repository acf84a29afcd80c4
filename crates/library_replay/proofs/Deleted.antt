-- The text of deletions that were written to the front of a list: it is the same whatever the list held, where the list is long enough.
-- Assumes nothing.
use Rattle.std.specs.Prelude.{◌≡◌, ◌∷◌, ◌++◌, ◌+◌, ◌*◌, ◌≤◌}
use Rattle.laws.specs.Basics.{refl, sym, ◌∙◌, ap, List, [], ℕ, arith, length, drop, sets}
use lib.Seq.{sets-eq}
use Rattle.model.specs.Steps.{Deletion}
use Rattle.whole_runs.specs.{Outcomes.pairs, Listing.deletions_text, Listing.decimal, Listing.space, Listing.colon}

-- two numbers for each
pairs_many : (ds : List Deletion) → length (pairs ds) ≡ 2 * length ds
unfolding pairs
pairs_many [] = refl
pairs_many (d ∷ ds) = omega (arith, pairs_many ds)

-- what lies past the pairs is not read
past_unread : (ds : List Deletion) (l m : List ℕ) → deletions_text (length ds) (pairs ds ++ l) ≡ deletions_text (length ds) (pairs ds ++ m)
unfolding pairs deletions_text
past_unread [] l m = refl
past_unread (d ∷ ds) l m = ap (λ (r : List ℕ). space ∷ (decimal d.process ++ (colon ∷ (decimal d.index.0 ++ r)))) (past_unread ds l m)

pub deleted_text : (ds : List Deletion) (l m : List ℕ) → 2 * length ds ≤ length l → 2 * length ds ≤ length m
    → deletions_text (length ds) (sets l 0 (pairs ds)) ≡ deletions_text (length ds) (sets m 0 (pairs ds))
deleted_text ds l m b c =
    ap (deletions_text (length ds)) (sets-eq (pairs ds) l 0 (omega (arith, pairs_many ds)))
    ∙ past_unread ds (drop (0 + length (pairs ds)) l) (drop (0 + length (pairs ds)) m)
    ∙ sym (ap (deletions_text (length ds)) (sets-eq (pairs ds) m 0 (omega (arith, pairs_many ds))))
