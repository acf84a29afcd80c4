-- What is judged of both halves before any record: the tests of the code and those of the model.
-- Assumes nothing.
use Rattle.std.specs.Prelude.{◌≡◌, ◌&&◌, ◌||◌, ◌∷◌, ◌-◌}
use Rattle.laws.specs.Basics.{refl, not, List, [], ℕ, arith, eqb, ltb, length, get_or}
use Rattle.std.proofs.lemmas.Bool.Decides.{nat_tests}
use Rattle.theory_merges.specs.Merge.{bad_count, count_of, after_first_byte}

-- The first byte, if there is one, and the bytes after it.
pub count_is : (l : List ℕ) → count_of l ≡ get_or l 0 0
unfolding count_of
count_is [] = refl
count_is (n ∷ l) = refl

pub after_first_is : (l : List ℕ) → length (after_first_byte l) ≡ length l - 1
unfolding after_first_byte
after_first_is [] = refl
after_first_is (n ∷ l) = omega arith

-- A count outside 1 to 16.
pub bad_is : (l : List ℕ) → bad_count l ≡ (not (eqb (length l) 0) && (eqb (count_of l) 0 || ltb 16 (count_of l)))
unfolding bad_count count_of
bad_is [] = refl
bad_is (n ∷ l) = grind (arith, nat_tests)
