-- Tests that must all hold, in any order and any grouping. The tests stand in a list, once; a conjunction names them by their places. It holds exactly if
-- every test of the list does, as long as it names them all: so two conjunctions of the same tests are the same.
use Rattle.std.specs.Prelude.{◌≡◌, refl, Bool, true, false, ◌&&◌, ◌||◌, List, [], ◌∷◌, ℕ, zero, suc, eqb, length, get_or}
use Rattle.std.proofs.Common.{sym, ◌∙◌, eqb-true}
use Rattle.laws.specs.Choice.{by_bool}
use Rattle.laws.specs.Elements.{same_test}
use Rattle.laws.specs.Rows.{every_by}
use Rattle.laws.specs.Search.{all_below, all_out}
use Rattle.laws.specs.Tests.{every, all_of}
use Rattle.laws.specs.Truth.{never_both, and_left, and_right, and_both, or_right}

pub data Conjunction : Type 0 where
  -- no test
  none : Conjunction
  -- the test at this place of the list
  test : ℕ → Conjunction
  ◌and◌ : Conjunction → Conjunction → Conjunction

infixl 30 ◌and◌
-- A list of tests, as `all_of` groups them.
unfoldable pub each : List Conjunction → Conjunction
each [] = none
each (f ∷ l) = f and each l

unfoldable pub holds : List Bool → Conjunction → Bool
holds tests none = true
holds tests (test k) = get_or tests k true
holds tests (f and g) = holds tests f && holds tests g

-- The conjunction names the test at place k.
unfoldable pub asks : Conjunction → ℕ → Bool
asks none k = false
asks (test j) k = eqb j k
asks (f and g) k = asks f k || asks g k

-- A conjunction that holds has each test that it names.
pub asked : (tests : List Bool) (f : Conjunction) (k : ℕ) → asks f k ≡ true → holds tests f ≡ true → get_or tests k true ≡ true
unfolding holds asks
asked tests none k a e = never_both false a refl
asked tests (test j) k a e = rw (← eqb-true j k a) e
asked tests (f and g) k a e = by_bool (asks f k)
    (λ q. asked tests f k q (and_left (holds tests f) (holds tests g) e))
    (λ q. asked tests g k (or_right (asks f k) (asks g k) q a) (and_right (holds tests f) (holds tests g) e))

at_each : (tests : List Bool) (k : ℕ) → all_of tests ≡ true → get_or tests k true ≡ true
unfolding every
at_each [] k e = refl
at_each (b ∷ l) zero e = and_left b (every (λ b. b) l) e
at_each (b ∷ l) (suc k) e = at_each l k (and_right b (every (λ b. b) l) e)

-- Where all tests hold, every conjunction of them does.
granted : (tests : List Bool) (f : Conjunction) → all_of tests ≡ true → holds tests f ≡ true
unfolding holds
granted tests none e = refl
granted tests (test k) e = at_each tests k e
granted tests (f and g) e = and_both (holds tests f) (holds tests g) (granted tests f e) (granted tests g e)

-- The law: a conjunction of all tests of a list holds exactly if every test of the list does.
pub conjunction : (tests : List Bool) (f : Conjunction) → all_below (length tests) (asks f) ≡ true → holds tests f ≡ all_of tests
conjunction tests f complete = same_test (holds tests f) (all_of tests)
    (λ e. every_by (λ b. b) tests true (λ k lt. asked tests f k (all_out (length tests) (asks f) complete k lt) e))
    (granted tests f)

-- Two conjunctions of all tests are the same.
pub same_tests : (tests : List Bool) (f g : Conjunction) → all_below (length tests) (asks f) ≡ true → all_below (length tests) (asks g) ≡ true → holds tests f ≡ holds tests g
same_tests tests f g all-f all-g = conjunction tests f all-f ∙ sym (conjunction tests g all-g)

-- Where a part fails, so does the whole.
pub part_fails : (tests : List Bool) (f : Conjunction) → holds tests f ≡ false → false ≡ all_of tests
part_fails tests f e = by_bool (all_of tests) (λ q. never_both (holds tests f) (granted tests f q) e) sym
