-- A report that fits is read back from its number, and so is the set that rose: no two answers have the same number.
-- Assumes nothing.
use Rattle.std.specs.Prelude.{◌≡◌, ◌+◌, ◌*◌, ◌/◌, ◌%◌, ◌<◌}
use Rattle.laws.specs.Basics.{refl, Option, None, Some, ℕ, arith}
use Rattle.whole_runs.specs.Outcomes.{Report}
use Rattle.listing.specs.answers.Codes.{value_code_of, coded, Fits, value_of, report_of, rose_of}

-- The fields as numbers: a code is refused + 256 * deletions + 8,388,608 * given + 16,777,216 * value + 281,474,976,710,656 * rose.
module _ (refused deletions given value rose : ℕ) (a : refused < 256) (b : deletions < 32_768) (c : given < 2) (d : value < 16_777_216) where
  abbrev code : ℕ
  code = refused + 256 * deletions + (8_388_608 * given + 16_777_216 * value) + 281_474_976_710_656 * rose

  refused_back : code % 256 ≡ refused
  refused_back = omega arith

  deletions_back : code / 256 % 32_768 ≡ deletions
  deletions_back = omega arith

  given_back : code / 8_388_608 % 2 ≡ given
  given_back = omega arith

  value_back : code / 16_777_216 % 16_777_216 ≡ value
  value_back = omega arith

  rose_back : code / 281_474_976_710_656 ≡ rose
  rose_back = omega arith

back : (refused deletions : ℕ) (value : Option ℕ) (rose : ℕ) → refused < 256 → deletions < 32_768 → ((v : ℕ) → value ≡ Some v → v < 16_777_216)
    → (report_of (coded (record { refused = refused; value = value; deletions = deletions }) rose) ≡ record { refused = refused; value = value; deletions = deletions })
    × (rose_of (coded (record { refused = refused; value = value; deletions = deletions }) rose) ≡ rose)
unfolding report_of rose_of value_of coded value_code_of
back refused deletions None rose a b c =
    let low : 0 < 2 = omega arith in
    let small : 0 < 16_777_216 = omega arith in (
      rw (refused_back refused deletions 0 0 rose a b low small, deletions_back refused deletions 0 0 rose a b low small, given_back refused deletions 0 0 rose a b low small) refl,
      rose_back refused deletions 0 0 rose a b low small,
    )
back refused deletions (Some v) rose a b c =
    let low : 1 < 2 = omega arith in
    let small = c v refl in (
      rw (
        refused_back refused deletions 1 v rose a b low small,
        deletions_back refused deletions 1 v rose a b low small,
        given_back refused deletions 1 v rose a b low small,
        value_back refused deletions 1 v rose a b low small,
      ) refl,
      rose_back refused deletions 1 v rose a b low small,
    )

pub report_back : (r : Report) (rose : ℕ) → Fits r → report_of (coded r rose) ≡ r
report_back r rose f = (back r.refused r.deletions r.value rose f.refused f.deletions f.value).0
