-- Whether a record has room in a trace of n bytes after the first byte and k records: decided by a count that stops at the largest number, so that nothing wraps.
-- Assumes nothing.
use Rattle.std.specs.Prelude.{◌≡◌, ◌+◌, ◌*◌, ◌≤◌, ◌<◌, min}
use Rattle.laws.specs.Basics.{true, List, ℕ, arith, leb, length, le-leb, lt-leb, leb-true, leb-false, by_bool, sym, ◌∙◌}
use Rattle.trace.specs.{Answers.record_at, reader.Reading.record_left_of}

abbrev most : ℕ
most = 18446744073709551615

-- The bytes that a record needs, by the count that stops.
pub room_by : (n k a b : ℕ) → a ≡ min (k * 4) most → b ≡ min (a + 5) most → n < most → leb b n ≡ leb (1 + 4 * k + 4) n
room_by n k a b e f h =
    by_bool (leb (1 + 4 * k + 4) n)
    (λ t. le-leb b n (omega (arith, leb-true (1 + 4 * k + 4) n t)) ∙ sym t)
    (λ t. lt-leb b n (omega (arith, leb-false (1 + 4 * k + 4) n t)) ∙ sym t)

-- The record is the same, found by the count that stops.
pub record_by : (trace : List ℕ) (k a b : ℕ) → a ≡ min (k * 4) most → b ≡ min (a + 1) most → length trace < most → record_at trace b ≡ record_at trace (1 + 4 * k)
unfolding record_at
record_by trace k a b e f h =
    by_bool (leb (1 + 4 * k + 4) (length trace))
    (λ t. let same : b ≡ 1 + 4 * k = omega (arith, leb-true (1 + 4 * k + 4) (length trace) t) in rw same)
    (λ t. rw (t, lt-leb (b + 4) (length trace) (omega (arith, leb-false (1 + 4 * k + 4) (length trace) t))))

-- Where a record is left the count is small.
pub room_left : (trace : List ℕ) (k : ℕ) → record_left_of trace k ≡ true → 1 + 4 * k + 4 ≤ length trace
unfolding record_left_of
room_left trace k e = leb-true (1 + 4 * k + 4) (length trace) e
