-- Tests of a row, by its entries.
-- Assumes nothing.
use Rattle.std.specs.Prelude.{◌≡◌, ◌<◌}
use Rattle.laws.specs.Basics.{true, not, false≢true, List, arith, eqb, ltb, length, eq-eqb, ltb-true, by_eq}
use Rattle.laws.specs.{Truth.and_out, Elements.same_test, Rows.every_at, Rows.every_by, Search.all_below, Search.all_in, Search.all_out}
use Rattle.model.specs.declared.{Message.Message, Interval.Interval, CheckpointIndex.CheckpointIndex}
use Rattle.model.specs.{Words.entry, Sound.zero_from}
use Rattle.library_calls.specs.run_words.Fits.{index_fits, message_fits}

-- The entries of a vector are all zero.
pub zero_all : (v : List Interval) → length v ≡ 16 → all_below 16 (λ q. eqb (entry v q).0 0) ≡ zero_from 0 v
unfolding zero_from
zero_all v long = same_test _ _
    (λ e. every_by (λ (x : Interval). eqb x.0 0) v (record { 0 = 0 }) (λ k lt. all_out 16 (λ q. eqb (entry v q).0 0) e k (omega arith)))
    (λ e. all_in 16 (λ q. eqb (entry v q).0 0) (λ k lt. every_at (λ (x : Interval). eqb x.0 0) v k (record { 0 = 0 }) (omega arith) e))

-- A message that fits: its sender and its receiver are words.
pub message_words : (x : Message) → message_fits x ≡ true → (x.sender < 65536) × (x.receiver < 65536)
unfolding message_fits
message_words x fit =
    let b = and_out _ (ltb x.receiver 65_536) fit in
    let a = and_out (not (eqb x.number 0)) (ltb x.sender 65_536) b.0 in
    (ltb-true x.sender 65_536 a.1, ltb-true x.receiver 65_536 b.1)

-- An index of 16 bits that fits its word.
pub index_below : (a : CheckpointIndex) → a.0 < 65536 → index_fits a ≡ true → a.0 < 65535
unfolding index_fits
index_below a small fit = by_eq a.0 65535
    (λ e. absurd (false≢true (rw (eq-eqb a.0 65535 e) at fit)))
    (λ ne. omega arith)
