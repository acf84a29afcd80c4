-- A reader hands on the four-byte parts of its trace, in their order, each once, and stops at the left-over bytes.
-- Assumes nothing.
use Rattle.std.specs.Prelude.{◌≡◌, ◌∷◌, ◌++◌, ◌+◌, ◌*◌, ◌≤◌, ◌<◌}
use Rattle.laws.specs.Basics.{refl, sym, ◌∙◌, ap, Bool, true, false, List, [], ℕ, zero, suc, arith, eqb, length, take, drop, length-drop, leb-true, leb-false, by_bool}
use lib.Seq.{drop-drop}
use denote.Ref.{Bor}
use Rattle.laws.specs.Tests.{every}
use Rattle.model.specs.declared.Run.{Run}
use Rattle.model.specs.Trace.{decoded}
use Rattle.whole_runs.specs.Listing.{perform, records, state_after_records}
use Rattle.trace.specs.Answers.{record_at}
use Rattle.trace.specs.declared.reader.Reader.{Reader}
use Rattle.trace.specs.reader.Reading.{record_after_of, record_left_of, taken_after, new_reader, reader_after}
use Rattle.trace.specs.reader.Whole.{handed_on, advanced_by, parts, parts_left, left_over_of, joined, lines_of_parts, state_after_parts, Partition, ReadsWhole, RecordByRecord}
use Rattle.trace.proofs.reader.Fours.{at_least_four, under_four}

-- Bytes of a record or more, and fewer.
parts_more : (l : List ℕ) → 4 ≤ length l → parts l ≡ take 4 l ∷ parts (drop 4 l)
unfolding parts
parts_more = at_least_four (λ l. parts l ≡ take 4 l ∷ parts (drop 4 l)) (λ a b c d l. refl)

left_more : (l : List ℕ) → 4 ≤ length l → left_over_of l ≡ left_over_of (drop 4 l)
unfolding left_over_of
left_more = at_least_four (λ l. left_over_of l ≡ left_over_of (drop 4 l)) (λ a b c d l. refl)

no_parts : (l : List ℕ) → length l < 4 → parts l ≡ []
unfolding parts
no_parts = under_four (λ l. parts l ≡ []) refl (λ a. refl) (λ a b. refl) (λ a b c. refl)

all_left : (l : List ℕ) → length l < 4 → left_over_of l ≡ l
unfolding left_over_of
all_left = under_four (λ l. left_over_of l ≡ l) refl (λ a. refl) (λ a b. refl) (λ a b c. refl)

-- The parts and the left-over bytes are the bytes.
nothing_lost : (l : List ℕ) → joined (parts l) ++ left_over_of l ≡ l
unfolding parts left_over_of joined
nothing_lost [] = refl
nothing_lost (a ∷ []) = refl
nothing_lost (a ∷ b ∷ []) = refl
nothing_lost (a ∷ b ∷ c ∷ []) = refl
nothing_lost (a ∷ b ∷ c ∷ d ∷ l) = ap (λ (t : List ℕ). a ∷ b ∷ c ∷ d ∷ t) (nothing_lost l)

four_bytes : (l : List ℕ) → every (λ p. eqb (length p) 4) (parts l) ≡ true
unfolding parts every
four_bytes [] = refl
four_bytes (a ∷ []) = refl
four_bytes (a ∷ b ∷ []) = refl
four_bytes (a ∷ b ∷ c ∷ []) = refl
four_bytes (a ∷ b ∷ c ∷ d ∷ l) = four_bytes l

fewer_than_four : (l : List ℕ) → length (left_over_of l) < 4
unfolding left_over_of
fewer_than_four [] = omega arith
fewer_than_four (a ∷ []) = omega arith
fewer_than_four (a ∷ b ∷ []) = omega arith
fewer_than_four (a ∷ b ∷ c ∷ []) = omega arith
fewer_than_four (a ∷ b ∷ c ∷ d ∷ l) = fewer_than_four l

-- What the model says of the bytes, it says of the parts.
same_lines : (l : List ℕ) (all : Bool) (done : ℕ) (s : Run) → records all done s l ≡ lines_of_parts all done s (parts l) (left_over_of l)
unfolding parts left_over_of records lines_of_parts
same_lines [] all done s = refl
same_lines (a ∷ []) all done s = refl
same_lines (a ∷ b ∷ []) all done s = refl
same_lines (a ∷ b ∷ c ∷ []) all done s = refl
same_lines (a ∷ b ∷ c ∷ d ∷ l) all done s = rw (same_lines l all (done + 1) (perform s (decoded (a ∷ b ∷ c ∷ d ∷ []))).run)

same_state : (l : List ℕ) (s : Run) → state_after_records s l ≡ state_after_parts s (parts l)
unfolding parts state_after_records state_after_parts
same_state [] s = refl
same_state (a ∷ []) s = refl
same_state (a ∷ b ∷ []) s = refl
same_state (a ∷ b ∷ c ∷ []) s = refl
same_state (a ∷ b ∷ c ∷ d ∷ l) s = same_state l (perform s (decoded (a ∷ b ∷ c ∷ d ∷ []))).run

partition : (l : List ℕ) → Partition l
partition l = record {
  nothing_lost = nothing_lost l;
  four_bytes = four_bytes l;
  fewer_than_four = fewer_than_four l;
  same_lines = same_lines l;
  same_state = same_state l;
}

-- A reader of one trace that has taken j records, and the bytes after it.
module _ (s : Bor (List ℕ)) where
  abbrev at : ℕ → Reader
  at j = record { trace = s; taken = j }

  abbrev after_records : ℕ → List ℕ
  after_records j = drop (1 + 4 * j) s.now

  after_next : (j : ℕ) → drop 4 (after_records j) ≡ after_records (j + 1)
  after_next j =
      let e : 1 + 4 * j + 4 ≡ 1 + 4 * (j + 1) = omega arith in
      drop-drop 4 (1 + 4 * j) s.now ∙ ap (λ (m : ℕ). drop m s.now) e

  -- A record is left: one iteration hands it on.
  module _ (j : ℕ) (left : record_left_of s.now j ≡ true) where
    room : 4 ≤ length (after_records j)
    unfolding record_left_of
    room = omega (arith, leb-true (1 + 4 * j + 4) (length s.now) left, length-drop (1 + 4 * j) s.now)

    next_parts : parts (after_records j) ≡ take 4 (after_records j) ∷ parts (after_records (j + 1))
    next_parts = parts_more (after_records j) room ∙ ap (λ (l : List ℕ). take 4 (after_records j) ∷ parts l) (after_next j)

    next_left : left_over_of (after_records j) ≡ left_over_of (after_records (j + 1))
    next_left = left_more (after_records j) room ∙ ap left_over_of (after_next j)

    next_at : reader_after (at j) ≡ at (j + 1)
    unfolding reader_after taken_after
    next_at = rw left

    next_handed : (k : ℕ) → handed_on (suc k) (at j) ≡ take 4 (after_records j) ∷ handed_on k (at (j + 1))
    unfolding handed_on record_left_of record_after_of record_at
    next_handed k = rw (left, next_at)

  -- None is left: an iteration hands on nothing and takes nothing.
  module _ (j : ℕ) (none_left : record_left_of s.now j ≡ false) where
    no_room : length (after_records j) < 4
    unfolding record_left_of
    no_room = omega (arith, leb-false (1 + 4 * j + 4) (length s.now) none_left, length-drop (1 + 4 * j) s.now)

    stays_at : reader_after (at j) ≡ at j
    unfolding reader_after taken_after
    stays_at = rw none_left

    stopped : (k : ℕ) → advanced_by k (at j) ≡ at j
    unfolding advanced_by
    stopped zero = refl
    stopped (suc k) = ap (advanced_by k) stays_at ∙ stopped k

    none_handed : (k : ℕ) → handed_on k (at j) ≡ []
    unfolding handed_on
    none_handed zero = refl
    none_handed (suc k) = rw none_left

    count_none : j + length (parts (after_records j)) ≡ j
    count_none = omega (arith, ap length (no_parts (after_records j) no_room))

    ends_here : after_records (j + length (parts (after_records j))) ≡ left_over_of (after_records j)
    ends_here = ap after_records count_none ∙ sym (all_left (after_records j) no_room)

  count_next : (j : ℕ) → record_left_of s.now j ≡ true → length (parts (after_records j)) ≡ length (parts (after_records (j + 1))) + 1
  count_next j left = ap length (next_parts j left) ∙ omega arith

  -- In at least as many iterations as there are parts after the reader: what is handed on, where the reader is then, and what is after it.
  handed : (k j : ℕ) → length (parts (after_records j)) ≤ k → handed_on k (at j) ≡ parts (after_records j)
  handed zero j h =
      by_bool (record_left_of s.now j)
      (λ e. absurd (omega (arith, count_next j e)))
      (λ e. none_handed j e zero ∙ sym (no_parts (after_records j) (no_room j e)))
  handed (suc k) j h =
      by_bool (record_left_of s.now j)
      (λ e. next_handed j e k ∙ ap (λ (t : List (List ℕ)). take 4 (after_records j) ∷ t) (handed k (j + 1) (omega (arith, count_next j e))) ∙ sym (next_parts j e))
      (λ e. none_handed j e (suc k) ∙ sym (no_parts (after_records j) (no_room j e)))

  come : (k j : ℕ) → length (parts (after_records j)) ≤ k → advanced_by k (at j) ≡ at (j + length (parts (after_records j)))
  unfolding advanced_by
  come zero j h = let e : j ≡ j + length (parts (after_records j)) = omega arith in ap at e
  come (suc k) j h =
      by_bool (record_left_of s.now j)
      (λ e.
      let same : (j + 1) + length (parts (after_records (j + 1))) ≡ j + length (parts (after_records j)) = omega (arith, count_next j e) in
      ap (advanced_by k) (next_at j e) ∙ come k (j + 1) (omega (arith, count_next j e)) ∙ ap at same)
      (λ e. stopped j e (suc k) ∙ ap at (sym (count_none j e)))

  ends : (k j : ℕ) → length (parts (after_records j)) ≤ k → after_records (j + length (parts (after_records j))) ≡ left_over_of (after_records j)
  ends zero j h =
      by_bool (record_left_of s.now j)
      (λ e. absurd (omega (arith, count_next j e)))
      (λ e. ends_here j e)
  ends (suc k) j h =
      by_bool (record_left_of s.now j)
      (λ e.
      let same : j + length (parts (after_records j)) ≡ (j + 1) + length (parts (after_records (j + 1))) = omega (arith, count_next j e) in
      ap after_records same ∙ ends k (j + 1) (omega (arith, count_next j e)) ∙ sym (next_left j e))
      (λ e. ends_here j e)

  at_start : new_reader s ≡ at 0
  unfolding new_reader
  at_start = refl

  reads_whole : (k : ℕ) → length (parts (drop 1 s.now)) ≤ k → ReadsWhole s k
  reads_whole k h =
      let then : (advanced_by k (new_reader s)).taken ≡ 0 + length (parts (after_records 0)) = ap (λ (r : Reader). (advanced_by k r).taken) at_start ∙ ap (λ (r : Reader). r.taken) (come k 0 h) in
      record {
        all_parts = ap (handed_on k) at_start ∙ handed k 0 h;
        counted = then ∙ omega arith;
        left_after = ap after_records then ∙ ends k 0 h;
      }

-- What a call of `next` gives, and what is left after it.
pub none_left : (r : Reader) → record_left_of r.trace.now r.taken ≡ false → parts_left r ≡ []
unfolding parts_left
none_left r e = no_parts (after_records r.trace r.taken) (no_room r.trace r.taken e)

pub one_taken : (r : Reader) → record_left_of r.trace.now r.taken ≡ true → parts_left r ≡ record_after_of r.trace.now r.taken ∷ parts_left (reader_after r)
unfolding parts_left record_after_of record_left_of record_at reader_after taken_after
one_taken r e = next_parts r.trace r.taken e ∙ rw e refl

pub record_by_record : RecordByRecord
record_by_record trace = (partition (drop 1 trace.now), reads_whole trace)
