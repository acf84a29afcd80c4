-- Records one after the other: the reading of a whole trace, and its verdict.
-- Assumes nothing.
use Rattle.std.specs.Prelude.{◌≡◌, ◌∷◌, ◌⊎◌, ◌+◌, ◌*◌, ◌/◌, ◌≤◌, ◌<◌, Ok, Err}
use Rattle.laws.specs.Basics.{refl, sym, ◌∙◌, ap, true, List, [], Option, None, Some, inl, inr, ℕ, arith, length, get_or, take, drop, length-drop, get_or-replicate, eq-eqb, lt-ltb, le-ltb, le-leb, lt-leb}
use native.Mathlib.Numerals.{add-one}
use lib.Seq.{drop-drop}
use Rattle.model.specs.declared.{Event.Event, Refusal.Refusal}
use Rattle.model.specs.declared.Refusal.TheVariants.{CountOutsideRange, LeftOverBytes, NoFirstByte, TooManyRecords}
use Rattle.histories.specs.History.{Lists}
use Rattle.model.specs.{Words.ones, Sound.is_block_count_of, Refusals.first_of, Refusals.start_refusal, Trace.decoded}
use Rattle.model.proofs.simulation.Accepted.{start_in}
use Rattle.whole_runs.specs.Outcomes.{judged}
use Rattle.trace.specs.{Answers.record_at, Answers.event_in, reader.Reading.record_after_of}
use Rattle.theory_patterns.specs.declared.BreakingPair.{BreakingPair}
use Rattle.theory_patterns.specs.Patterns.{Pattern, empty, record_refusal, taken, refused, whole, read_from, reading}
use Rattle.theory_patterns.specs.Verdicts.{count_of, verdict_on, verdict, RightVerdict}
use Rattle.theory_patterns.proofs.{Right.is_verdict, Facts.begin}
use Rattle.library_judge.specs.decision.Represents.{Holds, Judges, Says}
use Rattle.library_judge.specs.declared.reading.Reading.{Reading}
use Rattle.library_judge.specs.Kept.{Kept, AfterRecord, Reads, Reached, ReadsAll, Counts}
use Rattle.library_judge.proofs.{Trails.fronts}

-- A record that is left, in the bytes that are.
four : (l : List ℕ) (n : ℕ) (t : Pattern) → 4 ≤ length l
    → read_from n t l ≡ judged (record_refusal n t (decoded (take 4 l))) refused (read_from n (taken t (decoded (take 4 l))) (drop 4 l))
unfolding read_from
four [] n t h = absurd (omega arith)
four (a ∷ []) n t h = absurd (omega arith)
four (a ∷ b ∷ []) n t h = absurd (omega arith)
four (a ∷ b ∷ c ∷ []) n t h = absurd (omega arith)
four (a ∷ b ∷ c ∷ d ∷ l) n t h = refl

four_long : (l : List ℕ) → 4 ≤ length l → length (take 4 l) ≡ 4
four_long [] h = absurd (omega arith)
four_long (a ∷ []) h = absurd (omega arith)
four_long (a ∷ b ∷ []) h = absurd (omega arith)
four_long (a ∷ b ∷ c ∷ []) h = absurd (omega arith)
four_long (a ∷ b ∷ c ∷ d ∷ l) h = refl

-- Fewer than four bytes.
over : (l : List ℕ) (n : ℕ) (t : Pattern) → length l < 4 → 1 ≤ length l → read_from n t l ≡ refused LeftOverBytes
unfolding read_from
over [] n t h g = absurd (omega arith)
over (a ∷ []) n t h g = refl
over (a ∷ b ∷ []) n t h g = refl
over (a ∷ b ∷ c ∷ []) n t h g = refl
over (a ∷ b ∷ c ∷ d ∷ l) n t h g = absurd (omega arith)

nothing_over : (l : List ℕ) (n : ℕ) (t : Pattern) → length l ≡ 0 → read_from n t l ≡ whole t
unfolding read_from
nothing_over [] n t h = refl
nothing_over (a ∷ l) n t h = absurd (omega arith)

module _ (n : ℕ) (trace : List ℕ) (read : ℕ) (left : 1 + 4 * read + 4 ≤ length trace) where
  abbrev rest : List ℕ
  rest = drop (1 + 4 * read) trace

  rest_long : 4 ≤ length rest
  rest_long = omega (arith, left, length-drop (1 + 4 * read) trace)

  part_is : event_in (record_after_of trace read) ≡ decoded (take 4 rest)
  unfolding record_after_of record_at event_in
  part_is = rw (le-leb (1 + 4 * read + 4) (length trace) left, eq-eqb (length (take 4 rest)) 4 (four_long rest rest_long))

  rest_then : drop 4 rest ≡ drop (1 + 4 * (read + 1)) trace
  rest_then = drop-drop 4 (1 + 4 * read) trace ∙ ap (λ (k : ℕ). drop k trace) (let e : 1 + 4 * read + 4 ≡ 1 + 4 * (read + 1) = omega arith in e)

  -- The next record, by what the reading of it left.
  pub next_refused : (R : Reading) (w : Reached n trace read R) (few : read < 4096) (R' : Reading) (part : List ℕ) → part ≡ record_after_of trace read
      → (why : Refusal) → Reads n R (event_in part) (Err why) R' → read_from n empty (drop 1 trace) ≡ refused why
  unfolding Reads AfterRecord
  next_refused R w few R' part is why reads =
      let h = reads read w.pattern w.trail few w.kept in
      let why-there : record_refusal n w.pattern (decoded (take 4 rest)) ≡ Some why = ap (record_refusal n w.pattern) (sym (ap event_in is ∙ part_is)) ∙ h in
      w.rest ∙ four rest n w.pattern rest_long ∙ ap (λ (o : Option Refusal). judged o refused (read_from n (taken w.pattern (decoded (take 4 rest))) (drop 4 rest))) why-there

  pub next_taken : (R : Reading) (w : Reached n trace read R) (few : read < 4096) (R' : Reading) (part : List ℕ) → part ≡ record_after_of trace read
      → (u : Unit {0}) → Reads n R (event_in part) (Ok u) R' → Reached n trace (read + 1) R'
  unfolding Reads AfterRecord
  next_taken R w few R' part is u reads =
      let h = reads read w.pattern w.trail few w.kept in
      let free : record_refusal n w.pattern (decoded (take 4 rest)) ≡ None = ap (record_refusal n w.pattern) (sym (ap event_in is ∙ part_is)) ∙ h.0 in
      record {
        pattern = taken w.pattern (event_in part);
        trail = h.1.0;
        kept = rw add-one h.1.1;
        inside = omega (arith, left);
        rest = w.rest ∙ four rest n w.pattern rest_long
            ∙ ap (λ (o : Option Refusal). judged o refused (read_from n (taken w.pattern (decoded (take 4 rest))) (drop 4 rest))) free
            ∙ ap (λ (x : Option Event). read_from n (taken w.pattern x) (drop 4 rest)) (sym (ap event_in is ∙ part_is))
            ∙ ap (read_from n (taken w.pattern (event_in part))) rest_then;
      }

-- No record is left.
module _ (n : ℕ) (trace : List ℕ) (read : ℕ) (R : Reading) (w : Reached n trace read R) where
  pub end_refused : 1 + 4 * read < length trace → length trace < 1 + 4 * read + 4 → read_from n empty (drop 1 trace) ≡ refused LeftOverBytes
  end_refused more short = w.rest ∙ over (drop (1 + 4 * read) trace) n w.pattern (omega (arith, short, length-drop (1 + 4 * read) trace)) (omega (arith, more, length-drop (1 + 4 * read) trace))

  pub end_whole : length trace ≤ 1 + 4 * read → read_from n empty (drop 1 trace) ≡ whole w.pattern
  end_whole no_more = w.rest ∙ nothing_over (drop (1 + 4 * read) trace) n w.pattern (omega (arith, no_more, length-drop (1 + 4 * read) trace))

-- Before the first record.
pub begins : (n : ℕ) (trace : List ℕ) (R : Reading) → 1 ≤ length trace → Kept n 0 empty begin R → Reached n trace 0 R
begins n trace R h k = record { pattern = empty; trail = begin; kept = k; inside = omega arith; rest = refl }

-- What is judged before any record.
count_good : (a : ℕ) → 1 ≤ a → a ≤ 16 → start_refusal a ones ≡ None
count_good a h g = start_in a ones h g (λ p lp. one_fits_lem (get_or ones p 0) (get_or-replicate 16 p 1 0 (omega arith)))
  where
    one_fits_lem : (k : ℕ) → k ≡ 1 → is_block_count_of k ≡ true
    one_fits_lem k e = unfold is_block_count_of in rw e

pub counts_none : (trace : List ℕ) → length trace ≡ 0 → Counts trace (Err NoFirstByte)
unfolding Counts reading
counts_none [] h = refl
counts_none (a ∷ l) h = absurd (omega arith)

pub counts_bad : (a : ℕ) (l : List ℕ) → (a < 1) ⊎ (16 < a) → Counts (a ∷ l) (Err CountOutsideRange)
unfolding Counts reading start_refusal first_of
counts_bad a l (inl low) = rw (lt-leb 1 a low)
counts_bad a l (inr high) = rw (le-leb 1 a (omega arith), lt-leb a 16 high)

pub counts_many : (a : ℕ) (l : List ℕ) → 1 ≤ a → a ≤ 16 → 4096 < length l / 4 → Counts (a ∷ l) (Err TooManyRecords)
unfolding Counts reading
counts_many a l low high many = rw (count_good a low high, lt-ltb 4096 (length l / 4) many)

pub counts_good : (a : ℕ) (l : List ℕ) → 1 ≤ a → a ≤ 16 → length l / 4 ≤ 4096 → Counts (a ∷ l) (Ok a)
unfolding Counts reading count_of
counts_good a l low high few = (refl, omega arith, high, omega arith, rw (count_good a low high, le-ltb 4096 (length l / 4) few))

-- The verdicts on a trace, in the order of the refusals.
pub verdict_early : (trace : List ℕ) (why : Refusal) → Counts trace (Err why) → Err why ≡ verdict trace
unfolding Counts verdict verdict_on
verdict_early trace why e = ap (verdict_on (count_of trace)) (sym e)

module _ (trace : List ℕ) (n : ℕ) (counted : Counts trace (Ok n)) where
  pub counted_is : (n ≡ count_of trace) × (1 ≤ length trace) × (n ≤ 16) × (length trace ≤ 4 * 4096 + 4) × (reading trace ≡ read_from n empty (drop 1 trace))
  unfolding Counts
  counted_is = counted

  pub verdict_refused : (why : Refusal) (R : Reading) → ReadsAll n trace (Err why) R → Err why ≡ verdict trace
  unfolding ReadsAll verdict verdict_on
  verdict_refused why R e = ap (verdict_on (count_of trace)) (sym (counted_is.4 ∙ e))

  right_whole : (t : Pattern) (lists : Lists) (v : Option BreakingPair) → read_from n empty (drop 1 trace) ≡ whole t → t.lists ≡ lists → Says n lists v → RightVerdict trace (Ok v)
  unfolding RightVerdict Says
  right_whole t lists None e c h = (t, counted_is.4 ∙ e, rw (← counted_is.0, c) h)
  right_whole t lists (Some w) e c h = (t, counted_is.4 ∙ e, rw (← counted_is.0, c) h)

  pub verdict_taken : (u : Unit {0}) (R : Reading) → ReadsAll n trace (Ok u) R → (v : Option BreakingPair) → Judges n (take R.rows R.states) (take R.last R.messages) v → Ok v ≡ verdict trace
  unfolding ReadsAll Judges
  verdict_taken u R (read, t, tr, k, whole-there) v j =
      let here = fronts n tr.lists tr.vector R.rows R.last R.states R.messages k.represented (omega (arith, k.room, k.represented.most_rows_lem)) (omega (arith, k.sent_room, k.represented.most_messages)) in
      is_verdict trace (Ok v) (right_whole t tr.lists v whole-there k.lists (j tr k.right here))

-- What is read fits its tables, and holds a trail.
module _ (n : ℕ) (trace : List ℕ) (u : Unit {0}) (R : Reading) (all : ReadsAll n trace (Ok u) R) where
  pub in_tables : (R.rows ≤ 4112) × (R.last ≤ 4096)
  unfolding ReadsAll
  in_tables = let k = all.3 in (k.represented.most_rows_lem, k.represented.most_messages)

  pub held : Holds n (take R.rows R.states) (take R.last R.messages)
  unfolding ReadsAll
  held = let k = all.3 in let tr = all.2 in
      (tr, k.right, fronts n tr.lists tr.vector R.rows R.last R.states R.messages k.represented (omega (arith, k.room, k.represented.most_rows_lem)) (omega (arith, k.sent_room, k.represented.most_messages)))
