-- How long the line of a verdict can be, and that the processes of a right one are among 16.
-- Assumes nothing.
use Rattle.std.specs.Prelude.{◌≡◌, ◌&&◌, ◌∷◌, ◌++◌, ◌≤◌, ◌<◌, Ok, Err}
use Rattle.laws.specs.Basics.{refl, sym, Bool, true, false, not, false≢true, List, [], None, Some, ℕ, arith, leb, length, length-append, ne_eqb, leb-true}
use Rattle.model.specs.declared.Refusal.{Refusal}
use Rattle.model.specs.{Words.ones, Refusals.number, Refusals.start_refusal, laws.Refusals.no_rule, laws.Refusals.by_refusal, laws.Refusals.number_range}
use Rattle.listing.specs.{Lines.pair_text, Printed.Printed}
use Rattle.listing.proofs.Bounds.{twenty_digits}
use Rattle.machines.specs.programs.Texts.{refused_text}
use Rattle.machines.proofs.programs.Texts.{refused_length}
use Rattle.theory_patterns.specs.declared.BreakingPair.{BreakingPair}
use Rattle.theory_patterns.specs.Patterns.{Pattern, refused, whole, reading}
use Rattle.theory_patterns.specs.Verdicts.{count_of, Verdict, verdict, judge_report, RightVerdict}
use Rattle.theory_patterns.proofs.Right.{verdict_right}
use Rattle.whole_runs.specs.Listing.{decimal, colon, line_feed}
use Rattle.machine_judge.specs.Text.{trackable_word, breaks_word, breaks_text, report_text, verdict_text, Small}

pub pair_short : (p i : ℕ) → length (pair_text p i) ≤ 42
unfolding pair_text
pair_short p i = omega (arith, length-append (decimal p) (colon ∷ decimal i), twenty_digits p, twenty_digits i)

-- The text of each verdict, by its number and its pair: no refusal has the number 0.
refused_text_lem : (why : Refusal) → refused_text why ≡ verdict_text (Err why)
unfolding verdict_text judge_report report_text refused_text
refused_text_lem why = rw (ne_eqb (number why) 0 (λ e. omega (arith, e, (number_range why).0)))

trackable_text : trackable_word ++ (line_feed ∷ []) ≡ verdict_text (Ok None)
unfolding verdict_text judge_report report_text breaks_text
trackable_text = refl

breaks_text_lem : (w : BreakingPair) → breaks_word ++ (pair_text w.near.process w.near.index.0 ++ (pair_text w.far.process w.far.index.0 ++ (line_feed ∷ []))) ≡ verdict_text (Ok (Some w))
unfolding verdict_text judge_report report_text breaks_text
breaks_text_lem w = refl

-- So a text that was printed is that of the verdict.
module _ {out : List ℕ} {after : List ℕ} {next : ℕ} where
  pub printed_refused : (why : Refusal) → Printed out 0 (refused_text why) after next → Printed out 0 (verdict_text (Err why)) after next
  printed_refused why h = rw (refused_text_lem why) at h

  pub printed_trackable : Printed out 0 (trackable_word ++ (line_feed ∷ [])) after next → Printed out 0 (verdict_text (Ok None)) after next
  printed_trackable h = rw trackable_text at h

  pub printed_breaks : (w : BreakingPair) → Printed out 0 (breaks_word ++ (pair_text w.near.process w.near.index.0 ++ (pair_text w.far.process w.far.index.0 ++ (line_feed ∷ [])))) after next → Printed out 0 (verdict_text (Ok (Some w))) after next
  printed_breaks w h = rw (breaks_text_lem w) at h

pub verdict_short : (v : Verdict) → length (verdict_text v) ≤ 96
verdict_short (Err why) = rw (← refused_text_lem why) (omega (arith, refused_length why))
verdict_short (Ok None) = rw (← trackable_text) (omega arith)
verdict_short (Ok (Some w)) = rw (← breaks_text_lem w) (omega (
  arith,
  length-append breaks_word (pair_text w.near.process w.near.index.0 ++ (pair_text w.far.process w.far.index.0 ++ (line_feed ∷ []))),
  length-append (pair_text w.near.process w.near.index.0) (pair_text w.far.process w.far.index.0 ++ (line_feed ∷ [])),
  length-append (pair_text w.far.process w.far.index.0) (line_feed ∷ []),
  pair_short w.near.process w.near.index.0,
  pair_short w.far.process w.far.index.0,
))

pub small_pair : (v : Verdict) (w : BreakingPair) → v ≡ Ok (Some w) → Small v → (w.near.process < 16) × (w.far.process < 16)
unfolding Small
small_pair v w e h = rw e at h

-- The processes of a right verdict are among those of its trace.
count_small : (l : List ℕ) (t : Pattern) → reading l ≡ whole t → count_of l ≤ 16
unfolding reading count_of
count_small [] t e = absurd (let z : ◌≡◌ {A = ℕ} 0 1 = cc in omega arith)
count_small (n ∷ l) t e = by_refusal (start_refusal n ones)
    (λ a. most n a)
    (λ r a. absurd (never r (rw a at e)))
  where
    never : (r : Refusal) → refused r ≡ whole t → ⊥
    never r e = let z : ◌≡◌ {A = ℕ} 0 1 = cc in omega arith

    both : (a b : Bool) → not (a && b) ≡ false → b ≡ true
    both true true e = refl
    both true false e = absurd (false≢true (sym e))
    both false b e = absurd (false≢true (sym e))

    most : (n : ℕ) → start_refusal n ones ≡ None → n ≤ 16
    most n a = unfold start_refusal in leb-true n 16 (both (leb 1 n) (leb n 16) (no_rule _ a 0))

right_small : (l : List ℕ) (v : Verdict) → RightVerdict l v → Small v
unfolding RightVerdict Small
right_small l (Err why) h = tt
right_small l (Ok None) h = tt
right_small l (Ok (Some w)) (t, e, f) = (omega (arith, f.breaks.near, count_small l t e), omega (arith, f.breaks.far, count_small l t e))

pub small : (l : List ℕ) (v : Verdict) → v ≡ verdict l → Small v
small l v e = rw e (right_small l (verdict l) (verdict_right l))
