-- The pair that a verdict names fits the fields of its number, whatever the trace.
-- Assumes nothing.
use Rattle.std.specs.Prelude.{◌≡◌, ◌∷◌, ◌≤◌, ◌<◌, Ok, Err, Some, None}
use Rattle.laws.specs.Basics.{◌∙◌, List, [], ℕ, arith}
use Rattle.model.specs.{Words.ones, Refusals.start_refusal, laws.Refusals.by_refusal}
use Rattle.model.proofs.simulation.Accepted.{start_out}
use Rattle.theory_patterns.specs.Patterns.{Pattern, refused, whole, reading}
use Rattle.theory_patterns.specs.Verdicts.{Verdict, count_of, verdict, RightVerdict}
use Rattle.theory_patterns.proofs.Right.{verdict_right}
use Rattle.lemidrosy.specs.Programs.{PairFits}

-- A trace that is read whole has at most 16 processes.
whole_count : (trace : List ℕ) (t : Pattern) → reading trace ≡ whole t → count_of trace ≤ 16
unfolding reading count_of
whole_count [] t e = omega arith
whole_count (n ∷ l) t e = by_refusal (start_refusal n ones)
    (λ fine. (start_out n ones fine).1)
    (λ r bad. absurd (let z : refused r ≡ whole t = rw bad at e in let y : ◌≡◌ {A = ℕ} 0 1 = cc in omega arith))

fits : (trace : List ℕ) (v : Verdict) → RightVerdict trace v → PairFits v
unfolding RightVerdict PairFits
fits trace (Err r) h = tt
fits trace (Ok None) h = tt
fits trace (Ok (Some w)) h =
    let few = whole_count trace h.0 h.1 in
    (omega (arith, few, h.2.breaks.near), omega (arith, few, h.2.breaks.far))

pub pair_fits : (trace : List ℕ) → PairFits (verdict trace)
pair_fits trace = fits trace (verdict trace) (verdict_right trace)
