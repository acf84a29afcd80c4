-- The verdict on a trace is right, and it is the only one that is.
-- Assumes nothing.
use Rattle.std.specs.Prelude.{◌≡◌, ◌∷◌}
use Rattle.laws.specs.Basics.{refl, List, [], ℕ, arith}
use Rattle.theory_patterns.specs.{Patterns.Pattern, Patterns.Reading, Patterns.refused, Patterns.whole, Patterns.reading, Judging.first_pair}
use Rattle.theory_patterns.specs.Verdicts.{Verdict, count_of, verdict_on, verdict, RightVerdict, VerdictsAreRight}
use Rattle.theory_patterns.proofs.{Tested.Numbered, Searched.by_there, Searched.no_pair, Searched.first_pair_lem, Numbers.numbered, Only.one_verdict}

no_byte : {P : Type 0} (t : Pattern) → reading [] ≡ whole t → P
unfolding reading
no_byte t e = absurd (let z : ◌≡◌ {A = ℕ} 0 1 = cc in omega arith)

numbered_of : (trace : List ℕ) (t : Pattern) → reading trace ≡ whole t → Numbered (count_of trace) t.sends t.lists
unfolding count_of
numbered_of [] t e = no_byte t e
numbered_of (n ∷ l) t e = numbered n l t e

right_on : (trace : List ℕ) (r : Reading) → reading trace ≡ r → RightVerdict trace (verdict_on (count_of trace) r)
unfolding verdict_on RightVerdict
right_on trace (refused x) e = e
right_on trace (whole t) e =
    let n = count_of trace in
    let w = numbered_of trace t e in
    by_there (first_pair n t.sends t.lists)
    (λ q. rw q (t, e, no_pair n t.sends t.lists w q))
    (λ v q. rw q (t, e, first_pair_lem n t.sends t.lists w v q))

pub verdict_right : VerdictsAreRight
unfolding verdict
verdict_right trace = right_on trace (reading trace) refl

-- So a verdict that is right is the verdict.
pub is_verdict : (trace : List ℕ) (v : Verdict) → RightVerdict trace v → v ≡ verdict trace
is_verdict trace v h = one_verdict trace v (verdict trace) h (verdict_right trace)
