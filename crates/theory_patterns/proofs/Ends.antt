-- What ends a reading: the first record that is refused, whatever stands after it; and a trace of more than 4,096 records, of which no more bytes need to be read.
-- Assumes nothing.
use Rattle.std.specs.Prelude.{◌≡◌, ◌∷◌, ◌++◌, ◌*◌, ◌/◌, ◌≤◌, ◌<◌}
use Rattle.laws.specs.Basics.{refl, List, [], Option, None, Some, ℕ, zero, suc, arith, length, length-append, lt-ltb, le-ltb}
use Rattle.model.specs.declared.Refusal.{Refusal}
use Rattle.model.specs.Trace.{decoded}
use Rattle.whole_runs.specs.Outcomes.{judged}
use Rattle.theory_patterns.specs.Patterns.{Pattern, empty, record_refusal, taken, Reading, refused, whole, most_judged, read_from, reading}
use Rattle.theory_patterns.specs.Verdicts.{count_of, verdict, FirstRefusalEnds, LongTracesEnd}

not_refused : {P : Type 0} (r : Refusal) (t : Pattern) → whole t ≡ refused r → P
not_refused r t e = absurd (let z : ◌≡◌ {A = ℕ} 0 1 = cc in omega arith)

either_refused : (o : Option Refusal) (a b : Reading) (r : Refusal) → (a ≡ refused r → b ≡ refused r) → judged o refused a ≡ refused r → judged o refused b ≡ refused r
either_refused None a b r f e = f e
either_refused (Some x) a b r f e = e

-- k whole records of which one is refused: the bytes after them play no part.
refused_then : (k n : ℕ) (t : Pattern) (l rest : List ℕ) (r : Refusal) → length l ≡ 4 * k → read_from n t l ≡ refused r → read_from n t (l ++ rest) ≡ refused r
unfolding read_from
refused_then k n t [] rest r h e = not_refused r t e
refused_then k n t (a ∷ []) rest r h e = absurd (omega arith)
refused_then k n t (a ∷ b ∷ []) rest r h e = absurd (omega arith)
refused_then k n t (a ∷ b ∷ c ∷ []) rest r h e = absurd (omega arith)
refused_then zero n t (a ∷ b ∷ c ∷ d ∷ l) rest r h e = absurd (omega arith)
refused_then (suc k) n t (a ∷ b ∷ c ∷ d ∷ l) rest r h e =
    let x = decoded (a ∷ b ∷ c ∷ d ∷ []) in
    either_refused (record_refusal n t x) (read_from n (taken t x) l) (read_from n (taken t x) (l ++ rest)) r (refused_then k n (taken t x) l rest r (omega arith)) e

pub first_refusal_ends : FirstRefusalEnds
unfolding reading
first_refusal_ends k n l rest r counted h few e = rw (counted, le-ltb most_judged (length (l ++ rest) / 4) few) (refused_then k n empty l rest r h e)

-- After 16,388 bytes the verdict is fixed.
same_reading : (front rest : List ℕ) → 16389 ≤ length front → reading (front ++ rest) ≡ reading front
unfolding reading
same_reading [] rest h = absurd (omega arith)
same_reading (n ∷ l) rest h =
    let long : most_judged < length l / 4 = omega (arith, h) in
    let longer : most_judged < length (l ++ rest) / 4 = omega (arith, h, length-append l rest) in
    rw (lt-ltb most_judged (length l / 4) long, lt-ltb most_judged (length (l ++ rest) / 4) longer)

same_count : (front rest : List ℕ) → 16389 ≤ length front → count_of (front ++ rest) ≡ count_of front
unfolding count_of
same_count [] rest h = absurd (omega arith)
same_count (n ∷ l) rest h = refl

pub long_traces_end : LongTracesEnd
unfolding verdict
long_traces_end front rest h = rw (same_count front rest h, same_reading front rest h)
