-- `lemidrosy::programs::verdict_code` meets its contract, by the cases of the verdict.
-- Assumes nothing.
use Rattle.std.specs.Prelude.{◌≡◌, ◌<◌, Ok, Some, None}
use Rattle.laws.specs.Basics.{refl, arith, rules}
use Rattle.theory_patterns.specs.declared.BreakingPair.{BreakingPair}
use Rattle.theory_patterns.specs.Verdicts.{Verdict, judge_report}
use Rattle.lemidrosy.specs.Programs.{pair_code, judge_coded, PairFits}
use Rattle.lemidrosy.proofs.programs.verdict_code.Goals as goal

pair : (v : Verdict) (w : BreakingPair) → v ≡ Ok (Some w) → PairFits v → (w.near.process < 256) × (w.far.process < 256)
unfolding PairFits
pair v w e fits = rw e at fits

pub breaks_code-requires : goal.breaks_code-requires
breaks_code-requires c =
    let q = c.in-Ok-Some in let e : q.field-0 ≡ Some q.w = rw q.is at q.field-0-is in pair _ q.w (rw e at q.is) c.requires

pub returns-in-Err : goal.returns-in-Err
unfolding judge_coded judge_report pair_code
returns-in-Err c =
    rw c.in-Err.is (omega (arith, c.number_of.ensures))

pub returns-in-Ok-None : goal.returns-in-Ok-None
unfolding judge_coded judge_report pair_code
returns-in-Ok-None c =
    let q = c.in-Ok-None in let e : q.field-0 ≡ None = rw q.is at q.field-0-is in rw (q.is, e) refl
