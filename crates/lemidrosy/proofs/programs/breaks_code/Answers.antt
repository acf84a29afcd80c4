-- `lemidrosy::programs::breaks_code` meets its contract. Assumes nothing.
use Rattle.laws.specs.Basics.{refl, arith, rules}
use Rattle.theory_patterns.specs.Verdicts.{judge_report}
use Rattle.lemidrosy.specs.Programs.{pair_code, judge_coded}
use Rattle.lemidrosy.proofs.programs.breaks_code.Goals as goal

pub returns : goal.returns
unfolding judge_coded judge_report pair_code
returns c =
    omega arith
