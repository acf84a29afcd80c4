-- `lemidrosy::programs::lemidrosy_judge` meets its contract. Assumes nothing.
use Rattle.laws.specs.Basics.{◌∙◌, ap, rules}
use Rattle.lemidrosy.specs.Programs.{judge_code}
use Rattle.lemidrosy.proofs.{Verdicts.pair_fits}
use Rattle.lemidrosy.proofs.programs.lemidrosy_judge.Goals as goal

pub verdict_code-requires : goal.verdict_code-requires
verdict_code-requires c =
    rw c.judge-verdict.ensures (pair_fits c.args.trace.now)

pub returns : goal.returns
returns c =
    c.verdict_code.ensures ∙ ap judge_code c.judge-verdict.ensures
