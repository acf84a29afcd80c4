-- `bench_by_value::by_value::recover` meets its contract. Assumes nothing.
use Rattle.laws.specs.Basics.{◌∙◌}
use Rattle.bench_by_value.proofs.{ByValue.recover_does, ByValue.set_too_large}
use Rattle.bench_by_value.proofs.by_value.recover.Goals as goal

pub returns-then-failed-gt-LARGEST_SET : goal.returns-then-failed-gt-LARGEST_SET
returns-then-failed-gt-LARGEST_SET c =
    let z = set_too_large _ _ c.if-failed-gt-LARGEST_SET.true in record { run_value = z.0; accepted_value = z.1 }

pub returns : goal.returns
returns c =
    let g = c.recover-o.ensures in let z = recover_does _ _ c.args.failed _ _ c.requires.0 c.requires.1 g.run_value _ g.answer_value in record { run_value = z.0; accepted_value = c.is_ok-accepted.ensures.value ∙ z.1 }
