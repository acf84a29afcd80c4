-- `bench_by_value::timing_by_value` meets its contract. Assumes nothing.
use Rattle.laws.specs.Basics.{sym, ◌∙◌, ap}
use Rattle.model.specs.{Words.ones, Steps.start_state, Refusals.start_refusal}
use Rattle.whole_runs.specs.Outcomes.{start_outcome}
use Rattle.bench_by_value.specs.Timed.{Timed}
use Rattle.bench_by_value.proofs.{Begun.begun, Begun.not_begun, Begun.none_timed, Begun.all_timed}
use Rattle.bench_by_value.proofs.timing_by_value.Goals as goal

pub returns-then-is_err : goal.returns-then-is_err
unfolding start_outcome
returns-then-is_err c =
    let n = c.args.n in let start = c.start-started.ensures in let why = not_begun (start_refusal n ones) (start_state n ones) _ start.answer_value (sym c.is_err.ensures.value ∙ c.if-is_err.true) in ap (λ (x : Timed). x.accepted) (none_timed (start_refusal n ones) n _ _ start.run_value why.0 why.1)

pub returns : goal.returns
unfolding start_outcome
returns c =
    let n = c.args.n in let start = c.start-started.ensures in let fine = begun (start_refusal n ones) (start_state n ones) _ start.answer_value (sym c.is_err.ensures.value ∙ c.if-is_err.false) in c.apply_by_value.ensures ∙ ap (λ (x : Timed). x.accepted) (all_timed (start_refusal n ones) n _ _ start.run_value fine)
