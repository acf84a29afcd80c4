-- `bench_in_place::timing_untested` meets its contract. Assumes nothing.
use Rattle.std.specs.Prelude.{◌≡◌}
use Rattle.laws.specs.Basics.{sym, ◌∙◌, ap, None, length, rules}
use Rattle.model.specs.{Words.ones, Steps.start_state}
use Rattle.in_place.specs.Starting.{start_refusal_in, start_outcome_in}
use Rattle.in_place.proofs.Leaving.{same_words}
use Rattle.bench_by_value.specs.Timed.{Timed}
use Rattle.bench_by_value.proofs.Begun.{begun, not_begun, none_timed, all_timed}
use Rattle.bench_in_place.proofs.{Begun.started_reachable, Begun.never_both}
use Rattle.bench_in_place.proofs.timing_untested.Goals as goal

pub returns-then-is_err : goal.returns-then-is_err
unfolding start_outcome_in
returns-then-is_err c =
    let a = c.args in
    let refusal = start_refusal_in (length a.w.now) a.n ones in
    let start = c.start-answer.ensures in
    let why = not_begun refusal (start_state a.n ones) _ start.value (sym c.is_err.ensures.value ∙ c.if-is_err.true) in
    let none-taken = none_timed refusal a.n a.trace.now _ start.w_after why.0 why.1 in
    record {
      value = ap (λ (x : Timed). x.accepted) none-taken;
      w_after = ap (λ (x : Timed). x.run) none-taken;
      leaves = rw start.w_after_2 (same_words _);
      w_after_2 = λ other e. start.w_after_2;
    }

pub apply_all-requires : goal.apply_all-requires
unfolding start_outcome_in
apply_all-requires c =
    let a = c.args in
    let start = c.start-answer.ensures in
    let fine = begun (start_refusal_in (length a.w.now) a.n ones) (start_state a.n ones) _ start.value (sym c.is_err.ensures.value ∙ c.if-is_err.false) in
    (started_reachable _ _ _ _ start.w_after fine, search rules, search rules)

pub returns : goal.returns
unfolding start_outcome_in
returns c =
    let a = c.args in
    let refusal = start_refusal_in (length a.w.now) a.n ones in
    let start = c.start-answer.ensures in
    let done = c.apply_all.ensures in
    let fine : refusal ≡ None = begun refusal (start_state a.n ones) _ start.value (sym c.is_err.ensures.value ∙ c.if-is_err.false) in
    let all-taken = all_timed refusal a.n a.trace.now _ start.w_after fine in
    record {
      value = done.value ∙ ap (λ (x : Timed). x.accepted) all-taken;
      w_after = done.w_after ∙ ap (λ (x : Timed). x.run) all-taken;
      leaves = rw start.w_after_2 at done.leaves;
      w_after_2 = λ why e. absurd (never_both why fine e);
    }
