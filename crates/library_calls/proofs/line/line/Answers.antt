-- `library_calls::line::line` meets its contract: what the call in place says of words that were filled from the state, it says of the state. Demand 3 and Note 4 are
-- theorems of `whole_runs`.
-- Assumes nothing.
use Rattle.laws.specs.Basics.{ap, not, refl, ◌∙◌, rules}
use Rattle.whole_runs.specs.Outcomes.{line_outcome}
use Rattle.whole_runs.proofs.{Unsound.line_unsound, WholeRuns.line_promise, Sweep.empty_line_promise}
use Rattle.library_calls.proofs.{Changing.over_unsound, Changing.within, Changing.says, Changing.stays}
use Rattle.library_calls.proofs.line.line.Goals as goal

pub returns-then-not-few : goal.returns-then-not-few
returns-then-not-few c =
    let a = c.args in let l = a.line.now in let g = line_unsound a.s (over_unsound a.s _ c.are_counts_fit-few.ensures (ap not c.if-not-few.true)) a.failed l in record { run_value = g.0; answer_value = g.1.0; line_after = g.1.1; line_promise = line_promise a.s a.failed; empty_line_promise = empty_line_promise a.s a.failed l g.1.0 g.1.1 }

pub fill-requires : goal.fill-requires
fill-requires c =
    let h = within c.args.s _ c.are_counts_fit-few.ensures (ap not c.if-not-few.false) in (search rules, h.0, h.1)

pub shape_of-line : goal.shape_of-line
shape_of-line c =
    c.line-answer.auto.line

pub returns : goal.returns
returns c =
    let a = c.args in let l = a.line.now in let g = c.line-answer.ensures in let from = c.fill.ensures in let answer = g.value ∙ says a.s _ from (λ x. (line_outcome x a.failed l).answer) _ (λ t e. (line_unsound t e a.failed l).1.0) in let line = g.line_after ∙ says a.s _ from (λ x. (line_outcome x a.failed l).line) l (λ t e. (line_unsound t e a.failed l).1.1) in record { run_value = stays a.s _ from (λ x. (line_outcome x a.failed l).run) (λ t e. (line_unsound t e a.failed l).0) _ refl g.w_value; answer_value = answer; line_after = line; line_promise = line_promise a.s a.failed; empty_line_promise = empty_line_promise a.s a.failed l answer line }
