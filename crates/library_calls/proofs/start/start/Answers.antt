-- `library_calls::start::start` meets its contract: with 16 counts lent, the start in place is document 01's. Demand 3 is the theorem of `whole_runs`.
-- Assumes nothing.
use Rattle.laws.specs.Basics.{refl, ◌∙◌, ap, rules}
use Rattle.whole_runs.specs.Outcomes.{Outcome}
use Rattle.model.specs.Shapes.{StartAnswer}
use Rattle.whole_runs.proofs.WholeRuns.{start_promise}
use Rattle.library_calls.proofs.{Beginning.start_readable, Beginning.started_so}
use Rattle.library_calls.proofs.start.start.Goals as goal

pub read-run-requires : goal.read-run-requires
read-run-requires c =
    rw c.start-answer.ensures.w_after_2 (start_readable _ _ _ refl)

pub returns : goal.returns
returns c =
    let a = c.args in let same = started_so a.n a.block_counts (search rules) in let run = c.read-run.ensures ∙ c.start-answer.ensures.w_after ∙ ap (λ (x : Outcome StartAnswer). x.run) same in record { run_value = run; answer_value = c.start-answer.ensures.value ∙ ap (λ (x : Outcome StartAnswer). x.answer) same; start_promise = start_promise a.n a.block_counts c.read-run.result run }
