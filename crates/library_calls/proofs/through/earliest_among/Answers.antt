-- `library_calls::through::earliest_among` meets its contract: the list at the front of the array is copied, and the function on what was copied does the rest.
-- Assumes nothing.
use Rattle.laws.specs.Basics.{take}
use Rattle.whole_runs.proofs.WholeRuns.{earliest_promise}
use Rattle.words_line.specs.earliest.Copying.{IsCopy}
use Rattle.library_calls.proofs.through.earliest_among.Goals as goal

pub earliest_of-requires : goal.earliest_of-requires
unfolding IsCopy
earliest_of-requires c =
    let a = c.args in (take a.length a.named, c.copy_front-copied.ensures)

pub returns : goal.returns
returns c =
    let a = c.args in let g = c.earliest_of.ensures (take a.length a.named) c.copy_front-copied.ensures in record { run_value = g.0; answer_value = g.1; line_after = g.2; earliest_promise = earliest_promise a.s (take a.length a.named) a.line.now }
