-- `library_calls::through::earliest` meets its contract: the list is copied out, and the function on what was copied does the rest.
-- Assumes nothing.
use Rattle.whole_runs.proofs.WholeRuns.{earliest_promise}
use Rattle.words_line.specs.earliest.Copying.{IsCopy}
use Rattle.library_calls.proofs.through.earliest.Goals as goal

pub earliest_of-requires : goal.earliest_of-requires
unfolding IsCopy
earliest_of-requires c =
    (c.args.named.now, c.copy_out-copied.ensures)

pub returns-clause-earliest_promise : goal.returns-clause-earliest_promise
returns-clause-earliest_promise c =
    let a = c.args in earliest_promise a.s a.named.now a.line.now
