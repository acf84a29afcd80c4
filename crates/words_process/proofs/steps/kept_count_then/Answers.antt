-- `words_process::steps::kept_count_then` meets its contract. Assumes nothing.
use Rattle.laws.specs.Basics.{arith, rules}
use Rattle.words_process.proofs.steps.kept_count_then.Goals as goal

pub returns-then-stores : goal.returns-then-stores
returns-then-stores c =
    rw c.if-stores.true

pub returns-else-stores : goal.returns-else-stores
returns-else-stores c =
    rw c.if-stores.false (omega arith)
