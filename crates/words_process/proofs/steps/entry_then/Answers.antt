-- `words_process::steps::entry_then` meets its contract. Assumes nothing.
use Rattle.laws.specs.Basics.{rules}
use Rattle.words_process.proofs.steps.entry_then.Goals as goal

pub overflow_add-result : goal.overflow_add-result
overflow_add-result c =
    let h = c.requires c.if-own.true in search rules

pub returns-then-own : goal.returns-then-own
returns-then-own c =
    rw c.if-own.true
