-- `machines::heard::word` meets its contract, by the kind of the answer.
-- Assumes nothing.
use Rattle.machines.specs.{Machines.heard_word, Forms.answer_of, Forms.taken_of, Forms.Between}
use Rattle.machines.proofs.{Hearing.word_many, Hearing.word_some}
use Rattle.machines.proofs.heard.word.Goals as goal

pub returns-then-most-size : goal.returns-then-most-size
returns-then-most-size c =
    word_many _ _ _ c.in-Bytes.is c.if-most-size.true

pub returns-in-Number : goal.returns-in-Number
unfolding heard_word answer_of taken_of Between
returns-in-Number c =
    (λ at input h. rw c.in-Number.is, tt)

pub returns-else-most-size : goal.returns-else-most-size
returns-else-most-size c =
    word_some _ _ _ c.in-Bytes.is c.if-most-size.false

pub returns-in-End : goal.returns-in-End
unfolding heard_word answer_of taken_of Between
returns-in-End c =
    (λ at input h. rw c.in-End.is, tt)

pub returns-in-Done : goal.returns-in-Done
unfolding heard_word answer_of taken_of Between
returns-in-Done c =
    (λ at input h. rw c.in-Done.is, tt)

pub returns-in-Failed : goal.returns-in-Failed
unfolding heard_word answer_of taken_of Between
returns-in-Failed c =
    (λ at input h. rw c.in-Failed.is, tt)
