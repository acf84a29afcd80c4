-- `machines::heard::is_number` meets its contract, by the kind of the answer.
-- Assumes nothing.
use Rattle.std.specs.Prelude.{◌+◌}
use Rattle.laws.specs.Basics.{leb, length, by_bool}
use Rattle.machines.specs.{Machines.heard_count, Machines.is_number, Forms.answer_of}
use Rattle.machines.proofs.heard.is_number.Goals as goal

pub returns-in-Number : goal.returns-in-Number
unfolding heard_count answer_of is_number
returns-in-Number c =
    λ at input. rw c.in-Number.is

-- Bytes, whether they lie inside the buffer or not.
pub returns-in-Bytes : goal.returns-in-Bytes
unfolding heard_count answer_of is_number
returns-in-Bytes c =
    λ at input.
    let e = c.in-Bytes.is in by_bool (leb (at + c.in-Bytes.field-0) (length input)) (λ f. rw (e, f)) (λ f. rw (e, f))

pub returns-in-End : goal.returns-in-End
unfolding heard_count answer_of is_number
returns-in-End c =
    λ at input. rw c.in-End.is

pub returns-in-Done : goal.returns-in-Done
unfolding heard_count answer_of is_number
returns-in-Done c =
    λ at input. rw c.in-Done.is

pub returns-in-Failed : goal.returns-in-Failed
unfolding heard_count answer_of is_number
returns-in-Failed c =
    λ at input. rw c.in-Failed.is
