-- `library_recorder::without_room::send` meets its contract: the call was made on a copy of the words, and its answer is its refusal, or else 21 is said.
-- Assumes nothing.
use Rattle.laws.specs.Basics.{ap, rules}
use Rattle.model.specs.{declared.Run.Run, Refusals.send_refusal}
use Rattle.words.specs.Layout.{run_of}
use Rattle.library_recorder.proofs.{record.Ways.send_ways}
use Rattle.library_recorder.proofs.without_room.send.Goals as goal

pub returns-then-number-eq0 : goal.returns-then-number-eq0
returns-then-number-eq0 c =
    let copy = c.copy_of-copy in let a = c.args in (send_ways (run_of copy.result) a.i a.j).short _ _ c.send-answer.ensures.value c.from-summary.ensures (rw c.number-number.ensures at c.if-number-eq0.true) _ (ap (λ (s : Run). send_refusal s a.i a.j) copy.ensures)

pub returns : goal.returns
returns c =
    let copy = c.copy_of-copy in let a = c.args in (send_ways (run_of copy.result) a.i a.j).refused _ _ c.send-answer.ensures.value c.from-summary.ensures (rw c.number-number.ensures at c.if-number-eq0.false) _ (ap (λ (s : Run). send_refusal s a.i a.j) copy.ensures)
