-- `library_recorder::without_room::lose` meets its contract: the call was made on a copy of the words, and its answer is its refusal, or else 21 is said.
-- Assumes nothing.
use Rattle.laws.specs.Basics.{◌∙◌, ap, rules}
use Rattle.model.specs.{declared.Run.Run, Refusals.lose_refusal}
use Rattle.listing.specs.Reports.{lose_is}
use Rattle.words.specs.Layout.{run_of}
use Rattle.library_recorder.proofs.{record.Ways.lose_ways}
use Rattle.library_recorder.proofs.without_room.lose.Goals as goal

pub returns-then-number-eq0 : goal.returns-then-number-eq0
returns-then-number-eq0 c =
    let copy = c.copy_of-copy in let a = c.args in (lose_ways (run_of copy.result) a.m).short _ _ c.lose-answer.ensures.value (c.from-summary.ensures ∙ lose_is _) (rw c.number-number.ensures at c.if-number-eq0.true) _ (ap (λ (s : Run). lose_refusal s a.m) copy.ensures)

pub returns : goal.returns
returns c =
    let copy = c.copy_of-copy in let a = c.args in (lose_ways (run_of copy.result) a.m).refused _ _ c.lose-answer.ensures.value (c.from-summary.ensures ∙ lose_is _) (rw c.number-number.ensures at c.if-number-eq0.false) _ (ap (λ (s : Run). lose_refusal s a.m) copy.ensures)
