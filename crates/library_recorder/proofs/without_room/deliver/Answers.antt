-- `library_recorder::without_room::deliver` meets its contract: the call was made on a copy of the words with lists of its own, and its answer is its refusal, or else 21 is said.
-- Assumes nothing.
use Rattle.laws.specs.Basics.{sym, take, replicate, length-take-le, rules}
use Rattle.words.specs.Layout.{run_of}
use Rattle.library_recorder.proofs.{record.Scratch.deliver_alike, record.Ways.deliver_ways}
use Rattle.library_recorder.proofs.without_room.deliver.Goals as goal

pub slice_bounds-deliver-end-2 : goal.slice_bounds-deliver-end-2
slice_bounds-deliver-end-2 c =
    let k = c.least-entries in sym (length-take-le k.result (replicate 512 0) k.ensures.1)

pub returns-then-number-eq0 : goal.returns-then-number-eq0
returns-then-number-eq0 c =
    λ lent e. let k = c.least-entries in let copy = c.copy_of-copy in let a = c.args in let same = deliver_alike (run_of copy.result) (run_of a.w.now) copy.ensures k.result a.size lent k.ensures e a.m in (deliver_ways (run_of copy.result) a.m (take k.result (replicate 512 0))).short _ _ c.deliver-delivered.ensures.answer_value c.from-summary.ensures (rw c.number-number.ensures at c.if-number-eq0.true) _ same

pub returns : goal.returns
returns c =
    λ lent e. let k = c.least-entries in let copy = c.copy_of-copy in let a = c.args in let same = deliver_alike (run_of copy.result) (run_of a.w.now) copy.ensures k.result a.size lent k.ensures e a.m in (deliver_ways (run_of copy.result) a.m (take k.result (replicate 512 0))).refused _ _ c.deliver-delivered.ensures.answer_value c.from-summary.ensures (rw c.number-number.ensures at c.if-number-eq0.false) _ same
