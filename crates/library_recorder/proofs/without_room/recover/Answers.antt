-- `library_recorder::without_room::recover` meets its contract: the call was made on a copy of the words with lists of its own, and its answer is its refusal, or else 21 is said.
-- Assumes nothing.
use Rattle.laws.specs.Basics.{sym, take, replicate, length-take-le, rules}
use Rattle.words.specs.Layout.{run_of}
use Rattle.library_recorder.proofs.{record.Scratch.recover_alike, record.Ways.recover_ways}
use Rattle.library_recorder.proofs.without_room.recover.Goals as goal

pub slice_bounds-recover-end-2 : goal.slice_bounds-recover-end-2
slice_bounds-recover-end-2 c =
    let k = c.least-entries in sym (length-take-le k.result (replicate 512 0) k.ensures.1)

pub slice_bounds-recover-end-3 : goal.slice_bounds-recover-end-3
slice_bounds-recover-end-3 c =
    let j = c.least-places in sym (length-take-le j.result (replicate 16 0) j.ensures.1)

pub returns-then-number-eq0 : goal.returns-then-number-eq0
returns-then-number-eq0 c =
    λ lent line e f. let j = c.least-places in let k = c.least-entries in let copy = c.copy_of-copy in let a = c.args in let same = recover_alike (run_of copy.result) (run_of a.w.now) copy.ensures k.result a.size lent k.ensures e a.failed j.result a.members line j.ensures f in (recover_ways (run_of copy.result) a.failed (take k.result (replicate 512 0)) (take j.result (replicate 16 0))).short _ _ c.recover-answer.ensures.value c.from-summary.ensures (rw c.number-number.ensures at c.if-number-eq0.true) _ same

pub returns : goal.returns
returns c =
    λ lent line e f. let j = c.least-places in let k = c.least-entries in let copy = c.copy_of-copy in let a = c.args in let same = recover_alike (run_of copy.result) (run_of a.w.now) copy.ensures k.result a.size lent k.ensures e a.failed j.result a.members line j.ensures f in (recover_ways (run_of copy.result) a.failed (take k.result (replicate 512 0)) (take j.result (replicate 16 0))).refused _ _ c.recover-answer.ensures.value c.from-summary.ensures (rw c.number-number.ensures at c.if-number-eq0.false) _ same
