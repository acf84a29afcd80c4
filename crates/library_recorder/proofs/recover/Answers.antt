-- `library_recorder::recover` meets its contract: the three ways of a call through the recorder.
-- Assumes nothing.
use Rattle.laws.specs.Basics.{ap, not, refl, ◌∙◌, length, rules}
use Rattle.words.specs.Layout.{run_of}
use Rattle.in_place.proofs.Leaving.{same_words}
use Rattle.library_recorder.proofs.{record.Ways.has_room, record.Ways.recover_ways}
use Rattle.library_recorder.proofs.recover.Goals as goal

pub returns-then-not-room : goal.returns-then-not-room
returns-then-not-room c =
    let a = c.args in let l = (recover_ways (run_of a.w.now) a.failed a.deleted.now a.line.now).without _ a.buffer.now a.place c.has_room-room.ensures (ap not c.if-not-room.true) (c.recover-answer.ensures a.deleted.now a.line.now refl refl) in record { w_after = l.run; answer_value = l.answer; deleted_after = l.deleted; line_after = l.line; buffer_after = l.buffer; place_value = l.place; w_unchanged = λ why q. refl; leaves = same_words a.w.now }

pub append_accepted-next-requires : goal.append_accepted-next-requires
append_accepted-next-requires c =
    let a = c.args in let fits = has_room (length a.buffer.now) a.place c.has_room-room.ensures (ap not c.if-not-room.false) in let ways = recover_ways (run_of a.w.now) a.failed a.deleted.now a.line.now in let made = c.recover-answer-2.ensures in record { place_in_bounds = fits; e_value = rw c.number-number.ensures (ways.fine _ _ made.value c.from-summary.ensures) }

pub returns : goal.returns
returns c =
    let a = c.args in let fits = has_room (length a.buffer.now) a.place c.has_room-room.ensures (ap not c.if-not-room.false) in let ways = recover_ways (run_of a.w.now) a.failed a.deleted.now a.line.now in let made = c.recover-answer-2.ensures in let l = ways.made _ _ made.value c.from-summary.ensures a.buffer.now a.place fits in let written = rw c.number-number.ensures at c.append_accepted-next.ensures in record { w_after = made.w_after ∙ l.run; answer_value = made.value ∙ l.answer; deleted_after = made.deleted_after ∙ l.deleted; line_after = made.line_after ∙ l.line; buffer_after = written.buffer_after ∙ l.buffer; place_value = written.value ∙ l.place; w_unchanged = made.w_unchanged; leaves = made.leaves }
