-- `library_recorder::lose` meets its contract: the three ways of a call through the recorder.
-- Assumes nothing.
use Rattle.laws.specs.Basics.{ap, not, refl, ◌∙◌, length, rules}
use Rattle.listing.specs.Reports.{lose_is}
use Rattle.words.specs.Layout.{run_of}
use Rattle.in_place.proofs.Leaving.{same_words}
use Rattle.library_recorder.proofs.{record.Ways.has_room, record.Ways.lose_ways}
use Rattle.library_recorder.proofs.lose.Goals as goal

pub returns-then-not-room : goal.returns-then-not-room
returns-then-not-room c =
    let a = c.args in let l = (lose_ways (run_of a.w.now) a.m).without _ a.buffer.now a.place c.has_room-room.ensures (ap not c.if-not-room.true) c.lose-answer.ensures in record { w_after = l.run; answer_value = l.answer; buffer_after = l.buffer; place_value = l.place; w_unchanged = λ why q. refl; leaves = same_words a.w.now }

pub append_accepted-next-requires : goal.append_accepted-next-requires
append_accepted-next-requires c =
    let a = c.args in let fits = has_room (length a.buffer.now) a.place c.has_room-room.ensures (ap not c.if-not-room.false) in let ways = lose_ways (run_of a.w.now) a.m in let made = c.lose-answer-2.ensures in record { place_in_bounds = fits; e_value = rw c.number-number.ensures (ways.fine _ _ made.value (c.from-summary.ensures ∙ lose_is _)) }

pub returns : goal.returns
returns c =
    let a = c.args in let fits = has_room (length a.buffer.now) a.place c.has_room-room.ensures (ap not c.if-not-room.false) in let ways = lose_ways (run_of a.w.now) a.m in let made = c.lose-answer-2.ensures in let l = ways.made _ _ made.value (c.from-summary.ensures ∙ lose_is _) a.buffer.now a.place fits in let written = rw c.number-number.ensures at c.append_accepted-next.ensures in record { w_after = made.w_after ∙ l.run; answer_value = made.value ∙ l.answer; buffer_after = written.buffer_after ∙ l.buffer; place_value = written.value ∙ l.place; w_unchanged = made.w_unchanged; leaves = made.leaves }
