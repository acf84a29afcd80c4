-- `library_recorder::send` meets its contract: the three ways of a call through the recorder. Its record names the receiver, which only an accepted send has for certain small.
-- Assumes nothing.
use Rattle.laws.specs.Basics.{ap, not, refl, ◌∙◌, arith, length, rules, eq-eqb, ne_eqb}
use Rattle.words.specs.Layout.{run_of}
use Rattle.in_place.proofs.Leaving.{same_words}
use Rattle.library_recorder.proofs.{record.Ways.small, record.Ways.has_room, record.Ways.send_ways}
use Rattle.library_recorder.proofs.send.Goals as goal

pub returns-then-not-room : goal.returns-then-not-room
returns-then-not-room c =
    let a = c.args in let l = (send_ways (run_of a.w.now) a.i a.j).without _ a.buffer.now a.place c.has_room-room.ensures (ap not c.if-not-room.true) c.send-answer.ensures in record { w_after = l.run; answer_value = l.answer; buffer_after = l.buffer; place_value = l.place; w_unchanged = λ why q. refl; leaves = same_words a.w.now }

pub returns-then-number-ne0 : goal.returns-then-number-ne0
returns-then-number-ne0 c =
    let a = c.args in let fits = has_room (length a.buffer.now) a.place c.has_room-room.ensures (ap not c.if-not-room.false) in let ways = send_ways (run_of a.w.now) a.i a.j in let made = c.send-answer-2.ensures in let l = rw (ne_eqb _ 0 (rw c.number-number.ensures at c.if-number-ne0.true)) at (ways.made _ _ made.value c.from-summary.ensures a.buffer.now a.place fits) in record { w_after = made.w_after ∙ l.run; answer_value = made.value ∙ l.answer; buffer_after = l.buffer; place_value = l.place; w_unchanged = made.w_unchanged; leaves = made.leaves }

pub overflow_cast-j : goal.overflow_cast-j
overflow_cast-j c =
    let a = c.args in let fits = has_room (length a.buffer.now) a.place c.has_room-room.ensures (ap not c.if-not-room.false) in let ways = send_ways (run_of a.w.now) a.i a.j in let made = c.send-answer-2.ensures in record { fits = omega (arith, small a.i a.j (ways.fine _ _ made.value c.from-summary.ensures (rw c.number-number.ensures at c.if-number-ne0.false))) }

pub append-next-requires : goal.append-next-requires
append-next-requires c =
    let a = c.args in let fits = has_room (length a.buffer.now) a.place c.has_room-room.ensures (ap not c.if-not-room.false) in let ways = send_ways (run_of a.w.now) a.i a.j in let made = c.send-answer-2.ensures in record { place_in_bounds = fits; e_value = ways.fine _ _ made.value c.from-summary.ensures (rw c.number-number.ensures at c.if-number-ne0.false) }

pub returns : goal.returns
returns c =
    let a = c.args in let fits = has_room (length a.buffer.now) a.place c.has_room-room.ensures (ap not c.if-not-room.false) in let ways = send_ways (run_of a.w.now) a.i a.j in let made = c.send-answer-2.ensures in let l = rw (eq-eqb _ 0 (rw c.number-number.ensures at c.if-number-ne0.false)) at (ways.made _ _ made.value c.from-summary.ensures a.buffer.now a.place fits) in let written = c.append-next.ensures in record { w_after = made.w_after ∙ l.run; answer_value = made.value ∙ l.answer; buffer_after = written.buffer_after ∙ l.buffer; place_value = written.value ∙ l.place; w_unchanged = made.w_unchanged; leaves = made.leaves }
