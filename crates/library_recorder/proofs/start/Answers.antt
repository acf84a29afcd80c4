-- `library_recorder::start` meets its contract: the three ways of a start through the recorder.
-- Assumes nothing.
use Rattle.std.specs.Prelude.{◌≡◌}
use Rattle.laws.specs.Basics.{None, arith, length, rules}
use Rattle.in_place.specs.Starting.{start_refusal_in}
use Rattle.in_place.proofs.Starting.{accepted_few}
use Rattle.library_recorder.proofs.Begun.{start_accepted, start_refused, replied_refused, replied_short, replied_done}
use Rattle.library_recorder.proofs.start.Goals as goal

pub returns-then-number-ne0 : goal.returns-then-number-ne0
returns-then-number-ne0 c =
    let a = c.args in let made = c.start-answer.ensures in let x = start_refused (length a.w.now) a.n a.block_counts.now _ _ made.value c.from-summary.ensures (rw c.number-number.ensures at c.if-number-ne0.true) in let z = replied_refused a.w.now a.n a.block_counts.now a.buffer.now a.place x.0 x.1 made.value made.w_after made.w_after_2 made.clean in record { w_after = z.0; answer_value = z.1.0; buffer_after = z.1.1.0; place_value = z.1.1.1.0; w_after_2 = z.1.1.1.1.0; clean = z.1.1.1.1.1 }

pub returns-then-buffer-eq0 : goal.returns-then-buffer-eq0
returns-then-buffer-eq0 c =
    let accepted : let a = c.args in start_refusal_in (length a.w.now) a.n a.block_counts.now ≡ None = let a = c.args in start_accepted (length a.w.now) a.n a.block_counts.now _ _ c.start-answer.ensures.value c.from-summary.ensures (rw c.number-number.ensures at c.if-number-ne0.false) in
    let a = c.args in let z = replied_short a.w.now a.n a.block_counts.now a.buffer.now a.place accepted c.if-buffer-eq0.true c.start-answer.ensures.w_after_2 c.start.ensures.w_after_2 in record { w_after = z.0; answer_value = z.1.0; buffer_after = z.1.1.0; place_value = z.1.1.1.0; w_after_2 = z.1.1.1.1.0; clean = z.1.1.1.1.1 }

pub overflow_cast-buffer : goal.overflow_cast-buffer
overflow_cast-buffer c =
    let accepted : let a = c.args in start_refusal_in (length a.w.now) a.n a.block_counts.now ≡ None = let a = c.args in start_accepted (length a.w.now) a.n a.block_counts.now _ _ c.start-answer.ensures.value c.from-summary.ensures (rw c.number-number.ensures at c.if-number-ne0.false) in
    let a = c.args in record { fits = omega (arith, accepted_few (length a.w.now) a.n a.block_counts.now accepted) }

pub returns : goal.returns
returns c =
    let accepted : let a = c.args in start_refusal_in (length a.w.now) a.n a.block_counts.now ≡ None = let a = c.args in start_accepted (length a.w.now) a.n a.block_counts.now _ _ c.start-answer.ensures.value c.from-summary.ensures (rw c.number-number.ensures at c.if-number-ne0.false) in
    let a = c.args in let made = c.start-answer.ensures in let z = replied_done a.w.now a.n a.block_counts.now a.buffer.now a.place accepted (omega (arith, c.if-buffer-eq0.false)) made.value made.w_after made.w_after_2 made.clean in record { w_after = z.0; answer_value = z.1.0; buffer_after = z.1.1.0; place_value = z.1.1.1.0; w_after_2 = z.1.1.1.1.0; clean = z.1.1.1.1.1 }
