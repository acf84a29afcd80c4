-- `lemidrosy::recorded::lemidrosy_record_start` meets its contract: without a place it is refused, else the recorder does it.
-- Assumes nothing.
use Rattle.laws.specs.Basics.{◌∙◌, ap, arith, set, rules}
use Rattle.listing.specs.answers.Codes.{start_code}
use Rattle.lemidrosy.proofs.Recording.{start_by, start_three, start_recorded_fits, words_none, words_some}
use Rattle.lemidrosy.proofs.recorded.lemidrosy_record_start.Goals as goal

pub returns-then-place-eq0 : goal.returns-then-place-eq0
returns-then-place-eq0 c =
    let a = c.args in let l = (start_by a.words.now a.n a.block_counts.now a.buffer.now a.place.now).without c.if-place-eq0.true in record { fact = (start_three ∙ ap start_code l.answer, l.run, l.buffer, l.places); words_after = words_none a.words.now a.n a.block_counts.now a.buffer.now a.place.now c.if-place-eq0.true; clean = λ long one. absurd (omega (arith, c.if-place-eq0.true)) }

pub of-requires : goal.of-requires
of-requires c =
    rw c.start-recorded.ensures.answer_value (start_recorded_fits _ _ _ _ _)

pub returns : goal.returns
returns c =
    let a = c.args in let g = c.start-recorded.ensures in let l = (start_by a.words.now a.n a.block_counts.now a.buffer.now a.place.now).placed c.if-place-eq0.false in let answer = g.answer_value ∙ l.answer in record { fact = (c.of.ensures ∙ ap start_code answer, g.w_after ∙ l.run, g.buffer_after ∙ l.buffer, ap (set a.place.now 0) g.place_value ∙ l.places); words_after = g.w_after_2 ∙ words_some a.words.now a.n a.block_counts.now a.buffer.now a.place.now c.if-place-eq0.false; clean = λ long one. g.clean long }
