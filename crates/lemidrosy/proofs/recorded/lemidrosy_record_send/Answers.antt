-- `lemidrosy::recorded::lemidrosy_record_send` meets its contract: without a place it is refused, else the recorder does it.
-- Assumes nothing.
use Rattle.laws.specs.Basics.{◌∙◌, ap, set, rules}
use Rattle.listing.specs.answers.Codes.{send_code}
use Rattle.words.specs.Layout.{run_of}
use Rattle.lemidrosy.proofs.Changing.{changed, unchanged}
use Rattle.lemidrosy.proofs.Recording.{send_by, send_three, send_recorded_fits}
use Rattle.lemidrosy.proofs.recorded.lemidrosy_record_send.Goals as goal

pub returns-then-place-eq0 : goal.returns-then-place-eq0
returns-then-place-eq0 c =
    let a = c.args in let l = (send_by (run_of a.words.now) a.sender a.receiver a.buffer.now a.place.now).without c.if-place-eq0.true in (send_three ∙ ap send_code l.answer, l.buffer, l.places, unchanged _ _ _ l.run)

pub of-requires : goal.of-requires
of-requires c =
    rw c.send-recorded.ensures.answer_value (send_recorded_fits _ _ _ _ _)

pub returns : goal.returns
returns c =
    let a = c.args in let g = c.send-recorded.ensures in let l = (send_by (run_of a.words.now) a.sender a.receiver a.buffer.now a.place.now).placed c.if-place-eq0.false in let answer = g.answer_value ∙ l.answer in (c.of.ensures ∙ ap send_code answer, g.buffer_after ∙ l.buffer, ap (set a.place.now 0) g.place_value ∙ l.places, changed _ _ _ _ _ answer (g.w_after ∙ l.run) g.w_unchanged g.leaves)
