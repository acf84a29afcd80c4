-- `lemidrosy::recorded::lemidrosy_record_recover` meets its contract: without a place it is refused, else the recorder does it.
-- Assumes nothing.
use Rattle.laws.specs.Basics.{◌∙◌, ap, set, rules}
use Rattle.listing.specs.answers.Codes.{recover_code}
use Rattle.words.specs.Layout.{run_of}
use Rattle.lemidrosy.proofs.Changing.{changed, unchanged}
use Rattle.lemidrosy.proofs.Recording.{recover_by, recover_three, recover_recorded_fits}
use Rattle.lemidrosy.proofs.recorded.lemidrosy_record_recover.Goals as goal

pub returns-then-place-eq0 : goal.returns-then-place-eq0
returns-then-place-eq0 c =
    let a = c.args in let l = (recover_by (run_of a.words.now) a.failed a.deleted.now a.line.now a.buffer.now a.place.now).without c.if-place-eq0.true in (recover_three ∙ ap recover_code l.answer, l.deleted, l.line, l.buffer, l.places, unchanged _ _ _ l.run)

pub of-requires : goal.of-requires
of-requires c =
    rw c.recover-recorded.ensures.answer_value (recover_recorded_fits _ _ _ _ _ _)

pub returns : goal.returns
returns c =
    let a = c.args in let g = c.recover-recorded.ensures in let l = (recover_by (run_of a.words.now) a.failed a.deleted.now a.line.now a.buffer.now a.place.now).placed c.if-place-eq0.false in let answer = g.answer_value ∙ l.answer in (c.of.ensures ∙ ap recover_code answer, g.deleted_after ∙ l.deleted, g.line_after ∙ l.line, g.buffer_after ∙ l.buffer, ap (set a.place.now 0) g.place_value ∙ l.places, changed _ _ _ _ _ answer (g.w_after ∙ l.run) g.w_unchanged g.leaves)
