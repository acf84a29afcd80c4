-- `lemidrosy::recorded::lemidrosy_record_deliver` meets its contract: without a place it is refused, else the recorder does it.
-- Assumes nothing.
use Rattle.laws.specs.Basics.{◌∙◌, ap, set, rules}
use Rattle.listing.specs.answers.Codes.{deliver_code}
use Rattle.words.specs.Layout.{run_of}
use Rattle.lemidrosy.proofs.Changing.{changed, unchanged}
use Rattle.lemidrosy.proofs.Recording.{deliver_by, deliver_three, deliver_recorded_fits}
use Rattle.lemidrosy.proofs.recorded.lemidrosy_record_deliver.Goals as goal

pub returns-then-place-eq0 : goal.returns-then-place-eq0
returns-then-place-eq0 c =
    let a = c.args in let l = (deliver_by (run_of a.words.now) a.message a.deleted.now a.buffer.now a.place.now).without c.if-place-eq0.true in (deliver_three ∙ (λ j. deliver_code (l.answer j) (l.rose j)), l.deleted, l.buffer, l.places, unchanged _ _ _ l.run)

pub of-requires : goal.of-requires
of-requires c =
    rw c.deliver-recorded.ensures.answer_value (deliver_recorded_fits _ _ _ _ _)

pub returns : goal.returns
returns c =
    let a = c.args in let g = c.deliver-recorded.ensures in let l = (deliver_by (run_of a.words.now) a.message a.deleted.now a.buffer.now a.place.now).placed c.if-place-eq0.false in let answer = g.answer_value ∙ l.answer in let rose = g.rose_value ∙ l.rose in (c.of.ensures ∙ (λ j. deliver_code (answer j) (rose j)), g.deleted_after ∙ l.deleted, g.buffer_after ∙ l.buffer, ap (set a.place.now 0) g.place_value ∙ l.places, changed _ _ _ _ _ answer (g.w_after ∙ l.run) g.w_unchanged g.leaves)
