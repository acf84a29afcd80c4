-- `lemidrosy::recorded::lemidrosy_record_lose` meets its contract: without a place it is refused, else the recorder does it.
-- Assumes nothing.
use Rattle.laws.specs.Basics.{◌∙◌, ap, set, rules}
use Rattle.whole_runs.specs.Outcomes.{Report}
use Rattle.listing.specs.Reports.{lose_is}
use Rattle.listing.specs.answers.Codes.{coded, lose_code}
use Rattle.words.specs.Layout.{run_of}
use Rattle.lemidrosy.proofs.Changing.{changed, unchanged}
use Rattle.lemidrosy.proofs.Recording.{lose_by, lose_three, lose_recorded_fits}
use Rattle.lemidrosy.proofs.recorded.lemidrosy_record_lose.Goals as goal

pub returns-then-place-eq0 : goal.returns-then-place-eq0
returns-then-place-eq0 c =
    let a = c.args in let l = (lose_by (run_of a.words.now) a.message a.buffer.now a.place.now).without c.if-place-eq0.true in (lose_three ∙ ap lose_code l.answer, l.buffer, l.places, unchanged _ _ _ l.run)

pub of-requires : goal.of-requires
of-requires c =
    rw (lose_is c.lose-recorded.result.answer, c.lose-recorded.ensures.answer_value) (lose_recorded_fits _ _ _ _)

pub returns : goal.returns
returns c =
    let a = c.args in let g = c.lose-recorded.ensures in let l = (lose_by (run_of a.words.now) a.message a.buffer.now a.place.now).placed c.if-place-eq0.false in let answer = g.answer_value ∙ l.answer in (c.of.ensures ∙ ap (λ (r : Report). coded r 0) (lose_is _) ∙ ap lose_code answer, g.buffer_after ∙ l.buffer, ap (set a.place.now 0) g.place_value ∙ l.places, changed _ _ _ _ _ answer (g.w_after ∙ l.run) g.w_unchanged g.leaves)
