-- `lemidrosy::recorded::lemidrosy_record_line` meets its contract: without a place it is refused, else the recorder does it.
-- Assumes nothing.
use Rattle.laws.specs.Basics.{◌∙◌, ap, set, rules}
use Rattle.whole_runs.specs.Outcomes.{Report}
use Rattle.listing.specs.Reports.{line_is}
use Rattle.listing.specs.answers.Codes.{coded, line_code}
use Rattle.words.specs.Layout.{run_of}
use Rattle.lemidrosy.proofs.Recording.{line_by, line_three, line_recorded_fits}
use Rattle.lemidrosy.proofs.recorded.lemidrosy_record_line.Goals as goal

pub returns-then-place-eq0 : goal.returns-then-place-eq0
returns-then-place-eq0 c =
    let a = c.args in let l = (line_by (run_of a.words.now) a.failed a.line.now a.buffer.now a.place.now).without c.if-place-eq0.true in (line_three ∙ ap line_code l.answer, l.line, l.buffer, l.places)

pub of-requires : goal.of-requires
of-requires c =
    rw (line_is c.line-recorded.result.answer, c.line-recorded.ensures.answer_value) (line_recorded_fits _ _ _ _ _)

pub returns : goal.returns
returns c =
    let a = c.args in let g = c.line-recorded.ensures in let l = (line_by (run_of a.words.now) a.failed a.line.now a.buffer.now a.place.now).placed c.if-place-eq0.false in let answer = g.answer_value ∙ l.answer in (c.of.ensures ∙ ap (λ (r : Report). coded r 0) (line_is _) ∙ ap line_code answer, g.line_after ∙ l.line, g.buffer_after ∙ l.buffer, ap (set a.place.now 0) g.place_value ∙ l.places)
