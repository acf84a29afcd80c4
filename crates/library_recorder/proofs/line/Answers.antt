-- `library_recorder::line` meets its contract: the call is made, and nothing is written.
-- Assumes nothing.
use Rattle.laws.specs.Basics.{refl, ◌∙◌, rules}
use Rattle.words.specs.Layout.{run_of}
use Rattle.theory_recording.specs.Recording.{recorded_line}
use Rattle.library_recorder.proofs.{record.Leaves.leaves_all}
use Rattle.library_recorder.proofs.line.Goals as goal

pub returns : goal.returns
unfolding recorded_line
returns c =
    let a = c.args in let made = c.line-answer.ensures in let l = leaves_all _ (recorded_line (run_of a.w.now) a.failed a.line.now a.buffer.now a.place) a.buffer.now a.place refl in record { w_value = made.w_value ∙ l.run; answer_value = made.value ∙ l.answer; line_after = made.line_after ∙ l.line; buffer_after = l.buffer; place_value = l.place }
