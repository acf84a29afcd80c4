-- `machine_record::calls::lose` meets its contract. Assumes nothing.
use Rattle.laws.specs.Basics.{refl, ◌∙◌, Some, rules}
use Rattle.model.specs.declared.Event.TheVariants.{Lose}
use Rattle.whole_runs.specs.{Outcomes.lose_report, Listing.call_of}
use Rattle.listing.specs.Reports.{lose_is}
use Rattle.theory_recording.specs.Recording.{recorded, recorded_lose}
use Rattle.words.specs.Layout.{run_of}
use Rattle.machine_record.specs.Recorded.{recorded_in}
use Rattle.machine_record.proofs.{Taking.plays}
use Rattle.machine_record.proofs.calls.lose.Goals as goal

pub returns : goal.returns
unfolding recorded_in recorded call_of
returns c =
    let a = c.args in let e = c.lose-recorded.ensures in rw c.number-number.ensures (plays lose_report (run_of a.w.now) a.buffer.now a.place (Some (Lose a.m)) (recorded_lose (run_of a.w.now) a.m a.buffer.now a.place) refl c.from-summary.result e.w_after e.answer_value e.buffer_after e.place_value (c.from-summary.ensures ∙ lose_is _))
