-- `machine_record::calls::send` meets its contract. Assumes nothing.
use Rattle.laws.specs.Basics.{refl, Some, rules}
use Rattle.model.specs.declared.Event.TheVariants.{Send}
use Rattle.whole_runs.specs.{Outcomes.send_report, Listing.call_of}
use Rattle.theory_recording.specs.Recording.{recorded, recorded_send}
use Rattle.words.specs.Layout.{run_of}
use Rattle.machine_record.specs.Recorded.{recorded_in}
use Rattle.machine_record.proofs.{Taking.plays}
use Rattle.machine_record.proofs.calls.send.Goals as goal

pub returns : goal.returns
unfolding recorded_in recorded call_of
returns c =
    let a = c.args in let e = c.send-recorded.ensures in rw c.number-number.ensures (plays send_report (run_of a.w.now) a.buffer.now a.place (Some (Send a.i a.j)) (recorded_send (run_of a.w.now) a.i a.j a.buffer.now a.place) refl c.from-summary.result e.w_after e.answer_value e.buffer_after e.place_value c.from-summary.ensures)
