-- `machine_record::calls::deliver` meets its contract. Assumes nothing.
use Rattle.laws.specs.Basics.{refl, Some, replicate, rules}
use Rattle.model.specs.declared.Event.TheVariants.{Deliver}
use Rattle.whole_runs.specs.{Outcomes.deliver_report, Listing.call_of}
use Rattle.theory_recording.specs.Recording.{recorded, recorded_deliver}
use Rattle.words.specs.Layout.{run_of}
use Rattle.machine_record.specs.Recorded.{recorded_in}
use Rattle.machine_record.proofs.{Taking.plays}
use Rattle.machine_record.proofs.calls.deliver.Goals as goal

pub returns : goal.returns
unfolding recorded_in recorded call_of
returns c =
    let a = c.args in let e = c.deliver-recorded.ensures in rw c.number-number.ensures (plays deliver_report (run_of a.w.now) a.buffer.now a.place (Some (Deliver a.m)) (recorded_deliver (run_of a.w.now) a.m (replicate 512 0) a.buffer.now a.place) refl c.from-summary.result e.w_after e.answer_value e.buffer_after e.place_value c.from-summary.ensures)
