-- `machine_record::calls::checkpoint` meets its contract. Assumes nothing.
use Rattle.laws.specs.Basics.{refl, Some, replicate, rules}
use Rattle.model.specs.declared.Event.TheVariants.{Checkpoint}
use Rattle.whole_runs.specs.{Outcomes.checkpoint_report, Listing.call_of}
use Rattle.theory_recording.specs.Recording.{recorded, recorded_checkpoint}
use Rattle.words.specs.Layout.{run_of}
use Rattle.machine_record.specs.Recorded.{recorded_in}
use Rattle.machine_record.proofs.{Taking.plays}
use Rattle.machine_record.proofs.calls.checkpoint.Goals as goal

pub returns : goal.returns
unfolding recorded_in recorded call_of
returns c =
    let a = c.args in let e = c.checkpoint-recorded.ensures in rw c.number-number.ensures (plays checkpoint_report (run_of a.w.now) a.buffer.now a.place (Some (Checkpoint a.i)) (recorded_checkpoint (run_of a.w.now) a.i (replicate 512 0) a.buffer.now a.place) refl c.from-summary.result e.w_after e.answer_value e.buffer_after e.place_value c.from-summary.ensures)
