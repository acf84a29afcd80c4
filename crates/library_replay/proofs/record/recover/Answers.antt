-- `library_replay::record::recover` meets its contract. Assumes nothing.
use Rattle.laws.specs.Basics.{sym, ◌∙◌, ap, rules}
use Rattle.model.specs.Sound.{sound}
use Rattle.words.specs.Layout.{run_of}
use Rattle.whole_runs.specs.Outcomes.{Report, recover_report}
use Rattle.whole_runs.proofs.WholeRuns.{reachable_sound}
use Rattle.listing.specs.Summarised.{report_in}
use Rattle.in_place.proofs.Staying.{calls_keep_sound}
use Rattle.in_place.specs.Staying.{CallsKeepSound}
use Rattle.library_replay.proofs.{Summarised.recover_performs, Summarised.recover_reachable}
use Rattle.library_replay.proofs.record.recover.Goals as goal

pub sound_after-still-requires : goal.sound_after-still-requires
unfolding CallsKeepSound report_in
sound_after-still-requires c =
    let a = c.args in let g = c.recover_on-answer.ensures in (
      λ e. ap sound g.w_after ∙ reachable_sound _ (recover_reachable (run_of a.w.now) (c.requires.1 e) a.failed a.deleted.now a.line.now),
      λ none. ap sound g.w_after
          ∙ (calls_keep_sound a.w.now c.requires.0).recover a.failed a.deleted.now a.line.now
          (sym (ap (λ (x : Report). x.deletions) (c.from-summary.ensures ∙ ap recover_report g.value)) ∙ none),
    )

pub returns : goal.returns
returns c =
    let a = c.args in let g = c.recover_on-answer.ensures in record { performs = recover_performs (run_of a.w.now) a.failed a.deleted.now a.line.now c.requires.2 c.requires.3 g.w_after g.value g.deleted_after c.from-summary.ensures; sound_value = c.sound_after-still.ensures; leaves = g.leaves }
