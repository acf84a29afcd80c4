-- `library_replay::record::checkpoint` meets its contract. Assumes nothing.
use Rattle.laws.specs.Basics.{sym, ◌∙◌, ap, rules}
use Rattle.model.specs.Sound.{sound}
use Rattle.words.specs.Layout.{run_of}
use Rattle.library_replay.proofs.{Summarised.checkpoint_performs}
use Rattle.in_place.proofs.Staying.{calls_keep_sound}
use Rattle.in_place.specs.Staying.{CallsKeepSound}
use Rattle.library_replay.proofs.record.checkpoint.Goals as goal

pub returns : goal.returns
unfolding CallsKeepSound
returns c =
    let a = c.args in let g = c.checkpoint_on-answer.ensures in record { performs = checkpoint_performs (run_of a.w.now) a.i a.deleted.now c.requires.1 g.w_after g.value g.deleted_after c.from-summary.ensures; sound_value = sym (ap sound g.w_after ∙ (calls_keep_sound a.w.now c.requires.0).checkpoint a.i a.deleted.now); leaves = g.leaves }
