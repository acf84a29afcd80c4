-- `library_replay::record::send` meets its contract. Assumes nothing.
use Rattle.laws.specs.Basics.{sym, ◌∙◌, ap, rules}
use Rattle.model.specs.Sound.{sound}
use Rattle.words.specs.Layout.{run_of}
use Rattle.library_replay.proofs.{Summarised.send_performs}
use Rattle.in_place.proofs.Staying.{calls_keep_sound}
use Rattle.in_place.specs.Staying.{CallsKeepSound}
use Rattle.library_replay.proofs.record.send.Goals as goal

pub returns : goal.returns
unfolding CallsKeepSound
returns c =
    let a = c.args in let g = c.send_on-answer.ensures in record { by_index = send_performs (run_of a.w.now) a.i a.j g.w_after g.value c.from-summary.ensures; sound_value = sym (ap sound g.w_after ∙ (calls_keep_sound a.w.now c.requires).send a.i a.j); leaves = g.leaves }
