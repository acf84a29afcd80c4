-- `library_replay::record::lose` meets its contract. Assumes nothing.
use Rattle.laws.specs.Basics.{sym, ◌∙◌, ap, rules}
use Rattle.model.specs.Sound.{sound}
use Rattle.words.specs.Layout.{run_of}
use Rattle.listing.specs.Reports.{lose_is}
use Rattle.library_replay.proofs.{Summarised.lose_performs}
use Rattle.in_place.proofs.Staying.{calls_keep_sound}
use Rattle.in_place.specs.Staying.{CallsKeepSound}
use Rattle.library_replay.proofs.record.lose.Goals as goal

pub returns : goal.returns
unfolding CallsKeepSound
returns c =
    let a = c.args in let g = c.lose_on-answer.ensures in record { by_index = lose_performs (run_of a.w.now) a.m g.w_after g.value (c.from-summary.ensures ∙ lose_is _); sound_value = sym (ap sound g.w_after ∙ (calls_keep_sound a.w.now c.requires).lose a.m); leaves = g.leaves }
