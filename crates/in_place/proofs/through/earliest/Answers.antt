-- `in_place::through::earliest` meets its contract: words that stand for no sound state are refused with 2, on others the step does it. Note 8 is the theorem of
-- `whole_runs`.
-- Assumes nothing.
use Rattle.laws.specs.Basics.{ap, not, rules}
use Rattle.words.specs.Layout.{run_of}
use Rattle.whole_runs.proofs.{Unsound.is_sound, Unsound.is_unsound, Unsound.earliest_unsound, WholeRuns.earliest_promise}
use Rattle.words_line.specs.Through.{named_in}
use Rattle.in_place.proofs.through.earliest.Goals as goal

pub returns-then-not-sound : goal.returns-then-not-sound
returns-then-not-sound c =
    let a = c.args in let s = run_of a.w.now in let g = earliest_unsound s (is_unsound s c.is_sound-sound.ensures (ap not c.if-not-sound.true)) (named_in a.named.now) a.line.now in record { w_value = g.0; value = g.1.0; line_after = g.1.1; earliest_promise = earliest_promise s (named_in a.named.now) a.line.now }

pub earliest_on-requires : goal.earliest_on-requires
earliest_on-requires c =
    is_sound (run_of c.args.w.now) c.is_sound-sound.ensures (ap not c.if-not-sound.false)

pub returns : goal.returns
returns c =
    let a = c.args in let g = c.earliest_on.ensures in record { w_value = g.w_value; value = g.value; line_after = g.line_after; earliest_promise = earliest_promise (run_of a.w.now) (named_in a.named.now) a.line.now }
