-- `in_place::line::line` meets its contract: words that stand for no sound state are refused with 2, on others the step does it. Demand 3 and Note 4 are theorems of
-- `whole_runs`.
-- Assumes nothing.
use Rattle.laws.specs.Basics.{ap, not, rules}
use Rattle.words.specs.Layout.{run_of}
use Rattle.whole_runs.proofs.{Sweep.empty_line_promise, Unsound.is_sound, Unsound.is_unsound, Unsound.line_unsound, WholeRuns.line_promise}
use Rattle.in_place.proofs.line.line.Goals as goal

pub returns-then-not-sound : goal.returns-then-not-sound
returns-then-not-sound c =
    let a = c.args in let s = run_of a.w.now in let g = line_unsound s (is_unsound s c.is_sound-sound.ensures (ap not c.if-not-sound.true)) a.failed a.line.now in record { w_value = g.0; value = g.1.0; line_after = g.1.1; line_promise = line_promise s a.failed; empty_line_promise = empty_line_promise s a.failed a.line.now g.1.0 g.1.1 }

pub line_on-requires : goal.line_on-requires
line_on-requires c =
    is_sound (run_of c.args.w.now) c.is_sound-sound.ensures (ap not c.if-not-sound.false)

pub returns : goal.returns
returns c =
    let a = c.args in let s = run_of a.w.now in let g = c.line_on.ensures in record { w_value = g.w_value; value = g.value; line_after = g.line_after; line_promise = line_promise s a.failed; empty_line_promise = empty_line_promise s a.failed a.line.now g.value g.line_after }
