-- `in_place::lose::lose` meets its contract: words that stand for no sound state are refused with 2, on others the step does it. Demand 3 is the theorem of
-- `whole_runs`.
-- Assumes nothing.
use Rattle.laws.specs.Basics.{ap, not, refl, rules}
use Rattle.words.specs.Layout.{run_of}
use Rattle.whole_runs.proofs.{Unsound.is_sound, Unsound.is_unsound, Unsound.lose_unsound, WholeRuns.lose_promise}
use Rattle.in_place.proofs.{Leaving.same_words}
use Rattle.in_place.proofs.lose.lose.Goals as goal

pub returns-then-not-sound : goal.returns-then-not-sound
returns-then-not-sound c =
    let a = c.args in let g = lose_unsound (run_of a.w.now) (is_unsound (run_of a.w.now) c.is_sound-sound.ensures (ap not c.if-not-sound.true)) a.m in record { w_after = g.0; value = g.1; w_unchanged = λ why q. refl; leaves = same_words a.w.now; state_promise = lose_promise (run_of a.w.now) a.m (run_of a.w.now) g.0 }

pub lose_on-requires : goal.lose_on-requires
lose_on-requires c =
    is_sound (run_of c.args.w.now) c.is_sound-sound.ensures (ap not c.if-not-sound.false)

pub shape_of-w : goal.shape_of-w
shape_of-w c =
    c.lose_on.auto.w

pub returns : goal.returns
returns c =
    let a = c.args in let g = c.lose_on.ensures in record { w_after = g.w_after; value = g.value; w_unchanged = g.w_unchanged; leaves = g.leaves; state_promise = lose_promise (run_of a.w.now) a.m _ g.w_after }
