-- `in_place_recover::recover` meets its contract: words that stand for no sound state are refused with 2, on others the step does it. Demand 3 and Notes 4 and 6 are
-- theorems of `whole_runs`.
-- Assumes nothing.
use Rattle.laws.specs.Basics.{ap, not, refl, rules}
use Rattle.words.specs.Layout.{run_of}
use Rattle.whole_runs.proofs.{Clean.clean_promise, Sweep.sweep_promise, Unsound.is_sound, Unsound.is_unsound, Unsound.recover_unsound}
use Rattle.whole_runs.proofs.WholeRuns.{line_promise, recover_promise}
use Rattle.in_place.proofs.Leaving.{same_words}
use Rattle.in_place_recover.proofs.recover.Goals as goal

pub returns-then-not-sound : goal.returns-then-not-sound
returns-then-not-sound c =
    let a = c.args in let s = run_of a.w.now in let F = a.failed in let d = a.deleted.now in let l = a.line.now in let g = recover_unsound s (is_unsound s c.is_sound-sound.ensures (ap not c.if-not-sound.true)) F d l in record { w_after = g.0; value = g.1.0; deleted_after = g.1.1.0; line_after = g.1.1.1; w_unchanged = λ why q. refl; leaves = same_words a.w.now; line_promise = line_promise s F; state_promise = recover_promise s F d l s g.0; clean_promise = clean_promise s F d l s g.0; sweep_promise = sweep_promise s F d l g.1.0 g.1.1.1 g.0 }

pub recover_on-requires : goal.recover_on-requires
recover_on-requires c =
    is_sound (run_of c.args.w.now) c.is_sound-sound.ensures (ap not c.if-not-sound.false)

pub returns : goal.returns
returns c =
    let a = c.args in let s = run_of a.w.now in let F = a.failed in let d = a.deleted.now in let l = a.line.now in let g = c.recover_on.ensures in record { w_after = g.w_after; value = g.value; deleted_after = g.deleted_after; line_after = g.line_after; w_unchanged = g.w_unchanged; leaves = g.leaves; line_promise = line_promise s F; state_promise = recover_promise s F d l _ g.w_after; clean_promise = clean_promise s F d l _ g.w_after; sweep_promise = sweep_promise s F d l g.value g.line_after g.w_after }
