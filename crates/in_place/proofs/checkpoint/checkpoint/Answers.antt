-- `in_place::checkpoint::checkpoint` meets its contract. Assumes nothing.
use Rattle.laws.specs.Basics.{ap, not, refl, rules}
use Rattle.words.specs.Layout.{run_of}
use Rattle.whole_runs.proofs.{Unsound.is_sound, Unsound.is_unsound, Unsound.checkpoint_unsound, WholeRuns.checkpoint_promise}
use Rattle.in_place.proofs.{Leaving.same_words}
use Rattle.in_place.proofs.checkpoint.checkpoint.Goals as goal

pub returns-then-not-sound : goal.returns-then-not-sound
returns-then-not-sound c =
    let a = c.args in let g = checkpoint_unsound (run_of a.w.now) (is_unsound (run_of a.w.now) c.is_sound-sound.ensures (ap not c.if-not-sound.true)) a.i a.deleted.now in record { w_after = g.0; value = g.1.0; deleted_after = g.1.1; w_unchanged = λ why q. refl; leaves = same_words a.w.now; state_promise = checkpoint_promise (run_of a.w.now) a.i a.deleted.now (run_of a.w.now) g.0 }

pub checkpoint_on-requires : goal.checkpoint_on-requires
checkpoint_on-requires c =
    is_sound (run_of c.args.w.now) c.is_sound-sound.ensures (ap not c.if-not-sound.false)

pub returns : goal.returns
returns c =
    let t = c.checkpoint_on.ensures in let a = c.args in record { w_after = t.w_after; value = t.value; deleted_after = t.deleted_after; w_unchanged = t.w_unchanged; leaves = t.leaves; state_promise = checkpoint_promise (run_of a.w.now) a.i a.deleted.now _ t.w_after }
