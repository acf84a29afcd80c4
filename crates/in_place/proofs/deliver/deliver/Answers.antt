-- `in_place::deliver::deliver` meets its contract: words that stand for no sound state are refused with 2, on others the step does it. Demand 3 is the theorem of
-- `whole_runs`.
-- Assumes nothing.
use Rattle.laws.specs.Basics.{ap, not, refl, rules}
use Rattle.words.specs.Layout.{run_of}
use Rattle.whole_runs.proofs.{Unsound.is_sound, Unsound.is_unsound, Unsound.deliver_unsound, WholeRuns.deliver_promise}
use Rattle.in_place.proofs.{Leaving.same_words}
use Rattle.in_place.proofs.deliver.deliver.Goals as goal

pub returns-then-not-sound : goal.returns-then-not-sound
returns-then-not-sound c =
    let a = c.args in let g = deliver_unsound (run_of a.w.now) (is_unsound (run_of a.w.now) c.is_sound-sound.ensures (ap not c.if-not-sound.true)) a.m a.deleted.now in rw c.refuse.ensures (record { w_after = g.0; answer_value = g.1.0; rose_value = g.1.1.0; deleted_after = g.1.1.1; w_unchanged = λ why q. refl; leaves = same_words a.w.now; state_promise = deliver_promise (run_of a.w.now) a.m a.deleted.now (run_of a.w.now) g.0 })

pub deliver_on-requires : goal.deliver_on-requires
deliver_on-requires c =
    is_sound (run_of c.args.w.now) c.is_sound-sound.ensures (ap not c.if-not-sound.false)

pub returns : goal.returns
returns c =
    let t = c.deliver_on.ensures in let a = c.args in record { w_after = t.w_after; answer_value = t.answer_value; rose_value = t.rose_value; deleted_after = c.deliver_on.ensures.deleted_after; w_unchanged = c.deliver_on.ensures.w_unchanged; leaves = c.deliver_on.ensures.leaves; state_promise = deliver_promise (run_of a.w.now) a.m a.deleted.now _ t.w_after }
