-- `library_replay::block::replay_with_lists` meets its contract. Assumes nothing.
use Rattle.std.specs.Prelude.{◌≡◌, ◌-◌, ◌*◌}
use Rattle.laws.specs.Basics.{sym, ◌∙◌, ap, true, arith, length, rules}
use Rattle.model.specs.Sound.{sound}
use Rattle.whole_runs.specs.WholeRuns.{Reachable}
use Rattle.trace.specs.Answers.{event_in}
use Rattle.words.specs.Layout.{run_of}
use Rattle.in_place.specs.Left.{Leaves}
use Rattle.in_place.proofs.Leaving.{same_words}
use Rattle.library_replay.proofs.Iterations.{SoFar, Takes, none_taken, same_room, one_next, none_next, one_taken, all_taken, record_read, summary_small, performs_reachable, leaves_then}
use Rattle.library_replay.proofs.block.replay_with_lists.Given as goal

abbrev pub invariant-loop-going : goal.invariant-loop-going
invariant-loop-going l = SoFar l.all l.done (run_of l.initial.w) l.block l.initial.out (run_of l.w) l.taken l.out l.written l.going × (l.still ≡ sound (run_of l.w)) × (l.reached ≡ true → Reachable (run_of l.w))
    × (length l.deleted ≡ 512) × (length l.line ≡ 16) × Leaves l.initial.w l.w

abbrev pub decreases-loop-going : goal.decreases-loop-going
decreases-loop-going l = length l.block - 4 * l.taken
