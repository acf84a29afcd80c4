-- `library_halves::taking::take_all` meets its contract. The loop's invariant: the log has the records taken, and the rest of both halves comes to what all of them do.
-- Assumes nothing.
use Rattle.std.specs.Prelude.{◌≡◌, ◌+◌, ◌*◌, ◌/◌, ◌≤◌}
use Rattle.laws.specs.Basics.{length}
use Rattle.theory_merges.specs.Merge.{after_first_byte}
use Rattle.library_halves.proofs.Iterations.{Taking}
use Rattle.library_halves.proofs.taking.take_all.Given as goal

abbrev pub invariant-loop-taken : goal.invariant-loop-taken
invariant-loop-taken l = record {
  length_kept : length l.log ≡ length l.initial.log;
  first_inside : 1 + 4 * l.a ≤ length l.first;
  second_inside : 1 + 4 * l.b ≤ length l.second;
  counted : l.a + l.b ≡ l.taken;
  taking : Taking l.n l.set l.first l.second (length (after_first_byte l.first) / 4 + length (after_first_byte l.second) / 4) l.log l.a l.b;
}
