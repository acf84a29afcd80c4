-- `library_calls::run_words::read::read` meets its contract. Assumes nothing.
use Rattle.std.specs.Prelude.{◌≡◌, ◌≤◌}
use Rattle.library_calls.proofs.run_words.Tables.{so_far}
use Rattle.library_calls.proofs.run_words.read.read.Given as goal

abbrev pub invariant-loop-q : goal.invariant-loop-q
invariant-loop-q l = (l.q ≤ l.q-end) × (l.n ≤ 16) × (l.table ≡ so_far l.w l.q)
