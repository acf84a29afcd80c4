-- `library_halves::log::write_all` meets its contract. The loop's invariant: the bytes of the words so far are written.
-- Assumes nothing.
use Rattle.std.specs.Prelude.{◌≡◌}
use Rattle.laws.specs.Basics.{length, sets}
use Rattle.library_halves.specs.Log.{bytes_up_to}
use Rattle.library_halves.proofs.log.write_all.Given as goal

abbrev pub invariant-loop-i : goal.invariant-loop-i
invariant-loop-i l = (length l.out ≡ length l.initial.out) × (l.out ≡ sets l.initial.out 1 (bytes_up_to l.i l.log))
