-- `words_sound::are_processes_sound` meets its contract. Assumes nothing.
use Rattle.std.specs.Prelude.{◌-◌}
use Rattle.laws.specs.Basics.{arith, rules}
use Rattle.words_sound.proofs.Judging.{Passed, none_passed, one_passed, process_fails, all_passed, kept_count_few}
use Rattle.words_sound.proofs.are_processes_sound.Given as goal

abbrev pub invariant-loop-p : goal.invariant-loop-p
invariant-loop-p l = Passed l.w l.n l.p l.blocks
