-- `words_sound::under_way::are_places_sound` meets its contract. Assumes nothing.
use Rattle.std.specs.Prelude.{◌-◌}
use Rattle.laws.specs.Basics.{arith, rules}
use Rattle.laws.specs.Loops.{either}
use Rattle.words_sound.proofs.Judging.{Read, none_read, one_read, none_there, read_fails, all_read}
use Rattle.words_sound.proofs.under_way.are_places_sound.Given as goal

abbrev pub invariant-loop-k : goal.invariant-loop-k
invariant-loop-k l = Read l.w l.end l.k l.before l.count l.over
