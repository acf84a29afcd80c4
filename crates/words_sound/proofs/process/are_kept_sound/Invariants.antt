-- `words_sound::process::are_kept_sound` meets its contract. Assumes nothing.
use Rattle.std.specs.Prelude.{◌-◌}
use Rattle.laws.specs.Basics.{ap, ℕ, rules}
use Rattle.words.specs.Layout.{word}
use Rattle.words_sound.proofs.Judging.{Walked, none_walked, one_walked, walk_stops, walk_misses, walk_ends, last_is_lem}
use Rattle.words_sound.proofs.process.are_kept_sound.Given as goal

abbrev pub invariant-loop-k : goal.invariant-loop-k
invariant-loop-k l = Walked l.w l.p l.kept_count l.initial.off l.k l.before l.off l.unmet
