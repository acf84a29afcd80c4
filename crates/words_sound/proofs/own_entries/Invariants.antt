-- `words_sound::own_entries` meets its contract. Assumes nothing.
use Rattle.std.specs.Prelude.{◌≡◌, ◌-◌, ◌≤◌}
use Rattle.laws.specs.Basics.{◌∙◌, arith, rules}
use Rattle.words.specs.Layout.{count_of, interval_of}
use Rattle.laws.specs.Loops.{set_below, below_none, step_set}
use Rattle.words_sound.specs.Test.{own_in}
use Rattle.words_sound.proofs.{Judging.limits_gathered}
use Rattle.words_sound.proofs.own_entries.Given as goal

abbrev pub invariant-loop-f : goal.invariant-loop-f
invariant-loop-f l = (l.f ≤ l.n) × (l.owns ≡ set_below l.f (λ q. interval_of (own_in l.w q)) l.initial.owns)
