-- `words_process::steps::advanced` meets its contract. Assumes nothing.
use Rattle.std.specs.Prelude.{◌≡◌, ◌+◌, ◌-◌, ◌≤◌, ◌<◌}
use Rattle.laws.specs.Basics.{refl, sym, ◌∙◌, ap, List, ℕ, arith, eqb, length, set, length-set, get_or-set_same, get_or-set_other, rules, eq-eqb, ne_eqb, eqb-true, pick, by_eq}
use Rattle.laws.specs.{Loops.set_below, Loops.below_none, Loops.below_all, Loops.step_set, Lists.table, Tables.table_is}
use Rattle.model.specs.declared.Interval.{Interval}
use Rattle.model.specs.{Words.entry, Steps.advanced}
use Rattle.words_process.proofs.steps.advanced.Given as goal

-- What an iteration writes.
abbrev entry_of : List Interval → ℕ → ℕ → Interval
entry_of v i k = record { 0 = pick (eqb k i) ((entry v k).0 + 1) (entry v k).0 }

abbrev pub invariant-loop-f : goal.invariant-loop-f
invariant-loop-f l = (l.f ≤ 16) × (l.then ≡ set_below l.f (entry_of l.v l.i) l.v)
