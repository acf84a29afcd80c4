-- `in_place::start::put_firsts` meets its contract. Assumes nothing.
use Rattle.std.specs.Prelude.{◌≡◌, ◌+◌, ◌-◌, ◌*◌, ◌≤◌, ◌<◌}
use Rattle.laws.specs.Basics.{refl, ◌∙◌, List, ℕ, arith, length, set, length-set, rules}
use native.Mathlib.Numerals.{add-one}
use Rattle.words.specs.Layout.{kept_count_at_of, part_at, pins_at_of, index_at_of}
use Rattle.words.proofs.Reading.{set_is_put}
use Rattle.in_place.specs.Starting.{with_firsts}
use Rattle.in_place.proofs.start.put_firsts.Given as goal

abbrev pub invariant-loop-p : goal.invariant-loop-p
invariant-loop-p l = (l.p ≤ l.n) × (length l.w ≡ length l.initial.w) × (l.w ≡ with_firsts l.initial.w l.p)
