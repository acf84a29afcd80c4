-- `in_place::start::put_counts` meets its contract. Assumes nothing.
use Rattle.std.specs.Prelude.{◌≡◌, ◌+◌, ◌-◌, ◌≤◌, ◌<◌}
use Rattle.laws.specs.Basics.{refl, ◌∙◌, List, ℕ, arith, leb, length, get_or, set, length-set, rules, leb-true}
use native.Mathlib.Numerals.{add-one}
use Rattle.laws.specs.{Search.all_out, Truth.and_right}
use Rattle.model.specs.Sound.{is_block_count_of}
use Rattle.words.specs.Layout.{blocks_at_of}
use Rattle.words.proofs.Reading.{set_is_put}
use Rattle.in_place.specs.Starting.{with_counts}
use Rattle.in_place.proofs.start.put_counts.Given as goal

abbrev pub invariant-loop-p : goal.invariant-loop-p
invariant-loop-p l = (l.p ≤ l.n) × (length l.w ≡ length l.initial.w) × (l.w ≡ with_counts l.initial.w l.block_counts l.p)
