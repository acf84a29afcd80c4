-- `words::clear_row` meets its contract. Assumes nothing.
use Rattle.std.specs.Prelude.{◌≡◌, ◌-◌, ◌≤◌}
use Rattle.laws.specs.Basics.{refl, arith, length, length-set, rules}
use Rattle.words.specs.Puts.{put_from}
use Rattle.words.proofs.{Reading.put_none, Reading.put_step}
use Rattle.words.proofs.clear_row.Given as goal

abbrev pub invariant-loop-f : goal.invariant-loop-f
invariant-loop-f l = (l.f ≤ 16) × (length l.w ≡ length l.initial.w) × (l.w ≡ put_from l.initial.w l.at l.f (λ q. 0))
