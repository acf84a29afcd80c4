-- `words::put_row` meets its contract. Assumes nothing.
use Rattle.std.specs.Prelude.{◌≡◌, ◌-◌, ◌≤◌}
use Rattle.laws.specs.Basics.{refl, arith, length, get_or, length-set, rules}
use Rattle.words.specs.Puts.{put_from}
use Rattle.words.proofs.{Reading.put_none, Reading.put_step}
use Rattle.words.proofs.put_row.Given as goal

abbrev pub invariant-loop-f : goal.invariant-loop-f
invariant-loop-f l = (l.f ≤ 16) × (length l.w ≡ length l.initial.w) × (l.w ≡ put_from l.initial.w l.at l.f (λ q. get_or l.r q 0))
