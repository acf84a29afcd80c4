-- Where an answer leads, by how it is taken.
-- Assumes nothing.
use Rattle.std.specs.Prelude.{◌≡◌}
use Rattle.laws.specs.Basics.{ap, ℕ, arith}
use Rattle.machines.specs.Machines.{Read, Answer, Machine, heard, stepped}

pub stepped_by : {S : Type 0} (m : Machine S) (s : S) (a x : Answer) → heard (m.ask s) a ≡ x → stepped m s a ≡ m.next s x
unfolding stepped
stepped_by m s a x h = ap (m.next s) h

-- Two different numbers are not one, and one request does not ask for two sizes.
pub never : {P : Type 0} → ◌≡◌ {A = ℕ} 0 1 → P
never e = absurd (omega arith)

pub read_size : (m most : ℕ) → Read m ≡ Read most → m ≡ most
read_size m most e = cc
