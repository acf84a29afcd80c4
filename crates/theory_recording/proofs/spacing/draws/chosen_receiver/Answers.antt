-- `theory_recording::spacing::draws::chosen_receiver` meets its contract.
-- Assumes nothing.
use Rattle.std.specs.Prelude.{◌+◌, ◌-◌, ◌/◌, ◌%◌, ◌^◌, ◌≤◌, ◌<◌}
use Rattle.laws.specs.Basics.{refl, ℕ, arith, rules}
use Rattle.std.proofs.Common.{mod-lt}
use Rattle.theory_recording.specs.spacing.Spacing.{chosen_receiver_of}
use Rattle.theory_recording.proofs.spacing.draws.chosen_receiver.Goals as goal

-- The sum is small.
small : (p q n : ℕ) → 2 ≤ n → n ≤ 16 → p < n → p + 1 + q % (n - 1) < 2 ^ 64
small p q n two few hp = omega (arith, mod-lt q {m = n - 1} (omega arith))

below : (p q n : ℕ) → 2 ≤ n → n ≤ 16 → (p + 1 + q % (n - 1)) % n < 16
below p q n two few = omega (arith, mod-lt (p + 1 + q % (n - 1)) {m = n} (omega arith))

pub overflow_add-result-2 : goal.overflow_add-result-2
overflow_add-result-2 c =
    record { fits = small c.args.p (c.args.d / 2) c.args.n (search rules) (search rules) (search rules) }

pub returns : goal.returns
unfolding chosen_receiver_of
returns c =
    (refl, below c.args.p (c.args.d / 2) c.args.n (search rules) (search rules))
