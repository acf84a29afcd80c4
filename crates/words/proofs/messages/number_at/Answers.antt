-- `words::messages::number_at` meets its contract. Assumes nothing.
use Rattle.std.specs.Prelude.{◌≡◌, ◌+◌, ◌*◌}
use Rattle.laws.specs.Basics.{arith, rules}
use Rattle.words.specs.Layout.{message_in}
use Rattle.words.proofs.messages.number_at.Goals as goal

pub returns : goal.returns
unfolding message_in
returns c =
    omega (arith, c.wide-high.ensures.0, c.wide-low.ensures.0)
