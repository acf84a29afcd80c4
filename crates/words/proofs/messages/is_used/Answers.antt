-- `words::messages::is_used` meets its contract. Assumes nothing.
use Rattle.std.specs.Prelude.{◌≡◌}
use Rattle.laws.specs.Basics.{◌∙◌, ap, not, ℕ, eqb, rules}
use Rattle.words.specs.Layout.{is_message}
use Rattle.words.proofs.messages.is_used.Goals as goal

pub returns : goal.returns
unfolding is_message
returns c =
    ap (λ (n : ℕ). not (eqb n 0)) c.number_at.ensures
