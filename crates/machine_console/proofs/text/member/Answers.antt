-- `machine_console::text::member` meets its contract. Assumes nothing.
use Rattle.laws.specs.Basics.{refl, sym, ◌∙◌, rules}
use Rattle.theory_roles.specs.Console.{entitled}
use Rattle.machine_console.specs.Text.{member_shown}
use Rattle.machine_console.proofs.text.member.Goals as goal

pub returns-then-seen : goal.returns-then-seen
unfolding member_shown entitled
returns-then-seen c =
    rw (sym c.is_entitled-seen.ensures ∙ c.if-seen.true) refl

pub returns : goal.returns
unfolding member_shown entitled
returns c =
    rw (sym c.is_entitled-seen.ensures ∙ c.if-seen.false) refl
