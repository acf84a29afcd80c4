-- `machine_console::text::write_members` meets its contract. Assumes nothing.
use Rattle.std.specs.Prelude.{◌≡◌, ◌++◌, ◌+◌, ◌-◌, ◌*◌, ◌≤◌}
use Rattle.laws.specs.Basics.{refl, sym, ◌∙◌, ap, Option, ℕ, arith, length, take, rules}
use Rattle.listing.specs.Printed.{Printed}
use Rattle.listing.proofs.Texts.{then, nothing}
use Rattle.machine_console.specs.Text.{field_text, members_text}
use Rattle.machine_console.proofs.{Parts.members_next, Parts.whole_line, Parts.printed_as}
use Rattle.machine_console.proofs.text.write_members.Goals as goal

pub loop-p-init : goal.loop-p-init
unfolding members_text
loop-p-init c =
    (search rules, refl, nothing c.args.out.now c.args.at, omega arith)

pub write_value-next-requires : goal.write_value-next-requires
write_value-next-requires c =
    omega (arith, c.loop-p.invariant.3, c.loop-p.invariant.1, c.requires, c.loop-p-test.true)

pub loop-p-preserved : goal.loop-p-preserved
loop-p-preserved c =
    let write-value = c.write_value-next in let l = c.loop-p in let a = c.args in (search rules, write-value.auto.out ∙ l.invariant.1, printed_as (members_next a.caller a.n l.p a.line.now (omega (arith, c.loop-p-test.true)) ∙ ap (λ (v : Option ℕ). members_text a.caller a.n 0 (take l.p a.line.now) ++ field_text v) (sym c.member-shown.ensures)) (then l.invariant.2 write-value.ensures.0), omega (arith, write-value.ensures.1, l.invariant.3))

pub returns : goal.returns
returns c =
    let l = c.loop-p in let a = c.args in (printed_as (whole_line a.caller a.n l.p a.line.now (omega (arith, c.loop-p-test.false))) l.invariant.2, omega (arith, l.invariant.3, l.invariant.0))
