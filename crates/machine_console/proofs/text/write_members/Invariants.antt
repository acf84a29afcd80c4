-- `machine_console::text::write_members` meets its contract. Assumes nothing.
use Rattle.std.specs.Prelude.{◌≡◌, ◌++◌, ◌+◌, ◌-◌, ◌*◌, ◌≤◌}
use Rattle.laws.specs.Basics.{refl, sym, ◌∙◌, ap, Option, ℕ, arith, length, take, rules}
use Rattle.listing.specs.Printed.{Printed}
use Rattle.listing.proofs.Texts.{then, nothing}
use Rattle.machine_console.specs.Text.{field_text, members_text}
use Rattle.machine_console.proofs.{Parts.members_next, Parts.whole_line, Parts.printed_as}
use Rattle.machine_console.proofs.text.write_members.Given as goal

abbrev pub invariant-loop-p : goal.invariant-loop-p
invariant-loop-p l = (l.p ≤ length l.line) × (length l.out ≡ length l.initial.out) × Printed l.initial.out l.at (members_text l.caller l.n 0 (take l.p l.line)) l.out l.place × (l.place ≤ l.at + 21 * l.p)

abbrev pub decreases-loop-p : goal.decreases-loop-p
decreases-loop-p l = length l.line - l.p
