-- `library_console::shown::write_seen` meets its contract. The loop's invariant: of the places passed those that the caller may see are written, and nothing else in
-- the lent list has changed.
-- Assumes nothing.
use Rattle.std.specs.Prelude.{◌≡◌, ◌-◌, ◌≤◌}
use Rattle.laws.specs.Basics.{refl, sym, ◌∙◌, ap, ℕ, arith, length, get_or, length-set, rules, pick}
use Rattle.laws.specs.Loops.{either, set_below, below_none, step_set, step_keep}
use Rattle.theory_roles.specs.Console.{entitled_by}
use Rattle.library_console.proofs.shown.write_seen.Given as goal

abbrev pub invariant-loop-p : goal.invariant-loop-p
invariant-loop-p l = (l.p ≤ l.n) × (length l.line ≡ length l.initial.line) × (l.line ≡ set_below l.p (λ q. pick (entitled_by l.role l.owned l.n q) (get_or l.whole q 0) (get_or l.initial.line q 0)) l.initial.line)
