-- `library_console::shown::write_seen` meets its contract. The loop's invariant: of the places passed those that the caller may see are written, and nothing else in
-- the lent list has changed.
-- Assumes nothing.
use Rattle.std.specs.Prelude.{◌≡◌, ◌-◌, ◌≤◌}
use Rattle.laws.specs.Basics.{refl, sym, ◌∙◌, ap, ℕ, arith, length, get_or, length-set, rules, pick}
use Rattle.laws.specs.Loops.{set_below, below_none, step_set, step_keep}
use Rattle.theory_roles.specs.Console.{entitled_by}
use Rattle.library_console.proofs.shown.write_seen.Goals as goal
use Rattle.library_console.proofs.shown.write_seen.Goals.{then-seen, else-seen}

pub loop-p-init : goal.loop-p-init
loop-p-init c =
    (search rules, refl, below_none _ _)

pub loop-p-preserved : goal.loop-p-preserved
loop-p-preserved c =
    let l = c.loop-p in let a = c.args in let f : ℕ → ℕ = λ q. pick (entitled_by a.role a.owned a.n q) (get_or a.whole q 0) (get_or a.line.now q 0) in
    elim c.if-seen.branch [
      | then-seen w ↦ (
        search rules,
        ap length w.line-is ∙ simp length-set l.invariant.1,
        w.line-is ∙ step_set f a.line.now l.line l.p l.invariant.2 _ (rw (sym c.is_entitled-seen.ensures ∙ w.if-seen.true)),
      )
      | else-seen w ↦ (
        search rules,
        ap length w.line-is ∙ l.invariant.1,
        w.line-is ∙ step_keep f a.line.now l.line l.p l.invariant.2 0 (rw (sym c.is_entitled-seen.ensures ∙ w.if-seen.false)),
      )
    ]

pub returns : goal.returns
returns c =
    let l = c.loop-p in let e : l.p ≡ c.args.n = omega arith in
    rw e at l.invariant.2
