-- `words::rows::vector::is_newer` meets its contract. The loop's invariant: the mark says whether some entry passed so far is smaller than the carried one.
-- Assumes nothing.
use Rattle.std.specs.Prelude.{◌≡◌, ◌-◌, ◌≤◌}
use Rattle.laws.specs.Basics.{sym, ◌∙◌, Bool, ℕ, arith, rules}
use Rattle.laws.specs.{Loops.any_zero, Loops.any_yes, Loops.any_no, Search.any_below}
use Rattle.model.specs.{Steps.newer, Words.entry, Words.below}
use Rattle.words.proofs.rows.vector.is_newer.Goals as goal
use Rattle.words.proofs.rows.vector.is_newer.Goals.{then-risen, else-risen}

pub loop-f-init : goal.loop-f-init
loop-f-init c =
    (search rules, any_zero _)

pub loop-f-preserved : goal.loop-f-preserved
loop-f-preserved c =
    let l = c.loop-f in let a = c.args in let t : ℕ → Bool = λ k. below (entry a.own k) (entry a.carried k) in (
      search rules,
      elim c.if-risen.branch [
        | then-risen w ↦ w.any-is ∙ any_yes t _ (sym c.rises-risen.ensures ∙ w.if-risen.true)
        | else-risen w ↦ any_no t _ _ (w.any-is ∙ l.invariant.1) (sym c.rises-risen.ensures ∙ w.if-risen.false)
      ],
    )

pub returns : goal.returns
unfolding newer
returns c =
    let e : c.loop-f.f ≡ 16 = omega arith in rw e at c.loop-f.invariant.1
