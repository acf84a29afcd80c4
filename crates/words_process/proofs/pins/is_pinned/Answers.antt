-- `words_process::pins::is_pinned` meets its contract. Assumes nothing.
use Rattle.std.specs.Prelude.{◌≡◌, ◌||◌, ◌+◌, ◌-◌, ◌≤◌}
use Rattle.laws.specs.Basics.{sym, ◌∙◌, ap, Bool, ℕ, arith, eqb, get_or, rules}
use native.Mathlib.Numerals.{add-one}
use Rattle.laws.specs.{Loops.any_zero, Search.any_below, Select.or_swap}
use Rattle.words_process.proofs.{PinRows.pinned_row}
use Rattle.words_process.proofs.pins.is_pinned.Goals as goal

one_more_step : (t : ℕ → Bool) (i : ℕ) (b : Bool) → b ≡ any_below i t → (b || t i) ≡ any_below (i + 1) t
unfolding any_below
one_more_step t i b e = rw (add-one i) (ap (λ (x : Bool). x || t i) e ∙ or_swap (any_below i t) (t i))

pub loop-f-init : goal.loop-f-init
loop-f-init c =
    (search rules, any_zero _)

pub loop-f-preserved : goal.loop-f-preserved
loop-f-preserved c =
    (search rules, one_more_step (λ k. eqb (get_or c.args.pins k 0) c.args.word) c.loop-f.f c.loop-f.any c.loop-f.invariant.1)

pub returns : goal.returns
returns c =
    let e : c.loop-f.f ≡ 16 = omega arith in
    rw e at c.loop-f.invariant.1 ∙ sym (pinned_row c.args.pins c.args.word c.requires)
