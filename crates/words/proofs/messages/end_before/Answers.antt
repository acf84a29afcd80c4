-- `words::messages::end_before` meets its contract. Assumes nothing.
use Rattle.std.specs.Prelude.{◌≡◌, ◌-◌, ◌≤◌, ◌<◌}
use Rattle.laws.specs.Basics.{refl, sym, ◌∙◌, true, false, List, ℕ, zero, suc, arith, rules}
use Rattle.words.specs.{Layout.message_in, Layout.is_message, messages.Places.end_below}
use Rattle.words.proofs.messages.end_before.Goals as goal

-- The last of the first places is used, or it is not.
found : (w : List ℕ) (e : ℕ) → 1 ≤ e → is_message (message_in w (e - 1)) ≡ true → end_below w e ≡ e
unfolding end_below
found w zero le is = absurd (omega arith)
found w (suc e) le is = let q : suc e - 1 ≡ e = omega arith in rw (rw q at is)

passed : (w : List ℕ) (e : ℕ) → 1 ≤ e → is_message (message_in w (e - 1)) ≡ false → end_below w e ≡ end_below w (e - 1)
unfolding end_below
passed w zero le is = absurd (omega arith)
passed w (suc e) le is = let q : suc e - 1 ≡ e = omega arith in rw (q, rw q at is)

none : (w : List ℕ) (e : ℕ) → e ≡ 0 → end_below w e ≡ 0
unfolding end_below
none w e q = rw q

pub loop-end-init : goal.loop-end-init
loop-end-init c =
    (search rules, refl)

pub returns-then-used : goal.returns-then-used
returns-then-used c =
    let l = c.loop-end in let a = c.args in sym (l.invariant.1 ∙ found a.w.now l.end (omega arith) (sym c.is_used-used.ensures ∙ c.if-used.true))

pub loop-end-preserved : goal.loop-end-preserved
loop-end-preserved c =
    let l = c.loop-end in let a = c.args in (omega (arith, l.invariant.0), l.invariant.1 ∙ passed a.w.now l.end (omega arith) (sym c.is_used-used.ensures ∙ c.if-used.false))

pub returns : goal.returns
returns c =
    let l = c.loop-end in let a = c.args in sym (l.invariant.1 ∙ none a.w.now l.end (omega arith))
