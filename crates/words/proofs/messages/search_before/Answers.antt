-- `words::messages::search_before` meets its contract. Assumes nothing.
use Rattle.std.specs.Prelude.{◌≡◌, ◌-◌, ◌≤◌, ◌<◌, None, Some}
use Rattle.laws.specs.Basics.{refl, sym, ◌∙◌, ap, List, ℕ, zero, suc, arith, rules, eq-eqb, ne_eqb}
use Rattle.words.specs.Layout.{message_in}
use Rattle.words.specs.messages.Places.{place_below, found_at}
use Rattle.words.proofs.messages.search_before.Goals as goal

-- The last of the first places has the number, or it has not.
found : (w : List ℕ) (m k : ℕ) → 1 ≤ k → (message_in w (k - 1)).number ≡ m → found_at (place_below w m k) ≡ Some (k - 1)
unfolding place_below found_at
found w m zero le is = absurd (omega arith)
found w m (suc k) le is = let q : suc k - 1 ≡ k = omega arith in rw (eq-eqb (message_in w k).number m (rw q at is), q)

passed : (w : List ℕ) (m k : ℕ) → 1 ≤ k → ((message_in w (k - 1)).number ≡ m → ⊥) → place_below w m k ≡ place_below w m (k - 1)
unfolding place_below
passed w m zero le is = absurd (omega arith)
passed w m (suc k) le is = let q : suc k - 1 ≡ k = omega arith in rw (q, ne_eqb (message_in w k).number m (rw q at is))

none : (w : List ℕ) (m k : ℕ) → k ≡ 0 → found_at (place_below w m k) ≡ None
unfolding place_below found_at
none w m k q = rw q

pub loop-past-init : goal.loop-past-init
loop-past-init c =
    (search rules, refl)

pub returns-then-number-m : goal.returns-then-number-m
returns-then-number-m c =
    let l = c.loop-past in let a = c.args in sym (ap found_at l.invariant.1 ∙ found a.w.now a.m l.past (omega arith) (sym c.number_at-number.ensures ∙ c.if-number-m.true))

pub loop-past-preserved : goal.loop-past-preserved
loop-past-preserved c =
    let l = c.loop-past in let a = c.args in (omega (arith, l.invariant.0), l.invariant.1 ∙ passed a.w.now a.m l.past (omega arith) (λ e. c.if-number-m.false (c.number_at-number.ensures ∙ e)))

pub returns : goal.returns
returns c =
    let l = c.loop-past in let a = c.args in sym (ap found_at l.invariant.1 ∙ none a.w.now a.m l.past (omega arith))
