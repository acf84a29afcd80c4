-- `words_line::line::latest_kept` meets its contract. The loop's invariant: no checkpoint from place `past` on is within the limits.
-- Assumes nothing.
use Rattle.std.specs.Prelude.{◌≡◌, ◌-◌, ◌≤◌, ◌<◌}
use Rattle.laws.specs.Basics.{refl, sym, ◌∙◌, ap, true, false, List, ℕ, zero, suc, arith, rules}
use Rattle.model.specs.declared.Interval.{Interval}
use Rattle.words.specs.Layout.{stored_at, vector_in}
use Rattle.words_line.specs.Line.{is_within, past_kept}
use Rattle.words_line.proofs.line.latest_kept.Goals as goal

-- The last of the first ones is within the limits, or it is not.
found : (w : List ℕ) (limits : List Interval) (p k : ℕ) → 1 ≤ k → is_within limits (vector_in w (stored_at p (k - 1))) ≡ true → past_kept w limits p k ≡ k
unfolding past_kept
found w limits p zero one e = absurd (omega arith)
found w limits p (suc k) one e = let q : suc k - 1 ≡ k = omega arith in rw (rw q at e)

passed : (w : List ℕ) (limits : List Interval) (p k : ℕ) → 1 ≤ k → is_within limits (vector_in w (stored_at p (k - 1))) ≡ false → past_kept w limits p k ≡ past_kept w limits p (k - 1)
unfolding past_kept
passed w limits p zero one e = absurd (omega arith)
passed w limits p (suc k) one e = let q : suc k - 1 ≡ k = omega arith in rw (q, rw q at e)

none : (w : List ℕ) (limits : List Interval) (p k : ℕ) → k ≡ 0 → past_kept w limits p k ≡ 0
unfolding past_kept
none w limits p k q = rw q

pub loop-past-init : goal.loop-past-init
loop-past-init c =
    (search rules, refl)

pub returns-then-within : goal.returns-then-within
returns-then-within c =
    let tested : let l = c.loop-past in let a = c.args in c.is_within-within.result ≡ is_within a.limits (vector_in a.w.now (stored_at a.p (l.past - 1))) = unfold is_within in let a = c.args in c.is_within-within.ensures ∙ ap (is_within a.limits) c.vector_at-vector.ensures in
    let l = c.loop-past in let a = c.args in sym (l.invariant.1 ∙ found a.w.now a.limits a.p l.past (omega (arith, c.loop-past-test.true)) (sym tested ∙ c.if-within.true))

pub loop-past-preserved : goal.loop-past-preserved
loop-past-preserved c =
    let tested : let l = c.loop-past in let a = c.args in c.is_within-within.result ≡ is_within a.limits (vector_in a.w.now (stored_at a.p (l.past - 1))) = unfold is_within in let a = c.args in c.is_within-within.ensures ∙ ap (is_within a.limits) c.vector_at-vector.ensures in
    let l = c.loop-past in let a = c.args in (omega (arith, l.invariant.0), l.invariant.1 ∙ passed a.w.now a.limits a.p l.past (omega (arith, c.loop-past-test.true)) (sym tested ∙ c.if-within.false))

pub returns : goal.returns
returns c =
    let l = c.loop-past in let a = c.args in sym (l.invariant.1 ∙ none a.w.now a.limits a.p l.past (omega arith))
