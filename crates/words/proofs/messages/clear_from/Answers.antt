-- `words::messages::clear_from` meets its contract. Assumes nothing.
use Rattle.std.specs.Prelude.{◌≡◌, ◌+◌, ◌-◌, ◌≤◌, ◌<◌}
use Rattle.laws.specs.Basics.{refl, ◌∙◌, List, ℕ, suc, arith, length, rules}
use Rattle.words.specs.messages.Places.{cleared, cleared_from}
use Rattle.words.proofs.messages.clear_from.Goals as goal

one_more : (w v u : List ℕ) (from k : ℕ) → from ≤ k → v ≡ cleared_from w from (k - from) → u ≡ cleared v k → u ≡ cleared_from w from (k + 1 - from)
unfolding cleared_from
one_more w v u from k le e f =
    let a : k + 1 - from ≡ suc (k - from) = omega arith in
    let b : from + (k - from) ≡ k = omega arith in
    rw (a, b, ← e) f

first : (w : List ℕ) (from : ℕ) → w ≡ cleared_from w from (from - from)
unfolding cleared_from
first w from = let a : from - from ≡ 0 = omega arith in rw a refl

pub loop-k-init : goal.loop-k-init
loop-k-init c =
    (search rules, search rules, refl, first _ _)

pub loop-k-preserved : goal.loop-k-preserved
loop-k-preserved c =
    let l = c.loop-k in let a = c.args in (omega (arith, l.invariant.0), search rules, c.clear.auto.w ∙ l.invariant.2, one_more a.w.now l.w _ a.from l.k l.invariant.0 l.invariant.3 c.clear.ensures)

pub shape_of-w : goal.shape_of-w
shape_of-w c =
    c.loop-k.invariant.2

pub returns : goal.returns
returns c =
    let l = c.loop-k in let e : l.k ≡ 64 = omega arith in
    rw e at l.invariant.3
