-- `words::messages::gather` meets its contract. Assumes nothing.
use Rattle.std.specs.Prelude.{◌≡◌, ◌+◌, ◌-◌, ◌≤◌, ◌<◌}
use Rattle.laws.specs.Basics.{refl, sym, ◌∙◌, ap, List, ℕ, arith, length, rules, pick, by_bool}
use native.Mathlib.Numerals.{add-one}
use Rattle.words.specs.{Layout.message_in, Layout.is_message, messages.Places.moved_to, messages.Places.close_step, messages.Places.closing}
use Rattle.words.proofs.messages.gather.Goals as goal

one_more : (w v u : List ℕ) (k to one : ℕ) → v ≡ (closing w k).words → to ≡ (closing w k).many → one ≡ pick (is_message (message_in v k)) 1 0 → u ≡ moved_to v k to
    → (u ≡ (closing w (k + 1)).words) × ((to + one ≡ (closing w (k + 1)).many) × (one ≤ 1))
unfolding closing close_step
one_more w v u k to one words many o e = by_bool (is_message (message_in v k))
    (λ q. let z : one ≡ 1 = rw q at o in rw (add-one k, ← words, ← many, q, z, add-one to) (e, (refl, omega arith)))
    (λ q. let z : one ≡ 0 = rw q at o in rw (add-one k, ← words, ← many, q, z) (e, ((let y : to + 0 ≡ to = omega arith in y), omega arith)))

pub loop-k-init : goal.loop-k-init
loop-k-init c =
    let e = c.first_unused-first.ensures in (e.0, omega arith, refl, ap (λ x. x.words) (sym e.1), ap (λ x. x.many) (sym e.1))

pub overflow_add-to : goal.overflow_add-to
overflow_add-to c =
    let t = (let then' : let l = c.loop-k in let a = c.args in (c.move_to.new.w ≡ (closing a.w.now (l.k + 1)).words) × ((l.to + c.one_if_used-one.result ≡ (closing a.w.now (l.k + 1)).many) × (c.one_if_used-one.result ≤ 1)) = let l = c.loop-k in let a = c.args in one_more a.w.now l.w _ l.k l.to _ l.invariant.3 l.invariant.4 c.one_if_used-one.ensures c.move_to.ensures in then') in omega (arith, t.1.1, c.loop-k.invariant.1, c.loop-k.invariant.0)

pub loop-k-preserved : goal.loop-k-preserved
loop-k-preserved c =
    let l = c.loop-k in let t = (let then' : let l = c.loop-k in let a = c.args in (c.move_to.new.w ≡ (closing a.w.now (l.k + 1)).words) × ((l.to + c.one_if_used-one.result ≡ (closing a.w.now (l.k + 1)).many) × (c.one_if_used-one.result ≤ 1)) = let l = c.loop-k in let a = c.args in one_more a.w.now l.w _ l.k l.to _ l.invariant.3 l.invariant.4 c.one_if_used-one.ensures c.move_to.ensures in then') in (search rules, omega (arith, t.1.1, l.invariant.1), c.move_to.auto.w ∙ l.invariant.2, t.0, t.1.0)

pub shape_of-w : goal.shape_of-w
shape_of-w c =
    c.loop-k.invariant.2

pub returns : goal.returns
returns c =
    let l = c.loop-k in let e : l.k ≡ 64 = omega arith in
    (rw e at l.invariant.3, rw e at l.invariant.4)
