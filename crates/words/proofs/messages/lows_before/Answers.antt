-- `words::messages::lows_before` meets its contract. Assumes nothing.
use Rattle.std.specs.Prelude.{◌≡◌, ◌+◌, ◌-◌, ◌≤◌, ◌<◌}
use Rattle.laws.specs.Basics.{refl, List, ℕ, suc, arith, eqb, rules, pick}
use lib.Bits.{bit_or}
use native.Mathlib.Numerals.{add-one}
use Rattle.words.specs.{Layout.word, Layout.low_at, messages.Places.lows_below}
use Rattle.words.proofs.messages.lows_before.Goals as goal

one_more : (w : List ℕ) (x k past here : ℕ) → past ≡ lows_below w x k → here ≡ pick (eqb (word w (low_at k)) x) (k + 1) 0 → bit_or past here ≡ lows_below w x (k + 1)
unfolding lows_below
one_more w x k past here e h = rw (h, e, add-one k) refl

nowhere : (w : List ℕ) (x : ℕ) → 0 ≡ lows_below w x 0
unfolding lows_below
nowhere w x = refl

pub loop-k-init : goal.loop-k-init
loop-k-init c =
    (search rules, nowhere _ _)

pub loop-k-preserved : goal.loop-k-preserved
loop-k-preserved c =
    let l = c.loop-k in let a = c.args in (search rules, one_more a.w.now a.low l.k l.past _ l.invariant.1 c.hit-here.ensures)

pub returns : goal.returns
returns c =
    let l = c.loop-k in let whole : l.k ≡ c.args.to = omega arith in
    rw whole at l.invariant.1
