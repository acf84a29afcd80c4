-- `in_place::start::sum_of` meets its contract. Assumes nothing.
use Rattle.std.specs.Prelude.{◌≡◌, ◌+◌, ◌-◌, ◌*◌, ◌≤◌}
use Rattle.laws.specs.Basics.{refl, ◌∙◌, ℕ, arith, get_or, rules}
use native.Mathlib.Numerals.{add-one}
use Rattle.laws.specs.Sums.{sum_below}
use Rattle.in_place.proofs.start.sum_of.Goals as goal

one_more : (f : ℕ → ℕ) (p : ℕ) (w : ℕ) → w ≡ sum_below p f → w + f p ≡ sum_below (p + 1) f
unfolding sum_below
one_more f p w e = rw (add-one, e)

none : (f : ℕ → ℕ) → 0 ≡ sum_below 0 f
unfolding sum_below
none f = refl

pub loop-p-init : goal.loop-p-init
loop-p-init c =
    (search rules, none _, omega arith)

pub overflow_cast-sum : goal.overflow_cast-sum
overflow_cast-sum c =
    let small : get_or c.args.block_counts.now c.loop-p.p 0 ≤ 4294967295 = omega (arith, c.shared_slice_known-1.given c.loop-p.p) in
    omega (arith, small)

pub overflow_add-sum : goal.overflow_add-sum
overflow_add-sum c =
    let small : get_or c.args.block_counts.now c.loop-p.p 0 ≤ 4294967295 = omega (arith, c.shared_slice_known-1.given c.loop-p.p) in
    let l = c.loop-p in omega (arith, small, l.invariant.2, l.invariant.0, c.requires.0)

pub loop-p-preserved : goal.loop-p-preserved
loop-p-preserved c =
    let small : get_or c.args.block_counts.now c.loop-p.p 0 ≤ 4294967295 = omega (arith, c.shared_slice_known-1.given c.loop-p.p) in
    let l = c.loop-p in let a = c.args in (search rules, one_more (λ q. get_or a.block_counts.now q 0) l.p l.sum l.invariant.1, omega (arith, small, l.invariant.2))

pub returns : goal.returns
returns c =
    let l = c.loop-p in let e : l.p ≡ c.args.n = omega arith in
    rw e at l.invariant.1
