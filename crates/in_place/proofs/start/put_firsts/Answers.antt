-- `in_place::start::put_firsts` meets its contract. Assumes nothing.
use Rattle.std.specs.Prelude.{◌≡◌, ◌+◌, ◌-◌, ◌*◌, ◌≤◌, ◌<◌}
use Rattle.laws.specs.Basics.{refl, ◌∙◌, List, ℕ, arith, length, set, length-set, rules}
use native.Mathlib.Numerals.{add-one}
use Rattle.words.specs.Layout.{kept_count_at_of, part_at, pins_at_of, index_at_of}
use Rattle.words.proofs.Reading.{set_is_put}
use Rattle.in_place.specs.Starting.{with_firsts}
use Rattle.in_place.proofs.start.put_firsts.Goals as goal

one_more : (w v : List ℕ) (p at : ℕ) → at ≡ index_at_of p 0 → v ≡ with_firsts w p
    → set (set (set (set v (part_at p + p) 1) (pins_at_of p + p) 1) at 1) (kept_count_at_of p) 1 ≡ with_firsts w (p + 1)
unfolding with_firsts
one_more w v p at q e = rw (add-one p, e, q) (simp set_is_put)

none : (w : List ℕ) → w ≡ with_firsts w 0
unfolding with_firsts
none w = refl

pub loop-p-init : goal.loop-p-init
loop-p-init c =
    (search rules, refl, none _)

pub overflow_mul-w : goal.overflow_mul-w
overflow_mul-w c =
    let small : c.loop-p.p < 16 = omega (arith, c.loop-p-test.true, c.requires.1) in
    omega (arith, small)

pub overflow_add-w : goal.overflow_add-w
overflow_add-w c =
    let small : c.loop-p.p < 16 = omega (arith, c.loop-p-test.true, c.requires.1) in
    omega (arith, small)

pub overflow_add-w-in-loop-p : goal.overflow_add-w-in-loop-p
overflow_add-w-in-loop-p c =
    let small : c.loop-p.p < 16 = omega (arith, c.loop-p-test.true, c.requires.1) in
    omega (arith, small)

pub offset_bounds-w-p : goal.offset_bounds-w-p
offset_bounds-w-p c =
    let small : c.loop-p.p < 16 = omega (arith, c.loop-p-test.true, c.requires.1) in
    omega (arith, small)

pub bounds-w-p : goal.bounds-w-p
bounds-w-p c =
    let small : c.loop-p.p < 16 = omega (arith, c.loop-p-test.true, c.requires.1) in
    let long : length c.loop-p.w ≡ 6464 = c.loop-p.invariant.1 ∙ c.requires.0 in
    omega (arith, small, long)

pub overflow_mul-w-in-loop-p : goal.overflow_mul-w-in-loop-p
overflow_mul-w-in-loop-p c =
    let small : c.loop-p.p < 16 = omega (arith, c.loop-p-test.true, c.requires.1) in
    omega (arith, small)

pub overflow_add-w-in-loop-p-2 : goal.overflow_add-w-in-loop-p-2
overflow_add-w-in-loop-p-2 c =
    let small : c.loop-p.p < 16 = omega (arith, c.loop-p-test.true, c.requires.1) in
    omega (arith, small)

pub overflow_add-w-in-loop-p-3 : goal.overflow_add-w-in-loop-p-3
overflow_add-w-in-loop-p-3 c =
    let small : c.loop-p.p < 16 = omega (arith, c.loop-p-test.true, c.requires.1) in
    omega (arith, small)

pub offset_bounds-w-p-in-loop-p : goal.offset_bounds-w-p-in-loop-p
offset_bounds-w-p-in-loop-p c =
    let small : c.loop-p.p < 16 = omega (arith, c.loop-p-test.true, c.requires.1) in
    omega (arith, small)

pub bounds-w-p-in-loop-p : goal.bounds-w-p-in-loop-p
bounds-w-p-in-loop-p c =
    let small : c.loop-p.p < 16 = omega (arith, c.loop-p-test.true, c.requires.1) in
    let long : length c.loop-p.w ≡ 6464 = c.loop-p.invariant.1 ∙ c.requires.0 in
    simp length-set (omega (arith, small, long))

pub overflow_mul-w-in-loop-p-2 : goal.overflow_mul-w-in-loop-p-2
overflow_mul-w-in-loop-p-2 c =
    let small : c.loop-p.p < 16 = omega (arith, c.loop-p-test.true, c.requires.1) in
    omega (arith, small)

pub overflow_add-w-in-loop-p-4 : goal.overflow_add-w-in-loop-p-4
overflow_add-w-in-loop-p-4 c =
    let small : c.loop-p.p < 16 = omega (arith, c.loop-p-test.true, c.requires.1) in
    omega (arith, small)

pub offset_bounds-w-p-in-loop-p-2 : goal.offset_bounds-w-p-in-loop-p-2
offset_bounds-w-p-in-loop-p-2 c =
    let small : c.loop-p.p < 16 = omega (arith, c.loop-p-test.true, c.requires.1) in
    omega (arith, small)

pub bounds-w-p-in-loop-p-2 : goal.bounds-w-p-in-loop-p-2
bounds-w-p-in-loop-p-2 c =
    let small : c.loop-p.p < 16 = omega (arith, c.loop-p-test.true, c.requires.1) in
    let long : length c.loop-p.w ≡ 6464 = c.loop-p.invariant.1 ∙ c.requires.0 in
    simp length-set (omega (arith, small, long))

pub overflow_add-w-in-loop-p-5 : goal.overflow_add-w-in-loop-p-5
overflow_add-w-in-loop-p-5 c =
    let small : c.loop-p.p < 16 = omega (arith, c.loop-p-test.true, c.requires.1) in
    omega (arith, small)

pub offset_bounds-w-p-in-loop-p-3 : goal.offset_bounds-w-p-in-loop-p-3
offset_bounds-w-p-in-loop-p-3 c =
    let small : c.loop-p.p < 16 = omega (arith, c.loop-p-test.true, c.requires.1) in
    omega (arith, small)

pub bounds-w-p-in-loop-p-3 : goal.bounds-w-p-in-loop-p-3
bounds-w-p-in-loop-p-3 c =
    let small : c.loop-p.p < 16 = omega (arith, c.loop-p-test.true, c.requires.1) in
    let long : length c.loop-p.w ≡ 6464 = c.loop-p.invariant.1 ∙ c.requires.0 in
    simp length-set (omega (arith, small, long))

pub loop-p-preserved : goal.loop-p-preserved
loop-p-preserved c =
    let l = c.loop-p in let a = c.args in (search rules, simp length-set l.invariant.1, one_more a.w.now l.w l.p (96 + 320 * l.p) (omega arith) l.invariant.2)

pub shape_of-w : goal.shape_of-w
shape_of-w c =
    c.loop-p.invariant.1

pub returns : goal.returns
returns c =
    let l = c.loop-p in let e : l.p ≡ c.args.n = omega arith in
    rw e at l.invariant.2
