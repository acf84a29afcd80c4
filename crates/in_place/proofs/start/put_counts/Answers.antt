-- `in_place::start::put_counts` meets its contract. Assumes nothing.
use Rattle.std.specs.Prelude.{◌≡◌, ◌+◌, ◌-◌, ◌≤◌, ◌<◌}
use Rattle.laws.specs.Basics.{refl, ◌∙◌, List, ℕ, arith, leb, length, get_or, set, length-set, rules, leb-true}
use native.Mathlib.Numerals.{add-one}
use Rattle.laws.specs.{Search.all_out, Truth.and_right}
use Rattle.model.specs.Sound.{is_block_count_of}
use Rattle.words.specs.Layout.{blocks_at_of}
use Rattle.words.proofs.Reading.{set_is_put}
use Rattle.in_place.specs.Starting.{with_counts}
use Rattle.in_place.proofs.start.put_counts.Goals as goal

one_more : (w v blockCounts : List ℕ) (p : ℕ) → v ≡ with_counts w blockCounts p → set v (blocks_at_of p) (get_or blockCounts p 0) ≡ with_counts w blockCounts (p + 1)
unfolding with_counts
one_more w v blockCounts p e = rw (add-one p, e) (set_is_put _ _ _)

none : (w blockCounts : List ℕ) → w ≡ with_counts w blockCounts 0
unfolding with_counts
none w block_counts = refl

pub loop-p-init : goal.loop-p-init
loop-p-init c =
    (search rules, refl, none _ _)

pub overflow_cast-w : goal.overflow_cast-w
overflow_cast-w c =
    let small : get_or c.args.block_counts.now c.loop-p.p 0 ≤ 65535 = unfold is_block_count_of in let k = get_or c.args.block_counts.now c.loop-p.p 0 in leb-true k 65535 (and_right (leb 1 k) (leb k 65535) (all_out c.args.n (λ q. is_block_count_of (get_or c.args.block_counts.now q 0)) c.requires.3 c.loop-p.p c.loop-p-test.true)) in
    omega (arith, small)

pub bounds-w-p : goal.bounds-w-p
bounds-w-p c =
    let l = c.loop-p in omega (arith, l.invariant.1, c.requires.0, c.requires.1, c.loop-p-test.true)

pub loop-p-preserved : goal.loop-p-preserved
loop-p-preserved c =
    let l = c.loop-p in let a = c.args in (search rules, length-set l.w (blocks_at_of l.p) _ ∙ l.invariant.1, one_more a.w.now l.w a.block_counts.now l.p l.invariant.2)

pub shape_of-w : goal.shape_of-w
shape_of-w c =
    c.loop-p.invariant.1

pub returns : goal.returns
returns c =
    let l = c.loop-p in let e : l.p ≡ c.args.n = omega arith in
    rw e at l.invariant.2
