-- `in_place_recover::count_rolled_back` meets its contract. The loop's invariant: those of the processes passed so far that go back are counted.
-- Assumes nothing.
use Rattle.std.specs.Prelude.{◌≡◌, ◌+◌, ◌-◌, ◌≤◌}
use Rattle.laws.specs.Basics.{refl, Bool, true, false, ℕ, arith, get_or, rules, pick}
use native.Mathlib.Numerals.{add-one}
use Rattle.laws.specs.{Counting.count_le, Tests.count_below}
use Rattle.in_place_recover.specs.Restored.{goes_back}
use Rattle.in_place_recover.proofs.count_rolled_back.Goals as goal

none_counted : (t : ℕ → Bool) → 0 ≡ count_below 0 t
unfolding count_below
none_counted t = refl

one_counted : (t : ℕ → Bool) (k back one : ℕ) → back ≡ count_below k t → one ≡ pick (t k) 1 0 → back + one ≡ count_below (k + 1) t
unfolding count_below
one_counted t k back one so_far is = rw (add-one, so_far, is)

one_most : (b : Bool) → pick b 1 0 ≤ 1
one_most true = omega arith
one_most false = omega arith

pub loop-p-init : goal.loop-p-init
loop-p-init c =
    (search rules, none_counted _)

pub bounds-pasts-p : goal.bounds-pasts-p
bounds-pasts-p c =
    omega (arith, c.loop-p-test.true, c.requires.2)

pub overflow_add-back : goal.overflow_add-back
overflow_add-back c =
    let l = c.loop-p in omega (arith, l.invariant.0, c.requires.1, l.invariant.1, count_le l.p (λ q. goes_back c.args.w.now q (get_or c.args.pasts.now q 0)), c.one_if_rolled_back-one.ensures, one_most (goes_back c.args.w.now l.p (get_or c.args.pasts.now l.p 0)))

pub loop-p-preserved : goal.loop-p-preserved
loop-p-preserved c =
    let l = c.loop-p in (search rules, one_counted (λ q. goes_back c.args.w.now q (get_or c.args.pasts.now q 0)) l.p l.back _ l.invariant.1 c.one_if_rolled_back-one.ensures)

pub returns : goal.returns
returns c =
    let l = c.loop-p in let e : l.p ≡ c.args.n = omega arith in
    rw e at l.invariant.1
