-- `words_line::line::find_members` meets its contract. The loop's invariant: the places of the members of the processes passed so far, and whether each has one.
-- Assumes nothing.
use Rattle.std.specs.Prelude.{◌≡◌, ◌-◌, ◌≤◌}
use Rattle.laws.specs.Basics.{◌∙◌, ap, not, ℕ, arith, eqb, length, rules}
use Rattle.laws.specs.{Below.all_and, Loops.set_below, Loops.below_none, Loops.below_length, Loops.step_set, Loops.all_zero, Search.all_below}
use Rattle.words_line.specs.Line.{past_latest, has_members, pasts_in}
use Rattle.words_line.proofs.{LineRule.past_most}
use Rattle.words_line.proofs.line.find_members.Goals as goal

pub loop-p-init : goal.loop-p-init
loop-p-init c =
    (search rules, below_none _ _, all_zero _)

pub latest_allowed-past-requires : goal.latest_allowed-past-requires
latest_allowed-past-requires c =
    (c.requires.0, omega (arith, c.requires.1), c.requires.2 c.loop-p.p c.loop-p-test.true)

pub overflow_cast-pasts : goal.overflow_cast-pasts
overflow_cast-pasts c =
    let p = c.loop-p.p in omega (arith, c.latest_allowed-past.ensures, past_most c.args.w.now c.args.limits p, c.requires.2 p c.loop-p-test.true)

pub bounds-pasts-p : goal.bounds-pasts-p
bounds-pasts-p c =
    let same_size : length c.loop-p.pasts ≡ length c.args.pasts.now = ap length c.loop-p.invariant.1 ∙ below_length _ _ c.loop-p.p in
    let size : length c.args.pasts.now ≡ 16 = ap length c.requires.3 in
    omega (arith, same_size, size, c.requires.1, c.loop-p-test.true)

pub loop-p-preserved : goal.loop-p-preserved
loop-p-preserved c =
    let l = c.loop-p in let a = c.args in (
      search rules,
      step_set (past_latest a.w.now a.limits) _ l.pasts l.p l.invariant.1 _ c.latest_allowed-past.ensures,
      all_and (λ q. not (eqb (past_latest a.w.now a.limits q) 0)) l.p l.all _ l.invariant.2 (ap (λ (k : ℕ). not (eqb k 0)) c.latest_allowed-past.ensures),
    )

pub shape_of-pasts : goal.shape_of-pasts
shape_of-pasts c =
    let same_size : length c.loop-p.pasts ≡ length c.args.pasts.now = ap length c.loop-p.invariant.1 ∙ below_length _ _ c.loop-p.p in
    same_size

pub returns : goal.returns
unfolding has_members pasts_in
returns c =
    let l = c.loop-p in let e : l.p ≡ c.args.n = omega arith in record { value = rw e at l.invariant.2; pasts_after = rw e at l.invariant.1 ∙ ap (set_below c.args.n (past_latest c.args.w.now c.args.limits)) c.requires.3 }
