-- `words_line::through::find_starts` meets its contract. The loop's invariant: where the vectors of the pairs passed so far start, and whether each is kept.
-- Assumes nothing.
use Rattle.std.specs.Prelude.{◌≡◌, ◌-◌, ◌≤◌}
use Rattle.laws.specs.Basics.{ap, not, ℕ, arith, eqb, rules}
use Rattle.laws.specs.{Below.all_and, Loops.set_below, Loops.below_none, Loops.step_set, Loops.all_zero, Search.all_below}
use Rattle.words.specs.Layout.{word, kept_count_at_of}
use Rattle.words_line.specs.Through.{process_of, index_of_def, start_at, starts_in}
use Rattle.words_line.proofs.{Reaching.start_most}
use Rattle.words_line.proofs.through.find_starts.Goals as goal

pub loop-k-init : goal.loop-k-init
loop-k-init c =
    (search rules, below_none _ _, all_zero _)

pub overflow_cast-named : goal.overflow_cast-named
overflow_cast-named c =
    omega (arith, (c.requires.3 c.loop-k.k c.loop-k-test.true).0)

pub find_start-start-requires : goal.find_start-start-requires
find_start-start-requires c =
    let known = c.requires.3 c.loop-k.k c.loop-k-test.true in (c.requires.0, known.0, known.1, known.2)

pub overflow_cast-starts : goal.overflow_cast-starts
overflow_cast-starts c =
    let l = c.args.named.now in let w = c.args.w.now in let k = c.loop-k.k in let known = c.requires.3 k c.loop-k-test.true in omega (arith, c.find_start-start.ensures, start_most w (process_of l k) (index_of_def l k) (word w (kept_count_at_of (process_of l k))) known.0 known.1)

pub loop-k-preserved : goal.loop-k-preserved
loop-k-preserved c =
    let l = c.loop-k in let a = c.args in (
      search rules,
      step_set (start_at a.w.now a.named.now) _ l.starts l.k l.invariant.1 _ c.find_start-start.ensures,
      all_and (λ j. not (eqb (start_at a.w.now a.named.now j) 0)) l.k l.all _ l.invariant.2 (ap (λ (x : ℕ). not (eqb x 0)) c.find_start-start.ensures),
    )

pub returns : goal.returns
unfolding starts_in
returns c =
    let l = c.loop-k in let e : l.k ≡ c.args.m = omega arith in
    let starts = rw e at l.invariant.1 in let all = rw e at l.invariant.2 in rw (starts, all)
