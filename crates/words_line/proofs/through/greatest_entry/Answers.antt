-- `words_line::through::greatest_entry` meets its contract. The loop's invariant: the greatest of the entries passed so far.
-- Assumes nothing.
use Rattle.std.specs.Prelude.{◌≡◌, ◌+◌, ◌-◌, ◌≤◌}
use Rattle.laws.specs.Basics.{refl, ◌∙◌, ap, List, ℕ, max, arith, get_or, rules}
use native.Mathlib.Numerals.{add-one}
use Rattle.laws.specs.{Loops.either}
use Rattle.model.specs.declared.Interval.{Interval}
use Rattle.words.specs.Layout.{word}
use Rattle.words_line.specs.Through.{greatest_in}
use Rattle.words_line.proofs.through.greatest_entry.Goals as goal
use Rattle.words_line.proofs.through.greatest_entry.Goals.{then-most-known, else-most-known}

nothing : (w starts : List ℕ) (p : ℕ) → 0 ≡ greatest_in w starts p 0
unfolding greatest_in
nothing w starts p = refl

more : (w starts : List ℕ) (p k g : ℕ) → g ≡ max (greatest_in w starts p k) (word w (get_or starts k 0 + p)) → g ≡ greatest_in w starts p (k + 1)
unfolding greatest_in
more w starts p k g e = rw (add-one k) e

pub loop-k-init : goal.loop-k-init
loop-k-init c =
    (search rules, nothing _ _ _)

pub overflow_cast-starts : goal.overflow_cast-starts
overflow_cast-starts c =
    omega (arith, c.requires.3 c.loop-k.k c.loop-k-test.true)

pub overflow_add-starts : goal.overflow_add-starts
overflow_add-starts c =
    omega (arith, c.requires.1, c.requires.3 c.loop-k.k c.loop-k-test.true)

pub offset_bounds-w-starts : goal.offset_bounds-w-starts
offset_bounds-w-starts c =
    omega (arith, c.requires.1, c.requires.3 c.loop-k.k c.loop-k-test.true)

pub bounds-w-starts : goal.bounds-w-starts
bounds-w-starts c =
    omega (arith, c.requires.0, c.requires.1, c.requires.3 c.loop-k.k c.loop-k-test.true)

pub loop-k-preserved : goal.loop-k-preserved
loop-k-preserved c =
    let l = c.loop-k in let a = c.args in let e = ap (λ (x : Interval). x.0) c.interval_of-known.ensures in elim c.if-most-known.branch [
      | then-most-known t ↦ (search rules, more a.w.now a.starts a.p l.k _ (omega (arith, e, l.invariant.1, t.most-is, t.if-most-known.true)))
      | else-most-known t ↦ (search rules, more a.w.now a.starts a.p l.k _ (omega (arith, e, l.invariant.1, t.most-is, t.if-most-known.false)))
    ]

pub returns : goal.returns
returns c =
    let e : c.loop-k.k ≡ c.args.m = omega arith in rw e at c.loop-k.invariant.1
