-- `words_line::restored::find_latest` meets its contract. The loop's invariant: what is found of the checkpoints passed so far.
-- Assumes nothing.
use Rattle.std.specs.Prelude.{◌≡◌, ◌+◌, ◌-◌, ◌≤◌}
use Rattle.laws.specs.Basics.{refl, ◌∙◌, ap, List, ℕ, arith, replicate, rules}
use native.Mathlib.Numerals.{add-one}
use Rattle.model.specs.declared.Interval.{Interval}
use Rattle.words.specs.Layout.{word, index_at_of, stored_at, vector_in}
use Rattle.words_line.specs.Restored.{found_row, found_in_of}
use Rattle.words_line.proofs.restored.find_latest.Goals as goal

nothing : (w : List ℕ) (owns : List Interval) (p : ℕ) → replicate 16 0 ≡ found_in_of w owns p 0
unfolding found_in_of
nothing w owns p = refl

more : (w : List ℕ) (owns : List Interval) (p k : ℕ) → found_row (found_in_of w owns p k) (vector_in w (stored_at p k)) owns (word w (index_at_of p k)) ≡ found_in_of w owns p (k + 1)
unfolding found_in_of
more w owns p k = rw (add-one k)

pub loop-k-init : goal.loop-k-init
loop-k-init c =
    (search rules, nothing _ _ _)

pub loop-k-preserved : goal.loop-k-preserved
loop-k-preserved c =
    let l = c.loop-k in let a = c.args in let w = a.w.now in (
      search rules,
      c.found_with-further.ensures
          ∙ ap (λ (x : List Interval). found_row l.found x a.owns (word w (index_at_of a.p l.k))) c.vector_at-vector.ensures
          ∙ ap (λ (x : List ℕ). found_row x (vector_in w (stored_at a.p l.k)) a.owns (word w (index_at_of a.p l.k))) l.invariant.1
          ∙ more w a.owns a.p l.k,
    )

pub returns : goal.returns
returns c =
    let e : c.loop-k.k ≡ c.args.many = omega arith in rw e at c.loop-k.invariant.1
