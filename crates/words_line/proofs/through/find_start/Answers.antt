-- `words_line::through::find_start` meets its contract. The loop's invariant: where the vector starts, if one of the checkpoints passed so far is the one.
-- Assumes nothing.
use Rattle.std.specs.Prelude.{◌≡◌, ◌+◌, ◌-◌, ◌≤◌}
use Rattle.laws.specs.Basics.{refl, sym, ◌∙◌, true, false, List, ℕ, arith, eqb, rules}
use native.Mathlib.Numerals.{add-one}
use Rattle.laws.specs.Loops.{either}
use Rattle.words.specs.Layout.{word, kept_count_at_of, index_at_of, stored_at}
use Rattle.words_line.specs.Through.{start_of}
use Rattle.words_line.proofs.through.find_start.Goals as goal
use Rattle.words_line.proofs.through.find_start.Goals.{then-here, else-here}

nowhere : (w : List ℕ) (p i : ℕ) → 0 ≡ start_of w p i 0
unfolding start_of
nowhere w p i = refl

here : (w : List ℕ) (p i k : ℕ) → eqb (word w (index_at_of p k) - 1) i ≡ true → stored_at p k ≡ start_of w p i (k + 1)
unfolding start_of
here w p i k e = rw (add-one k, e)

not_here : (w : List ℕ) (p i k : ℕ) → eqb (word w (index_at_of p k) - 1) i ≡ false → start_of w p i k ≡ start_of w p i (k + 1)
unfolding start_of
not_here w p i k e = rw (add-one k, e)

pub loop-k-init : goal.loop-k-init
loop-k-init c =
    (search rules, nowhere _ _ _)

pub is_index-here-requires : goal.is_index-here-requires
is_index-here-requires c =
    c.requires.3 c.loop-k.k c.loop-k-test.true

pub loop-k-preserved : goal.loop-k-preserved
loop-k-preserved c =
    let l = c.loop-k in let a = c.args in elim c.if-here.branch [
      | then-here t ↦ (search rules, t.start-is ∙ here a.w.now a.p a.index l.k (sym c.is_index-here.ensures ∙ t.if-here.true))
      | else-here t ↦ (search rules, t.start-is ∙ l.invariant.1 ∙ not_here a.w.now a.p a.index l.k (sym c.is_index-here.ensures ∙ t.if-here.false))
    ]

pub returns : goal.returns
returns c =
    let l = c.loop-k in let a = c.args in let e : l.k ≡ word a.w.now (kept_count_at_of a.p) = omega arith in
    rw e at l.invariant.1
