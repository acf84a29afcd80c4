-- `library_calls::through::earliest_of` meets its contract: what the call in place says of words that were filled from the state, with the pairs of what was copied, it says
-- of the state.
-- Assumes nothing.
use Rattle.std.specs.Prelude.{◌≡◌, ◌-◌}
use Rattle.laws.specs.Basics.{not, sym, ◌∙◌, ap, true, false, List, ℕ, arith, take, by_bool, rules}
use Rattle.model.specs.Shapes.{LineAnswer}
use Rattle.model.specs.{declared.Named.Named, declared.Run.Run, Sound.sound}
use Rattle.words.specs.Layout.{run_of}
use Rattle.whole_runs.specs.{Earliest.earliest_outcome, Outcomes.Outcome}
use Rattle.whole_runs.proofs.Unsound.{earliest_unsound}
use Rattle.words_line.specs.{Through.named_in, earliest.Pairs.SameLine}
use Rattle.library_calls.specs.run_words.Filled.{FilledFrom}
use Rattle.library_calls.proofs.{Changing.over_unsound, Changing.within}
use Rattle.library_calls.proofs.through.earliest_of.Goals as goal

-- What the call in place says, through the pairs of a list, of words that were filled from a state. The numbers are a part that starts at 0.
module _ (s : Run) (w numbers : List ℕ) (end : ℕ) (l : List Named) (line : List ℕ) (from : FilledFrom s w) (same : SameLine l (named_in (take end numbers))) where
  abbrev there : Outcome LineAnswer
  there = earliest_outcome (run_of w) (named_in (take (end - 0) numbers)) line

  same_outcome : sound s ≡ true → there ≡ earliest_outcome s l line
  unfolding SameLine
  same_outcome whole =
      let whole_part : end - 0 ≡ end = omega arith in
      rw whole_part (ap (λ (y : Run). earliest_outcome y (named_in (take end numbers)) line) (from.1 whole) ∙ same s whole line)

  says_through : {A : Type 0} (part : Outcome LineAnswer → A) (said : A) → ((t : Run) → sound t ≡ false → (m : List Named) → said ≡ part (earliest_outcome t m line))
      → part there ≡ part (earliest_outcome s l line)
  says_through part said unsound = by_bool (sound s) (λ e. ap part (same_outcome e)) (λ e. sym (unsound (run_of w) (from.0 ∙ e) _) ∙ unsound s e l)

  run_is : run_of w ≡ there.run → s ≡ (earliest_outcome s l line).run
  run_is left = by_bool (sound s) (λ e. sym (from.1 e) ∙ left ∙ ap (λ (x : Outcome LineAnswer). x.run) (same_outcome e)) (λ e. (earliest_unsound s e l line).0)

pub returns-then-not-few : goal.returns-then-not-few
returns-then-not-few c l e =
    let a = c.args in let g = earliest_unsound a.s (over_unsound a.s _ c.are_counts_fit-few.ensures (ap not c.if-not-few.true)) l a.line.now in (g.0, g.1.0, g.1.1)

pub fill-requires : goal.fill-requires
fill-requires c =
    let h = within c.args.s _ c.are_counts_fit-few.ensures (ap not c.if-not-few.false) in (search rules, h.0, h.1)

pub slice_bounds-earliest-end-2 : goal.slice_bounds-earliest-end-2
slice_bounds-earliest-end-2 c =
    c.pairs_of-pairs.ensures.end_in_bounds

pub returns : goal.returns
returns c l e =
    let a = c.args in let line = a.line.now in let g = c.earliest-answer.ensures in let r = c.pairs_of-pairs.result in let from = c.fill.ensures in let same = c.pairs_of-pairs.ensures.same_line l e in (
      run_is a.s _ r.numbers r.end l line from same g.w_value,
      g.value ∙ says_through a.s _ r.numbers r.end l line from same (λ x. x.answer) _ (λ t u m. (earliest_unsound t u m line).1.0),
      g.line_after ∙ says_through a.s _ r.numbers r.end l line from same (λ x. x.line) line (λ t u m. (earliest_unsound t u m line).1.1),
    )
