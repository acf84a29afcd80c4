-- `library_calls::run_words::fill::put_kept` meets its contract. Assumes nothing.
use Rattle.std.specs.Prelude.{◌≡◌, ◌/◌, ◌%◌}
use Rattle.laws.specs.Basics.{refl, ◌∙◌, [], arith, get_or, length-set, rules}
use Rattle.laws.specs.{Below.all_and, Loops.iter_none, Loops.iter_more, Loops.all_zero}
use Rattle.model.specs.Words.{past_end}
use Rattle.library_calls.specs.{run_words.Fits.place_fits, run_words.Fits.kept_fits, run_words.Filled.kept_filled}
use Rattle.library_calls.proofs.{run_words.Steps.place_more}
use Rattle.library_calls.proofs.run_words.fill.put_kept.Goals as goal

pub loop-q-init : goal.loop-q-init
loop-q-init c =
    (search rules, refl, all_zero _, iter_none _ _)

pub bounds-w-p : goal.bounds-w-p
bounds-w-p c =
    omega (arith, c.loop-q.invariant.1, c.requires)

pub put_place-fit-requires : goal.put_place-fit-requires
put_place-fit-requires c =
    (length-set c.loop-q.w _ _ ∙ c.loop-q.invariant.1 ∙ c.requires, search rules, search rules)

pub loop-q-preserved : goal.loop-q-preserved
loop-q-preserved c =
    let l = c.loop-q in let a = c.args in (
      search rules,
      c.put_place-fit.auto.w ∙ length-set l.w _ _ ∙ l.invariant.1,
      all_and (λ j. place_fits (j % 16) (get_or a.kept_count (j / 16) 0) (get_or (get_or a.kept (j / 16) []) 0 past_end).blocks (get_or (get_or a.kept (j / 16) []) (j % 16) past_end)) l.q l.all _ l.invariant.2 c.put_place-fit.ensures.0,
      iter_more (kept_filled a.kept a.kept_count) a.w.now l.w l.q _ l.invariant.3 (place_more a.kept a.kept_count l.q l.w _ c.put_place-fit.ensures.1),
    )

pub shape_of-w : goal.shape_of-w
shape_of-w c =
    c.loop-q.invariant.1

pub returns : goal.returns
unfolding kept_fits
returns c =
    let l = c.loop-q in let e : l.q ≡ 256 = omega arith in
    (rw e at l.invariant.2, rw e at l.invariant.3)
