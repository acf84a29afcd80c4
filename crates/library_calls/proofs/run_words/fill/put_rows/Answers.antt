-- `library_calls::run_words::fill::put_rows` meets its contract. Assumes nothing.
use Rattle.std.specs.Prelude.{◌≡◌}
use Rattle.laws.specs.Basics.{refl, ◌∙◌, false, [], arith, get_or, rules}
use Rattle.laws.specs.{Below.all_and, Loops.iter_none, Loops.iter_more, Loops.all_zero}
use Rattle.library_calls.specs.{run_words.Fits.row_fits_of, run_words.Fits.rows_fit_of, run_words.Filled.rows_filled}
use Rattle.library_calls.proofs.run_words.fill.put_rows.Goals as goal

pub loop-p-init : goal.loop-p-init
loop-p-init c =
    (search rules, refl, all_zero _, iter_none _ _)

pub put_row-fit-requires : goal.put_row-fit-requires
put_row-fit-requires c =
    (c.loop-p.invariant.1 ∙ c.requires, search rules)

pub loop-p-preserved : goal.loop-p-preserved
unfolding rows_filled
loop-p-preserved c =
    let l = c.loop-p in let a = c.args in (
      search rules,
      c.put_row-fit.auto.w ∙ l.invariant.1,
      all_and (λ q. row_fits_of q a.n (get_or a.vectors q []) (get_or a.pins q []) (get_or a.kept_count q 0) (get_or a.sent q false)) l.p l.all _ l.invariant.2 c.put_row-fit.ensures.0,
      iter_more (rows_filled a.n a.vectors a.pins a.kept_count a.sent) a.w.now l.w l.p _ l.invariant.3 c.put_row-fit.ensures.1,
    )

pub shape_of-w : goal.shape_of-w
shape_of-w c =
    c.loop-p.invariant.1

pub returns : goal.returns
unfolding rows_fit_of
returns c =
    let l = c.loop-p in let e : l.p ≡ 16 = omega arith in
    (rw e at l.invariant.2, rw e at l.invariant.3)
