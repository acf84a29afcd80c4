-- `library_calls::run_words::fill::put_messages` meets its contract. Assumes nothing.
use Rattle.std.specs.Prelude.{◌≡◌}
use Rattle.laws.specs.Basics.{refl, ◌∙◌, arith, get_or, rules}
use Rattle.laws.specs.{Below.all_and, Loops.iter_none, Loops.iter_more, Loops.all_zero}
use Rattle.library_calls.specs.{run_words.Fits.past_messages, run_words.Fits.one_fits, run_words.Fits.messages_fit_of, run_words.Filled.messages_filled}
use Rattle.library_calls.proofs.run_words.fill.put_messages.Goals as goal

pub loop-k-init : goal.loop-k-init
loop-k-init c =
    (search rules, refl, all_zero _, iter_none _ _)

pub put_one-fit-requires : goal.put_one-fit-requires
put_one-fit-requires c =
    (c.loop-k.invariant.1 ∙ c.requires, search rules)

pub loop-k-preserved : goal.loop-k-preserved
unfolding messages_filled
loop-k-preserved c =
    let l = c.loop-k in let a = c.args in (
      search rules,
      c.put_one-fit.auto.w ∙ l.invariant.1,
      all_and (λ q. one_fits q a.many (get_or a.messages q past_messages)) l.k l.all _ l.invariant.2 c.put_one-fit.ensures.0,
      iter_more (messages_filled a.many a.messages) a.w.now l.w l.k _ l.invariant.3 c.put_one-fit.ensures.1,
    )

pub shape_of-w : goal.shape_of-w
shape_of-w c =
    c.loop-k.invariant.1

pub returns : goal.returns
unfolding messages_fit_of
returns c =
    let l = c.loop-k in let e : l.k ≡ 64 = omega arith in
    (rw e at l.invariant.2, rw e at l.invariant.3)
