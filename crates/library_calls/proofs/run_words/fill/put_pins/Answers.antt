-- `library_calls::run_words::fill::put_pins` meets its contract. Assumes nothing.
use Rattle.std.specs.Prelude.{◌≡◌, None}
use Rattle.laws.specs.Basics.{refl, arith, get_or, length-set, rules}
use Rattle.laws.specs.{Below.all_and, Loops.all_zero}
use Rattle.words.proofs.Reading.{put_none, put_step}
use Rattle.library_calls.specs.{run_words.Fits.pin_fits, run_words.Filled.pin_word}
use Rattle.library_calls.proofs.run_words.fill.put_pins.Goals as goal

pub loop-f-init : goal.loop-f-init
loop-f-init c =
    (search rules, refl, all_zero _, put_none _ _ _)

pub loop-f-preserved : goal.loop-f-preserved
loop-f-preserved c =
    let l = c.loop-f in let a = c.args in (
      search rules,
      simp length-set l.invariant.1,
      all_and (λ q. pin_fits (get_or a.pins q None)) l.f l.all _ l.invariant.2 c.is_pin_fit-fit.ensures,
      put_step a.w.now a.at (λ q. pin_word (get_or a.pins q None)) l.f l.w _ l.invariant.3 c.word_of_pin-x.ensures,
    )

pub shape_of-w : goal.shape_of-w
shape_of-w c =
    c.loop-f.invariant.1

pub returns : goal.returns
returns c =
    let l = c.loop-f in let e : l.f ≡ 16 = omega arith in
    (rw e at l.invariant.2, rw e at l.invariant.3)
