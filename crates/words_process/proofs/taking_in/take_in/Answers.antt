-- `words_process::taking_in::take_in` meets its contract. Assumes nothing.
use Rattle.std.specs.Prelude.{◌≡◌, ◌-◌, ◌^◌, ◌≤◌, ◌<◌}
use Rattle.laws.specs.Basics.{refl, ◌∙◌, arith, length, rules}
use Rattle.laws.specs.Bits.{bits_of}
use Rattle.words.specs.Puts.{put_from}
use Rattle.words.proofs.Reading.{put_none}
use Rattle.words_process.proofs.TakingIn.{rises, word_then, step_words, step_rose, rises_none, all_rose, all_taken}
use Rattle.words_process.proofs.taking_in.take_in.Goals as goal

pub loop-f-init : goal.loop-f-init
loop-f-init c =
    (search rules, refl, put_none _ _ _, rises_none c.args.w.now c.args.at c.args.carried, omega arith)

pub take_entry-more-requires : goal.take_entry-more-requires
take_entry-more-requires c =
    let l = c.loop-f in (omega (arith, l.invariant.1, c.requires), search rules, l.invariant.4)

pub loop-f-preserved : goal.loop-f-preserved
loop-f-preserved c =
    let t = c.take_entry-more in let l = c.loop-f in let a = c.args in let lt : l.f < 16 = search rules in (
      search rules,
      t.auto.w ∙ l.invariant.1,
      t.ensures.w_after ∙ step_words a.w.now a.at a.carried l.f lt l.w l.invariant.2,
      t.ensures.value.0 ∙ step_rose a.w.now a.at a.carried l.f lt l.w l.invariant.2 l.rose l.invariant.3,
      t.ensures.value.1,
    )

pub shape_of-w : goal.shape_of-w
shape_of-w c =
    c.loop-f.invariant.1

pub returns : goal.returns
returns c =
    let l = c.loop-f in let a = c.args in let e : l.f ≡ 16 = omega arith in record { w_after = rw e at l.invariant.2 ∙ all_taken a.w.now a.at a.carried; value = rw e at l.invariant.3 ∙ all_rose a.w.now a.at a.carried }
