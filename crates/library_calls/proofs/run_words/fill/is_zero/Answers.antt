-- `library_calls::run_words::fill::is_zero` meets its contract. Assumes nothing.
use Rattle.std.specs.Prelude.{◌≡◌}
use Rattle.laws.specs.Basics.{refl, ◌∙◌, arith, eqb, rules}
use Rattle.laws.specs.Search.{all_below}
use Rattle.model.specs.Words.{entry}
use Rattle.words_sound.proofs.rows.Ors.{or_step}
use Rattle.library_calls.proofs.{run_words.Tests.zero_all}
use Rattle.library_calls.proofs.run_words.fill.is_zero.Goals as goal

pub loop-f-init : goal.loop-f-init
unfolding all_below
loop-f-init c =
    (search rules, refl)

pub loop-f-preserved : goal.loop-f-preserved
loop-f-preserved c =
    (search rules, or_step (λ q. eqb (entry c.args.vector q).0 0) c.loop-f.f c.loop-f.any (entry c.args.vector c.loop-f.f).0 c.loop-f.invariant.1 refl)

pub returns : goal.returns
returns c =
    let l = c.loop-f in let e : l.f ≡ 16 = omega arith in
    rw e at l.invariant.1 ∙ zero_all c.args.vector (search rules)
