-- `machines::programs::text::write_word` meets its contract. The loop's invariant: the first k bytes stand in their places.
-- Assumes nothing.
use Rattle.std.specs.Prelude.{◌≡◌}
use Rattle.laws.specs.Basics.{refl, ◌∙◌, ap, arith, length, take}
use lib.Seq.{length-sets}
use Rattle.machines.proofs.{programs.Texts.one_copied, programs.Texts.all_copied}
use Rattle.machines.proofs.programs.text.write_word.Goals as goal

pub loop-k-init : goal.loop-k-init
loop-k-init c =
    (omega arith, refl, refl)

pub bounds-out-at : goal.bounds-out-at
bounds-out-at c =
    let same : length c.loop-k.out ≡ length c.args.out.now = let a = c.args in ap length c.loop-k.invariant.2 ∙ length-sets a.out.now a.at (take c.loop-k.k a.word.now) in
    omega (arith, same, c.requires)

pub loop-k-preserved : goal.loop-k-preserved
loop-k-preserved c =
    let a = c.args in let l = c.loop-k in (omega arith, refl, one_copied a.out.now l.out a.at l.k a.word.now l.invariant.2 (omega arith))

pub shape_of-out : goal.shape_of-out
shape_of-out c =
    let same : length c.loop-k.out ≡ length c.args.out.now = let a = c.args in ap length c.loop-k.invariant.2 ∙ length-sets a.out.now a.at (take c.loop-k.k a.word.now) in
    same

pub returns : goal.returns
returns c =
    let a = c.args in let l = c.loop-k in all_copied a.out.now l.out a.at l.k a.word.now l.invariant.2 (omega arith)
