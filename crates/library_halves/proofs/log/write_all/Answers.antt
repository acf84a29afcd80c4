-- `library_halves::log::write_all` meets its contract. The loop's invariant: the bytes of the words so far are written.
-- Assumes nothing.
use Rattle.laws.specs.Basics.{refl, ◌∙◌}
use Rattle.library_halves.proofs.{Bytes.bytes_none, Bytes.bytes_next}
use Rattle.library_halves.proofs.log.write_all.Goals as goal

pub loop-i-init : goal.loop-i-init
loop-i-init c =
    (refl, bytes_none c.args.out.now c.args.log.now)

pub loop-i-preserved : goal.loop-i-preserved
loop-i-preserved c =
    let w = c.write_word in let l = c.loop-i in let a = c.args in (w.auto.out ∙ l.invariant.0, w.ensures ∙ bytes_next a.out.now l.out a.log.now l.i l.invariant.1)
