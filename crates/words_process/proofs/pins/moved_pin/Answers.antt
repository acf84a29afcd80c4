-- `words_process::pins::moved_pin` meets its contract. Assumes nothing.
use Rattle.laws.specs.Basics.{rules}
use Rattle.words_process.proofs.{Sets.and_none, Sets.and_some}
use Rattle.words_process.proofs.pins.moved_pin.Goals as goal

pub returns-then-moves-bit-eq0 : goal.returns-then-moves-bit-eq0
returns-then-moves-bit-eq0 c =
    rw (and_none c.args.moves c.args.f (rw c.bit.ensures at c.if-moves-bit-eq0.true))

pub returns-else-moves-bit-eq0 : goal.returns-else-moves-bit-eq0
returns-else-moves-bit-eq0 c =
    rw (and_some c.args.moves c.args.f (λ e. c.if-moves-bit-eq0.false (rw c.bit.ensures e)))
