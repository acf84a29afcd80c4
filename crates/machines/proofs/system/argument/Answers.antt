-- `machines::system::argument` meets its contract: the call changes nothing around the place that it is given.
-- Assumes nothing.
use Rattle.laws.specs.Basics.{ap, arith}
use Rattle.machines.specs.Forms.{from, Comes}
use Rattle.machines.proofs.Places.{around_put, last_most, fits_as}
use Rattle.machines.proofs.system.argument.Goals as goal

pub returns-in-Ok : goal.returns-in-Ok
unfolding Comes
returns-in-Ok g c =
    let within = last_most c.args.at c.args.most c.args.input.now c.arg.new.buf c.requires.1 c.arg.auto.buf in (
      around_put c.args.at c.args.most c.args.input.now c.arg.new.buf c.requires.1 c.arg.auto.buf,
      fits_as _ _ c.requires.0 _ (λ source. (_, c.in-Ok.size, omega (arith, within, c.in-Ok.ensures.bound), ap (from source) c.word_answer.ensures)),
    )

pub returns-after-error : goal.returns-after-error
unfolding Comes
returns-after-error g c = (
  around_put c.args.at c.args.most c.args.input.now c.arg.new.buf c.requires.1 c.arg.auto.buf,
  fits_as _ _ c.requires.0 _ (λ source. (_, 0, omega arith, ap (from source) c.word_answer-in-Err.ensures)),
)
