-- `machines::system::read` meets its contract: the read changes nothing around the place that it is given.
-- Assumes nothing.
use Rattle.laws.specs.Basics.{refl, ap, arith, rules}
use Rattle.machines.specs.Forms.{from, Comes}
use Rattle.machines.proofs.{Hearing.read_brought, Hearing.read_came, Places.around_put, Places.last_most, Places.fits_as}
use Rattle.machines.proofs.system.read.Goals as goal

pub returns-in-Ok : goal.returns-in-Ok
unfolding Comes
returns-in-Ok c =
    let within = last_most c.args.at c.args.most c.args.input.now c.read.new.to c.requires.1 c.read.auto.to in
    let (z, is) = read_brought _ _ c.in-Ok.size c.args.most c.read_answer.ensures (search rules) (omega (arith, within, c.in-Ok.ensures)) in (
      around_put c.args.at c.args.most c.args.input.now c.read.new.to c.requires.1 c.read.auto.to,
      fits_as _ _ c.requires.0 _ (λ source. (z, ap (from source) is)),
    )

pub returns-in-Err : goal.returns-in-Err
unfolding Comes
returns-in-Err c =
    let (z, is) = read_came _ _ 0 c.args.most c.args.most c.read_answer-in-Err.ensures refl refl in (
      around_put c.args.at c.args.most c.args.input.now c.read.new.to c.requires.1 c.read.auto.to,
      fits_as _ _ c.requires.0 _ (λ source. (z, ap (from source) is)),
    )
