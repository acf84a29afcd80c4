-- `machines::replay_input::arguments::is_all` meets its contract, test by test.
-- Assumes nothing.
use Rattle.laws.specs.Basics.{sym, get_or, eq-eqb, ne_eqb}
use Rattle.machines.proofs.{replay_input.Words.three_bytes, replay_input.Words.not_three}
use Rattle.machines.proofs.replay_input.arguments.is_all.Goals as goal

pub returns-then-argument-ne3 : goal.returns-then-argument-ne3
returns-then-argument-ne3 c = sym (not_three c.args.argument.now 97 108 108 c.if-argument-ne3.true)

pub returns-then-argument-ne97 : goal.returns-then-argument-ne97
returns-then-argument-ne97 c = rw (three_bytes c.args.argument.now 97 108 108 c.if-argument-ne3.false, ne_eqb (get_or c.args.argument.now 0 0) 97 c.if-argument-ne97.true)

pub returns-then-argument-ne108 : goal.returns-then-argument-ne108
returns-then-argument-ne108 c =
    rw (
      three_bytes c.args.argument.now 97 108 108 c.if-argument-ne3.false,
      eq-eqb (get_or c.args.argument.now 0 0) 97 c.if-argument-ne97.false,
      ne_eqb (get_or c.args.argument.now 1 0) 108 c.if-argument-ne108.true,
    )

pub returns : goal.returns
returns c =
    rw (
      three_bytes c.args.argument.now 97 108 108 c.if-argument-ne3.false,
      eq-eqb (get_or c.args.argument.now 0 0) 97 c.if-argument-ne97.false,
      eq-eqb (get_or c.args.argument.now 1 0) 108 c.if-argument-ne108.false,
    )
