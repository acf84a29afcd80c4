-- `machine_console::making::make` meets its contract. Assumes nothing.
use Rattle.laws.specs.Basics.{sym, ◌∙◌, arith, rules}
use Rattle.machine_console.specs.script.Script.{call_of}
use Rattle.machine_console.proofs.Lists.{eight_is, never_ended, never_left_over, malformed_none, asks_some, makes_none}
use Rattle.machine_console.proofs.making.make.Goals as goal

pub returns-in-Ended : goal.returns-in-Ended
returns-in-Ended c =
    never_ended (call_of c.args.bytes) (sym (eight_is c.args.bytes) ∙ sym c.next_of-read.ensures ∙ c.in-Ended.is)

pub returns-in-LeftOver : goal.returns-in-LeftOver
returns-in-LeftOver c =
    never_left_over (call_of c.args.bytes) (sym (eight_is c.args.bytes) ∙ sym c.next_of-read.ensures ∙ c.in-LeftOver.is)

pub returns-in-Malformed : goal.returns-in-Malformed
returns-in-Malformed c =
    let write-refused3 = c.write_refused-in-Malformed in makes_none _ _ _ _ _ _ (malformed_none (call_of c.args.bytes) (sym (eight_is c.args.bytes) ∙ sym c.next_of-read.ensures ∙ c.in-Malformed.is)) write-refused3.ensures.0 (omega (arith, write-refused3.ensures.1, c.requires.1))

pub returns-in-Asks : goal.returns-in-Asks
returns-in-Asks c =
    rw (asks_some (call_of c.args.bytes) _ (sym (eight_is c.args.bytes) ∙ sym c.next_of-read.ensures ∙ c.in-Asks.is)) c.make_asked.ensures
