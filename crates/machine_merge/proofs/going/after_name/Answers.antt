-- `machine_merge::going::after_name` meets its contract.
-- Assumes nothing.
use Rattle.laws.specs.Basics.{arith, rules}
use Rattle.machines.specs.Forms.{Between}
use Rattle.machine_merge.specs.Words.{name_at, stage_of}
use Rattle.machine_merge.proofs.{Parts.name_most, Leading.name_word, Leading.name_end, Leading.name_failed, Arriving.led}
use Rattle.machine_merge.proofs.going.after_name.Goals as goal

pub open_file-requires : goal.open_file-requires
unfolding Between
open_file-requires c =
    let b = rw c.in-Brought.is at c.word-taken.ensures.1 in (c.requires.0, c.requires.1, c.requires.2, b.1)

pub returns-in-Brought : goal.returns-in-Brought
returns-in-Brought c =
    let m = c.args.m in let input = c.args.input.now in let place = name_at m.half in let h = c.word-taken.ensures.0 place input (omega (arith, name_most m.half, c.requires.1)) in led (name_word _ place input _ (stage_of m input) h _ c.in-Brought.is) c.open_file.ensures

pub returns-in-Ended : goal.returns-in-Ended
returns-in-Ended c =
    let m = c.args.m in let input = c.args.input.now in let place = name_at m.half in let h = c.word-taken.ensures.0 place input (omega (arith, name_most m.half, c.requires.1)) in led (name_end _ place input _ (stage_of m input) h c.in-Ended.is) (c.fail_no_name.ensures input)

pub returns-in-Failed : goal.returns-in-Failed
returns-in-Failed c =
    let m = c.args.m in let input = c.args.input.now in let place = name_at m.half in let h = c.word-taken.ensures.0 place input (omega (arith, name_most m.half, c.requires.1)) in led (name_failed _ place input _ (stage_of m input) h c.in-Failed.is) (c.fail_no_name-in-Failed.ensures input)
