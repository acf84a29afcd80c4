-- `machine_merge::going::show` meets its contract.
-- Assumes nothing.
use Rattle.laws.specs.Basics.{sym, ◌∙◌, ap, arith, take, rules}
use Rattle.machines.proofs.programs.Texts.{refused_length}
use Rattle.machine_merge.specs.Printed.{printed}
use Rattle.machine_merge.proofs.{Putting.worth, Leading.shown_refusal, Leading.shown_trace}
use Rattle.machine_merge.proofs.Arriving.{led, printed_reporting, arrives_writing}
use Rattle.machine_merge.proofs.going.show.Goals as goal

pub returns-in-Err : goal.returns-in-Err
returns-in-Err c =
    λ input.
    let first = c.args.first.now in let second = c.args.second.now in let set = c.args.set in let out = c.args.out.now in let w = worth first second set out c.requires.0 in let merged = c.merge-answer in let why = c.in-Err.why in led (shown_refusal (printed first second set) why (w.refused why (sym merged.ensures.value ∙ c.in-Err.is)))
    (rw c.at.ensures
    (printed_reporting _ _ _ _ (omega (arith, refused_length why, merged.auto.res, c.requires.1)) c.write_refused-size.ensures.0 input))

pub returns-in-Ok : goal.returns-in-Ok
returns-in-Ok c =
    λ input.
    let first = c.args.first.now in let second = c.args.second.now in let set = c.args.set in let out = c.args.out.now in let w = worth first second set out c.requires.0 in let merged = c.merge-answer in let size = c.in-Ok.size in let is = sym merged.ensures.value ∙ c.in-Ok.is in let (trace, none) = w.merged size is in
    led (shown_trace (printed first second set) _ trace none)
    (rw c.at-in-Ok.ensures (arrives_writing input _ size _ (omega (arith, w.fits size is, merged.auto.res)) (ap (take size) merged.ensures.res_after)))
