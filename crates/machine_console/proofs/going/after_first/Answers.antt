-- `machine_console::going::after_first` meets its contract. Assumes nothing.
use Rattle.std.specs.Prelude.{◌≡◌}
use Rattle.laws.specs.Basics.{◌∙◌, ap, arith, rules}
use Rattle.model.specs.Refusals.{number}
use Rattle.machines.specs.{Machines.heard, Machines.stepped, Forms.answer_of, Forms.taken_of, Forms.Between}
use Rattle.machines.proofs.Leading.{stepped_by}
use Rattle.machine_console.specs.{Consoling.Opening, Consoling.ask, Consoling.next, Consoling.begun, Consoling.after_first_of, Consoling.consoling, Text.refused_text}
use Rattle.machine_console.proofs.{Leading.led, Leading.first_byte}
use Rattle.machines.specs.declared.heard.Taken as takens
use Rattle.machine_console.proofs.going.after_first.Goals as goal

pub returns-in-Brought : goal.returns-in-Brought
unfolding Between taken_of after_first_of
returns-in-Brought c =
    let heard_as : (form : takens.Taken) → c.read-taken.result ≡ form
    → stepped consoling Opening (answer_of c.args.answer c.args.kept c.args.input.now) ≡ after_first_of (taken_of form c.args.kept c.args.input.now) = unfold ask heard next in λ form e. stepped_by consoling Opening _ _
    (c.read-taken.ensures.0 c.args.kept c.args.input.now (omega (arith, c.requires.1, c.requires.2)) ∙ ap (λ (x : takens.Taken). taken_of x c.args.kept c.args.input.now) e) in
    let e = c.in-Brought.is in let some = (rw e at c.read-taken.ensures.1).0 in led (heard_as _ e ∙ ap begun (first_byte _ c.args.kept c.args.input.now some)) (c.start.ensures _)

pub returns-in-Ended : goal.returns-in-Ended
unfolding taken_of after_first_of refused_text number
returns-in-Ended c =
    let heard_as : (form : takens.Taken) → c.read-taken.result ≡ form
    → stepped consoling Opening (answer_of c.args.answer c.args.kept c.args.input.now) ≡ after_first_of (taken_of form c.args.kept c.args.input.now) = unfold ask heard next in λ form e. stepped_by consoling Opening _ _
    (c.read-taken.ensures.0 c.args.kept c.args.input.now (omega (arith, c.requires.1, c.requires.2)) ∙ ap (λ (x : takens.Taken). taken_of x c.args.kept c.args.input.now) e) in
    led (heard_as _ c.in-Ended.is) (c.end_refused.ensures _ _)

pub returns-in-Failed : goal.returns-in-Failed
unfolding taken_of after_first_of
returns-in-Failed c =
    let heard_as : (form : takens.Taken) → c.read-taken.result ≡ form
    → stepped consoling Opening (answer_of c.args.answer c.args.kept c.args.input.now) ≡ after_first_of (taken_of form c.args.kept c.args.input.now) = unfold ask heard next in λ form e. stepped_by consoling Opening _ _
    (c.read-taken.ensures.0 c.args.kept c.args.input.now (omega (arith, c.requires.1, c.requires.2)) ∙ ap (λ (x : takens.Taken). taken_of x c.args.kept c.args.input.now) e) in
    led (heard_as _ c.in-Failed.is) (c.fail.ensures _ _)
