-- `machine_record::going::after_first` meets its contract. Assumes nothing.
use Rattle.std.specs.Prelude.{◌≡◌}
use Rattle.laws.specs.Basics.{◌∙◌, ap, arith, rules}
use Rattle.model.specs.Refusals.{number}
use Rattle.machines.specs.{Machines.heard, Machines.stepped, Forms.answer_of, Forms.taken_of, Forms.Between}
use Rattle.machines.proofs.Leading.{stepped_by}
use Rattle.machine_record.specs.Machine.{beginning, machine, ask, next}
use Rattle.machine_record.proofs.{Leading.led, Leading.first_byte}
use Rattle.machines.specs.declared.heard.Taken as takens
use Rattle.machine_record.proofs.going.after_first.Goals as goal

pub bounds-input-kept : goal.bounds-input-kept
bounds-input-kept c =
    let p = c.requires in omega (arith, p.1, p.2)

pub start-requires : goal.start-requires
start-requires c =
    let p = c.requires in (p.0, p.3, p.4)

pub end_refused-requires : goal.end_refused-requires
end_refused-requires c =
    omega (arith, c.requires.3)

pub fail-requires : goal.fail-requires
fail-requires c =
    omega (arith, c.requires.3)

pub returns-in-Brought : goal.returns-in-Brought
unfolding Between taken_of next
returns-in-Brought c =
    let heard_as : (form : takens.Taken) → c.read-taken.result ≡ form
    → stepped machine (beginning c.args.left) (answer_of c.args.answer c.args.kept c.args.input.now) ≡ next (beginning c.args.left) (taken_of form c.args.kept c.args.input.now) = unfold ask heard in λ form e. stepped_by machine (beginning c.args.left) _ _
    (c.read-taken.ensures.0 c.args.kept c.args.input.now (omega (arith, c.requires.1, c.requires.2)) ∙ ap (λ (x : takens.Taken). taken_of x c.args.kept c.args.input.now) e) in
    λ lines.
    let e = c.in-Brought.is in let b = rw e at c.read-taken.ensures.1 in led (heard_as _ e ∙ first_byte c.args.left _ c.args.kept c.args.input.now b.0 b.1 (omega (arith, c.requires.1, c.requires.2))) (c.start.ensures c.args.input.now lines)

pub returns-in-Ended : goal.returns-in-Ended
unfolding taken_of next number
returns-in-Ended c =
    let heard_as : (form : takens.Taken) → c.read-taken.result ≡ form
    → stepped machine (beginning c.args.left) (answer_of c.args.answer c.args.kept c.args.input.now) ≡ next (beginning c.args.left) (taken_of form c.args.kept c.args.input.now) = unfold ask heard in λ form e. stepped_by machine (beginning c.args.left) _ _
    (c.read-taken.ensures.0 c.args.kept c.args.input.now (omega (arith, c.requires.1, c.requires.2)) ∙ ap (λ (x : takens.Taken). taken_of x c.args.kept c.args.input.now) e) in
    λ lines. led (heard_as _ c.in-Ended.is) (c.end_refused.ensures _ c.args.input.now lines)

pub returns-in-Failed : goal.returns-in-Failed
unfolding taken_of next
returns-in-Failed c =
    let heard_as : (form : takens.Taken) → c.read-taken.result ≡ form
    → stepped machine (beginning c.args.left) (answer_of c.args.answer c.args.kept c.args.input.now) ≡ next (beginning c.args.left) (taken_of form c.args.kept c.args.input.now) = unfold ask heard in λ form e. stepped_by machine (beginning c.args.left) _ _
    (c.read-taken.ensures.0 c.args.kept c.args.input.now (omega (arith, c.requires.1, c.requires.2)) ∙ ap (λ (x : takens.Taken). taken_of x c.args.kept c.args.input.now) e) in
    λ lines. led (heard_as _ c.in-Failed.is) (c.fail.ensures _ c.args.input.now lines)
