-- `machine_record::going::after_word` meets its contract. Assumes nothing.
use Rattle.std.specs.Prelude.{◌≡◌, ◌+◌, ◌-◌}
use Rattle.laws.specs.Basics.{◌∙◌, ap, ℕ, arith, take, drop, rules}
use Rattle.machines.specs.{programs.Numbers.number_in, Machines.heard, Machines.stepped, Forms.answer_of, Forms.taken_of, Forms.Between}
use Rattle.machines.proofs.Leading.{stepped_by}
use Rattle.machine_record.specs.Machine.{naming, machine, ask, next, sized}
use Rattle.machine_record.proofs.{Leading.led}
use Rattle.machines.specs.declared.heard.Taken as takens
use Rattle.machine_record.proofs.going.after_word.Goals as goal

pub overflow_add-end : goal.overflow_add-end
unfolding Between
overflow_add-end c =
    let b = rw c.in-Brought.is at c.word-taken.ensures.1 in omega (arith, b.1, c.requires.1)

pub slice_bounds-take_size-end : goal.slice_bounds-take_size-end
unfolding Between
slice_bounds-take_size-end c =
    let b = rw c.in-Brought.is at c.word-taken.ensures.1 in
    omega (arith, b.1, c.requires.0, c.requires.1)

pub take_size-requires : goal.take_size-requires
take_size-requires c =
    c.requires.2

pub end_with-requires : goal.end_with-requires
end_with-requires c =
    omega (arith, c.requires.2)

pub end_with-requires-in-Failed : goal.end_with-requires-in-Failed
end_with-requires-in-Failed c =
    omega (arith, c.requires.2)

pub returns-in-Brought : goal.returns-in-Brought
unfolding taken_of next
returns-in-Brought c =
    let heard_as : (form : takens.Taken) → c.word-taken.result ≡ form
    → stepped machine naming (answer_of c.args.answer c.args.kept c.args.input.now) ≡ next naming (taken_of form c.args.kept c.args.input.now) = unfold ask heard in λ form e. stepped_by machine naming _ _
    (c.word-taken.ensures.0 c.args.kept c.args.input.now (omega (arith, c.requires.0, c.requires.1)) ∙ ap (λ (x : takens.Taken). taken_of x c.args.kept c.args.input.now) e) in
    λ words lines.
    let kept = c.args.kept in let input = c.args.input.now in let size = c.in-Brought.size in let same : size ≡ (kept + size) - kept = omega arith in
    led (heard_as _ c.in-Brought.is ∙ ap (λ (k : ℕ). sized (number_in (take k (drop kept input)))) same) (c.take_size.ensures words input lines)

pub returns-in-Ended : goal.returns-in-Ended
unfolding taken_of next
returns-in-Ended c =
    let heard_as : (form : takens.Taken) → c.word-taken.result ≡ form
    → stepped machine naming (answer_of c.args.answer c.args.kept c.args.input.now) ≡ next naming (taken_of form c.args.kept c.args.input.now) = unfold ask heard in λ form e. stepped_by machine naming _ _
    (c.word-taken.ensures.0 c.args.kept c.args.input.now (omega (arith, c.requires.0, c.requires.1)) ∙ ap (λ (x : takens.Taken). taken_of x c.args.kept c.args.input.now) e) in
    λ words lines. led (heard_as _ c.in-Ended.is) (c.end_with.ensures words c.args.input.now lines)

pub returns-in-Failed : goal.returns-in-Failed
unfolding taken_of next
returns-in-Failed c =
    let heard_as : (form : takens.Taken) → c.word-taken.result ≡ form
    → stepped machine naming (answer_of c.args.answer c.args.kept c.args.input.now) ≡ next naming (taken_of form c.args.kept c.args.input.now) = unfold ask heard in λ form e. stepped_by machine naming _ _
    (c.word-taken.ensures.0 c.args.kept c.args.input.now (omega (arith, c.requires.0, c.requires.1)) ∙ ap (λ (x : takens.Taken). taken_of x c.args.kept c.args.input.now) e) in
    λ words lines. led (heard_as _ c.in-Failed.is) (c.end_with-in-Failed.ensures words c.args.input.now lines)
