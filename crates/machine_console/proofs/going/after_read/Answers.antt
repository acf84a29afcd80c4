-- `machine_console::going::after_read` meets its contract. Assumes nothing.
use Rattle.std.specs.Prelude.{◌≡◌}
use Rattle.laws.specs.Basics.{sym, ◌∙◌, ap, List, ℕ, arith, rules}
use lib.Seq.{take-add}
use Rattle.words.specs.Layout.{run_of}
use Rattle.machines.specs.{Machines.stepped, Forms.answer_of, Forms.taken_of, Forms.Between}
use Rattle.machine_console.specs.{Consoling.Reading, Consoling.onward, Consoling.after_read_of, Consoling.consoling, Lent.between_of}
use Rattle.machine_console.proofs.{Leading.led, Leading.heard_read_lem}
use Rattle.machines.specs.declared.heard.Taken as takens
use Rattle.machine_console.proofs.going.after_read.Goals as goal

pub overflow_add-m : goal.overflow_add-m
unfolding Between
overflow_add-m c =
    let b = rw c.in-Brought.is at c.read-taken.ensures.1 in omega (arith, b.1, c.requires.1)

pub go_on-requires : goal.go_on-requires
unfolding Between
go_on-requires c =
    let b = rw c.in-Brought.is at c.read-taken.ensures.1 in let p = c.requires in (p.0, omega (arith, b.1, p.1), p.2, p.3, p.4)

pub returns-in-Brought : goal.returns-in-Brought
unfolding taken_of after_read_of
returns-in-Brought c =
    let heard_as : (form : takens.Taken) → c.read-taken.result ≡ form
    → let m = c.args.m in let input = c.args.input.now in let b = between_of m c.args.words.now input in stepped consoling (Reading b) (answer_of c.args.answer m.kept input) ≡ after_read_of b (taken_of form m.kept input) = λ form e. let m = c.args.m in let input = c.args.input.now in heard_read_lem m c.args.words.now input c.args.answer form (omega (arith, c.requires.1, c.requires.3))
    (c.read-taken.ensures.0 m.kept input (omega (arith, c.requires.1, c.requires.3)) ∙ ap (λ (x : takens.Taken). taken_of x m.kept input) e) in
    let m = c.args.m in let words = c.args.words.now in let input = c.args.input.now in led (heard_as _ c.in-Brought.is ∙ ap (λ (l : List ℕ). onward (record { done = m.done; run = run_of words; buffered = l })) (sym (take-add m.kept c.in-Brought.size input))) c.go_on.ensures

pub returns-in-Ended : goal.returns-in-Ended
unfolding taken_of after_read_of
returns-in-Ended c =
    let heard_as : (form : takens.Taken) → c.read-taken.result ≡ form
    → let m = c.args.m in let input = c.args.input.now in let b = between_of m c.args.words.now input in stepped consoling (Reading b) (answer_of c.args.answer m.kept input) ≡ after_read_of b (taken_of form m.kept input) = λ form e. let m = c.args.m in let input = c.args.input.now in heard_read_lem m c.args.words.now input c.args.answer form (omega (arith, c.requires.1, c.requires.3))
    (c.read-taken.ensures.0 m.kept input (omega (arith, c.requires.1, c.requires.3)) ∙ ap (λ (x : takens.Taken). taken_of x m.kept input) e) in
    led (heard_as _ c.in-Ended.is) (c.to_end.ensures _ _ (omega (arith, c.requires.1, c.requires.3)))

pub returns-in-Failed : goal.returns-in-Failed
unfolding taken_of after_read_of
returns-in-Failed c =
    let heard_as : (form : takens.Taken) → c.read-taken.result ≡ form
    → let m = c.args.m in let input = c.args.input.now in let b = between_of m c.args.words.now input in stepped consoling (Reading b) (answer_of c.args.answer m.kept input) ≡ after_read_of b (taken_of form m.kept input) = λ form e. let m = c.args.m in let input = c.args.input.now in heard_read_lem m c.args.words.now input c.args.answer form (omega (arith, c.requires.1, c.requires.3))
    (c.read-taken.ensures.0 m.kept input (omega (arith, c.requires.1, c.requires.3)) ∙ ap (λ (x : takens.Taken). taken_of x m.kept input) e) in
    led (heard_as _ c.in-Failed.is) (c.fail.ensures _ _)
