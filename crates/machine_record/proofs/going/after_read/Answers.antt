-- `machine_record::going::after_read` meets its contract. Assumes nothing.
use Rattle.std.specs.Prelude.{◌≡◌}
use Rattle.laws.specs.Basics.{sym, ◌∙◌, ap, arith, rules}
use lib.Seq.{take-add}
use Rattle.machines.specs.{Machines.stepped, Forms.answer_of, Forms.taken_of, Forms.Between}
use Rattle.machine_record.specs.{Machine.reading, Machine.machine, Machine.next, Machine.block_taken, Lent.position_of}
use Rattle.machine_record.proofs.{Leading.led, Leading.heard_read_lem}
use Rattle.machines.specs.declared.heard.Taken as takens
use Rattle.machine_record.proofs.going.after_read.Goals as goal

pub most_to_read-most-requires : goal.most_to_read-most-requires
most_to_read-most-requires c =
    let p = c.requires in (p.1, p.2)

pub take_block-requires : goal.take_block-requires
unfolding Between
take_block-requires c =
    let p = c.requires in let b = rw c.in-Brought.is at c.read-taken.ensures.1 in (p.0, p.1, p.2, omega (arith, b.0, b.1, c.most_to_read-most.ensures), p.3, p.4, p.5)

pub to_end-requires : goal.to_end-requires
to_end-requires c =
    let p = c.requires in (p.1, p.2, p.4)

pub fail-requires : goal.fail-requires
fail-requires c =
    omega (arith, c.requires.4)

pub returns-in-Brought : goal.returns-in-Brought
unfolding taken_of next
returns-in-Brought c =
    let heard_as : (form : takens.Taken) → c.read-taken.result ≡ form
    → let m = c.args.m in let input = c.args.input.now in let p = position_of m c.args.words.now input in stepped machine (reading p) (answer_of c.args.answer m.kept input) ≡ next (reading p) (taken_of form m.kept input) = λ form e. let m = c.args.m in let input = c.args.input.now in let most = c.most_to_read-most.ensures in heard_read_lem m c.args.words.now input c.args.answer form _ most (omega (arith, c.requires.2, c.requires.3))
    (c.read-taken.ensures.0 m.kept input (omega (arith, most, c.requires.2, c.requires.3)) ∙ ap (λ (x : takens.Taken). taken_of x m.kept input) e) in
    let m = c.args.m in let words = c.args.words.now in let input = c.args.input.now in let size = c.in-Brought.size in led (heard_as _ c.in-Brought.is ∙ ap (block_taken (position_of m words input).standing) (sym (take-add m.kept size input))) c.take_block.ensures

pub returns-in-Ended : goal.returns-in-Ended
unfolding taken_of next
returns-in-Ended c =
    let heard_as : (form : takens.Taken) → c.read-taken.result ≡ form
    → let m = c.args.m in let input = c.args.input.now in let p = position_of m c.args.words.now input in stepped machine (reading p) (answer_of c.args.answer m.kept input) ≡ next (reading p) (taken_of form m.kept input) = λ form e. let m = c.args.m in let input = c.args.input.now in let most = c.most_to_read-most.ensures in heard_read_lem m c.args.words.now input c.args.answer form _ most (omega (arith, c.requires.2, c.requires.3))
    (c.read-taken.ensures.0 m.kept input (omega (arith, most, c.requires.2, c.requires.3)) ∙ ap (λ (x : takens.Taken). taken_of x m.kept input) e) in
    led (heard_as _ c.in-Ended.is) (c.to_end.ensures _ c.args.input.now _ (omega (arith, c.requires.2, c.requires.3)))

pub returns-in-Failed : goal.returns-in-Failed
unfolding taken_of next
returns-in-Failed c =
    let heard_as : (form : takens.Taken) → c.read-taken.result ≡ form
    → let m = c.args.m in let input = c.args.input.now in let p = position_of m c.args.words.now input in stepped machine (reading p) (answer_of c.args.answer m.kept input) ≡ next (reading p) (taken_of form m.kept input) = λ form e. let m = c.args.m in let input = c.args.input.now in let most = c.most_to_read-most.ensures in heard_read_lem m c.args.words.now input c.args.answer form _ most (omega (arith, c.requires.2, c.requires.3))
    (c.read-taken.ensures.0 m.kept input (omega (arith, most, c.requires.2, c.requires.3)) ∙ ap (λ (x : takens.Taken). taken_of x m.kept input) e) in
    led (heard_as _ c.in-Failed.is) (c.fail.ensures _ c.args.input.now _)
