-- `machine_simulate::table` meets its contract.
-- Assumes nothing.
use Rattle.laws.specs.Basics.{sym, ◌∙◌, ap, List, ℕ, arith, rules}
use Rattle.machines.proofs.{Driving.stands_as, programs.Texts.front_text}
use Rattle.machine_simulate.specs.{Text.head_line, Simulating.Printing, Simulating.Tabling, Simulating.simulating}
use Rattle.machine_simulate.proofs.{Numbers.in_table, Stepping.tabled_refused, Stepping.tabled_begins}
use Rattle.machine_simulate.proofs.table.Goals as goal

pub returns-then-is_refused : goal.returns-then-is_refused
returns-then-is_refused c =
    let refused = c.is_refused in let line = c.write_refused-refused in let front = front_text c.args.out.now _ line.new.out line.result line.ensures.0 (omega (arith, line.ensures.1, c.requires.2)) in stands_as simulating
    (tabled_refused c.args.k (sym refused.ensures ∙ c.if-is_refused.true) ∙ ap Printing (sym front))
    c.print_last.ensures

pub tabulate-requires : goal.tabulate-requires
tabulate-requires c =
    let word = c.write_word-size in let fine = sym c.is_refused.ensures ∙ c.if-is_refused.false in let k = c.args.k in (
      (c.requires.0, c.requires.1, omega (arith, word.auto.out, c.requires.2)),
      omega (arith, word.ensures.next_place),
      (in_table k.n k.spacings.from k.spacings.to k.steps fine).1,
    )

pub returns : goal.returns
returns c =
    let refused = c.is_refused in let word = c.write_word-size in let front = front_text c.args.out.now head_line word.new.out word.result word.ensures (omega (arith, word.ensures.next_place, c.requires.2)) in stands_as simulating
    (tabled_begins c.args.k (sym refused.ensures ∙ c.if-is_refused.false) ∙ ap (λ (x : List ℕ). Tabling x c.args.k) (sym front))
    c.tabulate.ensures
