-- `machine_simulate::next_row` meets its contract.
-- Assumes nothing.
use Rattle.laws.specs.Basics.{sym, ◌∙◌, ap, List, ℕ, arith, rules}
use Rattle.machines.proofs.{Driving.stands_as, programs.Texts.front_text}
use Rattle.machine_simulate.specs.{Text.row_text, Simulating.Tabling, Simulating.without_first, Simulating.simulating}
use Rattle.machine_simulate.proofs.{Stepping.row_none, Stepping.row_next}
use Rattle.machine_simulate.proofs.next_row.Goals as goal

pub returns-then-spacings : goal.returns-then-spacings
returns-then-spacings c =
    stands_as simulating (row_none c.args.k c.if-spacings.true) (c.stop.ensures _ _)

pub returns : goal.returns
unfolding without_first
returns c =
    let trial = c.trial-result in let row = c.write_row-size in let front = front_text c.args.out.now _ row.new.out row.result row.ensures.0 (omega (arith, row.ensures.1, c.requires.0.2)) in stands_as simulating
    (row_next c.args.k c.if-spacings.false ∙ ap (λ (x : List ℕ). Tabling x (without_first c.args.k)) (sym (front ∙ ap (row_text _) trial.ensures)))
    c.tabulate.ensures
