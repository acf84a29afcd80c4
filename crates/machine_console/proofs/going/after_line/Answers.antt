-- `machine_console::going::after_line` meets its contract. Assumes nothing.
use Rattle.laws.specs.Basics.{◌∙◌, ap, Bool, pick, rules}
use Rattle.machines.specs.Machines.{Done, Failed, heard}
use Rattle.machines.proofs.Leading.{stepped_by}
use Rattle.machine_console.specs.Consoling.{ask, next, after_write_of, consoling}
use Rattle.machine_console.proofs.{Leading.led}
use Rattle.machine_console.proofs.going.after_line.Goals as goal

pub returns-then-is_done : goal.returns-then-is_done
unfolding ask heard next after_write_of
returns-then-is_done c =
    λ words input at. led (stepped_by consoling _ _ _ (c.is_done.ensures at input ∙ ap (λ (b : Bool). pick b Done Failed) c.if-is_done.true)) (c.to_read.ensures words input _)

pub returns : goal.returns
unfolding ask heard next after_write_of
returns c =
    λ words input at. led (stepped_by consoling _ _ _ (c.is_done.ensures at input ∙ ap (λ (b : Bool). pick b Done Failed) c.if-is_done.false)) (c.fail.ensures words input)
