-- `machine_record::going::after_write` meets its contract. Assumes nothing.
use Rattle.laws.specs.Basics.{◌∙◌, ap, Bool, arith, pick, rules}
use Rattle.machines.specs.Machines.{Done, Failed, heard}
use Rattle.machines.proofs.Leading.{stepped_by}
use Rattle.machine_record.specs.Machine.{machine, ask, next}
use Rattle.machine_record.proofs.{Leading.led}
use Rattle.machine_record.proofs.going.after_write.Goals as goal

pub to_report-requires : goal.to_report-requires
to_report-requires c =
    let p = c.requires in (p.0, p.1, p.2, omega (arith, p.3, p.4), omega (arith, p.3, p.5))

pub returns-then-is_done : goal.returns-then-is_done
unfolding ask heard next
returns-then-is_done c =
    λ words input at. led (stepped_by machine _ _ _ (c.is_done.ensures at input ∙ ap (λ (b : Bool). pick b Done Failed) c.if-is_done.true)) (c.to_report.ensures words input)

pub fail-requires : goal.fail-requires
fail-requires c =
    omega (arith, c.requires.5)

pub returns : goal.returns
unfolding ask heard next
returns c =
    λ words input at. led (stepped_by machine _ _ _ (c.is_done.ensures at input ∙ ap (λ (b : Bool). pick b Done Failed) c.if-is_done.false)) (c.fail.ensures words input _)
