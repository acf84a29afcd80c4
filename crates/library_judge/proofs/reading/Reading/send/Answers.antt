-- `library_judge::reading::Reading::send` meets its contract. A send that is accepted has its sender and its receiver among the processes.
-- Assumes nothing.
use Rattle.laws.specs.Basics.{sym, arith}
use Rattle.admissions.proofs.Cases.{accepted_send}
use Rattle.library_judge.proofs.reading.Reading.send.Goals as goal

pub offset_bounds-self-i : goal.offset_bounds-self-i
offset_bounds-self-i c =
    let w = accepted_send _ _ _ _ _ (sym c.in_ok-send_admission.ensures) in omega (arith, w.0, c.requires.few)

pub bounds-self-i : goal.bounds-self-i
bounds-self-i c =
    let w = accepted_send _ _ _ _ _ (sym c.in_ok-send_admission.ensures) in omega (arith, w.0, c.requires.few)

pub bounds-self-from : goal.bounds-self-from
bounds-self-from c =
    let w = accepted_send _ _ _ _ _ (sym c.in_ok-send_admission.ensures) in omega (arith, c.requires.current c.args.i w.0, c.from.ensures)

pub overflow_cast-self : goal.overflow_cast-self
overflow_cast-self c =
    let w = accepted_send _ _ _ _ _ (sym c.in_ok-send_admission.ensures) in omega (arith, w.1, c.requires.few)
