-- `machine_judge::text::write_verdict` meets its contract, by the verdict.
-- Assumes nothing.
use Rattle.std.specs.Prelude.{◌≡◌}
use Rattle.laws.specs.Basics.{None, Some}
use Rattle.machine_judge.proofs.{Lengths.small_pair, Lengths.printed_refused, Lengths.printed_trackable}
use Rattle.machine_judge.proofs.text.write_verdict.Goals as goal

pub write_breaks-requires : goal.write_breaks-requires
write_breaks-requires c =
    let q = c.in-Ok-Some in let e : q.field-0 ≡ Some q.w = rw q.is at q.field-0-is in let s = small_pair _ q.w (rw e at q.is) c.requires.1 in (c.requires.0, s.0, s.1)

pub returns-in-Err : goal.returns-in-Err
returns-in-Err c =
    rw c.in-Err.is (printed_refused _ c.write_refused.ensures.0)

pub returns-in-Ok-None : goal.returns-in-Ok-None
returns-in-Ok-None c =
    let q = c.in-Ok-None in let e : q.field-0 ≡ None = rw q.is at q.field-0-is in rw (q.is, e) (printed_trackable c.write_word.ensures)
