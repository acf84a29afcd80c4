-- `library_console::shown::line` meets its contract, by whether the number is a role's.
-- Assumes nothing.
use Rattle.laws.specs.Basics.{rules}
use Rattle.words.specs.Layout.{run_of}
use Rattle.library_console.proofs.{Showing.line_unknown, Showing.line_known}
use Rattle.library_console.proofs.shown.line.Goals as goal

pub returns-in-None : goal.returns-in-None
returns-in-None c =
    let a = c.args in let z = line_unknown a.role a.owned (run_of a.w.now) a.failed a.line.now c.claim_of-claim.ensures c.in-None.is in record { w_value = z.0; value = z.1.0; line_after = z.1.1 }

pub returns-in-Some : goal.returns-in-Some
returns-in-Some c =
    let a = c.args in let g = c.line_as.ensures in let z = line_known a.role a.owned (run_of a.w.now) a.failed a.line.now c.claim_of-claim.ensures _ c.in-Some.is g.value g.line_after in record { w_value = z.0; value = z.1.0; line_after = z.1.1 }
