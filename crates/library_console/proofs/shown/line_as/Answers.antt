-- `library_console::shown::line_as` meets its contract: the table says no, or the caller's members are written.
-- Assumes nothing.
use Rattle.laws.specs.Basics.{ap, not, rules}
use Rattle.words.specs.Layout.{run_of}
use Rattle.library_console.proofs.{Showing.line_denied, Showing.line_made}
use Rattle.library_console.proofs.shown.line_as.Goals as goal

pub returns-then-not-allowed : goal.returns-then-not-allowed
returns-then-not-allowed c =
    let a = c.args in let z = line_denied (record { role = a.role; owned = a.owned }) (run_of a.w.now) a.failed a.line.now c.may-allowed.ensures (ap not c.if-not-allowed.true) in record { value = z.0; line_after = z.1 }

pub returns : goal.returns
returns c =
    let a = c.args in let g = c.seen_line.ensures in let z = line_made (record { role = a.role; owned = a.owned }) (run_of a.w.now) a.failed a.line.now c.may-allowed.ensures (ap not c.if-not-allowed.false) g.value g.line_after in record { value = z.0; line_after = z.1 }
