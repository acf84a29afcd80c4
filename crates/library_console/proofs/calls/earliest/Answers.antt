-- `library_console::calls::earliest` meets its contract: it is denied, or it is the call in place.
-- Assumes nothing.
use Rattle.laws.specs.Basics.{refl, rules}
use Rattle.words.specs.Layout.{run_of}
use Rattle.words_line.specs.Through.{named_in}
use Rattle.library_console.proofs.{Asking.earliest_by}
use Rattle.library_console.proofs.calls.earliest.Goals as goal

pub returns-then-denied : goal.returns-then-denied
returns-then-denied c =
    let a = c.args in rw (earliest_by a.role a.owned (run_of a.w.now) (named_in a.named.now) a.line.now (c.is_denied-denied.ensures a.owned), c.if-denied.true) (record { w_value = refl; value = refl; line_after = refl })

pub returns : goal.returns
returns c =
    let a = c.args in let g = c.earliest.ensures in rw (earliest_by a.role a.owned (run_of a.w.now) (named_in a.named.now) a.line.now (c.is_denied-denied.ensures a.owned), c.if-denied.false) (record { w_value = g.w_value; value = g.value; line_after = g.line_after })
