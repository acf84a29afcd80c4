-- `library_console::receivers::receiver_of` meets its contract, by whether the words fit.
-- Assumes nothing.
use Rattle.laws.specs.Basics.{sym, ◌∙◌, ap, rules, not-true, not-false}
use Rattle.library_console.specs.Receivers.{receiver_is}
use Rattle.library_console.proofs.{Receiving.found_in, Receiving.found_nothing}
use Rattle.library_console.proofs.receivers.receiver_of.Goals as goal

pub returns-then-not-fit : goal.returns-then-not-fit
unfolding receiver_is
returns-then-not-fit c =
    let a = c.args in rw (found_nothing a.w.now a.m (sym c.is_fit-fit.ensures ∙ c.if-not-fit.true))

pub receiver_in-requires : goal.receiver_in-requires
receiver_in-requires c =
    sym c.is_fit-fit.ensures ∙ c.if-not-fit.false

pub returns : goal.returns
returns c =
    let a = c.args in c.receiver_in.ensures ∙ ap receiver_is (sym (found_in a.w.now a.m (sym c.is_fit-fit.ensures ∙ c.if-not-fit.false)))
