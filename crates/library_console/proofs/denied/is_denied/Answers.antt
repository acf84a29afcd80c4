-- `library_console::denied::is_denied` meets its contract: it is no role, or the table says no.
-- Assumes nothing.
use Rattle.laws.specs.Basics.{refl, sym, ap, not, rules}
use Rattle.theory_roles.specs.Console.{denied}
use Rattle.library_console.specs.Asked.{denied_as}
use Rattle.library_console.proofs.denied.is_denied.Goals as goal

pub returns-in-None : goal.returns-in-None
unfolding denied_as
returns-in-None c =
    λ owned. rw (sym c.claim_of-claim.ensures, c.in-None.is) refl

pub returns-in-Some : goal.returns-in-Some
unfolding denied_as denied
returns-in-Some c =
    λ owned. rw (sym c.claim_of-claim.ensures, c.in-Some.is) (ap not c.may.ensures)
