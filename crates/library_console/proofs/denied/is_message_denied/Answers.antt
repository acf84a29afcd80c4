-- `library_console::denied::is_message_denied` meets its contract: it is no role, the table says no, or the caller is not entitled.
-- Assumes nothing.
use Rattle.laws.specs.Basics.{refl, sym, rules}
use Rattle.theory_roles.specs.Console.{denied_message, entitled_message}
use Rattle.library_console.specs.Asked.{denied_as}
use Rattle.library_console.proofs.denied.is_message_denied.Goals as goal

pub returns-in-None : goal.returns-in-None
unfolding denied_as
returns-in-None c =
    rw (sym c.claim_of-claim.ensures, c.in-None.is) refl

pub returns-in-Some : goal.returns-in-Some
unfolding denied_as denied_message entitled_message
returns-in-Some c =
    rw (sym c.claim_of-claim.ensures, c.in-Some.is, c.is_message_entitled-entitled.ensures, c.may-allowed.ensures) refl
