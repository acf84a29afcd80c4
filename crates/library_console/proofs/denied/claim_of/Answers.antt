-- `library_console::denied::claim_of` meets its contract, number by number.
-- Assumes nothing.
use Rattle.laws.specs.Basics.{refl, eq-eqb, ne_eqb}
use Rattle.library_console.specs.Asked.{claim_of}
use Rattle.library_console.proofs.denied.claim_of.Goals as goal

pub returns-then-role-eq-OPERATOR : goal.returns-then-role-eq-OPERATOR
unfolding claim_of
returns-then-role-eq-OPERATOR c =
    rw (eq-eqb _ _ c.if-role-eq-OPERATOR.true) refl

pub returns-then-role-eq-JOB_OWNER : goal.returns-then-role-eq-JOB_OWNER
unfolding claim_of
returns-then-role-eq-JOB_OWNER c =
    rw (ne_eqb _ _ c.if-role-eq-OPERATOR.false, eq-eqb _ _ c.if-role-eq-JOB_OWNER.true) refl

pub returns-then-role-eq-VIEWER : goal.returns-then-role-eq-VIEWER
unfolding claim_of
returns-then-role-eq-VIEWER c =
    rw (ne_eqb _ _ c.if-role-eq-OPERATOR.false, ne_eqb _ _ c.if-role-eq-JOB_OWNER.false, eq-eqb _ _ c.if-role-eq-VIEWER.true) refl

pub returns : goal.returns
unfolding claim_of
returns c =
    rw (ne_eqb _ _ c.if-role-eq-OPERATOR.false, ne_eqb _ _ c.if-role-eq-JOB_OWNER.false, ne_eqb _ _ c.if-role-eq-VIEWER.false) refl
