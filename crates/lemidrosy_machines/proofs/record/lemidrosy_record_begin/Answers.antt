-- `lemidrosy_record_begin` meets its contract.
-- Assumes nothing.
use Rattle.laws.specs.Basics.{refl, sym, ◌∙◌, ap, not, rules, not-false}
use Rattle.machines.proofs.Calling.{lacking, no_request, posed}
use Rattle.lemidrosy_machines.proofs.record.lemidrosy_record_begin.Goals as goal

pub returns-then-not-has_room : goal.returns-then-not-has_room
returns-then-not-has_room c =
    lacking _ _ _ _ (ap not (sym c.has_room.ensures) ∙ (ap not c.if-not-has_room.true)) refl

pub returns-then-request-lt-REQUEST : goal.returns-then-request-lt-REQUEST
returns-then-request-lt-REQUEST c =
    no_request _ _ _ _ (ap not (sym c.has_room.ensures) ∙ (ap not c.if-not-has_room.false)) c.if-request-lt-REQUEST.true refl

pub begin-asked-requires : goal.begin-asked-requires
begin-asked-requires c =
    sym c.has_room.ensures ∙ c.if-not-has_room.false

pub returns : goal.returns
returns c =
    posed _ _ _ _ (ap not (sym c.has_room.ensures) ∙ (ap not c.if-not-has_room.false)) c.if-request-lt-REQUEST.false _ _ c.begin-asked.ensures c.pack.ensures
