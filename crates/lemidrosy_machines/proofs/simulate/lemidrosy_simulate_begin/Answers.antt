-- `lemidrosy_simulate_begin` meets its contract.
-- Assumes nothing.
use Rattle.laws.specs.Basics.{refl, sym, ◌∙◌, rules}
use Rattle.machines.proofs.Calling.{lacking, no_request, posed}
use Rattle.machine_simulate.proofs.Standing.{room_by}
use Rattle.lemidrosy_machines.proofs.simulate.lemidrosy_simulate_begin.Goals as goal

pub returns-then-lacks_room : goal.returns-then-lacks_room
returns-then-lacks_room c =
    lacking _ _ _ _ (sym c.lacks_room.ensures ∙ c.if-lacks_room.true) refl

pub returns-then-request-lt-REQUEST : goal.returns-then-request-lt-REQUEST
returns-then-request-lt-REQUEST c =
    no_request _ _ _ _ (sym c.lacks_room.ensures ∙ c.if-lacks_room.false) c.if-request-lt-REQUEST.true refl

pub begin-asked-requires : goal.begin-asked-requires
begin-asked-requires c =
    room_by _ _ _ (sym c.lacks_room.ensures ∙ c.if-lacks_room.false)

pub returns : goal.returns
returns c =
    posed _ _ _ _ (sym c.lacks_room.ensures ∙ c.if-lacks_room.false) c.if-request-lt-REQUEST.false _ _ c.begin-asked.ensures c.pack.ensures
