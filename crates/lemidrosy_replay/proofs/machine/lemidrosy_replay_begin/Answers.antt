-- `lemidrosy_replay_begin` meets its contract.
-- Assumes nothing.
use Rattle.laws.specs.Basics.{ap, not, refl, sym, ◌∙◌, rules, not-false}
use Rattle.machines.proofs.Calling.{lacking, no_request, posed}
use Rattle.lemidrosy_replay.proofs.{Rooms.few_numbers, Rooms.other_room}
use Rattle.lemidrosy_replay.proofs.machine.lemidrosy_replay_begin.Goals as goal

pub returns-then-memory-lt-NUMBERS : goal.returns-then-memory-lt-NUMBERS
returns-then-memory-lt-NUMBERS c =
    lacking _ _ _ _ (few_numbers _ _ c.if-memory-lt-NUMBERS.true) refl

pub returns-then-not-is_room_enough : goal.returns-then-not-is_room_enough
returns-then-not-is_room_enough c =
    lacking _ _ _ _ (other_room _ _ c.if-memory-lt-NUMBERS.false _ _ c.is_room_enough.ensures (ap not c.if-not-is_room_enough.true)) refl

pub returns-then-request-lt-REQUEST : goal.returns-then-request-lt-REQUEST
returns-then-request-lt-REQUEST c =
    no_request _ _ _ _ (other_room _ _ c.if-memory-lt-NUMBERS.false _ _ c.is_room_enough.ensures (ap not c.if-not-is_room_enough.false)) c.if-request-lt-REQUEST.true refl

pub begin-asked-requires : goal.begin-asked-requires
begin-asked-requires c =
    (c.if-memory-lt-NUMBERS.false, sym c.is_room_enough.ensures ∙ c.if-not-is_room_enough.false)

pub returns : goal.returns
returns c =
    let begin = c.begin-asked in posed _ _ _ _ (other_room _ _ c.if-memory-lt-NUMBERS.false _ _ c.is_room_enough.ensures (ap not c.if-not-is_room_enough.false)) c.if-request-lt-REQUEST.false _ _
    (record { state = begin.ensures.out_after; asked = begin.ensures.asks }) c.pack.ensures
