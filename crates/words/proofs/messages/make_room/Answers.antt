-- `words::messages::make_room` meets its contract. Assumes nothing.
use Rattle.std.specs.Prelude.{◌≡◌}
use Rattle.laws.specs.Basics.{refl, ◌∙◌, rules, eq-eqb, ne_eqb}
use Rattle.words.specs.{messages.Places.with_room}
use Rattle.words.proofs.messages.make_room.Goals as goal

pub shape_of-w : goal.shape_of-w
unfolding with_room
shape_of-w c =
    c.close_up.auto.w

pub returns-then-w-eq-LAST_PLACE : goal.returns-then-w-eq-LAST_PLACE
unfolding with_room
returns-then-w-eq-LAST_PLACE c =
    rw (eq-eqb _ 64 c.if-w-eq-LAST_PLACE.true) c.close_up.ensures

pub returns-else-w-eq-LAST_PLACE : goal.returns-else-w-eq-LAST_PLACE
unfolding with_room
returns-else-w-eq-LAST_PLACE c =
    rw (ne_eqb _ 64 c.if-w-eq-LAST_PLACE.false) refl
