-- `recorder::bytes::has_room` meets its contract.
-- Assumes nothing.
use Rattle.std.specs.Prelude.{◌≡◌, ◌-◌, ◌<◌}
use Rattle.laws.specs.Basics.{false, not, ℕ, arith, ltb, leb, lt-ltb, le-ltb, leb-true, leb-false, by_bool}
use Rattle.library_recorder.proofs.record.has_room.Goals as goal

-- No byte is left after a place past the end.
past : (size place : ℕ) → size < place → false ≡ not (ltb (size - place) 4)
past size place h = rw (lt-ltb (size - place) 4 (omega arith))

left : (k : ℕ) → leb 4 k ≡ not (ltb k 4)
left k = by_bool (leb 4 k)
    (λ e. rw (e, le-ltb k 4 (leb-true 4 k e)))
    (λ e. rw (e, lt-ltb k 4 (leb-false 4 k e)))

pub returns-then-size-place : goal.returns-then-size-place
returns-then-size-place c =
    let a = c.args in past a.size a.place c.if-size-place.true

pub returns : goal.returns
returns c =
    let a = c.args in left (a.size - a.place)
