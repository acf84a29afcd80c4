-- `library_replay::block::takes_next` meets its contract. Test by test. Assumes nothing.
use Rattle.std.specs.Prelude.{◌+◌}
use Rattle.laws.specs.Basics.{arith, rules, lt-ltb, le-ltb, le-leb, lt-leb, not-true, not-false}
use Rattle.library_replay.specs.Taken.{may_take, takes_next_of}
use Rattle.library_replay.proofs.block.takes_next.Goals as goal

pub returns-then-not-going : goal.returns-then-not-going
unfolding takes_next_of
returns-then-not-going c =
    let a = c.args in rw (c.if-not-going.true)

pub returns-then-done-ge-MOST_RECORDS : goal.returns-then-done-ge-MOST_RECORDS
unfolding takes_next_of may_take
returns-then-done-ge-MOST_RECORDS c =
    let a = c.args in rw (c.if-not-going.false, le-ltb (a.done + a.taken) 1000000000 (omega (arith, c.if-done-ge-MOST_RECORDS.true)))

pub returns-then-done-taken : goal.returns-then-done-taken
unfolding takes_next_of may_take
returns-then-done-taken c =
    let a = c.args in rw (c.if-not-going.false, le-ltb (a.done + a.taken) 1000000000 (omega (arith, c.if-done-ge-MOST_RECORDS.false, c.if-done-taken.true)))

pub returns-then-room-lt-LONGEST_LINE : goal.returns-then-room-lt-LONGEST_LINE
unfolding takes_next_of may_take
returns-then-room-lt-LONGEST_LINE c =
    let a = c.args in rw (
      c.if-not-going.false,
      lt-ltb (a.done + a.taken) 1000000000 (omega (arith, c.if-done-ge-MOST_RECORDS.false, c.if-done-taken.false)),
      lt-leb 3102 a.room c.if-room-lt-LONGEST_LINE.true,
    )

pub returns : goal.returns
unfolding takes_next_of may_take
returns c =
    let a = c.args in rw (
      c.if-not-going.false,
      lt-ltb (a.done + a.taken) 1000000000 (omega (arith, c.if-done-ge-MOST_RECORDS.false, c.if-done-taken.false)),
      le-leb 3102 a.room c.if-room-lt-LONGEST_LINE.false,
    ) c.is_left.ensures
