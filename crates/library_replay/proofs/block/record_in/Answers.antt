-- `library_replay::block::record_in` meets its contract. Assumes nothing.
use Rattle.std.specs.Prelude.{◌+◌, ◌*◌}
use Rattle.laws.specs.Basics.{sym, ◌∙◌, arith, length, rules, leb-true}
use Rattle.trace.specs.Answers.{record_at}
use Rattle.library_replay.specs.Taken.{is_left_of, record_in_of}
use Rattle.library_replay.proofs.block.record_in.Goals as goal

pub overflow_mul-taken : goal.overflow_mul-taken
unfolding is_left_of
overflow_mul-taken c =
    let a = c.args in omega (arith, leb-true (4 * a.taken + 4) (length a.block.now) (sym c.is_left.ensures ∙ c.if-is_left.true))

pub returns-then-is_left : goal.returns-then-is_left
unfolding record_in_of
returns-then-is_left c =
    c.record_part.ensures

pub returns-else-is_left : goal.returns-else-is_left
unfolding record_in_of record_at is_left_of
returns-else-is_left c =
    rw (sym c.is_left.ensures ∙ c.if-is_left.false)
