-- `listing::output::ends::end` meets its contract: nothing is left over, one to three bytes are, or the last record was taken before.
-- Assumes nothing.
use Rattle.std.specs.Prelude.{◌≤◌}
use Rattle.laws.specs.Basics.{arith, length, rules}
use Rattle.listing.proofs.{output.Endings.left_over, output.Endings.none_left, output.Endings.past_left}
use Rattle.listing.proofs.output.ends.end.Goals as goal

pub returns-then-rest-eq0 : goal.returns-then-rest-eq0
returns-then-rest-eq0 c =
    (λ all s. none_left all c.args.done s c.args.rest.now c.args.out.now c.if-rest-eq0.true, omega arith)

pub returns-then-done-lt-MOST_RECORDS : goal.returns-then-done-lt-MOST_RECORDS
returns-then-done-lt-MOST_RECORDS c =
    let called = c.refuse in let some_left : 1 ≤ length c.args.rest.now = search rules in
    (λ all s. rw (left_over all c.args.done s c.args.rest.now some_left c.requires.0 c.if-done-lt-MOST_RECORDS.true) called.ensures.0, called.ensures.1)

pub returns : goal.returns
returns c =
    (λ all s. past_left all c.args.done s c.args.rest.now c.args.out.now c.if-done-lt-MOST_RECORDS.false, omega arith)
