-- `bench_by_value::takes_next` meets its contract. Assumes nothing.
use Rattle.laws.specs.Basics.{lt-ltb, le-ltb}
use Rattle.whole_runs.specs.Listing.{most_records}
use Rattle.bench_by_value.proofs.takes_next.Goals as goal

pub returns-then-taken-ge-MOST_RECORDS : goal.returns-then-taken-ge-MOST_RECORDS
returns-then-taken-ge-MOST_RECORDS c =
    rw (le-ltb _ most_records c.if-taken-ge-MOST_RECORDS.true)

pub returns : goal.returns
returns c =
    rw (lt-ltb _ most_records c.if-taken-ge-MOST_RECORDS.false) c.record_left.ensures
