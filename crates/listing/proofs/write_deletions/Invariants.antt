-- `listing::write_deletions` meets its contract. The loop's invariant: the first k deletions are printed.
-- Assumes nothing.
use Rattle.whole_runs.specs.Listing.{deletions_text}
use Rattle.listing.specs.{Printed.Printed}
use Rattle.listing.proofs.write_deletions.Given as goal

abbrev pub invariant-loop-k : goal.invariant-loop-k
invariant-loop-k l = Printed l.initial.out l.at (deletions_text l.k l.deleted) l.out l.place
