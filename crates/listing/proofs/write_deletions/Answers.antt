-- `listing::write_deletions` meets its contract: one deletion more is printed in each iteration.
-- Assumes nothing.
use Rattle.std.specs.Prelude.{◌+◌, ◌*◌}
use Rattle.laws.specs.Basics.{arith, get_or}
use native.Mathlib.Numerals.{add-one}
use Rattle.whole_runs.specs.Listing.{deletions_text}
use Rattle.listing.specs.{Lines.pair_text}
use Rattle.listing.proofs.{Texts.then, Texts.nothing, Texts.room_rest, Texts.one_more, Texts.room_for_one_more}
use Rattle.listing.proofs.write_deletions.Goals as goal

pub loop-k-init : goal.loop-k-init
unfolding deletions_text
loop-k-init c =
    nothing c.args.out.now c.args.at

pub write_pair-place-requires : goal.write_pair-place-requires
write_pair-place-requires c =
    let l = c.loop-k in let d = c.args.deleted.now in
    room_rest (pair_text (get_or d (2 * l.k) 0) (get_or d (2 * l.k + 1) 0)) l.invariant
    (room_for_one_more c.args.out.now c.args.at l.k c.args.count d c.loop-k-test.true c.requires.0 c.requires.1)

pub loop-k-preserved : goal.loop-k-preserved
loop-k-preserved c =
    let l = c.loop-k in rw (add-one, one_more l.k c.args.deleted.now (omega arith)) (then l.invariant c.write_pair-place.ensures)
