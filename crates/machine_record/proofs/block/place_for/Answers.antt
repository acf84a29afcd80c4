-- `machine_record::block::place_for` meets its contract. Assumes nothing.
use Rattle.laws.specs.Basics.{refl, lt-ltb, le-ltb}
use Rattle.machine_record.specs.Played.{place_for_of}
use Rattle.machine_record.proofs.block.place_for.Goals as goal

pub returns-then-left-lt4 : goal.returns-then-left-lt4
unfolding place_for_of
returns-then-left-lt4 c =
    rw (lt-ltb c.args.left 4 c.if-left-lt4.true) refl

pub returns : goal.returns
unfolding place_for_of
returns c =
    rw (le-ltb c.args.left 4 c.if-left-lt4.false) refl
