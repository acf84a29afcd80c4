-- `machine_record::block::take_one` meets its contract. Assumes nothing.
use Rattle.laws.specs.Basics.{arith, rules}
use Rattle.trace.specs.Answers.{event_in}
use Rattle.words.specs.Layout.{run_of}
use Rattle.machine_record.proofs.{Taking.PlayedAt, Taking.not_back, Taking.at_most_four, Taking.enough_left, Taking.one_taken}
use Rattle.machine_record.proofs.block.take_one.Goals as goal

pub overflow_sub-more : goal.overflow_sub-more
overflow_sub-more c =
    let played : PlayedAt (run_of c.args.w.now) c.args.t (event_in c.args.part.now) c.args.out.now (run_of c.play-played.new.w) c.play-played.new.buffer c.play-played.result c.place_for-place.result = record { room = c.requires.0; there = c.place_for-place.ensures; plays = c.play-played.ensures } in
    omega (arith, not_back played)

pub overflow_sub-result : goal.overflow_sub-result
overflow_sub-result c =
    let played : PlayedAt (run_of c.args.w.now) c.args.t (event_in c.args.part.now) c.args.out.now (run_of c.play-played.new.w) c.play-played.new.buffer c.play-played.result c.place_for-place.result = record { room = c.requires.0; there = c.place_for-place.ensures; plays = c.play-played.ensures } in
    omega (arith, enough_left played)

pub overflow_add-result : goal.overflow_add-result
overflow_add-result c =
    let played : PlayedAt (run_of c.args.w.now) c.args.t (event_in c.args.part.now) c.args.out.now (run_of c.play-played.new.w) c.play-played.new.buffer c.play-played.result c.place_for-place.result = record { room = c.requires.0; there = c.place_for-place.ensures; plays = c.play-played.ensures } in
    let few = at_most_four played in let most = c.requires.3 in search rules

pub returns : goal.returns
returns c =
    let played : PlayedAt (run_of c.args.w.now) c.args.t (event_in c.args.part.now) c.args.out.now (run_of c.play-played.new.w) c.play-played.new.buffer c.play-played.result c.place_for-place.result = record { room = c.requires.0; there = c.place_for-place.ensures; plays = c.play-played.ensures } in
    let line = c.write_line-pending.ensures in one_taken played _ _ _ line.0 line.1
