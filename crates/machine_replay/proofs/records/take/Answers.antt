-- `machine_replay::records::take` meets its contract.
-- Assumes nothing.
use Rattle.std.specs.Prelude.{◌≡◌, ◌+◌, ◌-◌}
use Rattle.laws.specs.Basics.{refl, List, ℕ, arith, rules, not-true, not-false}
use Rattle.library_replay.specs.declared.block.Progress.{Progress}
use Rattle.machine_replay.specs.declared.place.Place.{Place}
use Rattle.machine_replay.proofs.Blocks.{Replayed, waits, stops_refused, stops_last, prints, few_then, inside_block}
use Rattle.machine_replay.proofs.records.take.Goals as goal

pub returns-then-taken-eq0 : goal.returns-then-taken-eq0
returns-then-taken-eq0 c =
    let replayed : Replayed c.args.p c.args.words.now c.args.input.now c.args.out.now c.replay-made.result c.replay-made.new.words c.replay-made.new.out = record {
      lies = c.requires.0;
      blocked = let same : c.args.p.from + c.args.p.buffered - c.args.p.from ≡ c.args.p.buffered = omega arith in rw same at c.replay-made.ensures;
      same_words = c.replay-made.auto.words;
      same_out = c.replay-made.auto.out;
    } in
    let waited = c.wait in rw waited.ensures.0 (waits replayed c.if-taken-eq0.true _ waited.ensures.1 waited.auto.input)

pub returns-then-not-made : goal.returns-then-not-made
returns-then-not-made c =
    let replayed : Replayed c.args.p c.args.words.now c.args.input.now c.args.out.now c.replay-made.result c.replay-made.new.words c.replay-made.new.out = record {
      lies = c.requires.0;
      blocked = let same : c.args.p.from + c.args.p.buffered - c.args.p.from ≡ c.args.p.buffered = omega arith in rw same at c.replay-made.ensures;
      same_words = c.replay-made.auto.words;
      same_out = c.replay-made.auto.out;
    } in
    rw c.with_text.ensures (stops_refused replayed c.if-taken-eq0.false (not-true c.replay-made.result.going c.if-not-made.true))

pub overflow_add-count : goal.overflow_add-count
overflow_add-count c =
    let replayed : Replayed c.args.p c.args.words.now c.args.input.now c.args.out.now c.replay-made.result c.replay-made.new.words c.replay-made.new.out = record {
      lies = c.requires.0;
      blocked = let same : c.args.p.from + c.args.p.buffered - c.args.p.from ≡ c.args.p.buffered = omega arith in rw same at c.replay-made.ensures;
      same_words = c.replay-made.auto.words;
      same_out = c.replay-made.auto.out;
    } in
    let few = few_then replayed in search rules

pub returns-then-count-ge-MOST_RECORDS : goal.returns-then-count-ge-MOST_RECORDS
returns-then-count-ge-MOST_RECORDS c =
    let replayed : Replayed c.args.p c.args.words.now c.args.input.now c.args.out.now c.replay-made.result c.replay-made.new.words c.replay-made.new.out = record {
      lies = c.requires.0;
      blocked = let same : c.args.p.from + c.args.p.buffered - c.args.p.from ≡ c.args.p.buffered = omega arith in rw same at c.replay-made.ensures;
      same_words = c.replay-made.auto.words;
      same_out = c.replay-made.auto.out;
    } in
    rw c.with_text-then-count-ge-MOST_RECORDS.ensures (stops_last replayed c.if-taken-eq0.false c.if-count-ge-MOST_RECORDS.true)

pub overflow_sub-result : goal.overflow_sub-result
overflow_sub-result c =
    let replayed : Replayed c.args.p c.args.words.now c.args.input.now c.args.out.now c.replay-made.result c.replay-made.new.words c.replay-made.new.out = record {
      lies = c.requires.0;
      blocked = let same : c.args.p.from + c.args.p.buffered - c.args.p.from ≡ c.args.p.buffered = omega arith in rw same at c.replay-made.ensures;
      same_words = c.replay-made.auto.words;
      same_out = c.replay-made.auto.out;
    } in
    let fits = inside_block replayed in search rules

pub returns : goal.returns
returns c =
    let replayed : Replayed c.args.p c.args.words.now c.args.input.now c.args.out.now c.replay-made.result c.replay-made.new.words c.replay-made.new.out = record {
      lies = c.requires.0;
      blocked = let same : c.args.p.from + c.args.p.buffered - c.args.p.from ≡ c.args.p.buffered = omega arith in rw same at c.replay-made.ensures;
      same_words = c.replay-made.auto.words;
      same_out = c.replay-made.auto.out;
    } in
    prints replayed c.if-taken-eq0.false _ refl refl refl refl refl refl (not-false c.replay-made.result.going c.if-not-made.false) c.if-count-ge-MOST_RECORDS.false
