-- `machine_replay::place::is_inside` meets its contract.
-- Assumes nothing.
use Rattle.std.specs.Prelude.{◌≡◌, ◌&&◌, ◌-◌}
use Rattle.laws.specs.Basics.{sym, Bool, true, false, eqb, ltb, eq-eqb, ne_eqb, lt-ltb, le-ltb, le-leb, lt-leb, pick}
use Rattle.machine_replay.specs.Standing.{inside}
use Rattle.machine_replay.proofs.place.is_inside.Goals as goal

pub returns-then-p-ge-MOST_RECORDS : goal.returns-then-p-ge-MOST_RECORDS
unfolding inside
returns-then-p-ge-MOST_RECORDS c =
    rw (le-ltb c.args.p.count 1000000000 c.if-p-ge-MOST_RECORDS.true)

pub returns-then-out-p : goal.returns-then-out-p
unfolding inside
returns-then-out-p c =
    rw (lt-ltb c.args.p.count 1000000000 c.if-p-ge-MOST_RECORDS.false, lt-leb c.args.p.written c.args.out c.if-out-p.true)

pub returns-then-input-p : goal.returns-then-input-p
unfolding inside
returns-then-input-p c =
    rw (lt-ltb c.args.p.count 1000000000 c.if-p-ge-MOST_RECORDS.false, le-leb c.args.p.written c.args.out c.if-out-p.false, lt-leb c.args.p.buffered c.args.input c.if-input-p.true)

pub returns-then-input-p-2 : goal.returns-then-input-p-2
unfolding inside
returns-then-input-p-2 c =
    rw (lt-ltb c.args.p.count 1000000000 c.if-p-ge-MOST_RECORDS.false, le-leb c.args.p.written c.args.out c.if-out-p.false, le-leb c.args.p.buffered c.args.input c.if-input-p.false, lt-leb c.args.p.from (c.args.input - c.args.p.buffered) c.if-input-p-2.true)

pub returns-then-p-eq-PRINTING : goal.returns-then-p-eq-PRINTING
returns-then-p-eq-PRINTING c =
    let by_last : (b : Bool) → pick (eqb c.args.p.phase 4) true (ltb c.args.p.buffered 4 && eqb c.args.p.from 0) ≡ b → inside c.args.p c.args.input c.args.out ≡ b = unfold inside in λ b e. let p = c.args.p in let input = c.args.input in rw (lt-ltb p.count 1000000000 c.if-p-ge-MOST_RECORDS.false, le-leb p.written c.args.out c.if-out-p.false, le-leb p.buffered input c.if-input-p.false, le-leb p.from (input - p.buffered) c.if-input-p-2.false) e in
    sym (by_last true (rw (eq-eqb c.args.p.phase 4 c.if-p-eq-PRINTING.true)))

pub returns-then-p-ge-RECORD : goal.returns-then-p-ge-RECORD
returns-then-p-ge-RECORD c =
    let by_last : (b : Bool) → pick (eqb c.args.p.phase 4) true (ltb c.args.p.buffered 4 && eqb c.args.p.from 0) ≡ b → inside c.args.p c.args.input c.args.out ≡ b = unfold inside in λ b e. let p = c.args.p in let input = c.args.input in rw (lt-ltb p.count 1000000000 c.if-p-ge-MOST_RECORDS.false, le-leb p.written c.args.out c.if-out-p.false, le-leb p.buffered input c.if-input-p.false, le-leb p.from (input - p.buffered) c.if-input-p-2.false) e in
    let p = c.args.p in sym (by_last false (rw (ne_eqb p.phase 4 c.if-p-eq-PRINTING.false, le-ltb p.buffered 4 c.if-p-ge-RECORD.true)))

pub returns : goal.returns
returns c =
    let by_last : (b : Bool) → pick (eqb c.args.p.phase 4) true (ltb c.args.p.buffered 4 && eqb c.args.p.from 0) ≡ b → inside c.args.p c.args.input c.args.out ≡ b = unfold inside in λ b e. let p = c.args.p in let input = c.args.input in rw (lt-ltb p.count 1000000000 c.if-p-ge-MOST_RECORDS.false, le-leb p.written c.args.out c.if-out-p.false, le-leb p.buffered input c.if-input-p.false, le-leb p.from (input - p.buffered) c.if-input-p-2.false) e in
    let p = c.args.p in sym (by_last (eqb p.from 0) (rw (ne_eqb p.phase 4 c.if-p-eq-PRINTING.false, lt-ltb p.buffered 4 c.if-p-ge-RECORD.false)))
