-- `in_place_recover::process::owns::own_then` meets its contract, by whether the member is stored. Assumes nothing.
use Rattle.std.specs.Prelude.{◌≤◌}
use Rattle.laws.specs.Basics.{arith, ltb, leb, rules, ltb-true, leb-true}
use Rattle.laws.specs.Truth.{and_out}
use Rattle.words.specs.Layout.{word, kept_count_at_of}
use Rattle.in_place_recover.specs.Restored.{restored_own}
use Rattle.in_place_recover.proofs.process.owns.own_then.Goals as goal

pub overflow_cast-kept_count : goal.overflow_cast-kept_count
overflow_cast-kept_count c =
    let small = c.shared_slice_known-2-1.given (kept_count_at_of c.args.p) in search (rules, small)

pub overflow_sub-stored : goal.overflow_sub-stored
unfolding restored_own
overflow_sub-stored c =
    let stored : let a = c.args in (1 ≤ a.past) × (a.past ≤ word a.w.now (kept_count_at_of a.p)) × (a.past ≤ 16) = let a = c.args in let keptCount = word a.w.now (kept_count_at_of a.p) in let e = and_out (ltb 0 a.past) (leb a.past keptCount) c.if-past-kept_count.true in let one : 1 ≤ a.past = ltb-true 0 a.past e.0 in
    let most : a.past ≤ keptCount = leb-true a.past keptCount e.1 in
    (one, most, omega (arith, (c.requires.2 one).0)) in
    let s = stored in search rules

pub overflow_mul-stored-then-past-kept_count : goal.overflow_mul-stored-then-past-kept_count
unfolding restored_own
overflow_mul-stored-then-past-kept_count c =
    let stored : let a = c.args in (1 ≤ a.past) × (a.past ≤ word a.w.now (kept_count_at_of a.p)) × (a.past ≤ 16) = let a = c.args in let keptCount = word a.w.now (kept_count_at_of a.p) in let e = and_out (ltb 0 a.past) (leb a.past keptCount) c.if-past-kept_count.true in let one : 1 ≤ a.past = ltb-true 0 a.past e.0 in
    let most : a.past ≤ keptCount = leb-true a.past keptCount e.1 in
    (one, most, omega (arith, (c.requires.2 one).0)) in
    let s = stored in search rules

pub overflow_add-stored-then-past-kept_count : goal.overflow_add-stored-then-past-kept_count
unfolding restored_own
overflow_add-stored-then-past-kept_count c =
    let stored : let a = c.args in (1 ≤ a.past) × (a.past ≤ word a.w.now (kept_count_at_of a.p)) × (a.past ≤ 16) = let a = c.args in let keptCount = word a.w.now (kept_count_at_of a.p) in let e = and_out (ltb 0 a.past) (leb a.past keptCount) c.if-past-kept_count.true in let one : 1 ≤ a.past = ltb-true 0 a.past e.0 in
    let most : a.past ≤ keptCount = leb-true a.past keptCount e.1 in
    (one, most, omega (arith, (c.requires.2 one).0)) in
    let s = stored in search rules

pub overflow_add-stored-then-past-kept_count-2 : goal.overflow_add-stored-then-past-kept_count-2
unfolding restored_own
overflow_add-stored-then-past-kept_count-2 c =
    let stored : let a = c.args in (1 ≤ a.past) × (a.past ≤ word a.w.now (kept_count_at_of a.p)) × (a.past ≤ 16) = let a = c.args in let keptCount = word a.w.now (kept_count_at_of a.p) in let e = and_out (ltb 0 a.past) (leb a.past keptCount) c.if-past-kept_count.true in let one : 1 ≤ a.past = ltb-true 0 a.past e.0 in
    let most : a.past ≤ keptCount = leb-true a.past keptCount e.1 in
    (one, most, omega (arith, (c.requires.2 one).0)) in
    let s = stored in search rules

pub offset_bounds-w-p-then-past-kept_count : goal.offset_bounds-w-p-then-past-kept_count
unfolding restored_own
offset_bounds-w-p-then-past-kept_count c =
    let stored : let a = c.args in (1 ≤ a.past) × (a.past ≤ word a.w.now (kept_count_at_of a.p)) × (a.past ≤ 16) = let a = c.args in let keptCount = word a.w.now (kept_count_at_of a.p) in let e = and_out (ltb 0 a.past) (leb a.past keptCount) c.if-past-kept_count.true in let one : 1 ≤ a.past = ltb-true 0 a.past e.0 in
    let most : a.past ≤ keptCount = leb-true a.past keptCount e.1 in
    (one, most, omega (arith, (c.requires.2 one).0)) in
    let s = stored in search rules

pub bounds-w-p-then-past-kept_count : goal.bounds-w-p-then-past-kept_count
unfolding restored_own
bounds-w-p-then-past-kept_count c =
    let stored : let a = c.args in (1 ≤ a.past) × (a.past ≤ word a.w.now (kept_count_at_of a.p)) × (a.past ≤ 16) = let a = c.args in let keptCount = word a.w.now (kept_count_at_of a.p) in let e = and_out (ltb 0 a.past) (leb a.past keptCount) c.if-past-kept_count.true in let one : 1 ≤ a.past = ltb-true 0 a.past e.0 in
    let most : a.past ≤ keptCount = leb-true a.past keptCount e.1 in
    (one, most, omega (arith, (c.requires.2 one).0)) in
    let s = stored in search rules

pub overflow_add-stored-then-past-kept_count-3 : goal.overflow_add-stored-then-past-kept_count-3
overflow_add-stored-then-past-kept_count-3 c =
    let stored : let a = c.args in (1 ≤ a.past) × (a.past ≤ word a.w.now (kept_count_at_of a.p)) × (a.past ≤ 16) = let a = c.args in let keptCount = word a.w.now (kept_count_at_of a.p) in let e = and_out (ltb 0 a.past) (leb a.past keptCount) c.if-past-kept_count.true in let one : 1 ≤ a.past = ltb-true 0 a.past e.0 in
    let most : a.past ≤ keptCount = leb-true a.past keptCount e.1 in
    (one, most, omega (arith, (c.requires.2 one).0)) in
    let s = stored in let less = (c.requires.2 s.0).3 s.1 in search (rules, less)

pub returns-then-past-kept_count : goal.returns-then-past-kept_count
unfolding restored_own
returns-then-past-kept_count c =
    rw c.if-past-kept_count.true c.interval_of.ensures

pub returns-else-past-kept_count : goal.returns-else-past-kept_count
unfolding restored_own
returns-else-past-kept_count c =
    rw c.if-past-kept_count.false c.interval_of-else-past-kept_count.ensures
