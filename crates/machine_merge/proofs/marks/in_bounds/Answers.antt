-- `machine_merge::marks::in_bounds` meets its contract.
-- Assumes nothing.
use Rattle.laws.specs.Basics.{refl, lt-ltb, le-ltb, le-leb, lt-leb}
use Rattle.machine_merge.specs.Words.{in_bounds_of}
use Rattle.machine_merge.proofs.marks.in_bounds.Goals as goal

pub returns-then-m-gt-GREATEST : goal.returns-then-m-gt-GREATEST
unfolding in_bounds_of
returns-then-m-gt-GREATEST c =
    rw (lt-leb _ _ c.if-m-gt-GREATEST.true) refl

pub returns-then-m-gt-MOST_KEPT : goal.returns-then-m-gt-MOST_KEPT
unfolding in_bounds_of
returns-then-m-gt-MOST_KEPT c =
    rw (le-leb _ _ c.if-m-gt-GREATEST.false, lt-leb _ _ c.if-m-gt-MOST_KEPT.true) refl

pub returns-then-m-gt-LONGEST_NAME : goal.returns-then-m-gt-LONGEST_NAME
unfolding in_bounds_of
returns-then-m-gt-LONGEST_NAME c =
    rw (le-leb _ _ c.if-m-gt-GREATEST.false, le-leb _ _ c.if-m-gt-MOST_KEPT.false, lt-leb _ _ c.if-m-gt-LONGEST_NAME.true) refl

pub returns-then-m-ge-MOST_COUNTED : goal.returns-then-m-ge-MOST_COUNTED
unfolding in_bounds_of
returns-then-m-ge-MOST_COUNTED c =
    let first = c.if-m-gt-GREATEST.false in let second = c.if-m-gt-MOST_KEPT.false in rw (le-leb _ _ first, le-leb _ _ second, le-leb _ _ c.if-m-gt-LONGEST_NAME.false, le-ltb _ _ c.if-m-ge-MOST_COUNTED.true) refl

pub returns : goal.returns
unfolding in_bounds_of
returns c =
    let first = c.if-m-gt-GREATEST.false in let second = c.if-m-gt-MOST_KEPT.false in rw (le-leb _ _ first, le-leb _ _ second, le-leb _ _ c.if-m-gt-LONGEST_NAME.false, lt-ltb _ _ c.if-m-ge-MOST_COUNTED.false) refl
