-- The numbers of a state, put one after the other, and their bounds.
-- Assumes nothing.
use Rattle.std.specs.Prelude.{◌≡◌, ◌&&◌, ◌∷◌, ◌≤◌, ◌<◌}
use Rattle.laws.specs.Basics.{refl, true, List, [], ℕ, arith, ltb, leb, length, set, lt-ltb, ltb-true, le-leb, leb-true}
use Rattle.laws.specs.Truth.{and_left, and_right}
use Rattle.machine_merge.specs.declared.marks.Marks.{Marks}
use Rattle.machine_merge.specs.{Buffered.most_kept_of, Buffered.most_counted, Merging.longest_name, Words.marks_of, Words.in_bounds_of, Words.Fits}

pub all_put : (l : List ℕ) (m : Marks) → 7 ≤ length l
    → marks_of (set (set (set (set (set (set (set l 0 m.phase) 1 m.half) 2 m.set) 3 m.first) 4 m.name) 5 m.count) 6 m.size) ≡ m
unfolding marks_of
all_put [] m h = absurd (omega (arith, h))
all_put (a ∷ []) m h = absurd (omega (arith, h))
all_put (a ∷ b ∷ []) m h = absurd (omega (arith, h))
all_put (a ∷ b ∷ c ∷ []) m h = absurd (omega (arith, h))
all_put (a ∷ b ∷ c ∷ d ∷ []) m h = absurd (omega (arith, h))
all_put (a ∷ b ∷ c ∷ d ∷ e ∷ []) m h = absurd (omega (arith, h))
all_put (a ∷ b ∷ c ∷ d ∷ e ∷ f ∷ []) m h = absurd (omega (arith, h))
all_put (a ∷ b ∷ c ∷ d ∷ e ∷ f ∷ g ∷ l) m h = refl

pub in_bounds : (m : Marks) (out : ℕ) → Fits m → m.count < most_counted → m.size ≤ out → in_bounds_of m out ≡ true
unfolding in_bounds_of
in_bounds m out (a, b, c) d e = rw (le-leb m.set 4294967295 a, le-leb m.first most_kept_of b, le-leb m.name longest_name c, lt-ltb m.count most_counted d, le-leb m.size out e) refl

pub bounded : (m : Marks) (out : ℕ) → in_bounds_of m out ≡ true → Fits m × (m.count < most_counted)
unfolding in_bounds_of
bounded m out h =
    let a = leb m.set 4294967295 in
    let b = leb m.first most_kept_of in
    let c = leb m.name longest_name in
    let d = ltb m.count most_counted in
    let e = leb m.size out in
    let bs = and_right a (b && (c && (d && e))) h in
    let cs = and_right b (c && (d && e)) bs in
    let ds = and_right c (d && e) cs in (
      (
        leb-true m.set 4294967295 (and_left a (b && (c && (d && e))) h),
        leb-true m.first most_kept_of (and_left b (c && (d && e)) bs),
        leb-true m.name longest_name (and_left c (d && e) cs),
      ),
      ltb-true m.count most_counted (and_left d e ds),
    )
