-- Parts of the buffer that files are read into.
-- Assumes nothing.
use Rattle.std.specs.Prelude.{◌≡◌, ◌∷◌, ◌++◌, ◌+◌, ◌≤◌}
use Rattle.laws.specs.Basics.{refl, sym, ◌∙◌, ap, List, [], ℕ, zero, suc, min, arith, eqb, ltb, leb, take, drop, leb-true, leb-false, by_bool}
use lib.Seq.{take-take, drop-drop, take-add}
use Rattle.machine_merge.specs.Buffered.{most_kept_of, buffered_size, wanted, keeping}
use Rattle.machine_merge.specs.Words.{name_at, half_at_of, read_to_of, kept_of}
use Rattle.machine_merge.proofs.Standing.{sized}

-- What stands before a place is the same in two buffers that agree up to it.
part_of_front : (a k p : ℕ) (l : List ℕ) → a + k ≤ p → take k (drop a (take p l)) ≡ take k (drop a l)
part_of_front zero k p l h = take-take k p l (omega (arith, h))
part_of_front (suc a) k zero l h = absurd (omega (arith, h))
part_of_front (suc a) k (suc p) [] h = refl
part_of_front (suc a) k (suc p) (x ∷ l) h = part_of_front a k p l (omega (arith, h))

pub part_kept : (a k p : ℕ) (l m : List ℕ) → a + k ≤ p → take p l ≡ take p m → take k (drop a l) ≡ take k (drop a m)
part_kept a k p l m h e = sym (part_of_front a k p l h) ∙ ap (λ (x : List ℕ). take k (drop a x)) e ∙ part_of_front a k p m h

-- The places.
pub name_most : (half : ℕ) → name_at half ≤ 20488
unfolding name_at
name_most half = by_bool (eqb half 0) (λ e. rw e (omega arith)) (λ e. rw e (omega arith))

pub half_is : (half : ℕ) → half_at_of half ≡ name_at half + 4096
unfolding half_at_of
half_is half = refl

pub read_most : (half count : ℕ) → read_to_of half count ≤ 40976
unfolding read_to_of
read_most half count = omega (arith, name_most half, half_is half)

pub read_past : (half count : ℕ) → half_at_of half ≤ read_to_of half count
unfolding read_to_of
read_past half count = omega arith

pub wanted_most : (count : ℕ) → wanted count ≤ 16392
unfolding wanted
wanted_most count = by_bool (ltb count most_kept_of) (λ e. rw e (omega arith)) (λ e. rw e (omega arith))

-- Bytes that a read brought, after those that are kept.
take_whole : (k j : ℕ) (l : List ℕ) → j ≤ k → take k (take j l) ≡ take j l
take_whole zero zero l h = refl
take_whole (suc k) zero l h = refl
take_whole zero (suc j) l h = absurd (omega (arith, h))
take_whole (suc k) (suc j) [] h = refl
take_whole (suc k) (suc j) (x ∷ l) h = ap (λ (r : List ℕ). x ∷ r) (take_whole k j l (omega (arith, h)))

take_both : (k j : ℕ) (l : List ℕ) → take k (take j l) ≡ take (min j k) l
take_both k j l = by_bool (leb k j)
    (λ e. let h = leb-true k j e in let all : k ≡ min j k = omega (arith, h) in take-take k j l h ∙ ap (λ (n : ℕ). take n l) all)
    (λ e. let h = leb-false k j e in let all : j ≡ min j k = omega (arith, h) in take_whole k j l (omega (arith, h)) ∙ ap (λ (n : ℕ). take n l) all)

kept_then : (c s : ℕ) (l : List ℕ) → take most_kept_of (take (min c most_kept_of) l ++ take s (drop (min c most_kept_of) l)) ≡ take (min (c + s) most_kept_of) l
kept_then c s l =
    let all : min (min c most_kept_of + s) most_kept_of ≡ min (c + s) most_kept_of = omega arith in
    ap (take most_kept_of) (sym (take-add (min c most_kept_of) s l))
    ∙ take_both most_kept_of (min c most_kept_of + s) l
    ∙ ap (λ (n : ℕ). take n l) all

pub keeping_is : (half count size : ℕ) (input : List ℕ) → keeping (kept_of half count input) (take size (drop (read_to_of half count) input)) ≡ kept_of half (count + size) input
unfolding keeping kept_of read_to_of
keeping_is half count size input =
    ap (λ (l : List ℕ). take most_kept_of (take (min count most_kept_of) (drop (half_at_of half) input) ++ take size l)) (sym (drop-drop (min count most_kept_of) (half_at_of half) input))
    ∙ kept_then count size (drop (half_at_of half) input)

-- What is held of a half.
pub buffered_part : (half count : ℕ) (input : List ℕ) → take (buffered_size count) (kept_of half count input) ≡ take (buffered_size count) (drop (half_at_of half) input)
unfolding kept_of
buffered_part half count input = take-take (buffered_size count) (min count most_kept_of) (drop (half_at_of half) input) (omega (arith, (sized count).most, (sized count).less))
