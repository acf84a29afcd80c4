-- The copy of a list of named checkpoints: how many they are, the greatest process, and the elements where there is room.
-- Assumes nothing.
use Rattle.std.specs.Prelude.{◌≡◌, ◌||◌, ◌∷◌, ◌++◌, ◌+◌, ◌≤◌, ◌<◌}
use Rattle.laws.specs.Basics.{refl, sym, ◌∙◌, ap, Bool, List, [], ℕ, zero, suc, max, arith, leb, length, get_or, take, lt-ltb, le-leb, lt-leb, leb-true, leb-false, by_bool}
use native.Mathlib.Numerals.{add-one}
use lib.Seq.{take_all}
use Rattle.laws.specs.{Copied.copied, Lists.placed, Prefixes.take_more, Prefixes.placed_none, Tables.take_placed}
use Rattle.laws.specs.{Select.some_append, Select.some_one, Tests.some_of}
use Rattle.model.specs.declared.Named.{Named}
use Rattle.whole_runs.specs.Earliest.{some_absent}
use Rattle.words_line.specs.declared.earliest.list.Copied.{Copied}
use Rattle.words_line.specs.earliest.Copying.{no_named, nothing_copied_of, with_element_of, copy_to, copy_of}

-- A mark over the first k elements: one more.
some_more : {A : Type 0} (t : A → Bool) (l : List A) (k : ℕ) (d : A) → k < length l → (mark : Bool) → mark ≡ some_of t (take k l)
    → (mark || t (get_or l k d)) ≡ some_of t (take (k + 1) l)
some_more t l k d h mark inv = rw (inv, take_more l k d h, some_append) (ap (λ (b : Bool). some_of t (take k l) || b) (sym (some_one t (get_or l k d))))

-- The copy of the first k elements of a list: how many, the greatest process, and the elements where there are at most 16.
pub to_length : (l : List Named) (k : ℕ) → (copy_to k l).length ≡ k
unfolding copy_to nothing_copied_of with_element_of
to_length l zero = refl
to_length l (suc k) = rw (to_length l k, add-one)

max_below : (n a b : ℕ) → leb n (max a b) ≡ (leb n a || leb n b)
max_below n a b = by_bool (leb n a)
    (λ p. rw p (le-leb n (max a b) (omega (arith, leb-true n a p))))
    (λ p. by_bool (leb n b)
    (λ q. rw (p, q) (le-leb n (max a b) (omega (arith, leb-true n b q))))
    (λ q. rw (p, q) (lt-leb n (max a b) (omega (arith, leb-false n a p, leb-false n b q)))))

to_process : (n : ℕ) → 1 ≤ n → (l : List Named) (k : ℕ) → k ≤ length l → leb n (copy_to k l).process ≡ some_of (λ c. leb n c.process) (take k l)
unfolding copy_to nothing_copied_of with_element_of some_of
to_process n pos l zero h = lt-leb n 0 pos
to_process n pos l (suc k) h =
    max_below n (copy_to k l).process (get_or l k no_named).process
    ∙ rw (← add-one) (some_more (λ c. leb n c.process) l k no_named (omega arith) (leb n (copy_to k l).process) (to_process n pos l k (omega arith)))

to_named : (l : List Named) (k : ℕ) → k ≤ length l → k ≤ 16 → (copy_to k l).named ≡ placed 16 no_named (take k l)
unfolding copy_to nothing_copied_of with_element_of
to_named l zero h few = placed_none 16 no_named
to_named l (suc k) h few =
    let step : k + 1 ≡ suc k = omega arith in
    let laid = copied 16 no_named l (copy_to k l).named k no_named (omega arith) (omega arith) (to_named l k (omega arith) (omega arith)) in
    rw (to_length l k, lt-ltb k 16 (omega arith)) (laid ∙ ap (λ (j : ℕ). placed 16 no_named (take j l)) step)

-- The copy of no element, and of one element more.
pub copy_none : (l : List Named) (c : Copied) → c ≡ nothing_copied_of → c ≡ copy_to 0 l
unfolding copy_to
copy_none l c e = e

pub copy_more : (l : List Named) (k : ℕ) (c : Copied) (x : Named) → x ≡ get_or l k no_named → c ≡ with_element_of (copy_to k l) x → c ≡ copy_to (k + 1) l
unfolding copy_to
copy_more l k c x e d = rw (d, e, add-one)

-- The copy of a whole list.
pub copy_whole : (l : List Named) (k : ℕ) → k ≡ length l → copy_to k l ≡ copy_of l
unfolding copy_of
copy_whole l k e = rw e

pub copy_length : (l : List Named) → (copy_of l).length ≡ length l
unfolding copy_of
copy_length l = to_length l (length l)

pub copy_process : (n : ℕ) → 1 ≤ n → (l : List Named) → leb n (copy_of l).process ≡ some_absent n l
unfolding copy_of some_absent
copy_process n pos l = to_process n pos l (length l) (omega arith) ∙ ap (some_of (λ c. leb n c.process)) (take_all (length l) l (omega arith))

pub copy_named : (l : List Named) → length l ≤ 16 → (copy_of l).named ≡ placed 16 no_named l
unfolding copy_of
copy_named l few = to_named l (length l) (omega arith) few ∙ ap (placed 16 no_named) (take_all (length l) l (omega arith))

pub copy_taken : (l : List Named) → length l ≤ 16 → take (length l) (copy_of l).named ≡ l
copy_taken l few = ap (take (length l)) (copy_named l few) ∙ take_placed 16 no_named l
