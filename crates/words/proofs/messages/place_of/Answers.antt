-- `words::messages::place_of` meets its contract. Assumes nothing.
use Rattle.std.specs.Prelude.{◌≡◌, ◌+◌, ◌-◌, ◌*◌, ◌/◌, ◌%◌, ◌≤◌, ◌<◌, Some}
use Rattle.laws.specs.Basics.{refl, sym, ◌∙◌, ap, List, ℕ, zero, suc, arith, eqb, rules, eq-eqb, ne_eqb, pick, by_eq}
use lib.Bits.{bit_or, or_add_and, and_le_l, and_le_r}
use Rattle.words.specs.Layout.{word, end_of, low_at, high_at, message_in}
use Rattle.words.specs.messages.Places.{place_below, lows_below, place_of, found_at}
use Rattle.words.proofs.messages.place_of.Goals as goal

-- What is or-ed together is no less than either.
or_bounds : (a b : ℕ) → (a ≤ bit_or a b) × (b ≤ bit_or a b)
or_bounds a b = (omega (arith, or_add_and a b, and_le_r a b), omega (arith, or_add_and a b, and_le_l a b))

-- The low word stands in no place from there on.
low_missing : (w : List ℕ) (x n j : ℕ) → lows_below w x n ≤ j → j < n → word w (low_at j) ≡ x → ⊥
unfolding lows_below
low_missing w x zero j le lt e = omega arith
low_missing w x (suc n) j le lt e =
    let b = or_bounds (lows_below w x n) (pick (eqb (word w (low_at n)) x) (suc n) 0) in
    by_eq (word w (low_at n)) x
    (λ q. let z : pick (eqb (word w (low_at n)) x) (suc n) 0 ≡ suc n = rw (eq-eqb (word w (low_at n)) x q) in omega (arith, b.1))
    (λ q. by_eq j n (λ r. q (ap (λ i. word w (low_at i)) (sym r) ∙ e)) (λ ne. low_missing w x n j (omega (arith, b.0)) (omega arith) e))

-- The low words of all n places have been looked at, and of these e are in use: the words are of 16 bits.
module _ (w : List ℕ) (m n : ℕ) (small : (j : ℕ) → word w (low_at j) < 65536) where
  other_number : (j : ℕ) → lows_below w (m % 65536) n ≤ j → j < n → (message_in w j).number ≡ m → ⊥
  unfolding message_in
  other_number j le lt e = low_missing w (m % 65536) n j le lt (omega (arith, small j))

  below_low : (e : ℕ) → e ≤ n → lows_below w (m % 65536) n ≤ e → place_below w m e ≡ place_below w m (lows_below w (m % 65536) n)
  unfolding place_below
  below_low zero le low = let z : lows_below w (m % 65536) n ≡ 0 = omega arith in rw z refl
  below_low (suc e) le low = by_eq (lows_below w (m % 65536) n) (suc e)
      (λ q. rw q refl)
      (λ ne. rw (ne_eqb (message_in w e).number m (other_number e (omega arith) (omega arith))) (below_low e (omega arith) (omega arith)))

  none_below : (e past : ℕ) → e ≤ n → past ≡ lows_below w (m % 65536) n → past ≡ 0 → place_below w m e ≡ 0
  unfolding place_below
  none_below e past le p z = below_low e le (omega arith) ∙ rw (← p, z) refl

  last_number : (k : ℕ) → (k ≡ 0 → ⊥) → (message_in w (k - 1)).number ≡ m → place_below w m k ≡ k
  unfolding place_below
  last_number zero ne is = absurd (ne refl)
  last_number (suc k) ne is = let q : suc k - 1 ≡ k = omega arith in rw (eq-eqb (message_in w k).number m (rw q at is))

  last_below : (e past : ℕ) → e ≤ n → past ≡ lows_below w (m % 65536) n → past ≤ e → (past ≡ 0 → ⊥) → (message_in w (past - 1)).number ≡ m → place_below w m e ≡ past
  last_below e past le p less ne is = below_low e le (omega arith) ∙ rw (← p) (last_number past ne is)

-- A whole number of 16 places.
whole : (e : ℕ) → e ≤ 16 * ((e + 16 - 1) / 16)
whole e = omega arith

no_number : (w : List ℕ) (m : ℕ) → m ≡ 0 → place_of w m ≡ 0
unfolding place_of
no_number w m e = rw (eq-eqb m 0 e) refl

some_number : (w : List ℕ) (m : ℕ) → (m ≡ 0 → ⊥) → place_of w m ≡ place_below w m (end_of w)
unfolding place_of
some_number w m ne = rw (ne_eqb m 0 ne) refl

at_place : (k : ℕ) → (k ≡ 0 → ⊥) → Some (k - 1) ≡ found_at k
unfolding found_at
at_place zero ne = absurd (ne refl)
at_place (suc k) ne = ap Some (let e : suc k - 1 ≡ k = omega arith in e)

pub returns-then-m-eq0 : goal.returns-then-m-eq0
unfolding found_at
returns-then-m-eq0 c =
    let a = c.args in rw (no_number a.w.now a.m c.if-m-eq0.true) refl

pub returns-then-past-eq0 : goal.returns-then-past-eq0
unfolding found_at
returns-then-past-eq0 c =
    let a = c.args in let none = none_below a.w.now a.m _ (λ j. omega (arith, c.shared_slice_known-2-1.given (low_at j))) (end_of a.w.now) _ (whole _) c.lows_before-past.ensures c.if-past-eq0.true in rw (some_number a.w.now a.m c.if-m-eq0.false, none) refl

pub returns-then-end-past : goal.returns-then-end-past
returns-then-end-past c =
    let a = c.args in c.search_before.ensures ∙ ap found_at (sym (some_number a.w.now a.m c.if-m-eq0.false))

pub returns-then-number-m : goal.returns-then-number-m
returns-then-number-m c =
    let a = c.args in let here = last_below a.w.now a.m _ (λ j. omega (arith, c.shared_slice_known-2-1.given (low_at j))) (end_of a.w.now) _ (whole _) c.lows_before-past.ensures c.if-end-past.false
    c.if-past-eq0.false (sym c.number_at-number.ensures ∙ c.if-number-m.true) in at_place _ c.if-past-eq0.false ∙ ap found_at (sym (some_number a.w.now a.m c.if-m-eq0.false ∙ here))

pub returns : goal.returns
returns c =
    let a = c.args in c.search_before-2.ensures ∙ ap found_at (sym (some_number a.w.now a.m c.if-m-eq0.false))
