-- Sequences of messages with numbers below a bound: no more messages than the bound are needed. Each length either adds a last message or adds none at any later
-- length, and there are no more last messages than numbers.
-- Assumes nothing.
use Rattle.std.specs.Prelude.{◌≡◌, ◌&&◌, ◌⊎◌, ◌<◌}
use Rattle.laws.specs.Basics.{sym, Bool, true, false, not, false≢true, inl, inr, ℕ, zero, suc, arith, by_bool}
use Rattle.laws.specs.{Truth.and_out, Truth.and_both, Truth.or_left, Truth.or_in_right, Truth.or_right, Tests.count_below}
use Rattle.laws.specs.{Search.any_below, Search.any_out, Search.any_in, Search.any_none, Counting.count_le, Counting.count_some, Counting.count_split}
use Rattle.theory_patterns.specs.Judging.{is_last}

module _ (bound : ℕ) (first : ℕ → Bool) (onward : ℕ → ℕ → Bool) where
  abbrev Last : ℕ → ℕ → Bool
  Last = is_last bound first onward

  -- What a longer sequence is made of.
  pub last_first : (k m : ℕ) → first m ≡ true → Last (suc k) m ≡ true
  unfolding is_last
  last_first k m e = or_left (first m) _ e

  pub last_onward : (k x m : ℕ) → x < bound → Last k x ≡ true → onward x m ≡ true → Last (suc k) m ≡ true
  unfolding is_last
  last_onward k x m lt e d = or_in_right (first m) _ (any_in bound (λ x. Last k x && onward x m) x lt (and_both (Last k x) (onward x m) e d))

  pub last_none : {P : Type 0} (m : ℕ) → Last 0 m ≡ true → P
  unfolding is_last
  last_none m e = absurd (false≢true e)

  pub last_out : (k m : ℕ) → Last (suc k) m ≡ true → (first m ≡ true) ⊎ ((x : ℕ) × (x < bound) × (Last k x ≡ true) × (onward x m ≡ true))
  unfolding is_last
  last_out k m e = by_bool (first m)
      (λ q. inl q)
      (λ q.
      let w = any_out bound (λ x. Last k x && onward x m) (or_right (first m) _ q e) in
      let d = and_out (Last k w.0) (onward w.0 m) w.2 in
      inr (w.0, w.1, d.0, d.1))

  longer : (k m : ℕ) → Last k m ≡ true → Last (suc k) m ≡ true
  longer zero m e = last_none m e
  longer (suc k) m e = elim (last_out k m e) [
    | inl q ↦ last_first (suc k) m q
    | inr (x, lt, d, o) ↦ last_onward (suc k) x m lt (longer k x d) o
  ]

  -- One message more adds no last message.
  Settled : ℕ → Type 0
  Settled k = (m : ℕ) → m < bound → Last (suc k) m ≡ true → Last k m ≡ true

  settled_on : (k : ℕ) → Settled k → Settled (suc k)
  unfolding Settled
  settled_on k s m lm e = elim (last_out (suc k) m e) [
    | inl q ↦ last_first k m q
    | inr (x, lt, d, o) ↦ last_onward k x m lt (s x lt d) o
  ]

  abbrev new : ℕ → ℕ → Bool
  new k m = Last (suc k) m && not (Last k m)

  not_new : (a b : Bool) → (a && not b) ≡ false → a ≡ true → b ≡ true
  not_new true true d e = e
  not_new true false d e = absurd (false≢true (sym d))
  not_new false b d e = absurd (false≢true e)

  grows : (k : ℕ) → Settled k ⊎ (count_below bound (Last k) < count_below bound (Last (suc k)))
  unfolding Settled
  grows k = by_bool (any_below bound (new k))
      (λ e.
      let w = any_out bound (new k) e in
      inr (omega (arith, count_split bound (Last (suc k)) (Last k) (λ j lt. longer k j), count_some bound (new k) w.0 w.1 w.2)))
      (λ e. inl (λ m lm. not_new (Last (suc k) m) (Last k m) (any_none bound (new k) e m lm)))

  settles : (k : ℕ) → Settled k ⊎ (k < count_below bound (Last (suc k)))
  settles zero = elim (grows zero) [ inl s ↦ inl s | inr w ↦ inr (omega (arith, w)) ]
  settles (suc k) = elim (settles k) [
    | inl s ↦ inl (settled_on k s)
    | inr w ↦ elim (grows (suc k)) [ inl s ↦ inl s | inr v ↦ inr (omega (arith, v, w)) ]
  ]

  settled : Settled bound
  settled = elim (settles bound) [
    | inl s ↦ s
    | inr w ↦ absurd (omega (arith, w, count_le bound (Last (suc bound))))
  ]

  -- So the last messages of sequences of at most that many messages are those of all sequences.
  pub begun : (m : ℕ) → m < bound → first m ≡ true → Last bound m ≡ true
  unfolding Settled
  begun m lm e = settled m lm (last_first bound m e)

  pub closed : (x m : ℕ) → x < bound → m < bound → Last bound x ≡ true → onward x m ≡ true → Last bound m ≡ true
  unfolding Settled
  closed x m lx lm e d = settled m lm (last_onward bound x m lx e d)
