-- A recovery keeps the invariant: here the pins, and then all clauses together.
use Rattle.std.specs.Prelude.{◌≡◌, ◌≤◌, ◌<◌}
use Rattle.laws.specs.Basics.{sym, ◌∙◌, ap, Bool, true, false, Some, ℕ, suc, arith, ltb, leb, lt-ltb, le-ltb, leb-true, leb-false, by_bool, by_eq}
use Rattle.laws.specs.{Options.some_same, Options.none≢some, Search.latest_is, Truth.and_both, Truth.and_no_right}
use Rattle.histories.proofs.{Run.Ideal, Run.Failed, Run.keeps, Run.line, Run.rolled, Run.recovered, Rule.keeps_in, Rule.keeps_out}
use Rattle.histories.proofs.{Invariant.Inv, Invariant.Pinned, Line.rising, Line.line_back}
use Rattle.histories.proofs.RecoveredViews.{recovered_n, recovered_pin_none, recovered_pin_stays, recovered_pin_back}
use Rattle.histories.proofs.RecoveredStates.{within, own_back, own_stays, own_ge, old, knows, live_other, underway', pending', counted', positive', self', blank', rises', present', knows', proper', carries', arrived', single', takes', marked', known', source', learnt'}

module _ (r : Ideal) (v : Inv r) (F : Failed) where
  -- The line.
  abbrev L : ℕ → ℕ
  L = line r F

  -- The processes that roll back.
  abbrev R : ℕ → Bool
  R = rolled r F

  -- The run after the step.
  abbrev r' : Ideal
  r' = recovered r F

  -- In a process that rolls back, the pin of a current entry is the kept checkpoint up to the member from which the entry rises.
  pin_back : (p f k : ℕ) → R p ≡ true → r'.vector p (r'.own p) f ≡ r'.own f → k ≤ L p → keeps r p k ≡ true → r.vector p k f < r'.own f
      → ((j : ℕ) → k < j → j ≤ L p → r'.own f ≤ r.vector p j f) → r'.pin p f ≡ Some k
  pin_back p f k e d le kept low high = recovered_pin_back r F p f e d ∙ latest_is (suc (L p)) _ k (omega arith)
      (and_both (keeps r p k) (ltb (r.vector p k f) (r'.own f)) kept (lt-ltb (r.vector p k f) (r'.own f) low))
      (λ j a b. and_no_right (keeps r p j) (ltb (r.vector p j f) (r'.own f)) (le-ltb (r.vector p j f) (r'.own f) (high j a (omega arith))))

  -- A pin of now: what it names, that it was kept before, and what the invariant asks.
  Found : (p f : ℕ) → Type 0
  Found p f = (k : ℕ) × (r'.pin p f ≡ Some k) × (keeps r p k ≡ true) × Pinned r' p f k

  -- The own pin names the last checkpoint.
  found_own : (p : ℕ) → p < r.n → Found p p
  unfolding Found
  found_own p hp = by_bool (R p)
      (λ e.
      let b = line_back r v F p e in
      let low : r.vector p (L p) p < r'.own p = omega (arith, v.self p (L p) (within r v F p), own_back r v F p e) in (
        L p,
        pin_back p p (L p) e (self' r v F p (r'.own p) (omega arith)) (omega arith) b.kept low (λ j a c. absurd (omega arith)),
        b.kept,
        record {
          below = omega (arith, own_back r v F p e);
          less = omega (arith, low, old r v F p (L p) p (omega arith), self' r v F p (r'.own p) (omega arith));
          next = ap (λ k. r'.vector p k p) (sym (own_back r v F p e));
        },
      ))
      (λ e.
      let z = v.pinned p p hp (v.self p (r.own p) (omega arith)) in
      let w = v.pins p p z.0 hp z.1 in (
        z.0,
        recovered_pin_stays r F p p e (self' r v F p (r'.own p) (omega arith)) ∙ z.1,
        keeps_in r p p z.0 hp z.1,
        record {
          below = omega (arith, w.below, own_stays r v F p e);
          less = omega (arith, w.below, own_stays r v F p e, self' r v F p z.0 (omega (arith, w.below, own_stays r v F p e)), self' r v F p (r'.own p) (omega arith));
          next = omega (
            arith,
            own_stays r v F p e,
            w.next,
            v.self p (suc z.0) w.below,
            v.self p (r.own p) (omega arith),
            self' r v F p (suc z.0) (omega (arith, w.below, own_stays r v F p e)),
            self' r v F p (r'.own p) (omega arith),
          );
        },
      ))

  -- A pin for another process, whose entry is current: that process stays, and the pin names what it named before.
  found_other : (p f : ℕ) → f < r.n → (p ≡ f → ⊥) → r'.vector p (r'.own p) f ≡ r'.own f → Found p f
  unfolding Found
  found_other p f hf ne d =
      let member : r.vector p (L p) f ≡ r'.own f = sym (live_other r v F p f ne) ∙ d in
      let live-f : R f ≡ false = by_bool (R f) (λ e. absurd (omega (arith, own_back r v F f e, knows r v F p f hf))) (λ e. e) in
      let own-f : r'.own f ≡ r.own f = own_stays r v F f live-f in
      let up : r.vector p (L p) f ≤ r.vector p (r.own p) f = rising r v p f (L p) (r.own p) (within r v F p) (omega arith) in
      let full : r.vector p (r.own p) f ≡ r.own f = omega (arith, v.present p (r.own p) f hf (omega arith)) in
      let z = v.pinned p f hf full in
      let k : ℕ = z.0 in
      let w = v.pins p f k hf z.1 in
      let kept : keeps r p k ≡ true = keeps_in r p f k hf z.1 in
      let under : k < L p = by_bool (leb (L p) k)
      (λ e. absurd (omega (arith, w.less, rising r v p f (L p) k (leb-true _ _ e) (omega (arith, w.below)))))
      (λ e. leb-false _ _ e) in
      let low : r.vector p k f < r'.own f = omega (arith, w.less) in
      let high : r'.own f ≤ r.vector p (suc k) f = omega (arith, w.next) in
      let pin_is : r'.pin p f ≡ Some k = by_bool (R p)
      (λ e. pin_back p f k e d (omega arith) kept low (λ j a b. omega (arith, high, rising r v p f (suc k) j a (omega (arith, within r v F p)))))
      (λ e. recovered_pin_stays r F p f e d ∙ z.1) in (
        k,
        pin_is,
        kept,
        record {
          below = omega (arith, own_ge r v F p);
          less = omega (arith, low, d, old r v F p k f (omega arith));
          next = omega (arith, d, w.next, old r v F p (suc k) f under);
        },
      )

  -- A pin whose entry is current.
  found : (p f : ℕ) → f < r.n → r'.vector p (r'.own p) f ≡ r'.own f → Found p f
  found p f hf d = by_eq p f
      (λ e. rw (← e) (found_own p (rw (← e) at hf)))
      (λ ne. found_other p f hf ne d)

  -- A pin that names something is of a current entry.
  pub recovered_current : (p f k : ℕ) → r'.pin p f ≡ Some k → r'.vector p (r'.own p) f ≡ r'.own f
  recovered_current p f k e = by_eq (r'.vector p (r'.own p) f) (r'.own f)
      (λ d. d)
      (λ nd. absurd (none≢some (sym (recovered_pin_none r F p f nd) ∙ e)))

  found_pin : (p f k : ℕ) → f < r.n → r'.pin p f ≡ Some k → Found p f
  found_pin p f k hf e = found p f hf (recovered_current p f k e)

  -- Where a process knows the current interval of f, its pin for f names a checkpoint.
  pinned' : (p f : ℕ) → f < r.n → r'.vector p (r'.own p) f ≡ r'.own f → (k : ℕ) × (r'.pin p f ≡ Some k)
  unfolding Found
  pinned' p f hf d = let w = found p f hf d in (w.0, w.1)

  -- What a pin names is the checkpoint right before its process learnt all that it knows of f.
  pins' : (p f k : ℕ) → f < r.n → r'.pin p f ≡ Some k → Pinned r' p f k
  unfolding Found
  pins' p f k hf e = let w = found_pin p f k hf e in rw (some_same (sym e ∙ w.1)) w.3

  -- What a pin names was kept before.
  pin_kept : (p f k : ℕ) → f < r.n → r'.pin p f ≡ Some k → keeps r p k ≡ true
  unfolding Found
  pin_kept p f k hf e = let w = found_pin p f k hf e in rw (some_same (sym e ∙ w.1)) w.2

  -- Nothing that was not kept comes back.
  pub recovered_keeps_old : (p k : ℕ) → keeps (recovered r F) p k ≡ true → keeps r p k ≡ true
  recovered_keeps_old p k e = let w = keeps_out r' p k e in pin_kept p w.0 k (omega (arith, w.1, recovered_n r F)) w.2

  -- A recovery keeps the invariant.
  pub recovered_inv : Inv (recovered r F)
  unfolding recovered
  recovered_inv = record {
    counted = counted' r v F;
    positive = positive' r v F;
    self = self' r v F;
    blank = blank' r v F;
    rises = rises' r v F;
    present = present' r v F;
    knows = knows' r v F;
    proper = proper' r v F;
    carries = carries' r v F;
    arrived = arrived' r v F;
    single = single' r v F;
    takes = takes' r v F;
    underway = underway' r v F;
    pending = pending' r v F;
    marked = marked' r v F;
    known = known' r v F;
    source = source' r v F;
    learnt = learnt' r v F;
    pinned = pinned';
    pins = pins';
  }
