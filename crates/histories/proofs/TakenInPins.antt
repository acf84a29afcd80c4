-- The pins after a message is taken in: what each of them names is still the checkpoint right before its process learnt all that it knows.
use Rattle.std.specs.Prelude.{◌≡◌, ◌≤◌, ◌<◌}
use Rattle.laws.specs.Basics.{sym, ◌∙◌, ap, true, Some, inl, inr, ℕ, suc, arith, leb, leb-true, leb-false, by_bool, by_eq}
use Rattle.histories.proofs.{Run.Ideal, Run.taken_by, Run.taken_in, Invariant.Inv, Invariant.Pinned, Line.rising, Line.own_pin, Messages.underway_proper}
use Rattle.histories.proofs.TakenInViews.{taken_in_live, taken_in_vector, taken_in_pin_risen, taken_in_pin_same, taken_in_pin_other, taken_in_state}

module _ (r : Ideal) (v : Inv r) (m : ℕ) (under : r.transit m ≡ true) where
  -- The receiver.
  abbrev i : ℕ
  i = r.receiver m

  -- The run after the step.
  abbrev r' : Ideal
  r' = taken_in r m

  -- The receiver is in the run.
  hi : i < r.n
  hi = (underway_proper r v m under).to

  -- The pin of i for f, where i knows the current interval of f.
  pinned_live : (f : ℕ) → f < r.n → r'.vector i (r.own i) f ≡ r.own f → (k : ℕ) × (r'.pin i f ≡ Some k)
  pinned_live f hf d = by_bool (leb (r.carried m f) (r.vector i (r.own i) f))
      (λ e. let w = v.pinned i f hf (omega (arith, taken_in_live r m f, leb-true)) in (w.0, taken_in_pin_same r m f (leb-true _ _ e) ∙ w.1))
      (λ e. let w = own_pin r v i hi in (w.0, taken_in_pin_risen r m f (leb-false _ _ e) ∙ w.1))

  -- Where a process knows the current interval of f, its pin for f names a checkpoint.
  pub pinned' : (p f : ℕ) → f < r.n → r'.vector p (r.own p) f ≡ r.own f → (k : ℕ) × (r'.pin p f ≡ Some k)
  pinned' p f hf d = by_eq p i
      (λ e. rw e (pinned_live f hf (rw e at d)))
      (λ ne. let w = v.pinned p f hf (sym (taken_in_vector r m p (r.own p) f (λ a b. ne a)) ∙ d) in (w.0, taken_in_pin_other r m p f ne ∙ w.1))

  -- The pin of an entry that rose names the last checkpoint, and the entry rose after it.
  pins_risen : (f k : ℕ) → f < r.n → r.vector i (r.own i) f < r.carried m f → r'.pin i f ≡ Some k → Pinned r' i f k
  unfolding taken_in taken_by
  pins_risen f k hf lt e =
      let w = v.pins i i k hi (sym (taken_in_pin_risen r m f lt) ∙ e) in
      let top : suc k ≡ r.own i = omega (arith, w.next, v.self i (suc k) w.below, v.self i (r.own i) (omega arith)) in
      record {
        below = w.below;
        less = omega (arith, taken_in_live r m f, taken_in_vector r m i k f (λ a b. omega arith), rising r v i f k (r.own i) (omega (arith, w.below)) (omega arith));
        next = ap (λ g. r'.vector i g f) top;
      }

  -- The pin of an entry that did not rise.
  pins_same : (f k : ℕ) → f < r.n → r.carried m f ≤ r.vector i (r.own i) f → r'.pin i f ≡ Some k → Pinned r' i f k
  unfolding taken_in taken_by
  pins_same f k hf le e =
      let w = v.pins i f k hf (sym (taken_in_pin_same r m f le) ∙ e) in
      let live : r'.vector i (r.own i) f ≡ r.vector i (r.own i) f = omega (arith, taken_in_live r m f) in
      record {
        below = w.below;
        less = omega (arith, live, w.less, taken_in_vector r m i k f (λ a b. omega (arith, w.below)));
        next = elim (taken_in_state r m i (suc k)) [
          | inl z ↦ ap (λ g. r'.vector i g f) z.1
          | inr o ↦ o f ∙ w.next ∙ sym live
        ];
      }

  -- The pins of i.
  pins_i : (f k : ℕ) → f < r.n → r'.pin i f ≡ Some k → Pinned r' i f k
  pins_i f k hf e = by_bool (leb (r.carried m f) (r.vector i (r.own i) f))
      (λ b. pins_same f k hf (leb-true _ _ b) e)
      (λ b. pins_risen f k hf (leb-false _ _ b) e)

  -- The pins of others.
  pins_other : (p f k : ℕ) → (p ≡ i → ⊥) → f < r.n → r'.pin p f ≡ Some k → Pinned r' p f k
  unfolding taken_in taken_by
  pins_other p f k ne hf e =
      let w = v.pins p f k hf (sym (taken_in_pin_other r m p f ne) ∙ e) in
      record {
        below = w.below;
        less = omega (arith, w.less, taken_in_vector r m p k f (λ a b. ne a), taken_in_vector r m p (r.own p) f (λ a b. ne a));
        next = omega (arith, w.next, taken_in_vector r m p (suc k) f (λ a b. ne a), taken_in_vector r m p (r.own p) f (λ a b. ne a));
      }

  -- What a pin names is the checkpoint right before its process learnt all that it knows of f.
  pub pins' : (p f k : ℕ) → f < r.n → r'.pin p f ≡ Some k → Pinned r' p f k
  pins' p f k hf e = by_eq p i
      (λ c. rw c (pins_i f k hf (rw c at e)))
      (λ nc. pins_other p f k nc hf e)
