-- The start has what the invariant says.
use Rattle.std.specs.Prelude.{◌≡◌, ◌≤◌, ◌<◌}
use Rattle.laws.specs.Basics.{refl, sym, ◌∙◌, ap, true, false, false≢true, [], None, Some, ℕ, suc, arith, eqb, eq-eqb, ne_eqb, by_eq}
use Rattle.laws.specs.{Choice.pick_same, Options.some_same, Options.none≢some}
use Rattle.histories.specs.History.{HistoryEvent, stored, sent, received, checkpoints}
use Rattle.histories.proofs.{Places.Stands, Places.stands_nil, Places.sent_before_stored, Places.received_before_stored, Run.begin}
use Rattle.histories.proofs.{Times.times, Times.times_none, Times.single_end, Invariant.Inv, Invariant.Pinned}

module _ (n : ℕ) where
  -- Views of the start.
  pub begin_n : (begin n).n ≡ n
  unfolding begin
  begin_n = refl

  -- Each process is in interval 1.
  pub begin_own : (p : ℕ) → (begin n).own p ≡ 1
  unfolding begin
  begin_own p = refl

  -- Checkpoint 0 knows nothing.
  pub begin_blank : (p f : ℕ) → (begin n).vector p 0 f ≡ 0
  unfolding begin
  begin_blank p f = refl

  -- A state knows 1 of its own process, unless it is checkpoint 0.
  pub begin_self : (p k : ℕ) → (k ≡ 0 → ⊥) → (begin n).vector p k p ≡ 1
  unfolding begin
  begin_self p k nk = rw (ne_eqb k 0 nk) (rw (eq-eqb p p refl))

  -- It knows nothing of others.
  pub begin_other : (p k f : ℕ) → (p ≡ f → ⊥) → (begin n).vector p k f ≡ 0
  unfolding begin
  begin_other p k f ne = rw (ne_eqb p f ne) (pick_same (eqb k 0) 0)

  -- No process has sent.
  pub begin_mark : (p : ℕ) → (begin n).mark p ≡ false
  unfolding begin
  begin_mark p = refl

  -- Own pins name checkpoint 0.
  pub begin_pin_own : (p : ℕ) → (begin n).pin p p ≡ Some 0
  unfolding begin
  begin_pin_own p = rw (eq-eqb p p refl)

  -- Other pins name nothing.
  pub begin_pin_other : (p f : ℕ) → (p ≡ f → ⊥) → (begin n).pin p f ≡ None
  unfolding begin
  begin_pin_other p f ne = rw (ne_eqb p f ne)

  -- No message is under way.
  pub begin_transit : (m : ℕ) → (begin n).transit m ≡ false
  unfolding begin
  begin_transit m = refl

  -- Nothing was sent or received.
  no_sent : (p g m : ℕ) → Stands (sent m) g ((begin n).events p) → ⊥
  unfolding begin
  no_sent p g m s = stands_nil (sent_before_stored [] s)

  -- Nothing was received.
  no_received : (p g m : ℕ) → Stands (received m) g ((begin n).events p) → ⊥
  unfolding begin
  no_received p g m s = stands_nil (received_before_stored [] s)

  -- Nothing is under way.
  no_transit : (m : ℕ) → (begin n).transit m ≡ true → ⊥
  no_transit m e = false≢true (sym (begin_transit m) ∙ e)

  -- A state's own entry is its index.
  self' : (p k : ℕ) → k ≤ (begin n).own p → (begin n).vector p k p ≡ k
  self' p k le = by_eq k 0
      (λ e. rw e (begin_blank p p))
      (λ ne. omega (arith, begin_self p k ne, begin_own p))

  -- No entry is above 1.
  at_most_lem : (p k f : ℕ) → (begin n).vector p k f ≤ 1
  at_most_lem p k f = by_eq p f
      (λ e. by_eq k 0 (λ z. rw z (omega (arith, begin_blank p f))) (λ nz. rw (← e) (omega (arith, begin_self p k nz))))
      (λ ne. omega (arith, begin_other p k f ne))

  -- States of one process know more and more.
  rises' : (p k f : ℕ) → k < (begin n).own p → (begin n).vector p k f ≤ (begin n).vector p (suc k) f
  rises' p k f lt = let z : k ≡ 0 = omega (arith, begin_own p) in rw z (omega (arith, begin_blank p f))

  -- A state that knows an interval knows what that interval knew.
  knows' : (p k q f : ℕ) → k ≤ (begin n).own p → q < n → f < n → (begin n).vector q ((begin n).vector p k q) f ≤ (begin n).vector p k f
  knows' p k q f le hq hf = by_eq p q
      (λ e. rw (← e) (omega (arith, ap (λ g. (begin n).vector p g f) (self' p k le))))
      (λ ne. omega (arith, begin_blank q f, ap (λ g. (begin n).vector q g f) (begin_other p k q ne)))

  -- The own pin names checkpoint 0, and the next state is the live one.
  pins_own : (p k : ℕ) → (begin n).pin p p ≡ Some k → Pinned (begin n) p p k
  pins_own p k e =
      let z : k ≡ 0 = sym (some_same (sym (begin_pin_own p) ∙ e)) in
      rw z (record {
        below = omega (arith, begin_own p);
        less = omega (arith, begin_own p, begin_blank p p, self' p ((begin n).own p) (omega arith));
        next = ap (λ g. (begin n).vector p g p) (sym (begin_own p));
      })

  -- What a pin names is the checkpoint right before its process learnt all that it knows of f.
  pins' : (p f k : ℕ) → f < n → (begin n).pin p f ≡ Some k → Pinned (begin n) p f k
  pins' p f k hf = by_eq p f
      (λ e. rw (← e) (pins_own p k))
      (λ ne d. absurd (none≢some (sym (begin_pin_other p f ne) ∙ d)))

  -- Where a process knows the current interval of f, its pin for f names a checkpoint.
  pinned' : (p f : ℕ) → f < n → (begin n).vector p ((begin n).own p) f ≡ (begin n).own f → (k : ℕ) × ((begin n).pin p f ≡ Some k)
  pinned' p f hf d = by_eq p f
      (λ e. (0, rw (← e) (begin_pin_own p)))
      (λ ne. absurd (omega (arith, begin_other p ((begin n).own p) f ne, begin_own f)))

  -- Each list has the checkpoints below the own entry.
  counted' : (p : ℕ) → (begin n).own p ≡ checkpoints ((begin n).events p)
  unfolding begin checkpoints
  counted' p = refl

  -- Each send and each receipt stands at most once in a list.
  single' : (p : ℕ) (e : HistoryEvent) → (e ≡ stored → ⊥) → times e ((begin n).events p) ≤ 1
  unfolding begin
  single' p e ne = single_end e [] stored (omega (arith, times_none e [] (λ g s. stands_nil s))) (λ q. absurd (ne q))

  -- The invariant holds at the start.
  pub begin_inv : Inv (begin n)
  unfolding begin
  begin_inv = record {
    counted = counted';
    positive = λ p. omega (arith, begin_own p);
    self = self';
    blank = begin_blank;
    rises = rises';
    present = λ p k f hf le. omega (arith, at_most_lem p k f, begin_own f);
    knows = knows';
    proper = λ p g m s. absurd (no_sent p g m s);
    carries = λ p g m f s. absurd (no_sent p g m s);
    arrived = λ p g m s. absurd (no_received p g m s);
    single = single';
    takes = λ p g m f s. absurd (no_received p g m s);
    underway = λ m e. absurd (no_transit m e);
    pending = λ m e. absurd (no_transit m e);
    marked = λ p m s. absurd (no_sent p ((begin n).own p) m s);
    known = λ p k q le hq ne d. absurd (omega (arith, d, begin_other p k q ne, begin_own q));
    source = λ p g m f s. absurd (no_sent p g m s);
    learnt = λ p k f le hf ne pos. absurd (omega (arith, pos, begin_other p k f ne));
    pinned = pinned';
    pins = pins';
  }
