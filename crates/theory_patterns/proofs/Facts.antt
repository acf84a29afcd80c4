-- A trail gives what the verdict asks for: the vectors with their laws, and where knowledge comes from.
-- Assumes nothing.
use Rattle.std.specs.Prelude.{◌≡◌, ◌∷◌, ◌-◌, ◌≤◌, ◌<◌}
use Rattle.laws.specs.Basics.{refl, ◌∙◌, ap, List, [], Some, ℕ, zero, suc, arith, eqb, eq-eqb, ne_eqb, pick, by_eq}
use Rattle.histories.specs.History.{HistoryEvent, stored, sent, received, checkpoints}
use Rattle.theory_patterns.specs.Paths.{event_at, interval, Path, one, onward}
use Rattle.theory_patterns.proofs.{Core.Vectors, Causal.Sources, Placing.first_event, Placing.stands_at, Placing.interval_before, Trail.Trail, Trail.own, Trail.Right}

-- Places that come later have higher intervals, or the same.
pub interval_rises : (l : List HistoryEvent) (i j : ℕ) → i ≤ j → interval l i ≤ interval l j
unfolding interval
interval_rises [] i j h = omega arith
interval_rises (x ∷ l) zero j h = omega arith
interval_rises (x ∷ l) (suc i) zero h = absurd (omega arith)
interval_rises (stored ∷ l) (suc i) (suc j) h = omega (arith, interval_rises l i j (omega arith))
interval_rises (sent m ∷ l) (suc i) (suc j) h = interval_rises l i j (omega arith)
interval_rises (received m ∷ l) (suc i) (suc j) h = interval_rises l i j (omega arith)

module _ (t : Trail) (v : Right t) where
  -- A receipt of a message that carries e of f ends a path from checkpoint e - 1 of f.
  pub carried_path : (bound m q j f e : ℕ) → m < bound → event_at (t.lists q) j ≡ Some (received m) → 1 ≤ e → e ≤ t.carried m f → Path t.lists f (e - 1) q (interval (t.lists q) j)
  carried_path zero m q j f e lt r pos le = absurd (omega arith)
  carried_path (suc bound) m q j f e lt r pos le =
      let w = v.arrived q j m r in
      let received-there = stands_at (t.lists q) j (received m) r in
      let sent-there = stands_at (t.lists w.0) w.1 (sent m) w.2 in
      by_eq w.0 f
      (λ c.
      let at_f : event_at (t.lists f) w.1 ≡ Some (sent m) = rw c at w.2 in
      let number : t.carried m f ≡ interval (t.lists f) w.1 = v.sends f w.1 m at_f in
      one {m = m} (stands_at (t.lists f) w.1 (sent m) at_f) (omega (arith, number, le, pos)) received-there)
      (λ ne.
      let o = v.source w.0 w.1 m f w.2 ne (omega (arith, pos, le)) in
      let before = carried_path bound o.0 w.0 o.1 f e (omega (arith, o.4)) o.2 pos (omega (arith, le, o.5)) in
      onward {m = m} before sent-there (interval_rises (t.lists w.0) o.1 w.1 (omega (arith, o.3))) received-there)

  unfoldable pub vectors : Vectors t.lists
  vectors = record {
    vector = t.vector;
    carried = t.carried;
    rises = v.rises;
    sends = λ p g m s. v.sends p s.0 m s.1 ∙ s.2;
    takes = λ p h m f s. omega (arith, v.takes p s.0 m f s.1, ap (λ (k : ℕ). t.vector p k f) s.2);
    learnt = λ p k f le ne pos.
        let w = v.heard p k f le ne pos in
        (interval (t.lists p) w.1, carried_path (suc w.0) w.0 p w.1 f (t.vector p k f) (omega arith) w.2 pos w.4, interval_before (t.lists p) w.1 k (omega (arith, w.3)));
    self = v.self;
  }

  pub sources : Sources t.lists vectors
  unfolding vectors
  sources = record { ordered = v.ordered; arrived = v.arrived; source = v.source; heard = v.heard }

-- The start: each list is checkpoint 0.
unfoldable pub begin : Trail
begin = record { lists = λ p. stored ∷ []; last = 0; vector = λ p k f. pick (eqb k 0) 0 (pick (eqb p f) 1 0); carried = λ m f. 0 }

no_event : (p i : ℕ) (e : HistoryEvent) → event_at (begin.lists p) i ≡ Some e → e ≡ stored
unfolding begin
no_event p i e h = first_event i e h

no_sent : (p i m : ℕ) → event_at (begin.lists p) i ≡ Some (sent m) → ⊥
no_sent p i m h = let c = no_event p i (sent m) h in let z : ◌≡◌ {A = ℕ} 0 1 = cc in omega arith

no_received : (p i m : ℕ) → event_at (begin.lists p) i ≡ Some (received m) → ⊥
no_received p i m h = let c = no_event p i (received m) h in let z : ◌≡◌ {A = ℕ} 0 1 = cc in omega arith

own_begin : (p : ℕ) → own begin p ≡ 1
unfolding begin checkpoints
own_begin p = refl

begin_zero : (p f : ℕ) → begin.vector p 0 f ≡ 0
unfolding begin
begin_zero p f = refl

begin_own : (p : ℕ) → begin.vector p 1 p ≡ 1
unfolding begin
begin_own p = rw (eq-eqb p p refl)

begin_other : (p f : ℕ) → (p ≡ f → ⊥) → begin.vector p 1 f ≡ 0
unfolding begin
begin_other p f ne = rw (ne_eqb p f ne)

by_state : (P : ℕ → Type 0) (p k : ℕ) → k ≤ own begin p → P 0 → P 1 → P k
by_state P p zero h a b = a
by_state P p (suc zero) h a b = b
by_state P p (suc (suc k)) h a b = absurd (omega (arith, own_begin p))

pub begin_right : Right begin
begin_right = record {
  self = λ p k h. by_state (λ k. begin.vector p k p ≡ k) p k h (begin_zero p p) (begin_own p);
  rises = λ p k f h. let low : k ≡ 0 = omega (arith, own_begin p) in rw low (omega (arith, begin_zero p f));
  present = λ p k f h. by_state (λ k. begin.vector p k f ≤ own begin f) p k h (omega (arith, begin_zero p f))
      (by_eq p f (λ e. rw e (omega (arith, begin_own f, own_begin f))) (λ ne. omega (arith, begin_other p f ne)));
  fresh = λ p i m f e. absurd (no_sent p i m e);
  sends = λ p i m e. absurd (no_sent p i m e);
  takes = λ p j m f e. absurd (no_received p j m e);
  used = λ p i m e. absurd (no_sent p i m e);
  got = λ p j m e. absurd (no_received p j m e);
  ordered = λ p i j m x f r s lt. absurd (no_sent p i m s);
  arrived = λ q j m e. absurd (no_received q j m e);
  source = λ p i m f e ne pos. absurd (no_sent p i m e);
  heard = λ p k f h ne pos. absurd (by_state (λ k. 1 ≤ begin.vector p k f → ⊥) p k h (λ q. omega (arith, q, begin_zero p f)) (λ q. omega (arith, q, begin_other p f ne)) pos);
}
