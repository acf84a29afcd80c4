-- The vectors of a run without forcing, state by state, and what holds of them after every record: what Core and Causal ask for.
-- Assumes nothing.
use Rattle.std.specs.Prelude.{◌≡◌, ◌∷◌, ◌⊎◌, ◌≤◌, ◌<◌}
use Rattle.laws.specs.Basics.{refl, sym, ◌∙◌, ap, [], Some, inl, inr, ℕ, zero, suc, max, arith, ltb, length, length-append, ltb-true, ltb-false, by_bool, by_eq}
use Rattle.laws.specs.Update.{upd, upd_same, upd_other}
use Rattle.histories.specs.History.{HistoryEvent, stored, sent, received, Lists, checkpoints}
use Rattle.whole_runs.specs.Survival.{added}
use Rattle.histories.proofs.Apart.{same_sent, same_received, sent_stored, received_stored, sent_received}
use Rattle.histories.proofs.Places.{checkpoints_stored, checkpoints_sent, checkpoints_received}
use Rattle.theory_patterns.specs.Paths.{event_at, interval, place_of}
use Rattle.theory_patterns.proofs.Placing.{stands_at, stands_le, place_le, place_end, place_rises, place_in}
use Rattle.theory_patterns.proofs.Adding.{list_same, list_other, event_old, event_new, event_cases, place_old, interval_old, interval_new}

pub record Trail : Type 0 where
  pub lists : Lists
  pub last : ℕ
  -- `vector p k f` is entry f of state k of p, `carried m f` of what message m carried
  pub vector : ℕ → ℕ → ℕ → ℕ
  pub carried : ℕ → ℕ → ℕ

abbrev pub own : Trail → ℕ → ℕ
own t p = checkpoints (t.lists p)

pub record Right (t : Trail) : Type 0 where
  pub self : (p k : ℕ) → k ≤ own t p → t.vector p k p ≡ k
  pub rises : (p k f : ℕ) → k < own t p → t.vector p k f ≤ t.vector p (suc k) f
  pub present : (p k f : ℕ) → k ≤ own t p → t.vector p k f ≤ own t f
  pub fresh : (p i m f : ℕ) → event_at (t.lists p) i ≡ Some (sent m) → t.carried m f ≤ own t f
  pub sends : (p i m : ℕ) → event_at (t.lists p) i ≡ Some (sent m) → t.carried m p ≡ interval (t.lists p) i
  pub takes : (p j m f : ℕ) → event_at (t.lists p) j ≡ Some (received m) → t.carried m f ≤ t.vector p (interval (t.lists p) j) f
  pub used : (p i m : ℕ) → event_at (t.lists p) i ≡ Some (sent m) → m ≤ t.last
  pub got : (p j m : ℕ) → event_at (t.lists p) j ≡ Some (received m) → m ≤ t.last
  pub ordered : (p i j m x f : ℕ) → event_at (t.lists p) j ≡ Some (received x) → event_at (t.lists p) i ≡ Some (sent m) → j < i → t.carried x f ≤ t.carried m f
  pub arrived : (q j m : ℕ) → event_at (t.lists q) j ≡ Some (received m) → (p : ℕ) × (i : ℕ) × (event_at (t.lists p) i ≡ Some (sent m))
  pub source : (p i m f : ℕ) → event_at (t.lists p) i ≡ Some (sent m) → (p ≡ f → ⊥) → 1 ≤ t.carried m f
      → (x : ℕ) × (j : ℕ) × (event_at (t.lists p) j ≡ Some (received x)) × (j < i) × (x < m) × (t.carried m f ≤ t.carried x f)
  pub heard : (p k f : ℕ) → k ≤ own t p → (p ≡ f → ⊥) → 1 ≤ t.vector p k f
      → (x : ℕ) × (j : ℕ) × (event_at (t.lists p) j ≡ Some (received x)) × (j < place_of k (t.lists p)) × (t.vector p k f ≤ t.carried x f)

-- What state k of p knows of f, p received in a message before that state.
abbrev Hears : Trail → ℕ → ℕ → ℕ → Type 0
Hears t p k f = (x : ℕ) × (j : ℕ) × (event_at (t.lists p) j ≡ Some (received x)) × (j < place_of k (t.lists p)) × (t.vector p k f ≤ t.carried x f)

module _ (t : Trail) (v : Right t) where
  -- States of one process know more and more; an event's interval is at most the live one.
  higher : (p k j f : ℕ) → k ≤ j → j ≤ own t p → t.vector p k f ≤ t.vector p j f
  higher p k zero f h l = by_eq k zero (λ e. rw e (omega arith)) (λ ne. absurd (omega arith))
  higher p k (suc j) f h l = by_eq k (suc j)
      (λ e. rw e (omega arith))
      (λ ne. omega (arith, higher p k j f (omega arith) (omega arith), v.rises p j f (omega arith)))

  inside : (p j : ℕ) (e : HistoryEvent) → event_at (t.lists p) j ≡ Some e → interval (t.lists p) j ≤ own t p
  inside p j e h = stands_le (t.lists p) (stands_at (t.lists p) j e h)

  within : (p j : ℕ) (e : HistoryEvent) → event_at (t.lists p) j ≡ Some e → j ≤ length (t.lists p)
  within p j e h = omega (arith, place_in (t.lists p) j e h)

  -- Checkpoint at i.
  module _ (i : ℕ) where
    unfoldable pub storing : Trail
    storing = record {
      lists = added t.lists i stored;
      last = t.last;
      vector = upd t.vector i (upd (t.vector i) (suc (own t i)) (upd (t.vector i (own t i)) i (suc (own t i))));
      carried = t.carried;
    }

    own_same : own storing i ≡ suc (own t i)
    unfolding storing
    own_same = rw (list_same t.lists i stored) (checkpoints_stored (t.lists i))

    own_other : (p : ℕ) → (p ≡ i → ⊥) → own storing p ≡ own t p
    unfolding storing
    own_other p ne = rw (list_other t.lists i stored p ne)

    own_least : (p : ℕ) → own t p ≤ own storing p
    own_least p = by_eq p i (λ e. rw e (omega (arith, own_same))) (λ ne. omega (arith, own_other p ne))

    vector_old : (p k f : ℕ) → k ≤ own t p → storing.vector p k f ≡ t.vector p k f
    unfolding storing
    vector_old p k f h = by_eq p i
        (λ e. let low : k ≡ suc (own t i) → ⊥ = λ q. omega (arith, h, q, ap (own t) e) in
        rw (e, upd_same t.vector i) (ap (λ (g : ℕ → ℕ). g f) (upd_other (t.vector i) (suc (own t i)) (upd (t.vector i (own t i)) i (suc (own t i))) k low)))
        (λ ne. ap (λ (g : ℕ → ℕ → ℕ). g k f) (upd_other t.vector i _ p ne))

    vector_new : (f : ℕ) → storing.vector i (suc (own t i)) f ≡ upd (t.vector i (own t i)) i (suc (own t i)) f
    unfolding storing
    vector_new f = rw (upd_same t.vector i) (ap (λ (g : ℕ → ℕ). g f) (upd_same (t.vector i) (suc (own t i)) _))

    new_own : storing.vector i (suc (own t i)) i ≡ suc (own t i)
    new_own = vector_new i ∙ upd_same (t.vector i (own t i)) i (suc (own t i))

    new_other : (f : ℕ) → (f ≡ i → ⊥) → storing.vector i (suc (own t i)) f ≡ t.vector i (own t i) f
    new_other f ne = vector_new f ∙ upd_other (t.vector i (own t i)) i (suc (own t i)) f ne

    -- A state is one of before, or the new live state of i.
    state_cases : (p k : ℕ) → k ≤ own storing p → (k ≤ own t p) ⊎ ((p ≡ i) × (k ≡ suc (own t i)))
    state_cases p k h = by_eq p i
        (λ e. by_eq k (suc (own t i)) (λ q. inr (e, q)) (λ nq. inl (omega (arith, h, ap (own storing) e, own_same, nq, ap (own t) e))))
        (λ ne. inl (omega (arith, h, own_other p ne)))

    sent_old : (p j m : ℕ) → event_at (storing.lists p) j ≡ Some (sent m) → event_at (t.lists p) j ≡ Some (sent m)
    unfolding storing
    sent_old p j m h = elim (event_cases t.lists i stored p j (sent m) h) [ inl w ↦ w | inr w ↦ absurd (sent_stored m (sym w.2)) ]

    received_old : (p j m : ℕ) → event_at (storing.lists p) j ≡ Some (received m) → event_at (t.lists p) j ≡ Some (received m)
    unfolding storing
    received_old p j m h = elim (event_cases t.lists i stored p j (received m) h) [ inl w ↦ w | inr w ↦ absurd (received_stored m (sym w.2)) ]

    still : (p j : ℕ) (e : HistoryEvent) → event_at (t.lists p) j ≡ Some e → event_at (storing.lists p) j ≡ Some e
    unfolding storing
    still p j e h = event_old t.lists i stored p j e h

    same_interval : (p j : ℕ) (e : HistoryEvent) → event_at (t.lists p) j ≡ Some e → interval (storing.lists p) j ≡ interval (t.lists p) j
    unfolding storing
    same_interval p j e h = interval_old t.lists i stored p j (within p j e h)

    later_place : (p k : ℕ) → place_of k (t.lists p) ≤ place_of k (storing.lists p)
    unfolding storing
    later_place p k = place_old t.lists i stored p k

    stored_self : (p k : ℕ) → k ≤ own storing p → storing.vector p k p ≡ k
    stored_self p k h = elim (state_cases p k h) [
      | inl le ↦ vector_old p k p le ∙ v.self p k le
      | inr e ↦ rw (e.0, e.1) new_own
    ]

    next_entry : (f : ℕ) → t.vector i (own t i) f ≤ storing.vector i (suc (own t i)) f
    next_entry f = by_eq f i (λ e. rw e (omega (arith, new_own, v.self i (own t i) (omega arith)))) (λ ne. omega (arith, new_other f ne))

    stored_rises : (p k f : ℕ) → k < own storing p → storing.vector p k f ≤ storing.vector p (suc k) f
    stored_rises p k f h = elim (state_cases p (suc k) h) [
      | inl le ↦ omega (arith, vector_old p k f (omega arith), vector_old p (suc k) f le, v.rises p k f (omega arith))
      | inr e ↦ (let kk : k ≡ own t i = omega (arith, e.1) in rw (e.0, kk) (omega (arith, vector_old i (own t i) f (omega arith), next_entry f)))
    ]

    stored_present : (p k f : ℕ) → k ≤ own storing p → storing.vector p k f ≤ own storing f
    stored_present p k f h = elim (state_cases p k h) [
      | inl le ↦ omega (arith, vector_old p k f le, v.present p k f le, own_least f)
      | inr e ↦ rw (e.0, e.1) (by_eq f i (λ q. rw q (omega (arith, new_own, own_same))) (λ ne. omega (arith, new_other f ne, v.present i (own t i) f (omega arith), own_least f)))
    ]

    new_heard : (f : ℕ) → (f ≡ i → ⊥) → 1 ≤ t.vector i (own t i) f → Hears storing i (suc (own t i)) f
    unfolding storing
    new_heard f ne pos =
        let w = v.heard i (own t i) f (omega arith) (λ q. ne (sym q)) pos in
        let higher-place : place_of (own t i) (storing.lists i) < place_of (suc (own t i)) (storing.lists i) = place_rises (storing.lists i) (own t i) (suc (own t i)) (omega arith) (omega (arith, own_same)) in
        (w.0, w.1, still i w.1 (received w.0) w.2, omega (arith, w.3, later_place i (own t i), higher-place), omega (arith, w.4, new_other f ne))

    stored_heard : (p k f : ℕ) → k ≤ own storing p → (p ≡ f → ⊥) → 1 ≤ storing.vector p k f → Hears storing p k f
    unfolding storing
    stored_heard p k f h ne pos = elim (state_cases p k h) [
      | inl le ↦ (let w = v.heard p k f le ne (omega (arith, pos, vector_old p k f le)) in
          (w.0, w.1, still p w.1 (received w.0) w.2, omega (arith, w.3, later_place p k), omega (arith, w.4, vector_old p k f le)))
      | inr e ↦ at_new p k e.0 e.1 ne pos
    ]
      where
        at_new : (p k : ℕ) → p ≡ i → k ≡ suc (own t i) → (p ≡ f → ⊥) → 1 ≤ storing.vector p k f → Hears storing p k f
        at_new p k e d = rw (e, d) (λ ne pos. new_heard f (λ q. ne (sym q)) (omega (arith, pos, new_other f (λ q. ne (sym q)))))

    pub storing_right : Right storing
    unfolding storing
    storing_right = record {
      self = stored_self;
      rises = stored_rises;
      present = stored_present;
      fresh = λ p j m f e. omega (arith, v.fresh p j m f (sent_old p j m e), own_least f);
      sends = λ p j m e. v.sends p j m (sent_old p j m e) ∙ sym (same_interval p j (sent m) (sent_old p j m e));
      takes = λ p j m f e.
          let o = received_old p j m e in
          let g = same_interval p j (received m) o in
          omega (arith, v.takes p j m f o, vector_old p (interval (t.lists p) j) f (inside p j (received m) o), ap (λ (k : ℕ). storing.vector p k f) g);
      used = λ p j m e. v.used p j m (sent_old p j m e);
      got = λ p j m e. v.got p j m (received_old p j m e);
      ordered = λ p a b m x f r s lt. v.ordered p a b m x f (received_old p b x r) (sent_old p a m s) lt;
      arrived = λ q j m e. let w = v.arrived q j m (received_old q j m e) in (w.0, w.1, still w.0 w.1 (sent m) w.2);
      source = λ p a m f e ne pos. let w = v.source p a m f (sent_old p a m e) ne pos in (w.0, w.1, still p w.1 (received w.0) w.2, w.3, w.4, w.5);
      heard = stored_heard;
    }

  -- Send from i: the next number.
  module _ (i : ℕ) where
    unfoldable pub sending : Trail
    sending = record {
      lists = added t.lists i (sent (suc t.last));
      last = suc t.last;
      vector = t.vector;
      carried = upd t.carried (suc t.last) (t.vector i (own t i));
    }

    own_sent : (p : ℕ) → own sending p ≡ own t p
    unfolding sending
    own_sent p = by_eq p i
        (λ e. rw (e, list_same t.lists i (sent (suc t.last))) (checkpoints_sent (t.lists i) (suc t.last)))
        (λ ne. rw (list_other t.lists i (sent (suc t.last)) p ne))

    pub carried_old : (m f : ℕ) → m ≤ t.last → sending.carried m f ≡ t.carried m f
    unfolding sending
    carried_old m f h = ap (λ (g : ℕ → ℕ). g f) (upd_other t.carried (suc t.last) (t.vector i (own t i)) m (λ e. omega arith))

    pub carried_new : (f : ℕ) → sending.carried (suc t.last) f ≡ t.vector i (own t i) f
    unfolding sending
    carried_new f = ap (λ (g : ℕ → ℕ). g f) (upd_same t.carried (suc t.last) (t.vector i (own t i)))

    sent_cases : (p j m : ℕ) → event_at (sending.lists p) j ≡ Some (sent m) → (event_at (t.lists p) j ≡ Some (sent m)) ⊎ ((p ≡ i) × (j ≡ length (t.lists i)) × (m ≡ suc t.last))
    unfolding sending
    sent_cases p j m h = elim (event_cases t.lists i (sent (suc t.last)) p j (sent m) h) [ inl w ↦ inl w | inr w ↦ inr (w.0, w.1, sym (same_sent (suc t.last) m w.2)) ]

    received_then : (p j m : ℕ) → event_at (sending.lists p) j ≡ Some (received m) → event_at (t.lists p) j ≡ Some (received m)
    unfolding sending
    received_then p j m h = elim (event_cases t.lists i (sent (suc t.last)) p j (received m) h) [ inl w ↦ w | inr w ↦ absurd (sent_received (suc t.last) m w.2) ]

    still_there : (p j : ℕ) (e : HistoryEvent) → event_at (t.lists p) j ≡ Some e → event_at (sending.lists p) j ≡ Some e
    unfolding sending
    still_there p j e h = event_old t.lists i (sent (suc t.last)) p j e h

    interval_then : (p j : ℕ) (e : HistoryEvent) → event_at (t.lists p) j ≡ Some e → interval (sending.lists p) j ≡ interval (t.lists p) j
    unfolding sending
    interval_then p j e h = interval_old t.lists i (sent (suc t.last)) p j (within p j e h)

    -- What i has received, its send carries.
    knows_received : (j x f : ℕ) → event_at (t.lists i) j ≡ Some (received x) → t.carried x f ≤ t.vector i (own t i) f
    knows_received j x f e = omega (arith, v.takes i j x f e, higher i (interval (t.lists i) j) (own t i) f (inside i j (received x) e) (omega arith))

    sent_ordered : (p a b m x f : ℕ) → event_at (sending.lists p) b ≡ Some (received x) → event_at (sending.lists p) a ≡ Some (sent m) → b < a → sending.carried x f ≤ sending.carried m f
    sent_ordered p a b m x f r s lt = elim (sent_cases p a m s) [
      | inl w ↦ omega (arith, carried_old x f (v.got p b x (received_then p b x r)), carried_old m f (v.used p a m w), v.ordered p a b m x f (received_then p b x r) w lt)
      | inr w ↦ (
          let mine : event_at (t.lists i) b ≡ Some (received x) = rw w.0 at (received_then p b x r) in
          let number : sending.carried m f ≡ sending.carried (suc t.last) f = ap (λ (k : ℕ). sending.carried k f) w.2 in
          omega (arith, carried_old x f (v.got i b x mine), number, carried_new f, knows_received b x f mine))
    ]

    -- Where a message's knowledge of another comes from.
    Origin : Trail → ℕ → ℕ → ℕ → ℕ → Type 0
    Origin u p a m f = (x : ℕ) × (j : ℕ) × (event_at (u.lists p) j ≡ Some (received x)) × (j < a) × (x < m) × (u.carried m f ≤ u.carried x f)

    sent_source : (p a m f : ℕ) → event_at (sending.lists p) a ≡ Some (sent m) → (p ≡ f → ⊥) → 1 ≤ sending.carried m f → Origin sending p a m f
    unfolding Origin
    sent_source p a m f e ne pos = elim (sent_cases p a m e) [
      | inl w ↦ (let o = v.source p a m f w ne (omega (arith, pos, carried_old m f (v.used p a m w))) in
          let old = v.got p o.1 o.0 o.2 in
          (o.0, o.1, still_there p o.1 (received o.0) o.2, o.3, o.4, omega (arith, o.5, carried_old m f (v.used p a m w), carried_old o.0 f old)))
      | inr w ↦ at_new p a m w.0 w.1 w.2 ne pos
    ]
      where
        at_new : (p a m : ℕ) → p ≡ i → a ≡ length (t.lists i) → m ≡ suc t.last → (p ≡ f → ⊥) → 1 ≤ sending.carried m f → Origin sending p a m f
        at_new p a m c d g = rw (c, d, g) (λ ne pos.
            let o = v.heard i (own t i) f (omega arith) ne (omega (arith, pos, carried_new f)) in
            let old = v.got i o.1 o.0 o.2 in
            (o.0, o.1, still_there i o.1 (received o.0) o.2, omega (arith, o.3, place_le (t.lists i) (own t i)), omega (arith, old), omega (arith, o.4, carried_new f, carried_old o.0 f old)))

    sent_fresh : (p a m f : ℕ) → event_at (sending.lists p) a ≡ Some (sent m) → sending.carried m f ≤ own sending f
    sent_fresh p a m f e = elim (sent_cases p a m e) [
      | inl w ↦ omega (arith, carried_old m f (v.used p a m w), v.fresh p a m f w, own_sent f)
      | inr w ↦ (let number : sending.carried m f ≡ sending.carried (suc t.last) f = ap (λ (k : ℕ). sending.carried k f) w.2 in
          omega (arith, number, carried_new f, v.present i (own t i) f (omega arith), own_sent f))
    ]

    sent_sends : (p a m : ℕ) → event_at (sending.lists p) a ≡ Some (sent m) → sending.carried m p ≡ interval (sending.lists p) a
    sent_sends p a m e = elim (sent_cases p a m e) [
      | inl w ↦ carried_old m p (v.used p a m w) ∙ v.sends p a m w ∙ sym (interval_then p a (sent m) w)
      | inr w ↦ at_new p a m w.0 w.1 w.2
    ]
      where
        new_interval : interval (sending.lists i) (length (t.lists i)) ≡ own t i
        new_interval = unfold sending in interval_new t.lists i (sent (suc t.last))

        at_new : (p a m : ℕ) → p ≡ i → a ≡ length (t.lists i) → m ≡ suc t.last → sending.carried m p ≡ interval (sending.lists p) a
        at_new p a m c d g = rw (c, d, g) (carried_new i ∙ v.self i (own t i) (omega arith) ∙ sym new_interval)

    pub sending_right : Right sending
    unfolding Origin
    sending_right = record {
      self = λ p k h. unfold sending in v.self p k (rw (own_sent p) at h);
      rises = λ p k f h. unfold sending in v.rises p k f (rw (own_sent p) at h);
      present = λ p k f h. rw (own_sent f) (unfold sending in v.present p k f (rw (own_sent p) at h));
      fresh = sent_fresh;
      sends = sent_sends;
      takes = λ p j m f e. sent_takes p j m f e;
      used = λ p a m e. elim (sent_cases p a m e) [ inl w ↦ (unfold sending in omega (arith, v.used p a m w)) | inr w ↦ (unfold sending in omega (arith, w.2)) ];
      got = λ p j m e. unfold sending in omega (arith, v.got p j m (received_then p j m e));
      ordered = sent_ordered;
      arrived = λ q j m e. let w = v.arrived q j m (received_then q j m e) in (w.0, w.1, still_there w.0 w.1 (sent m) w.2);
      source = sent_source;
      heard = sent_heard;
    }
      where
        sent_takes : (p j m f : ℕ) → event_at (sending.lists p) j ≡ Some (received m) → sending.carried m f ≤ sending.vector p (interval (sending.lists p) j) f
        sent_takes p j m f e =
            let o = received_then p j m e in
            rw (interval_then p j (received m) o, carried_old m f (v.got p j m o)) (unfold sending in v.takes p j m f o)

        sent_heard : (p k f : ℕ) → k ≤ own sending p → (p ≡ f → ⊥) → 1 ≤ sending.vector p k f → Hears sending p k f
        sent_heard p k f h ne pos =
            let w = v.heard p k f (rw (own_sent p) at h) ne (unfold sending in pos) in
            let old = v.got p w.1 w.0 w.2 in
            (w.0, w.1, still_there p w.1 (received w.0) w.2, omega (arith, w.3, grown p k), omega (arith, w.4, carried_old w.0 f old, same_vector p k f))
          where
            grown : (p k : ℕ) → place_of k (t.lists p) ≤ place_of k (sending.lists p)
            grown p k = unfold sending in place_old t.lists i (sent (suc t.last)) p k

            same_vector : (p k f : ℕ) → sending.vector p k f ≡ t.vector p k f
            same_vector p k f = unfold sending in refl

  -- i receives message m, which was sent.
  module _ (i m : ℕ) (sender : ℕ) (place : ℕ) (was_sent : event_at (t.lists sender) place ≡ Some (sent m)) where
    unfoldable pub receiving : Trail
    receiving = record {
      lists = added t.lists i (received m);
      last = t.last;
      vector = upd t.vector i (upd (t.vector i) (own t i) (λ f. max (t.vector i (own t i) f) (t.carried m f)));
      carried = t.carried;
    }

    own_kept : (p : ℕ) → own receiving p ≡ own t p
    unfolding receiving
    own_kept p = by_eq p i
        (λ e. rw (e, list_same t.lists i (received m)) (checkpoints_received (t.lists i) m))
        (λ ne. rw (list_other t.lists i (received m) p ne))

    live_new : (f : ℕ) → receiving.vector i (own t i) f ≡ max (t.vector i (own t i) f) (t.carried m f)
    unfolding receiving
    live_new f = rw (upd_same t.vector i) (ap (λ (g : ℕ → ℕ). g f) (upd_same (t.vector i) (own t i) _))

    state_old : (p k f : ℕ) → (p ≡ i → k ≡ own t i → ⊥) → receiving.vector p k f ≡ t.vector p k f
    unfolding receiving
    state_old p k f apart = by_eq p i
        (λ e. rw (e, upd_same t.vector i) (ap (λ (g : ℕ → ℕ). g f) (upd_other (t.vector i) (own t i) (λ f. max (t.vector i (own t i) f) (t.carried m f)) k (apart e))))
        (λ ne. ap (λ (g : ℕ → ℕ → ℕ). g k f) (upd_other t.vector i _ p ne))

    -- A state is the live one of i, or is as it was.
    which : (p k : ℕ) → ((p ≡ i) × (k ≡ own t i)) ⊎ ((f : ℕ) → receiving.vector p k f ≡ t.vector p k f)
    which p k = by_eq p i
        (λ e. by_eq k (own t i) (λ q. inl (e, q)) (λ nq. inr (λ f. state_old p k f (λ a b. nq b))))
        (λ ne. inr (λ f. state_old p k f (λ a b. ne a)))

    risen : (p k f : ℕ) → t.vector p k f ≤ receiving.vector p k f
    risen p k f = elim (which p k) [ inl e ↦ rw (e.0, e.1) (omega (arith, live_new f)) | inr o ↦ omega (arith, o f) ]

    sent_before : (p j x : ℕ) → event_at (receiving.lists p) j ≡ Some (sent x) → event_at (t.lists p) j ≡ Some (sent x)
    unfolding receiving
    sent_before p j x h = elim (event_cases t.lists i (received m) p j (sent x) h) [ inl w ↦ w | inr w ↦ absurd (sent_received x m (sym w.2)) ]

    received_cases : (p j x : ℕ) → event_at (receiving.lists p) j ≡ Some (received x) → (event_at (t.lists p) j ≡ Some (received x)) ⊎ ((p ≡ i) × (j ≡ length (t.lists i)) × (x ≡ m))
    unfolding receiving
    received_cases p j x h = elim (event_cases t.lists i (received m) p j (received x) h) [ inl w ↦ inl w | inr w ↦ inr (w.0, w.1, sym (same_received m x w.2)) ]

    there_still : (p j : ℕ) (e : HistoryEvent) → event_at (t.lists p) j ≡ Some e → event_at (receiving.lists p) j ≡ Some e
    unfolding receiving
    there_still p j e h = event_old t.lists i (received m) p j e h

    interval_kept : (p j : ℕ) (e : HistoryEvent) → event_at (t.lists p) j ≡ Some e → interval (receiving.lists p) j ≡ interval (t.lists p) j
    unfolding receiving
    interval_kept p j e h = interval_old t.lists i (received m) p j (within p j e h)

    interval_live : interval (receiving.lists i) (length (t.lists i)) ≡ own t i
    unfolding receiving
    interval_live = interval_new t.lists i (received m)

    live_place : place_of (own t i) (receiving.lists i) ≡ suc (length (t.lists i))
    unfolding receiving
    live_place =
        let end = place_end (receiving.lists i) (own t i) (omega (arith, own_kept i)) in
        end ∙ ap length (list_same t.lists i (received m)) ∙ length-append (t.lists i) (received m ∷ []) ∙ omega arith

    place_kept : (p k : ℕ) → place_of k (t.lists p) ≤ place_of k (receiving.lists p)
    unfolding receiving
    place_kept p k = place_old t.lists i (received m) p k

    carried_same : (x f : ℕ) → receiving.carried x f ≡ t.carried x f
    unfolding receiving
    carried_same x f = refl

    got_self : (p k : ℕ) → k ≤ own receiving p → receiving.vector p k p ≡ k
    got_self p k h = elim (which p k) [
      | inl e ↦ rw (e.0, e.1) (omega (arith, live_new i, v.self i (own t i) (omega arith), v.fresh sender place m i was_sent))
      | inr o ↦ o p ∙ v.self p k (rw (own_kept p) at h)
    ]

    got_rises : (p k f : ℕ) → k < own receiving p → receiving.vector p k f ≤ receiving.vector p (suc k) f
    got_rises p k f h =
        let low : k < own t p = rw (own_kept p) at h in
        omega (arith, state_old p k f (λ a b. omega (arith, low, b, ap (own t) a)), v.rises p k f low, risen p (suc k) f)

    got_present : (p k f : ℕ) → k ≤ own receiving p → receiving.vector p k f ≤ own receiving f
    got_present p k f h = elim (which p k) [
      | inl e ↦ rw (e.0, e.1) (omega (arith, live_new f, own_kept f, v.present i (own t i) f (omega arith), v.fresh sender place m f was_sent))
      | inr o ↦ omega (arith, o f, own_kept f, v.present p k f (rw (own_kept p) at h))
    ]

    got_takes : (p j x f : ℕ) → event_at (receiving.lists p) j ≡ Some (received x) → receiving.carried x f ≤ receiving.vector p (interval (receiving.lists p) j) f
    got_takes p j x f e = elim (received_cases p j x e) [
      | inl w ↦ rw (interval_kept p j (received x) w) (omega (arith, carried_same x f, v.takes p j x f w, risen p (interval (t.lists p) j) f))
      | inr w ↦ at_new p j x w.0 w.1 w.2
    ]
      where
        at_new : (p j x : ℕ) → p ≡ i → j ≡ length (t.lists i) → x ≡ m → receiving.carried x f ≤ receiving.vector p (interval (receiving.lists p) j) f
        at_new p j x a b c = rw (a, b, c, interval_live) (omega (arith, carried_same m f, live_new f))

    got_ordered : (p a b y x f : ℕ) → event_at (receiving.lists p) b ≡ Some (received x) → event_at (receiving.lists p) a ≡ Some (sent y) → b < a → receiving.carried x f ≤ receiving.carried y f
    got_ordered p a b y x f r s lt = elim (received_cases p b x r) [
      | inl w ↦ omega (arith, carried_same x f, carried_same y f, v.ordered p a b y x f w (sent_before p a y s) lt)
      | inr w ↦ absurd (omega (arith, w.1, lt, place_in (t.lists p) a (sent y) (sent_before p a y s), ap (λ (q : ℕ). length (t.lists q)) w.0))
    ]

    live_heard : (f : ℕ) → (i ≡ f → ⊥) → 1 ≤ receiving.vector i (own t i) f → Hears receiving i (own t i) f
    live_heard f ne pos = by_bool (ltb (t.vector i (own t i) f) (t.carried m f))
        (λ q. (m, length (t.lists i), new_event, omega (arith, live_place), omega (arith, ltb-true (t.vector i (own t i) f) (t.carried m f) q, live_new f, carried_same m f)))
        (λ q.
        let low = ltb-false (t.vector i (own t i) f) (t.carried m f) q in
        let w = v.heard i (own t i) f (omega arith) ne (omega (arith, pos, live_new f, low)) in
        (w.0, w.1, there_still i w.1 (received w.0) w.2, omega (arith, w.3, place_kept i (own t i)), omega (arith, w.4, live_new f, low, carried_same w.0 f)))
      where
        new_event : event_at (receiving.lists i) (length (t.lists i)) ≡ Some (received m)
        new_event = unfold receiving in event_new t.lists i (received m)

    got_heard : (p k f : ℕ) → k ≤ own receiving p → (p ≡ f → ⊥) → 1 ≤ receiving.vector p k f → Hears receiving p k f
    got_heard p k f h ne pos = elim (which p k) [
      | inl e ↦ at_live p k e.0 e.1 ne pos
      | inr o ↦ (let w = v.heard p k f (rw (own_kept p) at h) ne (omega (arith, pos, o f)) in
          (w.0, w.1, there_still p w.1 (received w.0) w.2, omega (arith, w.3, place_kept p k), omega (arith, w.4, o f, carried_same w.0 f)))
    ]
      where
        at_live : (p k : ℕ) → p ≡ i → k ≡ own t i → (p ≡ f → ⊥) → 1 ≤ receiving.vector p k f → Hears receiving p k f
        at_live p k a b = rw (a, b) (live_heard f)

    pub receiving_right : Right receiving
    receiving_right = record {
      self = got_self;
      rises = got_rises;
      present = got_present;
      fresh = λ p a x f e. omega (arith, carried_same x f, own_kept f, v.fresh p a x f (sent_before p a x e));
      sends = λ p a x e. carried_same x p ∙ v.sends p a x (sent_before p a x e) ∙ sym (interval_kept p a (sent x) (sent_before p a x e));
      takes = got_takes;
      used = λ p a x e. unfold receiving in v.used p a x (sent_before p a x e);
      got = λ p j x e. elim (received_cases p j x e) [ inl w ↦ (unfold receiving in v.got p j x w) | inr w ↦ (unfold receiving in rw w.2 (v.used sender place m was_sent)) ];
      ordered = got_ordered;
      arrived = λ q j x e. elim (received_cases q j x e) [
        | inl w ↦ (let o = v.arrived q j x w in (o.0, o.1, there_still o.0 o.1 (sent x) o.2))
        | inr w ↦ (sender, place, there_still sender place (sent x) (rw w.2 was_sent))
      ];
      source = λ p a x f e ne pos.
          let o = v.source p a x f (sent_before p a x e) ne (omega (arith, pos, carried_same x f)) in
          (o.0, o.1, there_still p o.1 (received o.0) o.2, o.3, o.4, omega (arith, o.5, carried_same x f, carried_same o.0 f));
      heard = got_heard;
    }
