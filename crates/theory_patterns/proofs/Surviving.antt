-- The vectors of a run with recoveries are the vectors of a trail: what the invariant of whole runs says of them by interval, and by place where it says so.
-- A run of n processes says nothing of entries at n and above; a trail has all, so there a state knows of its own process alone.
-- Assumes nothing.
use Rattle.std.specs.Prelude.{◌≡◌, ◌∷◌, ◌+◌, ◌≤◌, ◌<◌}
use Rattle.laws.specs.Basics.{refl, sym, ◌∙◌, ap, List, [], Some, inl, inr, ℕ, zero, suc, arith, eqb, ltb, eq-eqb, ne_eqb, lt-ltb, le-ltb, ltb-true, ltb-false, pick, by_bool, by_eq}
use mathlib.Core.List.Memᴰ
use mathlib.Core.List.{Memᴰ}
use Rattle.laws.specs.Options.{some_same, none≢some}
use Rattle.histories.specs.History.{HistoryEvent, stored, sent, received, checkpoints, before}
use Rattle.histories.proofs.{Apart.same_sent, Apart.received_stored, Places.Stands, Places.first, Places.later, Places.weight, Places.stands_cons, Places.stands_nil, Run.Ideal, Invariant.Inv}
use Rattle.histories.proofs.{Line.rising, Cuts.stands_member, Sources.Sources}
use Rattle.theory_patterns.specs.Paths.{event_at, interval, StandsIn, place_of, Before, Trackable}
use Rattle.theory_patterns.proofs.{Core.Crossing, Causal.by_entry, Causal.entry_by, First.trackable, Trail.Trail, Trail.own, Trail.Right}
use Rattle.theory_patterns.proofs.Placing.{interval_after, place_stored, place_end, place_in, interval_le}
use Rattle.theory_patterns.proofs.Facts.{interval_rises, vectors, sources}

-- An event that stands in an interval has a place there, and one at a place stands in its interval: the invariant's word for it, and the paths'.
counted : (x : HistoryEvent) (l : List HistoryEvent) (i : ℕ) → interval (x ∷ l) (suc i) ≡ weight x + interval l i
unfolding interval weight
counted stored l i = omega arith
counted (sent m) l i = omega arith
counted (received m) l i = omega arith

placed : (l : List HistoryEvent) (e : HistoryEvent) (g : ℕ) → Stands e g l → StandsIn e g l
unfolding event_at interval
placed [] e g s = absurd (stands_nil s)
placed (x ∷ l) e g s = elim (stands_cons s) [
  | inl w ↦ (zero, ap Some (sym w.0), sym w.1)
  | inr w ↦ (let q = placed l e w.0 w.1 in (suc q.0, q.1, counted x l q.0 ∙ ap (λ (k : ℕ). weight x + k) q.2 ∙ sym w.2))
]

stands_at : (l : List HistoryEvent) (i : ℕ) (e : HistoryEvent) → event_at l i ≡ Some e → Stands e (interval l i) l
unfolding event_at interval
stands_at [] i e h = absurd (none≢some h)
stands_at (x ∷ l) zero e h = first {x = x} (sym (some_same h)) refl
stands_at (x ∷ l) (suc i) e h = later {x = x} (stands_at l i e h) (counted x l i)

stands_of : (l : List HistoryEvent) (e : HistoryEvent) (g : ℕ) → StandsIn e g l → Stands e g l
stands_of l e g s = rw (← s.2) (stands_at l s.0 e s.1)

-- What stands before a send has a lower place.
before_place : (m : ℕ) (l : List HistoryEvent) (i : ℕ) (e : HistoryEvent) → event_at l i ≡ Some (sent m) → Memᴰ e (before m l) → (j : ℕ) × (event_at l j ≡ Some e) × (j < i)
unfolding before event_at
before_place m [] i e h s = absurd (none≢some h)
before_place m (stored ∷ l) zero e h s = absurd (let z : ◌≡◌ {A = ℕ} 0 1 = cc in omega arith)
before_place m (received k ∷ l) zero e h s = absurd (let z : ◌≡◌ {A = ℕ} 0 1 = cc in omega arith)
before_place m (sent k ∷ l) zero e h s = absurd (Memᴰ.not-nil (rw (eq-eqb k m (same_sent k m (some_same h))) at s))
before_place m (stored ∷ l) (suc i) e h s = elim (Memᴰ.cases_cons s) [
  | inl q ↦ (zero, ap Some (sym q), omega arith)
  | inr t ↦ (let w = before_place m l i e h t in (suc w.0, w.1, omega (arith, w.2)))
]
before_place m (received k ∷ l) (suc i) e h s = elim (Memᴰ.cases_cons s) [
  | inl q ↦ (zero, ap Some (sym q), omega arith)
  | inr t ↦ (let w = before_place m l i e h t in (suc w.0, w.1, omega (arith, w.2)))
]
before_place m (sent k ∷ l) (suc i) e h s = by_bool (eqb k m)
    (λ b. absurd (Memᴰ.not-nil (rw b at s)))
    (λ b. elim (Memᴰ.cases_cons (rw b at s)) [
      | inl q ↦ (zero, ap Some (sym q), omega arith)
      | inr t ↦ (let w = before_place m l i e h t in (suc w.0, w.1, omega (arith, w.2)))
    ])

-- A receipt in an interval of at most k stands before state k.
in_time : (l : List HistoryEvent) (j x k : ℕ) → event_at l j ≡ Some (received x) → interval l j ≤ k → k ≤ checkpoints l → j < place_of k l
in_time l j x k e le far = by_bool (ltb j (place_of k l))
    (λ b. ltb-true j (place_of k l) b)
    (λ b.
    let late : place_of k l ≤ j = ltb-false j (place_of k l) b in
    by_eq k (checkpoints l)
    (λ c. absurd (omega (arith, place_end l k (omega arith), place_in l j (received x) e)))
    (λ nc. by_eq (place_of k l) j
    (λ d. absurd (received_stored x (some_same (sym e ∙ (rw d at (place_stored l k (omega arith)))))))
    (λ nd. absurd (omega (arith, interval_after l j k (omega arith) (omega arith))))))

module _ (r : Ideal) (v : Inv r) (w : Sources r) where
  unfoldable pub trail_of : Trail
  trail_of = record {
    lists = r.events;
    last = r.last;
    vector = λ p k f. pick (ltb f r.n) (r.vector p k f) (pick (eqb p f) k 0);
    carried = λ m f. pick (ltb f r.n) (r.carried m f) 0;
  }

  pub vector_in : (p k f : ℕ) → f < r.n → trail_of.vector p k f ≡ r.vector p k f
  unfolding trail_of
  vector_in p k f hf = rw (lt-ltb f r.n hf)

  vector_past : (p k f : ℕ) → r.n ≤ f → (p ≡ f → ⊥) → trail_of.vector p k f ≡ 0
  unfolding trail_of
  vector_past p k f hf ne = rw (le-ltb f r.n hf, ne_eqb p f ne)

  vector_self : (p k f : ℕ) → r.n ≤ f → p ≡ f → trail_of.vector p k f ≡ k
  unfolding trail_of
  vector_self p k f hf e = rw (le-ltb f r.n hf, eq-eqb p f e)

  carried_in : (m f : ℕ) → f < r.n → trail_of.carried m f ≡ r.carried m f
  unfolding trail_of
  carried_in m f hf = rw (lt-ltb f r.n hf)

  carried_past : (m f : ℕ) → r.n ≤ f → trail_of.carried m f ≡ 0
  unfolding trail_of
  carried_past m f hf = rw (le-ltb f r.n hf)

  own_is : (p : ℕ) → own trail_of p ≡ r.own p
  unfolding trail_of
  own_is p = sym (v.counted p)

  by_entry_number : {P : Type 0} (f : ℕ) → (f < r.n → P) → (r.n ≤ f → P) → P
  by_entry_number f a b = by_bool (ltb f r.n) (λ e. a (ltb-true f r.n e)) (λ e. b (ltb-false f r.n e))

  -- Events of the lists, by interval.
  at : (p i : ℕ) (e : HistoryEvent) → event_at (r.events p) i ≡ Some e → Stands e (interval (r.events p) i) (r.events p)
  at p i e h = stands_at (r.events p) i e h

  inside : (p i : ℕ) (e : HistoryEvent) → event_at (r.events p) i ≡ Some e → interval (r.events p) i ≤ r.own p
  inside p i e h = omega (arith, interval_le (r.events p) i, v.counted p)

  sender_in : (p g m : ℕ) → Stands (sent m) g (r.events p) → p < r.n
  sender_in p g m s = let a = v.proper p g m s in omega (arith, a.0, a.1.from)

  is_self : (p k : ℕ) → k ≤ own trail_of p → trail_of.vector p k p ≡ k
  is_self p k h = by_entry_number p
      (λ i. vector_in p k p i ∙ v.self p k (omega (arith, h, own_is p)))
      (λ o. vector_self p k p o refl)

  is_rises : (p k f : ℕ) → k < own trail_of p → trail_of.vector p k f ≤ trail_of.vector p (suc k) f
  is_rises p k f h = by_entry_number f
      (λ i. omega (arith, vector_in p k f i, vector_in p (suc k) f i, v.rises p k f (omega (arith, h, own_is p))))
      (λ o. by_eq p f
      (λ e. omega (arith, vector_self p k f o e, vector_self p (suc k) f o e))
      (λ ne. omega (arith, vector_past p k f o ne)))

  is_present : (p k f : ℕ) → k ≤ own trail_of p → trail_of.vector p k f ≤ own trail_of f
  is_present p k f h = by_entry_number f
      (λ i. omega (arith, vector_in p k f i, own_is f, v.present p k f i (omega (arith, h, own_is p))))
      (λ o. by_eq p f
      (λ e. omega (arith, vector_self p k f o e, h, ap (own trail_of) e))
      (λ ne. omega (arith, vector_past p k f o ne)))

  is_fresh : (p i m f : ℕ) → event_at (r.events p) i ≡ Some (sent m) → trail_of.carried m f ≤ own trail_of f
  is_fresh p i m f e = by_entry_number f
      (λ d. omega (arith, carried_in m f d, own_is f, v.carries p (interval (r.events p) i) m f (at p i (sent m) e) d, v.present p (interval (r.events p) i) f d (inside p i (sent m) e)))
      (λ o. omega (arith, carried_past m f o))

  is_sends : (p i m : ℕ) → event_at (r.events p) i ≡ Some (sent m) → trail_of.carried m p ≡ interval (r.events p) i
  is_sends p i m e =
      let s = at p i (sent m) e in
      let d = sender_in p (interval (r.events p) i) m s in
      carried_in m p d ∙ v.carries p (interval (r.events p) i) m p s d ∙ v.self p (interval (r.events p) i) (inside p i (sent m) e)

  is_takes : (p j m f : ℕ) → event_at (r.events p) j ≡ Some (received m) → trail_of.carried m f ≤ trail_of.vector p (interval (r.events p) j) f
  is_takes p j m f e = by_entry_number f
      (λ d. omega (arith, carried_in m f d, vector_in p (interval (r.events p) j) f d, v.takes p (interval (r.events p) j) m f (at p j (received m) e) d))
      (λ o. omega (arith, carried_past m f o))

  is_used : (p i m : ℕ) → event_at (r.events p) i ≡ Some (sent m) → m ≤ r.last
  is_used p i m e = (v.proper p (interval (r.events p) i) m (at p i (sent m) e)).1.used

  is_arrived : (q j m : ℕ) → event_at (r.events q) j ≡ Some (received m) → (p : ℕ) × (i : ℕ) × (event_at (r.events p) i ≡ Some (sent m))
  is_arrived q j m e =
      let a = v.arrived q (interval (r.events q) j) m (at q j (received m) e) in
      let s = placed (r.events (r.sender m)) (sent m) a.1.0 a.1.1 in
      (r.sender m, s.0, s.1)

  -- A receipt before a send: the send's interval is not earlier, and the send carries the vector of its interval.
  is_ordered : (p i j m x f : ℕ) → event_at (r.events p) j ≡ Some (received x) → event_at (r.events p) i ≡ Some (sent m) → j < i → trail_of.carried x f ≤ trail_of.carried m f
  is_ordered p i j m x f e d lt = by_entry_number f
      (λ b.
      let gj = interval (r.events p) j in
      let gi = interval (r.events p) i in
      omega (
        arith,
        carried_in x f b,
        carried_in m f b,
        v.takes p gj x f (at p j (received x) e) b,
        v.carries p gi m f (at p i (sent m) d) b,
        rising r v p f gj gi (interval_rises (r.events p) j i (omega arith)) (inside p i (sent m) d),
      ))
      (λ o. omega (arith, carried_past x f o))

  is_source : (p i m f : ℕ) → event_at (r.events p) i ≡ Some (sent m) → (p ≡ f → ⊥) → 1 ≤ trail_of.carried m f
      → (x : ℕ) × (j : ℕ) × (event_at (r.events p) j ≡ Some (received x)) × (j < i) × (x < m) × (trail_of.carried m f ≤ trail_of.carried x f)
  is_source p i m f e ne pos = by_entry_number f
      (λ b.
      let o = w p m f (stands_member (r.events p) (at p i (sent m) e)) b ne (omega (arith, pos, carried_in m f b)) in
      let q = before_place m (r.events p) i (received o.0) e o.2 in
      (o.0, q.0, q.1, q.2, o.1, omega (arith, o.3, carried_in m f b, carried_in o.0 f b)))
      (λ b. absurd (omega (arith, pos, carried_past m f b)))

  is_heard : (p k f : ℕ) → k ≤ own trail_of p → (p ≡ f → ⊥) → 1 ≤ trail_of.vector p k f
      → (x : ℕ) × (j : ℕ) × (event_at (r.events p) j ≡ Some (received x)) × (j < place_of k (r.events p)) × (trail_of.vector p k f ≤ trail_of.carried x f)
  is_heard p k f h ne pos = by_entry_number f
      (λ b.
      let o = v.learnt p k f (omega (arith, h, own_is p)) b ne (omega (arith, pos, vector_in p k f b)) in
      let q = placed (r.events p) (received o.0) o.1 o.2 in
      (o.0, q.0, q.1, in_time (r.events p) q.0 o.0 k q.1 (omega (arith, q.2, o.3)) (omega (arith, h, own_is p, v.counted p)), omega (arith, o.5, vector_in p k f b, carried_in o.0 f b)))
      (λ b. absurd (omega (arith, pos, vector_past p k f b ne)))

  pub trail_right : Right trail_of
  unfolding trail_of
  trail_right = record {
    self = is_self;
    rises = is_rises;
    present = is_present;
    fresh = is_fresh;
    sends = is_sends;
    takes = is_takes;
    used = is_used;
    got = λ p j m e. let a = is_arrived p j m e in is_used a.0 a.1 m a.2;
    ordered = is_ordered;
    arrived = is_arrived;
    source = is_source;
    heard = is_heard;
  }

  -- 001, equation 2, for every state of the run, deleted or not, and live.
  pub entry_before : (f a p k : ℕ) → f < r.n → a < r.own f → k ≤ r.own p → a < r.vector p k f → Before r.events f a p k
  unfolding trail_of vectors
  entry_before f a p k hf near far lt =
      by_entry r.events (vectors trail_of trail_right) (sources trail_of trail_right) f a (omega (arith, near, v.counted f)) p k (omega (arith, far, v.counted p)) (omega (arith, lt, vector_in p k f hf))

  pub before_entry : (f a p k : ℕ) → f < r.n → a < r.own f → k ≤ r.own p → Before r.events f a p k → a < r.vector p k f
  unfolding trail_of vectors
  before_entry f a p k hf near far o =
      omega (arith, vector_in p k f hf, entry_by r.events (vectors trail_of trail_right) (sources trail_of trail_right) f a (omega (arith, near, v.counted f)) p k (omega (arith, far, v.counted p)) o)

  -- A message carried what the state that ends its sender's interval knows, and its receiver's state knows that.
  none_crosses : (f : ℕ) → Crossing trail_of.lists (vectors trail_of trail_right) f → ⊥
  unfolding trail_of vectors
  none_crosses f c = by_entry_number f
      (λ b. omega (
        arith,
        c.crosses,
        vector_in c.q c.h f b,
        vector_in c.p c.g f b,
        v.carries c.p c.g c.m f (stands_of (r.events c.p) (sent c.m) c.g c.sent_in_lem) b,
        v.takes c.q c.h c.m f (stands_of (r.events c.q) (received c.m) c.h c.received_in) b,
      ))
      (λ o. omega (arith, c.crosses, vector_past c.p c.g f o (λ e. omega (arith, e, sender_in c.p c.g c.m (stands_of (r.events c.p) (sent c.m) c.g c.sent_in_lem)))))

  pub run_trackable : Trackable r.n r.events
  unfolding trail_of
  run_trackable =
      let x = vectors trail_of trail_right in
      let y = sources trail_of trail_right in
      trackable r.n r.events x
      (λ a α b β near far lt. by_entry r.events x y a α near b β far lt)
      (λ a α b β near far o. entry_by r.events x y a α near b β far o)
      none_crosses
