-- A checkpoint keeps the invariant: the live state of i becomes a stored one, and the new live state differs at the own entry alone.
use Rattle.std.specs.Prelude.{◌≡◌, ◌≤◌, ◌<◌}
use Rattle.laws.specs.Basics.{sym, ◌∙◌, ap, true, Some, inl, inr, ℕ, suc, arith, by_eq}
use Rattle.laws.specs.Options.{some_same}
use Rattle.histories.specs.History.{HistoryEvent, stored, sent, received, checkpoints}
use Rattle.histories.proofs.{Places.Stands, Places.checkpoints_stored, Times.times, Times.single_end, Run.Ideal, Run.checkpointed}
use Rattle.histories.proofs.{Invariant.Inv, Invariant.Proper, Invariant.SentOf, Invariant.Informed, Invariant.Pinned, Line.interval}
use Rattle.histories.proofs.CheckpointedViews.{checkpointed_own, checkpointed_own_other, checkpointed_own_le, checkpointed_live_own, checkpointed_live, checkpointed_vector, checkpointed_row, checkpointed_row_other, checkpointed_mark_other, checkpointed_pin, checkpointed_pin_row, checkpointed_pin_column, checkpointed_events, checkpointed_events_other, checkpointed_state, checkpointed_still, checkpointed_sent, checkpointed_received}

module _ (r : Ideal) (i : ℕ) (v : Inv r) where
  -- The run after the step.
  abbrev r' : Ideal
  r' = checkpointed r i

  -- Each list has the checkpoints below the own entry.
  counted' : (p : ℕ) → r'.own p ≡ checkpoints (r'.events p)
  counted' p = by_eq p i
      (λ e. rw e (rw (checkpointed_events r i) ((checkpointed_own r i) ∙ ap suc (v.counted i) ∙ sym (checkpoints_stored (r.events i)))))
      (λ ne. rw (checkpointed_events_other r i p ne) (checkpointed_own_other r i p ne ∙ v.counted p))

  -- A state's own entry is its index.
  self' : (p k : ℕ) → k ≤ r'.own p → r'.vector p k p ≡ k
  self' p k le = elim (checkpointed_state r i p k le) [
    | inl o ↦ checkpointed_vector r i p k p o ∙ v.self p k o
    | inr w ↦ rw (w.0, w.1) (checkpointed_live_own r i)
  ]

  -- Checkpoint 0 knows nothing.
  blank' : (p f : ℕ) → r'.vector p 0 f ≡ 0
  blank' p f = checkpointed_vector r i p 0 f (omega arith) ∙ v.blank p f

  -- No entry of i falls from the stored state to the new live one.
  grows : (f : ℕ) → r.vector i (r.own i) f ≤ r'.vector i (suc (r.own i)) f
  grows f = by_eq f i
      (λ e. rw e (omega (arith, (checkpointed_live_own r i), v.self i (r.own i) (omega arith))))
      (λ ne. omega (arith, checkpointed_live r i f ne))

  -- States of one process know more and more.
  rises' : (p k f : ℕ) → k < r'.own p → r'.vector p k f ≤ r'.vector p (suc k) f
  rises' p k f lt = elim (checkpointed_state r i p (suc k) lt) [
    | inl o ↦ omega (arith, checkpointed_vector r i p k f (omega arith), checkpointed_vector r i p (suc k) f o, v.rises p k f o)
    | inr w ↦ (
        let kl : k ≡ r.own i = omega (arith, w.1) in
        rw (w.0, kl) (omega (arith, checkpointed_vector r i i (r.own i) f (omega arith), grows f)))
  ]

  -- Nobody knows the future.
  present' : (p k f : ℕ) → f < r.n → k ≤ r'.own p → r'.vector p k f ≤ r'.own f
  present' p k f hf le = elim (checkpointed_state r i p k le) [
    | inl o ↦ omega (arith, checkpointed_vector r i p k f o, v.present p k f hf o, checkpointed_own_le r i f)
    | inr w ↦ rw (w.0, w.1) (by_eq f i
        (λ e. rw e (omega (arith, (checkpointed_live_own r i), (checkpointed_own r i))))
        (λ ne. omega (arith, checkpointed_live r i f ne, v.present i (r.own i) f hf (omega arith), checkpointed_own_le r i f)))
  ]

  -- What the new live state of i knows is what the stored one knew, and its own interval.
  knows_live : (q f : ℕ) → q < r.n → f < r.n → r'.vector q (r'.vector i (suc (r.own i)) q) f ≤ r'.vector i (suc (r.own i)) f
  knows_live q f hq hf = by_eq q i
      (λ e. rw e (omega (arith, ap (λ g. r'.vector i g f) (checkpointed_live_own r i))))
      (λ ne. rw (checkpointed_live r i q ne) (omega (
        arith,
        checkpointed_vector r i q (r.vector i (r.own i) q) f (v.present i (r.own i) q hq (omega arith)),
        v.knows i (r.own i) q f (omega arith) hq hf,
        grows f,
      )))

  -- A state that knows an interval knows what that interval knew.
  knows' : (p k q f : ℕ) → k ≤ r'.own p → q < r.n → f < r.n → r'.vector q (r'.vector p k q) f ≤ r'.vector p k f
  knows' p k q f le hq hf = elim (checkpointed_state r i p k le) [
    | inl o ↦ rw (checkpointed_vector r i p k q o, checkpointed_vector r i p k f o) (omega (
      arith,
      checkpointed_vector r i q (r.vector p k q) f (v.present p k q hq o),
      v.knows p k q f o hq hf,
    ))
    | inr w ↦ rw (w.0, w.1) (knows_live q f hq hf)
  ]

  -- A message carried the vector of the interval in which it was sent.
  carries' : (p g m f : ℕ) → Stands (sent m) g (r'.events p) → f < r.n → r.carried m f ≡ r'.vector p g f
  carries' p g m f s hf = let o = checkpointed_sent r i p g m s in v.carries p g m f o hf ∙ sym (checkpointed_vector r i p g f (interval r v p g o))

  -- A message stands as sent in its sender's list alone.
  proper' : (p g m : ℕ) → Stands (sent m) g (r'.events p) → (p ≡ r.sender m) × Proper r' m
  unfolding checkpointed
  proper' p g m s =
      let w = v.proper p g m (checkpointed_sent r i p g m s) in
      (w.0, record { numbered = w.1.numbered; used = w.1.used; from = w.1.from; to = w.1.to; apart = w.1.apart })

  -- A message that stood as sent still does.
  sent_still : (m : ℕ) → SentOf r m → SentOf r' m
  unfolding checkpointed
  sent_still m w = (w.0, checkpointed_still r i (r.sender m) w.1)

  -- A received message stands in its receiver's list alone, and as sent.
  arrived' : (p g m : ℕ) → Stands (received m) g (r'.events p) → (p ≡ r.receiver m) × SentOf r' m
  arrived' p g m s = let w = v.arrived p g m (checkpointed_received r i p g m s) in (w.0, sent_still m w.1)

  -- A receiver knows what the message carried.
  takes' : (p g m f : ℕ) → Stands (received m) g (r'.events p) → f < r.n → r.carried m f ≤ r'.vector p g f
  takes' p g m f s hf = let o = checkpointed_received r i p g m s in rw (checkpointed_vector r i p g f (interval r v p g o)) (v.takes p g m f o hf)

  -- A process that has sent in its current interval has its mark set.
  marked' : (p m : ℕ) → Stands (sent m) (r'.own p) (r'.events p) → r'.mark p ≡ true
  marked' p m s = let o = checkpointed_sent r i p (r'.own p) m s in by_eq p i
      (λ e. absurd (omega (arith, interval r v p (r'.own p) o, ap r.own e, ap r'.own e, (checkpointed_own r i))))
      (λ ne. checkpointed_mark_other r i p ne ∙ v.marked p m (rw (checkpointed_own_other r i p ne) at o))

  -- A process whose current interval another one knows has its mark set.
  known' : (p k q : ℕ) → k ≤ r'.own p → q < r.n → (p ≡ q → ⊥) → r'.vector p k q ≡ r'.own q → r'.mark q ≡ true
  known' p k q le hq ne d = by_eq q i
      (λ e. elim (checkpointed_state r i p k le) [
        | inl o ↦ absurd (omega (arith, d, checkpointed_vector r i p k q o, v.present p k q hq o, ap r.own e, ap r'.own e, (checkpointed_own r i)))
        | inr w ↦ absurd (ne (w.0 ∙ sym e))
      ])
      (λ nq. checkpointed_mark_other r i q nq ∙ elim (checkpointed_state r i p k le) [
        | inl o ↦ v.known p k q o hq ne (sym (checkpointed_vector r i p k q o) ∙ d ∙ checkpointed_own_other r i q nq)
        | inr w ↦ v.known i (r.own i) q (omega arith) hq (λ c. nq (sym c)) (sym (checkpointed_live r i q nq) ∙ (rw (w.0, w.1) at d) ∙ checkpointed_own_other r i q nq)
      ])

  -- A message that told a process something still stands in its list.
  informed : (p a b f e : ℕ) → Informed r p a b f e → Informed r' p a b f e
  unfolding checkpointed
  informed p a b f e w = (w.0, w.1, checkpointed_still r i p w.2, w.3, w.4, w.5)

  -- What a message carried of another process came to its sender by a message.
  source' : (p g m f : ℕ) → Stands (sent m) g (r'.events p) → f < r.n → (p ≡ f → ⊥) → 1 ≤ r.carried m f → Informed r' p g m f (r.carried m f)
  source' p g m f s hf ne pos = informed p g m f (r.carried m f) (v.source p g m f (checkpointed_sent r i p g m s) hf ne pos)

  -- What the new live state knows of others is what the stored one knew.
  learnt_live : (f : ℕ) → f < r.n → (i ≡ f → ⊥) → 1 ≤ r'.vector i (suc (r.own i)) f → Informed r' i (suc (r.own i)) (suc r.last) f (r'.vector i (suc (r.own i)) f)
  learnt_live f hf ne = rw (checkpointed_live r i f (λ c. ne (sym c))) λ pos.
      let w = informed i (r.own i) (suc r.last) f (r.vector i (r.own i) f) (v.learnt i (r.own i) f (omega arith) hf ne pos) in
      (w.0, w.1, w.2, omega (arith, w.3), w.4, w.5)

  -- What a state knows of another process came by a message.
  learnt' : (p k f : ℕ) → k ≤ r'.own p → f < r.n → (p ≡ f → ⊥) → 1 ≤ r'.vector p k f → Informed r' p k (suc r.last) f (r'.vector p k f)
  learnt' p k f le hf ne = elim (checkpointed_state r i p k le) [
    | inl o ↦ rw (checkpointed_vector r i p k f o) λ pos. informed p k (suc r.last) f (r.vector p k f) (v.learnt p k f o hf ne pos)
    | inr w ↦ rw (w.0, w.1) (learnt_live f hf (λ c. ne (w.0 ∙ c)))
  ]

  -- Where a process knows the current interval of f, its pin for f names a checkpoint.
  pinned' : (p f : ℕ) → f < r.n → r'.vector p (r'.own p) f ≡ r'.own f → (k : ℕ) × (r'.pin p f ≡ Some k)
  pinned' p f hf d = by_eq f i
      (λ e. by_eq p i
      (λ q. (r.own i, rw (e, q) (checkpointed_pin r i)))
      (λ nq. absurd (omega (arith, d, checkpointed_row_other r i p f nq, v.present p (r.own p) f hf (omega arith), ap r.own e, ap r'.own e, (checkpointed_own r i)))))
      (λ ne.
      let w = v.pinned p f hf (sym (checkpointed_row r i p f ne) ∙ d ∙ checkpointed_own_other r i f ne) in
      (w.0, checkpointed_pin_column r i p f ne ∙ w.1))

  -- A pin that did not change, where the live entry did not.
  pins_old : (p f k : ℕ) → f < r.n → r'.vector p (r'.own p) f ≡ r.vector p (r.own p) f → r.pin p f ≡ Some k → Pinned r' p f k
  pins_old p f k hf same e =
      let w = v.pins p f k hf e in
      record {
        below = omega (arith, w.below, checkpointed_own_le r i p);
        less = omega (arith, w.less, same, checkpointed_vector r i p k f (omega (arith, w.below)));
        next = omega (arith, w.next, same, checkpointed_vector r i p (suc k) f w.below);
      }

  -- The own pin names the checkpoint just stored.
  pins_new : (k : ℕ) → r'.pin i i ≡ Some k → Pinned r' i i k
  pins_new k e =
      let is : k ≡ r.own i = some_same (sym e ∙ checkpointed_pin r i) in
      rw is (record {
        below = omega (arith, (checkpointed_own r i));
        less = omega (arith, (checkpointed_own r i), self' i (r'.own i) (omega arith), self' i (r.own i) (checkpointed_own_le r i i));
        next = ap (λ g. r'.vector i g i) (sym (checkpointed_own r i));
      })

  -- What a pin names is the checkpoint right before its process learnt all that it knows of f.
  pins' : (p f k : ℕ) → f < r.n → r'.pin p f ≡ Some k → Pinned r' p f k
  pins' p f k hf d = by_eq f i
      (λ e. by_eq p i
      (λ q. rw (e, q) (pins_new k (rw (e, q) at d)))
      (λ nq. pins_old p f k hf (checkpointed_row_other r i p f nq) (sym (checkpointed_pin_row r i p f nq) ∙ d)))
      (λ ne. pins_old p f k hf (checkpointed_row r i p f ne) (sym (checkpointed_pin_column r i p f ne) ∙ d))

  -- Each send and each receipt stands at most once in a list.
  single' : (p : ℕ) (e : HistoryEvent) → (e ≡ stored → ⊥) → times e (r'.events p) ≤ 1
  single' p e ne = by_eq p i
      (λ c. rw c (rw (checkpointed_events r i) (single_end e (r.events i) stored (v.single i e ne) (λ q. absurd (ne q)))))
      (λ nc. rw (checkpointed_events_other r i p nc) (v.single p e ne))

  -- A checkpoint keeps the invariant.
  pub checkpointed_inv : Inv (checkpointed r i)
  unfolding checkpointed
  checkpointed_inv = record {
    counted = counted';
    positive = λ p. omega (arith, v.positive p, checkpointed_own_le r i p);
    self = self';
    blank = blank';
    rises = rises';
    present = present';
    knows = knows';
    proper = proper';
    carries = carries';
    arrived = arrived';
    single = single';
    takes = takes';
    underway = λ m t. sent_still m (v.underway m t);
    pending = λ m t p g s. v.pending m t p g (checkpointed_received r i p g m s);
    marked = marked';
    known = known';
    source = source';
    learnt = learnt';
    pinned = pinned';
    pins = pins';
  }
