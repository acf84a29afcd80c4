-- A send keeps the invariant: the new message carries the vector of the live state, and the sent mark is set.
use Rattle.std.specs.Prelude.{◌≡◌, ◌∷◌, ◌++◌, ◌⊎◌, ◌≤◌, ◌<◌}
use Rattle.laws.specs.Basics.{refl, sym, ◌∙◌, ap, true, [], Some, inl, inr, ℕ, suc, arith, by_eq}
use Rattle.laws.specs.Update.{upds}
use Rattle.histories.specs.History.{HistoryEvent, stored, sent, received, checkpoints}
use Rattle.histories.proofs.Places.{Stands, stands_still, stands_end, sent_or_before, received_before_sent, checkpoints_sent}
use Rattle.histories.proofs.{Times.times, Times.single_end, Run.Ideal, Run.sending, Run.keeps}
use Rattle.histories.proofs.Invariant.{Inv, Proper, SentOf, Informed, Pinned}

module _ (r : Ideal) (i j : ℕ) where
  -- The run after the step.
  abbrev r' : Ideal
  r' = sending r i j

  -- Views of the send.
  pub sending_n : (sending r i j).n ≡ r.n
  unfolding sending
  sending_n = refl

  -- Own entries stay.
  pub sending_own : (p : ℕ) → (sending r i j).own p ≡ r.own p
  unfolding sending
  sending_own p = refl

  -- All vectors stay.
  pub sending_vector : (p k f : ℕ) → (sending r i j).vector p k f ≡ r.vector p k f
  unfolding sending
  sending_vector p k f = refl

  -- The sent mark of i is set.
  pub sending_mark : (sending r i j).mark i ≡ true
  unfolding sending
  sending_mark = simp upds

  -- Other marks stay.
  pub sending_mark_other : (p : ℕ) → (p ≡ i → ⊥) → (sending r i j).mark p ≡ r.mark p
  unfolding sending
  sending_mark_other p ne = simp upds

  -- Pins stay.
  pub sending_pin : (p f : ℕ) → (sending r i j).pin p f ≡ r.pin p f
  unfolding sending
  sending_pin p f = refl

  -- One more number is used.
  pub sending_last : (sending r i j).last ≡ suc r.last
  unfolding sending
  sending_last = refl

  -- Other messages are under way as they were.
  pub sending_transit_other : (m : ℕ) → (m ≡ suc r.last → ⊥) → (sending r i j).transit m ≡ r.transit m
  unfolding sending
  sending_transit_other m ne = simp upds

  -- It carries the live vector of i.
  pub sending_carried : (f : ℕ) → (sending r i j).carried (suc r.last) f ≡ r.vector i (r.own i) f
  unfolding sending
  sending_carried f = simp upds

  -- What other messages carry stays.
  pub sending_carried_other : (m f : ℕ) → (m ≡ suc r.last → ⊥) → (sending r i j).carried m f ≡ r.carried m f
  unfolding sending
  sending_carried_other m f ne = simp upds

  -- Its sender is i.
  pub sending_sender : (sending r i j).sender (suc r.last) ≡ i
  unfolding sending
  sending_sender = simp upds

  -- Other senders stay.
  pub sending_sender_other : (m : ℕ) → (m ≡ suc r.last → ⊥) → (sending r i j).sender m ≡ r.sender m
  unfolding sending
  sending_sender_other m ne = simp upds

  -- Its receiver is j.
  pub sending_receiver : (sending r i j).receiver (suc r.last) ≡ j
  unfolding sending
  sending_receiver = simp upds

  -- Other receivers stay.
  pub sending_receiver_other : (m : ℕ) → (m ≡ suc r.last → ⊥) → (sending r i j).receiver m ≡ r.receiver m
  unfolding sending
  sending_receiver_other m ne = simp upds

  -- The list of i gets the send.
  pub sending_events : (sending r i j).events i ≡ r.events i ++ (sent (suc r.last) ∷ [])
  unfolding sending
  sending_events = simp upds

  -- Other lists stay.
  pub sending_events_other : (p : ℕ) → (p ≡ i → ⊥) → (sending r i j).events p ≡ r.events p
  unfolding sending
  sending_events_other p ne = simp upds

  -- The same checkpoints are kept.
  pub sending_keeps : (p k : ℕ) → keeps (sending r i j) p k ≡ keeps r p k
  unfolding sending keeps
  sending_keeps p k = refl

  -- What stood in a list stands there still.
  still : {e : HistoryEvent} {g : ℕ} (q : ℕ) → Stands e g (r.events q) → Stands e g (r'.events q)
  still q s = by_eq q i
      (λ e. rw e (rw sending_events (stands_still (r.events i) _ (rw e at s))))
      (λ ne. rw (sending_events_other q ne) s)

  -- A receipt of now stood there before.
  before : (p g m : ℕ) → Stands (received m) g (r'.events p) → Stands (received m) g (r.events p)
  before p g m s = by_eq p i
      (λ e. rw e (received_before_sent (r.events i) (suc r.last) (rw sending_events at (rw e at s))))
      (λ ne. rw (sending_events_other p ne) at s)

  module _ (v : Inv r) (hi : i < r.n) (hj : j < r.n) (apart : i ≡ j → ⊥) where
    -- A send of now: the new one in the live interval, or one of before.
    which : (p g m : ℕ) → Stands (sent m) g (r'.events p) → ((p ≡ i) × (m ≡ suc r.last) × (g ≡ r.own i)) ⊎ Stands (sent m) g (r.events p)
    which p g m s = by_eq p i
        (λ e. elim (sent_or_before (r.events i) (suc r.last) (rw sending_events at (rw e at s))) [
          | inl w ↦ inl (e, w.0, w.1 ∙ sym (v.counted i))
          | inr o ↦ inr (rw e o)
        ])
        (λ ne. inr (rw (sending_events_other p ne) at s))

    -- A message sent before is not the new one.
    sent_used : (p g m : ℕ) → Stands (sent m) g (r.events p) → m ≡ suc r.last → ⊥
    sent_used p g m s e = omega (arith, (v.proper p g m s).1.used)

    -- A message received before is not the new one.
    received_used : (p g m : ℕ) → Stands (received m) g (r.events p) → m ≡ suc r.last → ⊥
    received_used p g m s e = let w = (v.arrived p g m s).1 in sent_used (r.sender m) w.0 m w.1 e

    -- Each list has the checkpoints below the own entry.
    counted' : (p : ℕ) → r'.own p ≡ checkpoints (r'.events p)
    counted' p = by_eq p i
        (λ e. rw e (rw sending_events (sending_own i ∙ v.counted i ∙ sym (checkpoints_sent (r.events i) (suc r.last)))))
        (λ ne. rw (sending_events_other p ne) (sending_own p ∙ v.counted p))

    -- The new message is proper.
    proper_new : (i ≡ r'.sender (suc r.last)) × Proper r' (suc r.last)
    proper_new = (
      sym sending_sender,
      record {
        numbered = omega arith;
        used = omega (arith, sending_last);
        from = omega (arith, hi, sending_sender, sending_n);
        to = omega (arith, hj, sending_receiver, sending_n);
        apart = λ e. apart (sym sending_sender ∙ e ∙ sending_receiver);
      },
    )

    -- Messages of before still are.
    proper_old : (m : ℕ) → (m ≡ suc r.last → ⊥) → Proper r m → Proper r' m
    proper_old m ne w = record {
      numbered = w.numbered;
      used = omega (arith, w.used, sending_last);
      from = omega (arith, w.from, sending_sender_other m ne, sending_n);
      to = omega (arith, w.to, sending_receiver_other m ne, sending_n);
      apart = λ e. w.apart (sym (sending_sender_other m ne) ∙ e ∙ sending_receiver_other m ne);
    }

    -- A message stands as sent in its sender's list alone.
    proper' : (p g m : ℕ) → Stands (sent m) g (r'.events p) → (p ≡ r'.sender m) × Proper r' m
    proper' p g m s = elim (which p g m s) [
      | inl w ↦ rw (w.0, w.1) proper_new
      | inr o ↦ (
          let w = v.proper p g m o in
          let ne : m ≡ suc r.last → ⊥ = sent_used p g m o in
          (w.0 ∙ sym (sending_sender_other m ne), proper_old m ne w.1))
    ]

    -- A message carried the vector of the interval in which it was sent.
    carries' : (p g m f : ℕ) → Stands (sent m) g (r'.events p) → f < r.n → r'.carried m f ≡ r.vector p g f
    carries' p g m f s hf = elim (which p g m s) [
      | inl w ↦ rw (w.0, w.1, w.2) (sending_carried f)
      | inr o ↦ sending_carried_other m f (sent_used p g m o) ∙ v.carries p g m f o hf
    ]

    -- A message of before stands as sent, still.
    sent_still : (m : ℕ) → (m ≡ suc r.last → ⊥) → SentOf r m → SentOf r' m
    sent_still m ne w = (w.0, rw (sending_sender_other m ne) (still (r.sender m) w.1))

    -- A received message stands in its receiver's list alone, and as sent.
    arrived' : (p g m : ℕ) → Stands (received m) g (r'.events p) → (p ≡ r'.receiver m) × SentOf r' m
    arrived' p g m s =
        let o = before p g m s in
        let w = v.arrived p g m o in
        let ne : m ≡ suc r.last → ⊥ = received_used p g m o in
        (w.0 ∙ sym (sending_receiver_other m ne), sent_still m ne w.1)

    -- A receiver knows what the message carried.
    takes' : (p g m f : ℕ) → Stands (received m) g (r'.events p) → f < r.n → r'.carried m f ≤ r.vector p g f
    takes' p g m f s hf =
        let o = before p g m s in
        rw (sending_carried_other m f (received_used p g m o)) (v.takes p g m f o hf)

    -- A message under way stands as sent.
    underway' : (m : ℕ) → r'.transit m ≡ true → SentOf r' m
    underway' m t = by_eq m (suc r.last)
        (λ e. rw e (r.own i, rw sending_sender (rw sending_events (stands_end (r.events i) (v.counted i)))))
        (λ ne. sent_still m ne (v.underway m (sym (sending_transit_other m ne) ∙ t)))

    -- A message under way stands nowhere as received.
    pending' : (m : ℕ) → r'.transit m ≡ true → (p g : ℕ) → Stands (received m) g (r'.events p) → ⊥
    pending' m t p g s = by_eq m (suc r.last)
        (λ e. received_used p g m (before p g m s) e)
        (λ ne. v.pending m (sym (sending_transit_other m ne) ∙ t) p g (before p g m s))

    -- A process that has sent in its current interval has its mark set.
    marked' : (p m : ℕ) → Stands (sent m) (r.own p) (r'.events p) → r'.mark p ≡ true
    marked' p m s = by_eq p i
        (λ e. rw e sending_mark)
        (λ ne. sending_mark_other p ne ∙ v.marked p m (rw (sending_events_other p ne) at s))

    -- A process whose current interval another one knows has its mark set.
    known' : (p k q : ℕ) → k ≤ r.own p → q < r.n → (p ≡ q → ⊥) → r.vector p k q ≡ r.own q → r'.mark q ≡ true
    known' p k q le hq ne d = by_eq q i
        (λ e. rw e sending_mark)
        (λ nq. sending_mark_other q nq ∙ v.known p k q le hq ne d)

    -- A message that told a process something still stands in its list.
    informed : (p a b f e : ℕ) → Informed r p a b f e → Informed r' p a b f e
    informed p a b f e w = (w.0, w.1, still p w.2, w.3, w.4, omega (arith, w.5, sending_carried_other w.0 f (received_used p w.1 w.0 w.2)))

    -- What a message carried of another process came to its sender by a message.
    source' : (p g m f : ℕ) → Stands (sent m) g (r'.events p) → f < r.n → (p ≡ f → ⊥) → 1 ≤ r'.carried m f → Informed r' p g m f (r'.carried m f)
    source' p g m f s hf ne le = elim (which p g m s) [
      | inl w ↦ (
          let e : r'.carried m f ≡ r.vector p g f = carries' p g m f s hf in
          let b : g ≤ r.own p = omega (arith, w.2, ap r.own w.0) in
          rw (e, w.1) (informed p g (suc r.last) f (r.vector p g f) (v.learnt p g f b hf ne (omega arith))))
      | inr o ↦ (
          let e : r'.carried m f ≡ r.carried m f = sending_carried_other m f (sent_used p g m o) in
          rw e (informed p g m f (r.carried m f) (v.source p g m f o hf ne (omega arith))))
    ]

    -- What a state knows of another process came by a message.
    learnt' : (p k f : ℕ) → k ≤ r.own p → f < r.n → (p ≡ f → ⊥) → 1 ≤ r.vector p k f → Informed r' p k (suc (suc r.last)) f (r.vector p k f)
    learnt' p k f le hf ne pos =
        let w = informed p k (suc r.last) f (r.vector p k f) (v.learnt p k f le hf ne pos) in
        (w.0, w.1, w.2, w.3, omega (arith, w.4), w.5)

    -- Each send and each receipt stands at most once in a list.
    single' : (p : ℕ) (e : HistoryEvent) → (e ≡ stored → ⊥) → times e (r'.events p) ≤ 1
    single' p e ne = by_eq p i
        (λ c. rw c (rw sending_events (single_end e (r.events i) (sent (suc r.last)) (v.single i e ne) (λ q g s. sent_used i g (suc r.last) (rw q at s) refl))))
        (λ nc. rw (sending_events_other p nc) (v.single p e ne))

    -- What a pin names is the checkpoint right before its process learnt all that it knows of f.
    pins' : (p f k : ℕ) → f < r.n → r.pin p f ≡ Some k → Pinned r' p f k
    unfolding sending
    pins' p f k hf e = let w = v.pins p f k hf e in record { below = w.below; less = w.less; next = w.next }

    -- A send keeps the invariant.
    pub sending_inv : Inv (sending r i j)
    unfolding sending
    sending_inv = record {
      counted = counted';
      positive = v.positive;
      self = v.self;
      blank = v.blank;
      rises = v.rises;
      present = v.present;
      knows = v.knows;
      proper = proper';
      carries = carries';
      arrived = arrived';
      single = single';
      takes = takes';
      underway = underway';
      pending = pending';
      marked = marked';
      known = known';
      source = source';
      learnt = learnt';
      pinned = v.pinned;
      pins = pins';
    }
