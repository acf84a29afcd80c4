-- Taking in a message keeps the invariant, where the receiver's sent mark is clear or nothing that is carried is newer.
use Rattle.std.specs.Prelude.{◌≡◌, ◌⊎◌, ◌≤◌, ◌<◌}
use Rattle.laws.specs.Basics.{refl, sym, ◌∙◌, ap, true, inl, inr, ℕ, suc, max, arith, leb, leb-true, leb-false, by_bool, by_eq}
use Rattle.laws.specs.Truth.{never_both}
use Rattle.histories.specs.History.{HistoryEvent, stored, sent, received, checkpoints}
use Rattle.histories.proofs.{Places.Stands, Times.times, Times.single_end, Run.Ideal, Run.taken_by, Run.taken_in, TakenInPins.pinned', TakenInPins.pins'}
use Rattle.histories.proofs.Invariant.{Inv, Proper, SentOf, Informed}
use Rattle.histories.proofs.Messages.{sent_in, sent_in_stands, sent_in_le, underway_proper, underway_carries, underway_present}
use Rattle.histories.proofs.TakenInViews.{taken_in_live, taken_in_vector, taken_in_transit, taken_in_transit_other, taken_in_events, taken_in_events_other, taken_in_state, taken_in_still, taken_in_sent, taken_in_received, taken_in_checkpoints, taken_in_new}

module _ (r : Ideal) (v : Inv r) (m : ℕ) (under : r.transit m ≡ true)
    (quiet : r.mark (r.receiver m) ≡ true → (f : ℕ) → f < r.n → r.carried m f ≤ r.vector (r.receiver m) (r.own (r.receiver m)) f) where
  -- The receiver.
  abbrev i : ℕ
  i = r.receiver m

  -- The sender.
  abbrev q₀ : ℕ
  q₀ = r.sender m

  -- The run after the step.
  abbrev r' : Ideal
  r' = taken_in r m

  -- The message: the interval in which it was sent, and what it carries.
  abbrev at : ℕ
  at = sent_in r v m under

  -- The sender has that interval.
  at_le : at ≤ r.own q₀
  at_le = sent_in_le r v m under

  -- The receiver is in the run.
  hi : i < r.n
  hi = (underway_proper r v m under).to

  -- The message carries what the sender knew there.
  car_is : (f : ℕ) → f < r.n → r.carried m f ≡ r.vector q₀ at f
  car_is f hf = underway_carries r v m under f hf

  -- No entry falls.
  risen : (p k f : ℕ) → r.vector p k f ≤ r'.vector p k f
  risen p k f = elim (taken_in_state r m p k) [
    | inl e ↦ rw (e.0, e.1) (omega (arith, taken_in_live r m f))
    | inr o ↦ omega (arith, o f)
  ]

  -- Each list has the checkpoints below the own entry.
  counted' : (p : ℕ) → r.own p ≡ checkpoints (r'.events p)
  counted' p = v.counted p ∙ sym (taken_in_checkpoints r m p)

  -- A state's own entry is its index.
  self' : (p k : ℕ) → k ≤ r.own p → r'.vector p k p ≡ k
  self' p k le = elim (taken_in_state r m p k) [
    | inl e ↦ rw (e.0, e.1) (omega (arith, taken_in_live r m i, underway_present r v m under i hi, v.self i (r.own i) (omega arith)))
    | inr o ↦ o p ∙ v.self p k le
  ]

  -- Checkpoint 0 knows nothing.
  blank' : (p f : ℕ) → r'.vector p 0 f ≡ 0
  blank' p f = taken_in_vector r m p 0 f (λ a b. omega (arith, v.positive i)) ∙ v.blank p f

  -- States of one process know more and more.
  rises' : (p k f : ℕ) → k < r.own p → r'.vector p k f ≤ r'.vector p (suc k) f
  rises' p k f lt = omega (arith, taken_in_vector r m p k f (λ a b. omega (arith, ap r.own a)), v.rises p k f lt, risen p (suc k) f)

  -- Nobody knows the future.
  present' : (p k f : ℕ) → f < r.n → k ≤ r.own p → r'.vector p k f ≤ r.own f
  present' p k f hf le = elim (taken_in_state r m p k) [
    | inl e ↦ rw (e.0, e.1) (omega (arith, taken_in_live r m f, underway_present r v m under f hf, v.present i (r.own i) f hf (omega arith)))
    | inr o ↦ omega (arith, o f, v.present p k f hf le)
  ]

  -- What was sent in the live interval of i was sent with the mark set, so nothing rises there.
  carries_old : (p g x f : ℕ) → Stands (sent x) g (r.events p) → f < r.n → r.carried x f ≡ r'.vector p g f
  carries_old p g x f s hf = by_eq p i
      (λ e. by_eq g (r.own i)
      (λ q. rw (e, q) (
      let t : Stands (sent x) (r.own i) (r.events i) = rw (e, q) at s in
      omega (arith, taken_in_live r m f, quiet (v.marked i x t) f hf, v.carries i (r.own i) x f t hf)))
      (λ nq. v.carries p g x f s hf ∙ sym (taken_in_vector r m p g f (λ a b. nq b))))
      (λ ne. v.carries p g x f s hf ∙ sym (taken_in_vector r m p g f (λ a b. ne a)))

  -- A message carried the vector of the interval in which it was sent.
  carries' : (p g x f : ℕ) → Stands (sent x) g (r'.events p) → f < r.n → r.carried x f ≡ r'.vector p g f
  carries' p g x f s hf = carries_old p g x f (taken_in_sent r m p g x s) hf

  -- A message stands as sent in its sender's list alone.
  proper' : (p g x : ℕ) → Stands (sent x) g (r'.events p) → (p ≡ r.sender x) × Proper r' x
  unfolding taken_in taken_by
  proper' p g x s =
      let w = v.proper p g x (taken_in_sent r m p g x s) in
      (w.0, record { numbered = w.1.numbered; used = w.1.used; from = w.1.from; to = w.1.to; apart = w.1.apart })

  -- A message that stood as sent still does.
  sent_still : (x : ℕ) → SentOf r x → SentOf r' x
  unfolding taken_in taken_by
  sent_still x w = (w.0, taken_in_still r m (r.sender x) w.1)

  -- A received message stands in its receiver's list alone, and as sent.
  arrived' : (p g x : ℕ) → Stands (received x) g (r'.events p) → (p ≡ r.receiver x) × SentOf r' x
  arrived' p g x s = elim (taken_in_received r m p g x s) [
    | inl w ↦ rw (w.0, w.1) (refl, sent_still m (v.underway m under))
    | inr o ↦ (let w = v.arrived p g x o in (w.0, sent_still x w.1))
  ]

  -- Each send and each receipt stands at most once in a list.
  single' : (p : ℕ) (e : HistoryEvent) → (e ≡ stored → ⊥) → times e (r'.events p) ≤ 1
  single' p e ne = by_eq p i
      (λ c. rw c (rw (taken_in_events r m) (single_end e (r.events i) (received m) (v.single i e ne) (λ q g s. v.pending m under i g (rw q at s)))))
      (λ nc. rw (taken_in_events_other r m p nc) (v.single p e ne))

  -- A receiver knows what the message carried.
  takes' : (p g x f : ℕ) → Stands (received x) g (r'.events p) → f < r.n → r.carried x f ≤ r'.vector p g f
  takes' p g x f s hf = elim (taken_in_received r m p g x s) [
    | inl w ↦ (let g-is : g ≡ r.own i = w.2 ∙ sym (v.counted i) in rw (w.0, w.1, g-is) (omega (arith, taken_in_live r m f)))
    | inr o ↦ omega (arith, risen p g f, v.takes p g x f o hf)
  ]

  -- A message that is under way now is another one.
  other : (x : ℕ) → r'.transit x ≡ true → (x ≡ m → ⊥) × (r.transit x ≡ true)
  other x t = by_eq x m
      (λ e. never_both (r'.transit m) (rw e at t) (taken_in_transit r m))
      (λ ne. (ne, sym (taken_in_transit_other r m x ne) ∙ t))

  -- A message under way stands nowhere as received.
  pending' : (x : ℕ) → r'.transit x ≡ true → (p g : ℕ) → Stands (received x) g (r'.events p) → ⊥
  pending' x t p g s = let w = other x t in elim (taken_in_received r m p g x s) [
    | inl z ↦ w.0 z.1
    | inr o ↦ v.pending x w.1 p g o
  ]

  -- Where another process knows the live interval of i, nothing of that state changes.
  unmoved : (p k f : ℕ) → k ≤ r.own p → (p ≡ i → ⊥) → r.vector p k i ≡ r.own i → f < r.n → r'.vector i (r.own i) f ≡ r.vector i (r.own i) f
  unmoved p k f le np d hf = omega (arith, taken_in_live r m f, quiet (v.known p k i le hi np d) f hf)

  -- What a state of before knows, unless it is the live one of i.
  knows_old : (p k q f : ℕ) → k ≤ r.own p → q < r.n → f < r.n → (r'.vector q (r.vector p k q) f ≤ r.vector p k f) ⊎ ((p ≡ i) × (k ≡ r.own i))
  knows_old p k q f le hq hf = elim (taken_in_state r m q (r.vector p k q)) [
    | inl e ↦ by_eq p i
        (λ c. inr (c, sym (v.self p k le) ∙ ap (r.vector p k) (c ∙ sym e.0) ∙ e.1))
        (λ nc.
        let d : r.vector p k i ≡ r.own i = rw e.0 at e.1 in
        inl (omega (
          arith,
          ap (λ x. r'.vector x (r.vector p k x) f) e.0,
          ap (λ g. r'.vector i g f) d,
          unmoved p k f le nc d hf,
          ap (λ g. r.vector i g f) d,
          v.knows p k i f le hi hf,
        )))
    | inr o ↦ inl (omega (arith, o f, v.knows p k q f le hq hf))
  ]

  -- What the live state of i knows it knew before, or the message's state knew it.
  knows_live : (q f : ℕ) → q < r.n → f < r.n → r'.vector q (r'.vector i (r.own i) q) f ≤ r'.vector i (r.own i) f
  knows_live q f hq hf = by_eq q i
      (λ c. rw c (omega (arith, ap (λ g. r'.vector i g f) (self' i (r.own i) (omega arith)))))
      (λ nc. rw (taken_in_vector r m q (r'.vector i (r.own i) q) f (λ a b. nc a)) (by_bool (leb (r.carried m q) (r.vector i (r.own i) q))
      (λ e.
      let is : r'.vector i (r.own i) q ≡ r.vector i (r.own i) q = omega (arith, taken_in_live r m q, leb-true) in
      rw is (omega (arith, v.knows i (r.own i) q f (omega arith) hq hf, risen i (r.own i) f)))
      (λ e.
      let is : r'.vector i (r.own i) q ≡ r.vector q₀ at q = omega (arith, taken_in_live r m q, car_is q hq, leb-false) in
      rw is (omega (arith, v.knows q₀ at q f at_le hq hf, taken_in_live r m f, car_is f hf)))))

  -- A state that knows an interval knows what that interval knew.
  knows' : (p k q f : ℕ) → k ≤ r.own p → q < r.n → f < r.n → r'.vector q (r'.vector p k q) f ≤ r'.vector p k f
  knows' p k q f le hq hf = elim (taken_in_state r m p k) [
    | inl e ↦ rw (e.0, e.1) (knows_live q f hq hf)
    | inr o ↦ elim (knows_old p k q f le hq hf) [
      | inl w ↦ rw (o q, o f) w
      | inr e ↦ rw (e.0, e.1) (knows_live q f hq hf)
    ]
  ]

  -- Where the message tells i of the live interval of q, q has sent in it.
  informed_live : (q : ℕ) → q < r.n → r.vector q₀ at q ≡ r.own q → r.mark q ≡ true
  informed_live q hq is = by_eq q₀ q
      (λ c. v.marked q m (sent_live q c is))
      (λ nc. v.known q₀ at q at_le hq nc is)
    where
      sent_live : (q : ℕ) → q₀ ≡ q → r.vector q₀ at q ≡ r.own q → Stands (sent m) (r.own q) (r.events q)
      sent_live q c d =
          let is : at ≡ r.own q₀ = sym (v.self q₀ at at_le) ∙ (rw (← c) at d) in
          rw (← c) (rw (← is) (sent_in_stands r v m under))

  -- A process whose current interval another one knows has its mark set.
  known' : (p k q : ℕ) → k ≤ r.own p → q < r.n → (p ≡ q → ⊥) → r'.vector p k q ≡ r.own q → r.mark q ≡ true
  known' p k q le hq ne d = elim (taken_in_state r m p k) [
    | inl e ↦ (
        let live : max (r.vector i (r.own i) q) (r.carried m q) ≡ r.own q = sym (taken_in_live r m q) ∙ (rw (e.0, e.1) at d) in
        by_bool (leb (r.carried m q) (r.vector i (r.own i) q))
        (λ b. v.known i (r.own i) q (omega arith) hq (λ c. ne (e.0 ∙ c)) (omega (arith, leb-true)))
        (λ b. informed_live q hq (omega (arith, car_is q hq, leb-false))))
    | inr o ↦ v.known p k q le hq ne (sym (o q) ∙ d)
  ]

  -- A message that told a process something still stands in its list.
  informed : (p a b f e : ℕ) → Informed r p a b f e → Informed r' p a b f e
  unfolding taken_in taken_by
  informed p a b f e w = (w.0, w.1, taken_in_still r m p w.2, w.3, w.4, w.5)

  -- What a message carried of another process came to its sender by a message.
  source' : (p g x f : ℕ) → Stands (sent x) g (r'.events p) → f < r.n → (p ≡ f → ⊥) → 1 ≤ r.carried x f → Informed r' p g x f (r.carried x f)
  source' p g x f s hf ne pos = informed p g x f (r.carried x f) (v.source p g x f (taken_in_sent r m p g x s) hf ne pos)

  -- What the live state of i knows it knew before, or the message told it.
  learnt_live : (f : ℕ) → f < r.n → (i ≡ f → ⊥) → 1 ≤ r'.vector i (r.own i) f → Informed r' i (r.own i) (suc r.last) f (r'.vector i (r.own i) f)
  unfolding taken_in taken_by
  learnt_live f hf ne pos = by_bool (leb (r.carried m f) (r.vector i (r.own i) f))
      (λ e.
      let is : r'.vector i (r.own i) f ≡ r.vector i (r.own i) f = omega (arith, taken_in_live r m f, leb-true) in
      rw is (informed i (r.own i) (suc r.last) f _ (v.learnt i (r.own i) f (omega arith) hf ne (omega (arith, is)))))
      (λ e. (m, r.own i, taken_in_new r m (r.own i) (v.counted i), omega arith, omega (arith, (underway_proper r v m under).used), omega (arith, taken_in_live r m f, leb-false)))

  -- What a state knows of another process came by a message.
  learnt' : (p k f : ℕ) → k ≤ r.own p → f < r.n → (p ≡ f → ⊥) → 1 ≤ r'.vector p k f → Informed r' p k (suc r.last) f (r'.vector p k f)
  learnt' p k f le hf ne = elim (taken_in_state r m p k) [
    | inl e ↦ rw (e.0, e.1) (learnt_live f hf (λ c. ne (e.0 ∙ c)))
    | inr o ↦ rw (o f) λ pos. informed p k (suc r.last) f (r.vector p k f) (v.learnt p k f le hf ne pos)
  ]

  -- Taking in a message keeps the invariant.
  pub taken_in_inv : Inv (taken_in r m)
  unfolding taken_in taken_by
  taken_in_inv = record {
    counted = counted';
    positive = v.positive;
    self = self';
    blank = blank';
    rises = rises';
    present = present';
    knows = knows';
    proper = proper';
    carries = carries';
    arrived = arrived';
    single = single';
    takes = takes';
    underway = λ x t. sent_still x (v.underway x (other x t).1);
    pending = pending';
    marked = λ p x s. v.marked p x (taken_in_sent r m p (r.own p) x s);
    known = known';
    source = source';
    learnt = learnt';
    pinned = pinned' r v m under;
    pins = pins' r v m under;
  }
