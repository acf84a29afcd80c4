-- The states and the messages after a recovery: what a surviving state knows of another process is at most that one's member,
-- so all that it cites survives.
use Rattle.std.specs.Prelude.{◌≡◌, ◌⊎◌, ◌≤◌, ◌<◌}
use Rattle.laws.specs.Basics.{sym, ◌∙◌, ap, Bool, true, false, inl, inr, ℕ, suc, arith, by_bool, by_eq}
use Rattle.histories.specs.History.{HistoryEvent, stored, sent, received, checkpoints}
use Rattle.histories.proofs.{Places.Stands, Times.times, Times.times_up_to, Cuts.up_to_out, Cuts.up_to_in, Cuts.checkpoints_up_to}
use Rattle.histories.proofs.{Run.Ideal, Run.Failed, Run.line, Run.rolled, Run.recovered, Messages.sent_in, Messages.sent_in_stands, Messages.underway_sent}
use Rattle.histories.proofs.Invariant.{Inv, Proper, SentOf, Informed}
use Rattle.histories.proofs.Line.{rising, interval, line_back, line_live, line_le, line_knows, line_sent}
use Rattle.histories.proofs.RecoveredViews.{recovered_own_back, recovered_own_stays, recovered_live_own, recovered_live, recovered_vector, recovered_mark_stays, recovered_transit, recovered_events_back, recovered_events_stays}

module _ (r : Ideal) (v : Inv r) (F : Failed) where
  -- The line.
  abbrev pub L : ℕ → ℕ
  L = line r F

  -- The processes that roll back.
  abbrev pub R : ℕ → Bool
  R = rolled r F

  -- The run after the step.
  abbrev pub r' : Ideal
  r' = recovered r F

  -- The member of a process that rolls back is below its live state.
  pub back : (p : ℕ) → R p ≡ true → L p < r.own p
  back p e = (line_back r v F p e).below

  -- The member of a process that stays is its live state.
  pub stays : (p : ℕ) → R p ≡ false → L p ≡ r.own p
  stays p e = line_live r v F p e

  -- The member is a state that there is.
  pub within : (p : ℕ) → L p ≤ r.own p
  within p = line_le r v F p

  -- The own entry of a process that rolled back.
  pub own_back : (p : ℕ) → R p ≡ true → r'.own p ≡ suc (L p)
  own_back p e = recovered_own_back r F p e

  -- The own entry of a process that stays.
  pub own_stays : (p : ℕ) → R p ≡ false → r'.own p ≡ r.own p
  own_stays p e = recovered_own_stays r F p e

  -- No own entry rises, and none falls below the member.
  pub recovered_own_le : (p : ℕ) → (recovered r F).own p ≤ r.own p
  recovered_own_le p = by_bool (R p) (λ e. omega (arith, own_back p e, back p e)) (λ e. omega (arith, own_stays p e))

  -- No own entry falls below the member.
  pub own_ge : (p : ℕ) → L p ≤ r'.own p
  own_ge p = by_bool (R p) (λ e. omega (arith, own_back p e)) (λ e. omega (arith, own_stays p e, stays p e))

  -- A state of now: one up to the member, or the live one of a process that rolled back.
  pub state : (p k : ℕ) → k ≤ r'.own p → (k ≤ L p) ⊎ ((R p ≡ true) × (k ≡ suc (L p)))
  state p k le = by_bool (R p)
      (λ e. by_eq k (suc (L p)) (λ q. inr (e, q)) (λ nq. inl (omega (arith, own_back p e))))
      (λ e. inl (omega (arith, own_stays p e, stays p e)))

  -- States up to the member are as they were.
  pub old : (p k f : ℕ) → k ≤ L p → r'.vector p k f ≡ r.vector p k f
  old p k f le = recovered_vector r F p k f le

  -- The new live state knows of others what the member knows.
  pub new : (p f : ℕ) → R p ≡ true → (p ≡ f → ⊥) → r'.vector p (suc (L p)) f ≡ r.vector p (L p) f
  new p f e ne = recovered_live r F p f e (λ c. ne (sym c))

  -- Its own entry is one more than the member's.
  pub new_own : (p : ℕ) → R p ≡ true → r'.vector p (suc (L p)) p ≡ suc (L p)
  new_own p e = recovered_live_own r F p e

  -- No member knows of another process more than that one's member.
  pub knows : (p q : ℕ) → q < r.n → r.vector p (L p) q ≤ L q
  knows p q hq = line_knows r v F p q hq

  -- What a state of now knows of another process is at most that one's member.
  pub at_most_lem : (p k q : ℕ) → k ≤ r'.own p → q < r.n → (p ≡ q → ⊥) → r'.vector p k q ≤ L q
  at_most_lem p k q le hq ne = elim (state p k le) [
    | inl o ↦ omega (arith, old p k q o, rising r v p q k (L p) o (within p), knows p q hq)
    | inr w ↦ rw w.1 (omega (arith, new p q w.0 ne, knows p q hq))
  ]

  -- Events of now stood there before, up to the member; those up to the member stand there still.
  pub before : {e : HistoryEvent} (p g : ℕ) → Stands e g (r'.events p) → Stands e g (r.events p) × (g ≤ L p)
  before p g s = by_bool (R p)
      (λ e. up_to_out (L p) (r.events p) (rw (recovered_events_back r F p e) at s))
      (λ e. let o = rw (recovered_events_stays r F p e) at s in (o, omega (arith, interval r v p g o, stays p e)))

  -- Events up to the member stand there still.
  pub after : {e : HistoryEvent} (p g : ℕ) → Stands e g (r.events p) → g ≤ L p → Stands e g (r'.events p)
  after p g s le = by_bool (R p)
      (λ e. rw (recovered_events_back r F p e) (up_to_in (L p) (r.events p) s le))
      (λ e. rw (recovered_events_stays r F p e) s)

  -- Each list has the checkpoints below the own entry.
  pub counted' : (p : ℕ) → r'.own p ≡ checkpoints (r'.events p)
  counted' p = by_bool (R p)
      (λ e. rw (recovered_events_back r F p e) (own_back p e ∙ sym (checkpoints_up_to (L p) (r.events p) (omega (arith, back p e, v.counted p)))))
      (λ e. rw (recovered_events_stays r F p e) (own_stays p e ∙ v.counted p))

  -- Each list has checkpoint 0.
  pub positive' : (p : ℕ) → 1 ≤ r'.own p
  positive' p = by_bool (R p) (λ e. omega (arith, own_back p e)) (λ e. omega (arith, own_stays p e, v.positive p))

  -- A state's own entry is its index.
  pub self' : (p k : ℕ) → k ≤ r'.own p → r'.vector p k p ≡ k
  self' p k le = elim (state p k le) [
    | inl o ↦ old p k p o ∙ v.self p k (omega (arith, within p))
    | inr w ↦ rw w.1 (new_own p w.0)
  ]

  -- Checkpoint 0 knows nothing.
  pub blank' : (p f : ℕ) → r'.vector p 0 f ≡ 0
  blank' p f = old p 0 f (omega arith) ∙ v.blank p f

  -- No entry falls from the member to the new live state.
  pub grows : (p f : ℕ) → R p ≡ true → r.vector p (L p) f ≤ r'.vector p (suc (L p)) f
  grows p f e = by_eq p f
      (λ c. rw (← c) (omega (arith, new_own p e, v.self p (L p) (within p))))
      (λ ne. omega (arith, new p f e ne))

  -- States of one process know more and more.
  pub rises' : (p k f : ℕ) → k < r'.own p → r'.vector p k f ≤ r'.vector p (suc k) f
  rises' p k f lt = elim (state p (suc k) lt) [
    | inl o ↦ omega (arith, old p k f (omega arith), old p (suc k) f o, v.rises p k f (omega (arith, within p)))
    | inr w ↦ (
        let kl : k ≡ L p = omega (arith, w.1) in
        rw kl (omega (arith, old p (L p) f (omega arith), grows p f w.0)))
  ]

  -- Nobody knows the future.
  pub present' : (p k f : ℕ) → f < r.n → k ≤ r'.own p → r'.vector p k f ≤ r'.own f
  present' p k f hf le = by_eq p f
      (λ e. rw (← e) (omega (arith, self' p k le)))
      (λ ne. omega (arith, at_most_lem p k f le hf ne, own_ge f))

  -- A message stands as sent in its sender's list alone.
  pub proper' : (p g m : ℕ) → Stands (sent m) g (r'.events p) → (p ≡ r.sender m) × Proper r' m
  unfolding recovered
  proper' p g m s =
      let w = v.proper p g m (before p g s).0 in
      (w.0, record { numbered = w.1.numbered; used = w.1.used; from = w.1.from; to = w.1.to; apart = w.1.apart })

  -- A message carried the vector of the interval in which it was sent.
  pub carries' : (p g m f : ℕ) → Stands (sent m) g (r'.events p) → f < r.n → r.carried m f ≡ r'.vector p g f
  carries' p g m f s hf = let w = before p g s in v.carries p g m f w.0 hf ∙ sym (old p g f w.1)

  -- The send of a message that is received in the surviving history survives.
  pub sent_survives : (p g m : ℕ) → Stands (received m) g (r'.events p) → SentOf r m → SentOf r' m
  unfolding recovered
  sent_survives p g m s w =
      let o = before p g s in
      (w.0, after (r.sender m) w.0 w.1 (line_sent r v F (r.sender m) w.0 p g m w.1 o.0 o.1))

  -- A received message stands in its receiver's list alone, and as sent.
  pub arrived' : (p g m : ℕ) → Stands (received m) g (r'.events p) → (p ≡ r.receiver m) × SentOf r' m
  arrived' p g m s = let w = v.arrived p g m (before p g s).0 in (w.0, sent_survives p g m s w.1)

  -- Each send and each receipt stands at most once in a list.
  pub single' : (p : ℕ) (e : HistoryEvent) → (e ≡ stored → ⊥) → times e (r'.events p) ≤ 1
  single' p e ne = by_bool (R p)
      (λ b. rw (recovered_events_back r F p b) (omega (arith, times_up_to e (L p) (r.events p), v.single p e ne)))
      (λ b. rw (recovered_events_stays r F p b) (v.single p e ne))

  -- A receiver knows what the message carried.
  pub takes' : (p g m f : ℕ) → Stands (received m) g (r'.events p) → f < r.n → r.carried m f ≤ r'.vector p g f
  takes' p g m f s hf = let w = before p g s in rw (old p g f w.1) (v.takes p g m f w.0 hf)

  -- A message under way was sent up to its sender's member, so its send survives.
  pub underway' : (m : ℕ) → r'.transit m ≡ true → SentOf r' m
  unfolding recovered
  underway' m t =
      let z = recovered_transit r F m t in
      (sent_in r v m z.0, after (r.sender m) (sent_in r v m z.0) (sent_in_stands r v m z.0) (rw (underway_sent r v m z.0) at z.1))

  -- None that is under way was received.
  pub pending' : (m : ℕ) → r'.transit m ≡ true → (p g : ℕ) → Stands (received m) g (r'.events p) → ⊥
  pending' m t p g s = v.pending m (recovered_transit r F m t).0 p g (before p g s).0

  -- A process that has sent in its current interval has its mark set.
  pub marked' : (p m : ℕ) → Stands (sent m) (r'.own p) (r'.events p) → r'.mark p ≡ true
  marked' p m s = let w = before p (r'.own p) s in by_bool (R p)
      (λ e. absurd (omega (arith, own_back p e, w.1)))
      (λ e. recovered_mark_stays r F p e ∙ v.marked p m (rw (own_stays p e) at w.0))

  -- What a state up to the member knows.
  pub knows_old : (p k q f : ℕ) → k ≤ L p → q < r.n → f < r.n → r'.vector q (r.vector p k q) f ≤ r.vector p k f
  knows_old p k q f le hq hf = by_eq p q
      (λ e. rw (← e) (omega (arith, ap (λ g. r'.vector p g f) (v.self p k (omega (arith, within p))), old p k f le)))
      (λ ne. omega (
        arith,
        old q (r.vector p k q) f (omega (arith, rising r v p q k (L p) le (within p), knows p q hq)),
        v.knows p k q f (omega (arith, within p)) hq hf,
      ))

  -- A state that knows an interval knows what that interval knew.
  pub knows' : (p k q f : ℕ) → k ≤ r'.own p → q < r.n → f < r.n → r'.vector q (r'.vector p k q) f ≤ r'.vector p k f
  knows' p k q f le hq hf = elim (state p k le) [
    | inl o ↦ rw (old p k q o, old p k f o) (knows_old p k q f o hq hf)
    | inr w ↦ rw w.1 (by_eq p q
        (λ e. rw (← e) (omega (arith, ap (λ g. r'.vector p g f) (new_own p w.0))))
        (λ ne. rw (new p q w.0 ne) (omega (arith, knows_old p (L p) q f (omega arith) hq hf, grows p f w.0))))
  ]

  -- A process whose current interval another one knows has its mark set.
  pub known' : (p k q : ℕ) → k ≤ r'.own p → q < r.n → (p ≡ q → ⊥) → r'.vector p k q ≡ r'.own q → r'.mark q ≡ true
  known' p k q le hq ne d = by_bool (R q)
      (λ e. absurd (omega (arith, at_most_lem p k q le hq ne, own_back q e)))
      (λ e. recovered_mark_stays r F q e ∙ elim (state p k le) [
        | inl o ↦ v.known p k q (omega (arith, within p)) hq ne (sym (old p k q o) ∙ d ∙ own_stays q e)
        | inr w ↦ v.known p (L p) q (within p) hq ne (sym (new p q w.0 ne) ∙ ap (λ g. r'.vector p g q) (sym w.1) ∙ d ∙ own_stays q e)
      ])

  -- A message that told a process something still stands in its list.
  pub informed : (p a b f e : ℕ) → a ≤ L p → Informed r p a b f e → Informed r' p a b f e
  unfolding recovered
  informed p a b f e le w = (w.0, w.1, after p w.1 w.2 (omega (arith, w.3)), w.3, w.4, w.5)

  -- What a message carried of another process came to its sender by a message.
  pub source' : (p g m f : ℕ) → Stands (sent m) g (r'.events p) → f < r.n → (p ≡ f → ⊥) → 1 ≤ r.carried m f → Informed r' p g m f (r.carried m f)
  source' p g m f s hf ne pos = let w = before p g s in informed p g m f (r.carried m f) w.1 (v.source p g m f w.0 hf ne pos)

  -- What the new live state knows of others is what the member knew.
  pub learnt_live : (p f : ℕ) → R p ≡ true → f < r.n → (p ≡ f → ⊥) → 1 ≤ r'.vector p (suc (L p)) f → Informed r' p (suc (L p)) (suc r.last) f (r'.vector p (suc (L p)) f)
  learnt_live p f e hf ne = rw (new p f e ne) λ pos.
      let z = informed p (L p) (suc r.last) f (r.vector p (L p) f) (omega arith) (v.learnt p (L p) f (within p) hf ne pos) in
      (z.0, z.1, z.2, omega (arith, z.3), z.4, z.5)

  -- What a state knows of another process came by a message.
  pub learnt' : (p k f : ℕ) → k ≤ r'.own p → f < r.n → (p ≡ f → ⊥) → 1 ≤ r'.vector p k f → Informed r' p k (suc r.last) f (r'.vector p k f)
  learnt' p k f le hf ne = elim (state p k le) [
    | inl o ↦ rw (old p k f o) λ pos. informed p k (suc r.last) f (r.vector p k f) o (v.learnt p k f (omega (arith, within p)) hf ne pos)
    | inr w ↦ rw w.1 (learnt_live p f w.0 hf ne)
  ]

  -- What a live state of now knows of another process is what the member knows.
  pub live_other : (p f : ℕ) → (p ≡ f → ⊥) → r'.vector p (r'.own p) f ≡ r.vector p (L p) f
  live_other p f ne = by_bool (R p)
      (λ e. rw (own_back p e) (new p f e ne))
      (λ e. rw (own_stays p e) (ap (λ k. r'.vector p k f) (sym (stays p e)) ∙ old p (L p) f (omega arith)))
