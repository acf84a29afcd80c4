-- Where the knowledge that a message carries came from, by place: a message received before that send, which carried as much. Each step keeps this.
-- Assumes nothing.
use Rattle.std.specs.Prelude.{◌≡◌, ◌∷◌, ◌++◌, ◌≤◌, ◌<◌}
use Rattle.laws.specs.Basics.{List, [], inl, inr, ℕ, suc, arith, by_bool, by_eq}
use mathlib.Core.List.{Memᴰ}
use Rattle.histories.specs.History.{HistoryEvent, stored, sent, received, up_to, before}
use Rattle.histories.proofs.Run.{Ideal, Failed, begin, checkpointed, sending, forces, taken_in, delivered, lost, line, rolled, recovered}
use Rattle.histories.proofs.{Invariant.Inv, Cuts.stands_member, Cuts.member_stands, Cuts.up_to_out, Delivered.delivered_forced, Delivered.delivered_plain}
use Rattle.histories.proofs.{Apart.same_sent, Apart.sent_stored, Apart.sent_received, Before.before_end, Before.before_new, Before.before_up_to, Before.member_end}
use Rattle.histories.proofs.Sending.{sending_n, sending_carried, sending_carried_other, sending_events, sending_events_other}
use Rattle.histories.proofs.CheckpointedViews.{checkpointed_n, checkpointed_carried, checkpointed_events, checkpointed_events_other}
use Rattle.histories.proofs.TakenInViews.{taken_in_n, taken_in_carried, taken_in_events, taken_in_events_other}
use Rattle.histories.proofs.RecoveredViews.{recovered_n, recovered_carried, recovered_events_back, recovered_events_stays}

abbrev pub Sources : Ideal → Type 0
Sources r = (q m f : ℕ) → Memᴰ (sent m) (r.events q) → f < r.n → (q ≡ f → ⊥) → 1 ≤ r.carried m f
    → (x : ℕ) × (x < m) × Memᴰ (received x) (before m (r.events q)) × (r.carried m f ≤ r.carried x f)

pub begin_sources : (n : ℕ) → Sources (begin n)
unfolding begin
begin_sources n q m f s hf ne pos = elim (mathlib.Core.List.Memᴰ.cases_cons s) [ inl e ↦ absurd (sent_stored m e) | inr t ↦ absurd (mathlib.Core.List.Memᴰ.not-nil t) ]

-- A send stands in one list as it stands in another.
abbrev Alike : ℕ → List HistoryEvent → List HistoryEvent → Type 0
Alike m l l' = Memᴰ (sent m) l × (before m l' ≡ before m l)

alike_same : (m : ℕ) (l l' : List HistoryEvent) → l' ≡ l → Memᴰ (sent m) l' → Alike m l l'
alike_same m l l' e s = (rw e at s, rw e)

alike_end : (m : ℕ) (l l' : List HistoryEvent) (x : HistoryEvent) → l' ≡ l ++ (x ∷ []) → (sent m ≡ x → ⊥) → Memᴰ (sent m) l' → Alike m l l'
alike_end m l l' x e ne s = elim (member_end l x (rw e at s)) [ inl q ↦ absurd (ne q) | inr t ↦ (t, rw e (before_end m l x t)) ]

alike_up_to : (m k : ℕ) (l l' : List HistoryEvent) → l' ≡ up_to k l → Memᴰ (sent m) l' → Alike m l l'
alike_up_to m k l l' e s =
    let t : Memᴰ (sent m) (up_to k l) = rw e at s in
    (stands_member l (up_to_out k l (member_stands (up_to k l) t).1).0, rw e (before_up_to m k l t))

-- A step that leaves the sends and what they carried alone.
kept_sources : (r r' : Ideal) → r'.n ≡ r.n → ((m f : ℕ) → r'.carried m f ≡ r.carried m f) → ((q m : ℕ) → Memᴰ (sent m) (r'.events q) → Alike m (r.events q) (r'.events q))
    → Sources r → Sources r'
kept_sources r r' size carried alike h q m f s hf ne pos =
    let z = alike q m s in
    let w = h q m f z.0 (omega arith) ne (omega (arith, carried m f)) in
    (w.0, w.1, rw z.1 w.2, omega (arith, w.3, carried m f, carried w.0 f))

pub checkpointed_sources : (r : Ideal) (i : ℕ) → Sources r → Sources (checkpointed r i)
checkpointed_sources r i = kept_sources r (checkpointed r i) (checkpointed_n r i) (checkpointed_carried r i)
    (λ q m s. by_eq q i
    (λ e. alike_end m (r.events q) ((checkpointed r i).events q) stored (rw e (checkpointed_events r i)) (sent_stored m) s)
    (λ ne. alike_same m (r.events q) ((checkpointed r i).events q) (checkpointed_events_other r i q ne) s))

taken_sources : (r : Ideal) (x : ℕ) → Sources r → Sources (taken_in r x)
taken_sources r x = kept_sources r (taken_in r x) (taken_in_n r x) (taken_in_carried r x)
    (λ q m s. by_eq q (r.receiver x)
    (λ e. alike_end m (r.events q) ((taken_in r x).events q) (received x) (rw e (taken_in_events r x)) (sent_received m x) s)
    (λ ne. alike_same m (r.events q) ((taken_in r x).events q) (taken_in_events_other r x q ne) s))

pub delivered_sources : (r : Ideal) (m : ℕ) → Sources r → Sources (delivered r m)
delivered_sources r m h = by_bool (forces r m)
    (λ e. rw (delivered_forced r m e) (taken_sources (checkpointed r (r.receiver m)) m (checkpointed_sources r (r.receiver m) h)))
    (λ e. rw (delivered_plain r m e) (taken_sources r m h))

pub lost_sources : (r : Ideal) (m : ℕ) → Sources r → Sources (lost r m)
unfolding lost
lost_sources r m h = h

pub recovered_sources : (r : Ideal) (F : Failed) → Sources r → Sources (recovered r F)
recovered_sources r F = kept_sources r (recovered r F) (recovered_n r F) (recovered_carried r F)
    (λ q m s. by_bool (rolled r F q)
    (λ e. alike_up_to m (line r F q) (r.events q) ((recovered r F).events q) (recovered_events_back r F q e) s)
    (λ e. alike_same m (r.events q) ((recovered r F).events q) (recovered_events_stays r F q e) s))

module _ (r : Ideal) (i j : ℕ) (v : Inv r) (h : Sources r) where
  -- A number that was not used stands nowhere as sent.
  unused : (q m : ℕ) → Memᴰ (sent m) (r.events q) → m ≤ r.last
  unused q m s = let w = member_stands (r.events q) s in (v.proper q w.0 m w.1).1.used

  -- The new message: what its sender knows came by a receipt in its list.
  new_source : (q m f : ℕ) → m ≡ suc r.last → q ≡ i → f < r.n → (q ≡ f → ⊥) → 1 ≤ (sending r i j).carried m f
      → (x : ℕ) × (x < m) × Memᴰ (received x) (before m ((sending r i j).events q)) × ((sending r i j).carried m f ≤ (sending r i j).carried x f)
  new_source q m f new e hf ne pos =
      let same : (sending r i j).carried m f ≡ r.vector q (r.own q) f = rw (new, e) (sending_carried r i j f) in
      let w = v.learnt q (r.own q) f (omega arith) hf ne (omega arith) in
      let front : before m ((sending r i j).events q) ≡ r.events q = rw (new, e, sending_events r i j) (before_new (suc r.last) (r.events i) (λ s. let u = unused i (suc r.last) s in omega arith)) in
      (w.0, omega (arith, w.4), rw front (stands_member (r.events q) w.2), omega (arith, w.5, sending_carried_other r i j w.0 f (omega (arith, w.4))))

  old_alike : (q m : ℕ) → (m ≡ suc r.last → ⊥) → Memᴰ (sent m) ((sending r i j).events q) → Alike m (r.events q) ((sending r i j).events q)
  old_alike q m old s = by_eq q i
      (λ e. alike_end m (r.events q) ((sending r i j).events q) (sent (suc r.last)) (rw e (sending_events r i j)) (λ c. old (same_sent m (suc r.last) c)) s)
      (λ ne. alike_same m (r.events q) ((sending r i j).events q) (sending_events_other r i j q ne) s)

  pub sending_sources : Sources (sending r i j)
  sending_sources q m f s hf ne pos =
      let less : f < r.n = omega (arith, sending_n r i j) in
      by_eq m (suc r.last)
      (λ new. by_eq q i
      (λ e. new_source q m f new e less ne pos)
      (λ other. let u = unused q m (rw (sending_events_other r i j q other) at s) in absurd (omega arith)))
      (λ old.
      let z = old_alike q m old s in
      let few = unused q m z.0 in
      let w = h q m f z.0 less ne (omega (arith, sending_carried_other r i j m f old)) in
      (w.0, w.1, rw z.1 w.2, omega (arith, w.3, sending_carried_other r i j m f old, sending_carried_other r i j w.0 f (omega (arith, w.1)))))
