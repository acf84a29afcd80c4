-- Note 12: what a process is after its own records is the same in every order: its part of the run is a function of its records, in which a delivered message
-- carries what its sender's records before the send make of the sender. How far back messages go is bounded by the number of records.
use Rattle.std.specs.Prelude.{◌≡◌, ◌∷◌, ◌++◌, ◌⊎◌, ◌≤◌}
use Rattle.laws.specs.Basics.{refl, sym, ◌∙◌, ap, subst, Bool, false, List, [], inl, inr, ℕ, zero, suc, arith, length, eq-eqb, ne_eqb, pick, by_bool, by_eq}
use Rattle.laws.specs.Update.{upd, upd_same, upd_other}
use Rattle.model.specs.Words.{basic, forced}
use Rattle.theory_merges.specs.Halves.{HalfEvent, checkpoint_at, send_to, deliver_of, lose_of, is_send, send_by, how_many, message_number, happens_at}
use Rattle.histories.proofs.Run.{Ideal, begin, because, begun, stores, checkpointed, sending, forces, taken_by, taken_in, delivered, lost}
use Rattle.histories.proofs.Local.{Local, local_of, live_of, took_at, sent_at, forces_at, got_at, forces_local, local_took, local_took_other, local_sent, local_sent_other, local_got, local_got_other, local_lost}
use Rattle.histories.proofs.DeliveredViews.{delivered_n}
use Rattle.theory_merges.proofs.Lists.{number_out, number_used, number_still, number_new, before, before_is, own, own_nil, own_here, own_elsewhere, own_sends}

-- One process's part of the run with the causes of its checkpoints.
pub record Part : Type 0 where
  pub local : Local
  pub cause : ℕ → ℕ

unfoldable pub part_of : Ideal → ℕ → Part
part_of r p = record { local = local_of r p; cause = r.ledger.cause p }

part_eq : (P Q : Part) → P.local ≡ Q.local → P.cause ≡ Q.cause → P ≡ Q
part_eq P Q a b = λ j. record { local = a j; cause = b j }

-- What its own events make of it.
unfoldable pub part_took : ℕ → Part → Part
part_took i P = record { local = took_at i P.local; cause = upd P.cause P.local.own basic }

unfoldable pub part_sent : Part → Part
part_sent P = record { local = sent_at P.local; cause = P.cause }

unfoldable pub part_got : ℕ → ℕ → (ℕ → ℕ) → Part → Part
part_got n i c P = record { local = got_at n i c P.local; cause = pick (forces_at n c P.local) (upd P.cause P.local.own forced) P.cause }

module _ (r : Ideal) where
  -- Checkpoint at i.
  part_took_lem : (i : ℕ) → part_of (checkpointed (because basic r) i) i ≡ part_took i (part_of r i)
  unfolding part_of part_took checkpointed stores local_of
  part_took_lem i = part_eq _ _ (local_took (because basic r) i) (upd_same r.ledger.cause i _)

  part_took_other : (i p : ℕ) → (p ≡ i → ⊥) → part_of (checkpointed (because basic r) i) p ≡ part_of r p
  unfolding part_of checkpointed stores local_of
  part_took_other i p ne = part_eq _ _ (local_took_other (because basic r) i p ne) (upd_other r.ledger.cause i _ p ne)

  -- Send from i to j.
  part_sent_lem : (i j : ℕ) → part_of (sending r i j) i ≡ part_sent (part_of r i)
  unfolding part_of part_sent sending
  part_sent_lem i j = part_eq _ _ (local_sent r i j) refl

  part_sent_other : (i j p : ℕ) → (p ≡ i → ⊥) → part_of (sending r i j) p ≡ part_of r p
  unfolding part_of sending
  part_sent_other i j p ne = part_eq _ _ (local_sent_other r i j p ne) refl

  -- Lose m.
  part_lost : (m p : ℕ) → part_of (lost r m) p ≡ part_of r p
  unfolding part_of lost
  part_lost m p = part_eq _ _ (local_lost r m p) refl

-- Deliver m.
module _ (r : Ideal) (m : ℕ) where
  abbrev r₂ : Ideal
  r₂ = because forced r

  got_cause : (delivered r₂ m).ledger.cause (r.receiver m) ≡ pick (forces r₂ m) (upd (r.ledger.cause (r.receiver m)) (r.own (r.receiver m)) forced) (r.ledger.cause (r.receiver m))
  unfolding delivered taken_in taken_by checkpointed stores
  got_cause = by_bool (forces r₂ m) (λ e. rw e (upd_same r.ledger.cause (r.receiver m) _)) (λ e. rw e)

  got_cause_other : (p : ℕ) → (p ≡ r.receiver m → ⊥) → (delivered r₂ m).ledger.cause p ≡ r.ledger.cause p
  unfolding delivered taken_in taken_by checkpointed stores
  got_cause_other p ne = by_bool (forces r₂ m) (λ e. rw e (upd_other r.ledger.cause (r.receiver m) _ p ne)) (λ e. rw e)

  part_got_lem : part_of (delivered r₂ m) (r.receiver m) ≡ part_got r.n (r.receiver m) (r.carried m) (part_of r (r.receiver m))
  unfolding part_of part_got local_of
  part_got_lem = part_eq _ _ (local_got r₂ m) (got_cause ∙ ap (λ (b : Bool). pick b (upd (r.ledger.cause (r.receiver m)) (r.own (r.receiver m)) forced) (r.ledger.cause (r.receiver m))) (forces_local r₂ m))

  part_got_other : (p : ℕ) → (p ≡ r.receiver m → ⊥) → part_of (delivered r₂ m) p ≡ part_of r p
  unfolding part_of local_of
  part_got_other p ne = part_eq _ _ (local_got_other r₂ m p ne) (got_cause_other p ne)

  -- A delivery changes nothing else but what is under way.
  delivered_messages : ((delivered r₂ m).last ≡ r.last) × ((delivered r₂ m).carried ≡ r.carried) × ((delivered r₂ m).receiver ≡ r.receiver) × ((delivered r₂ m).ledger.block_counts ≡ r.ledger.block_counts)
  unfolding delivered taken_in taken_by checkpointed stores
  delivered_messages = by_bool (forces r₂ m) (λ e. rw e (refl, refl, refl, refl)) (λ e. rw e (refl, refl, refl, refl))

-- The number of processes and their block counts, the receiver of each message, the records of each process (the newest first).
module _ (n : ℕ) (block_counts : List ℕ) (to : ℕ → ℕ → ℕ) (records : ℕ → List HalfEvent) where
  -- What a record makes of its process's part, where the carried vectors are given.
  unfoldable pub act : ℕ → (ℕ → ℕ → ℕ → ℕ) → HalfEvent → Part → Part
  act p carried (checkpoint_at q) P = part_took p P
  act p carried (send_to i j) P = part_sent P
  act p carried (deliver_of s c) P = part_got n p (carried s c) P
  act p carried (lose_of s c) P = P

  unfoldable pub part_after : ℕ → (ℕ → ℕ → ℕ → ℕ) → List HalfEvent → Part
  part_after p carried [] = part_of (begun n block_counts) p
  part_after p carried (x ∷ l) = act p carried x (part_after p carried l)

  -- What send c of s carries, messages being followed back through k others.
  unfoldable pub carried_by : ℕ → ℕ → ℕ → ℕ → ℕ
  carried_by zero s c = λ f. 0
  carried_by (suc k) s c = live_of (part_after s (carried_by k) (before c (records s))).local

  -- A run after some records, newest first.
  pub record Follows (taken : List HalfEvent) (r : Ideal) : Type 0 where
    pub size : r.n ≡ n
    pub paid : r.ledger.block_counts ≡ (begun n block_counts).ledger.block_counts
    pub last : r.last ≡ how_many is_send taken
    pub part : (p k : ℕ) → length taken ≤ k → part_of r p ≡ part_after p (carried_by k) (own to p taken)
    pub carried_is : (s c k : ℕ) → 1 ≤ c → c ≤ how_many (send_by s) taken → length taken ≤ k → r.carried (message_number taken s c) ≡ carried_by k s c
    pub goes : (s c : ℕ) → 1 ≤ c → c ≤ how_many (send_by s) taken → r.receiver (message_number taken s c) ≡ to s c

  -- Before the first record.
  pub follows_begin : Follows [] (begun n block_counts)
  unfolding begin how_many part_after
  follows_begin = record {
    size = refl;
    paid = refl;
    last = refl;
    part = λ p k le. rw (own_nil to p);
    carried_is = λ s c k a b le. absurd (omega arith);
    goes = λ s c a b. absurd (omega arith);
  }

  -- A record that is no send: numbers, counts, what is carried and whom messages go to stay.
  module _ (taken : List HalfEvent) (r r₁ : Ideal) (x : HalfEvent) (w : Follows taken r) (no_send : is_send x ≡ false) (none-by : (s : ℕ) → send_by s x ≡ false)
      (size : r₁.n ≡ r.n) (paid : r₁.ledger.block_counts ≡ r.ledger.block_counts) (last : r₁.last ≡ r.last) (carried : r₁.carried ≡ r.carried) (receiver : r₁.receiver ≡ r.receiver)
      (parts : (p k : ℕ) → length taken ≤ k → part_of r₁ p ≡ part_after p (carried_by k) (own to p (x ∷ taken))) where
    pub follows_quiet : Follows (x ∷ taken) r₁
    unfolding how_many
    follows_quiet = record {
      size = size ∙ w.size;
      paid = paid ∙ w.paid;
      last = rw (no_send, last) w.last;
      part = λ p k le. parts p k (omega (arith, le));
      carried_is = λ s c k a b le. let b₁ : c ≤ how_many (send_by s) taken = rw (none-by s) at b in
          rw (number_still x taken s c b₁, carried) (w.carried_is s c k a b₁ (omega (arith, le)));
      goes = λ s c a b. let b₁ : c ≤ how_many (send_by s) taken = rw (none-by s) at b in
          rw (number_still x taken s c b₁, receiver) (w.goes s c a b₁);
    }

  -- The parts after a step at process b.
  parts_after : (taken : List HalfEvent) (r r₁ : Ideal) (x : HalfEvent) (b : ℕ) → Follows taken r → happens_at to x ≡ b → ((p : ℕ) → (p ≡ b → ⊥) → part_of r₁ p ≡ part_of r p)
      → ((k : ℕ) → length taken ≤ k → part_of r₁ b ≡ act b (carried_by k) x (part_of r b))
      → (p k : ℕ) → length taken ≤ k → part_of r₁ p ≡ part_after p (carried_by k) (own to p (x ∷ taken))
  unfolding part_after
  parts_after taken r r₁ x b w at others here p k le = by_eq p b
      (λ e. rw (e, own_here to b x taken at) (here k le ∙ ap (act b (carried_by k) x) (w.part b k le)))
      (λ ne. rw (own_elsewhere to p x taken (λ q. ne (sym q ∙ at))) (others p ne ∙ w.part p k le))

  module _ (taken : List HalfEvent) (r : Ideal) (w : Follows taken r) where
    -- A checkpoint at p.
    pub follows_checkpoint : (p : ℕ) → Follows (checkpoint_at p ∷ taken) (checkpointed (because basic r) p)
    unfolding is_send send_by happens_at act checkpointed stores
    follows_checkpoint p = follows_quiet taken r (checkpointed (because basic r) p) (checkpoint_at p) w refl (λ s. refl) refl refl refl refl refl
        (parts_after taken r (checkpointed (because basic r) p) (checkpoint_at p) p w refl (part_took_other r p) (λ k le. part_took_lem r p))

    -- A loss.
    pub follows_lose : (s c m : ℕ) → Follows (lose_of s c ∷ taken) (lost r m)
    unfolding is_send send_by happens_at act lost
    follows_lose s c m = follows_quiet taken r (lost r m) (lose_of s c) w refl (λ s. refl) refl refl refl refl refl
        (parts_after taken r (lost r m) (lose_of s c) (to s c) w refl (λ p ne. part_lost r m p) (λ k le. part_lost r m (to s c)))

    -- A delivery of a message that was sent.
    pub follows_deliver : (s c : ℕ) → 1 ≤ message_number taken s c → Follows (deliver_of s c ∷ taken) (delivered (because forced r) (message_number taken s c))
    unfolding is_send send_by happens_at act
    follows_deliver s c sent =
        let z = number_out taken s c sent in
        let at : r.receiver (message_number taken s c) ≡ to s c = w.goes s c z.0 z.1 in
        let u = delivered_messages r (message_number taken s c) in
        let r₁ = delivered (because forced r) (message_number taken s c) in
        follows_quiet taken r r₁ (deliver_of s c) w refl (λ s. refl) (delivered_n (because forced r) (message_number taken s c)) u.3 u.0 u.1 u.2
        (parts_after taken r r₁ (deliver_of s c) (to s c) w refl
        (λ p ne. part_got_other r (message_number taken s c) p (λ q. ne (q ∙ at)))
        (λ k le. subst (λ (x : ℕ). part_of r₁ x ≡ part_got r.n x (r.carried (message_number taken s c)) (part_of r x)) at (part_got_lem r (message_number taken s c))
        ∙ (λ j. part_got (w.size j) (to s c) (w.carried_is s c k z.0 z.1 le j) (part_of r (to s c)))))

    -- A send, where the records of its process are these and later ones.
    module _ (i j : ℕ) (more : List HalfEvent) (whole : records i ≡ own to i more ++ own to i (send_to i j ∷ taken)) (named : to i (suc (how_many (send_by i) taken)) ≡ j) where
      abbrev c : ℕ
      c = suc (how_many (send_by i) taken)

      -- The records before it.
      earlier : before (suc (how_many (send_by i) taken)) (records i) ≡ own to i taken
      unfolding happens_at
      earlier = rw (whole, own_here to i (send_to i j) taken refl, ← own_sends to i taken) (before_is (own to i more) i j (own to i taken))

      carries : (k : ℕ) → length (send_to i j ∷ taken) ≤ k → carried_by k i (suc (how_many (send_by i) taken)) ≡ r.vector i (r.own i)
      unfolding carried_by part_of local_of
      carries zero le = absurd (omega arith)
      carries (suc k) le = rw earlier (ap (λ (P : Part). live_of P.local) (sym (w.part i k (omega arith))))

      r₁ : Ideal
      r₁ = sending r i j

      sends_of : (s : ℕ) → (s ≡ i → ⊥) → how_many (send_by s) (send_to i j ∷ taken) ≡ how_many (send_by s) taken
      unfolding how_many send_by
      sends_of s ne = rw (ne_eqb i s (λ q. ne (sym q)))

      sends_of_i : how_many (send_by i) (send_to i j ∷ taken) ≡ suc (how_many (send_by i) taken)
      unfolding how_many send_by
      sends_of_i = rw (eq-eqb i i refl)

      -- A message: this one, or one that was sent before.
      which : (s k : ℕ) → k ≤ how_many (send_by s) (send_to i j ∷ taken) → ((s ≡ i) × (k ≡ suc (how_many (send_by i) taken))) ⊎ (k ≤ how_many (send_by s) taken)
      which s k le = by_eq s i
          (λ e. by_eq k (suc (how_many (send_by i) taken))
          (λ d. inl (e, d))
          (λ nd. inr (rw e (omega (arith, sends_of_i, rw e at le)))))
          (λ ne. inr (omega (arith, sends_of s ne)))

      older : (s k : ℕ) → message_number taken s k ≡ suc r.last → ⊥
      older s k e = omega (arith, number_used taken s k, w.last)

      new_number : message_number (send_to i j ∷ taken) i (suc (how_many (send_by i) taken)) ≡ suc r.last
      new_number = number_new i j taken ∙ ap suc (sym w.last)

      pub follows_send : Follows (send_to i j ∷ taken) (sending r i j)
      unfolding sending how_many is_send happens_at act
      follows_send = record {
        size = w.size;
        paid = w.paid;
        last = ap suc w.last;
        part = λ p k le. parts_after taken r (sending r i j) (send_to i j) i w refl (part_sent_other r i j) (λ k le. part_sent_lem r i j) p k (omega (arith, le));
        carried_is = λ s k h a b le. elim (which s k b) [
          | inl z ↦ rw (z.0, z.1, new_number, upd_same r.carried (suc r.last) (r.vector i (r.own i))) (sym (carries h le))
          | inr d ↦ rw (number_still (send_to i j) taken s k d, upd_other r.carried (suc r.last) (r.vector i (r.own i)) (message_number taken s k) (older s k)) (w.carried_is s k h a d (omega (arith, le)))
        ];
        goes = λ s k a b. elim (which s k b) [
          | inl z ↦ rw (z.0, z.1, new_number, upd_same r.receiver (suc r.last) j) (sym named)
          | inr d ↦ rw (number_still (send_to i j) taken s k d, upd_other r.receiver (suc r.last) j (message_number taken s k) (older s k)) (w.goes s k a d)
        ];
      }
