-- The tests of specs/Judging find exactly what specs/Paths defines: zigzag paths and causal precedence.
-- Assumes nothing.
use Rattle.std.specs.Prelude.{◌≡◌, ◌&&◌, ◌≤◌, ◌<◌}
use Rattle.laws.specs.Basics.{refl, sym, ◌∙◌, ap, Bool, true, false≢true, List, Option, None, Some, inl, inr, ℕ, zero, suc, arith, eqb, ltb, leb, length, eq-eqb, eqb-true, lt-ltb, ltb-true, ltb-false, le-leb, leb-true, by_bool, by_eq}
use Rattle.laws.specs.{Options.some_same, Truth.and_out, Truth.and_both, Truth.or_left, Truth.or_in_right, Truth.or_right, Search.any_out, Search.any_in}
use Rattle.histories.specs.History.{HistoryEvent, stored, sent, received, Lists, checkpoints}
use Rattle.histories.proofs.Apart.{received_stored}
use Rattle.theory_patterns.specs.Paths.{event_at, interval, place_of, Path, one, onward, Zigzag, Precedes, message, through, Before}
use Rattle.theory_patterns.specs.Judging.{is_send, is_receipt, sent_where, received_where, sent_after, sent_onward, sent_later, received_before, is_last, connects, has_zigzag, is_before}
use Rattle.theory_patterns.proofs.Placing.{stands_at, interval_before, interval_after, place_before, place_stored, place_le, place_end, place_rises, place_in, along}
use Rattle.theory_patterns.proofs.Reaching.{Knows, reached}
use Rattle.theory_patterns.proofs.Sequences.{last_none, last_out, begun, closed}

-- Events at a place.
send_at : (m : ℕ) (o : Option HistoryEvent) → is_send m o ≡ true → o ≡ Some (sent m)
unfolding is_send
send_at m None e = absurd (false≢true e)
send_at m (Some stored) e = absurd (false≢true e)
send_at m (Some (sent k)) e = ap (λ (x : ℕ). Some (sent x)) (eqb-true k m e)
send_at m (Some (received k)) e = absurd (false≢true e)

at_send : (m : ℕ) (o : Option HistoryEvent) → o ≡ Some (sent m) → is_send m o ≡ true
unfolding is_send
at_send m o e = rw e (eq-eqb m m refl)

receipt_at : (m : ℕ) (o : Option HistoryEvent) → is_receipt m o ≡ true → o ≡ Some (received m)
unfolding is_receipt
receipt_at m None e = absurd (false≢true e)
receipt_at m (Some stored) e = absurd (false≢true e)
receipt_at m (Some (sent k)) e = absurd (false≢true e)
receipt_at m (Some (received k)) e = ap (λ (x : ℕ). Some (received x)) (eqb-true k m e)

at_receipt : (m : ℕ) (o : Option HistoryEvent) → o ≡ Some (received m) → is_receipt m o ≡ true
unfolding is_receipt
at_receipt m o e = rw e (eq-eqb m m refl)

-- Events in a list, at a place that passes a test.
module _ (l : List HistoryEvent) (m : ℕ) (test : ℕ → Bool) where
  sent_out : sent_where l m test ≡ true → (i : ℕ) × (event_at l i ≡ Some (sent m)) × (test i ≡ true)
  unfolding sent_where
  sent_out e =
      let w = any_out (length l) (λ i. is_send m (event_at l i) && test i) e in
      let d = and_out (is_send m (event_at l w.0)) (test w.0) w.2 in
      (w.0, send_at m (event_at l w.0) d.0, d.1)

  sent_in_lem : (i : ℕ) → event_at l i ≡ Some (sent m) → test i ≡ true → sent_where l m test ≡ true
  unfolding sent_where
  sent_in_lem i e t = any_in (length l) (λ i. is_send m (event_at l i) && test i) i (place_in l i (sent m) e)
      (and_both (is_send m (event_at l i)) (test i) (at_send m (event_at l i) e) t)

  received_out : received_where l m test ≡ true → (i : ℕ) × (event_at l i ≡ Some (received m)) × (test i ≡ true)
  unfolding received_where
  received_out e =
      let w = any_out (length l) (λ i. is_receipt m (event_at l i) && test i) e in
      let d = and_out (is_receipt m (event_at l w.0)) (test w.0) w.2 in
      (w.0, receipt_at m (event_at l w.0) d.0, d.1)

  received_in : (i : ℕ) → event_at l i ≡ Some (received m) → test i ≡ true → received_where l m test ≡ true
  unfolding received_where
  received_in i e t = any_in (length l) (λ i. is_receipt m (event_at l i) && test i) i (place_in l i (received m) e)
      (and_both (is_receipt m (event_at l i)) (test i) (at_receipt m (event_at l i) e) t)

-- Receipts come before the state whose interval they stand in, or a later one.
before_state : (l : List HistoryEvent) (β j m : ℕ) → β ≤ checkpoints l → event_at l j ≡ Some (received m) → interval l j ≤ β → j < place_of β l
before_state l β j m far r le = by_bool (ltb j (place_of β l))
    (λ e. ltb-true j (place_of β l) e)
    (λ e.
    let late = ltb-false j (place_of β l) e in
    by_eq β (checkpoints l)
    (λ c. absurd (omega (arith, late, place_end l β (omega arith), place_in l j (received m) r)))
    (λ ne. by_eq j (place_of β l)
    (λ c. absurd (received_stored m (some_same (sym r ∙ (rw (← c) at (place_stored l β (omega arith)))))))
    (λ other. absurd (omega (arith, le, interval_after l j β (omega arith) (omega arith))))))

-- Every message of the lists has a number that is searched, and every process of one is among n.
pub record Numbered (n sends : ℕ) (lists : Lists) : Type 0 where
  pub sent_by : (p i m : ℕ) → event_at (lists p) i ≡ Some (sent m) → (p < n) × (m < suc sends)
  pub received_by : (p i m : ℕ) → event_at (lists p) i ≡ Some (received m) → (p < n) × (m < suc sends)

module _ (n sends : ℕ) (lists : Lists) (w : Numbered n sends lists) where
  -- A message that is sent by the process that received another one.
  onward_out : (x m : ℕ) → sent_onward n lists x m ≡ true
      → (c : ℕ) × (j : ℕ) × (i : ℕ) × (event_at (lists c) j ≡ Some (received x)) × (event_at (lists c) i ≡ Some (sent m)) × (interval (lists c) j ≤ interval (lists c) i)
  unfolding sent_onward
  onward_out x m e =
      let u = any_out n (λ c. received_where (lists c) x (λ j. sent_where (lists c) m (λ i. leb (interval (lists c) j) (interval (lists c) i)))) e in
      let l = lists u.0 in
      let r = received_out l x (λ j. sent_where l m (λ i. leb (interval l j) (interval l i))) u.2 in
      let s = sent_out l m (λ i. leb (interval l r.0) (interval l i)) r.2 in
      (u.0, r.0, s.0, r.1, s.1, leb-true (interval l r.0) (interval l s.0) s.2)

  onward_in : (x m c j i : ℕ) → event_at (lists c) j ≡ Some (received x) → event_at (lists c) i ≡ Some (sent m) → interval (lists c) j ≤ interval (lists c) i → sent_onward n lists x m ≡ true
  unfolding sent_onward
  onward_in x m c j i r s le =
      let l = lists c in
      any_in n (λ c. received_where (lists c) x (λ j. sent_where (lists c) m (λ i. leb (interval (lists c) j) (interval (lists c) i)))) c (w.sent_by c i m s).0
      (received_in l x (λ j. sent_where l m (λ i. leb (interval l j) (interval l i))) j r
      (sent_in_lem l m (λ i. leb (interval l j) (interval l i)) i s (le-leb (interval l j) (interval l i) le)))

  later_out : (x m : ℕ) → sent_later n lists x m ≡ true
      → (c : ℕ) × (j : ℕ) × (i : ℕ) × (event_at (lists c) j ≡ Some (received x)) × (event_at (lists c) i ≡ Some (sent m)) × (j < i)
  unfolding sent_later
  later_out x m e =
      let u = any_out n (λ c. received_where (lists c) x (λ j. sent_where (lists c) m (λ i. ltb j i))) e in
      let l = lists u.0 in
      let r = received_out l x (λ j. sent_where l m (λ i. ltb j i)) u.2 in
      let s = sent_out l m (λ i. ltb r.0 i) r.2 in
      (u.0, r.0, s.0, r.1, s.1, ltb-true r.0 s.0 s.2)

  later_in : (x m c j i : ℕ) → event_at (lists c) j ≡ Some (received x) → event_at (lists c) i ≡ Some (sent m) → j < i → sent_later n lists x m ≡ true
  unfolding sent_later
  later_in x m c j i r s lt =
      let l = lists c in
      any_in n (λ c. received_where (lists c) x (λ j. sent_where (lists c) m (λ i. ltb j i))) c (w.sent_by c i m s).0
      (received_in l x (λ j. sent_where l m (λ i. ltb j i)) j r (sent_in_lem l m (λ i. ltb j i) i s (lt-ltb j i lt)))

  module _ (a α : ℕ) where
    after_out : (m : ℕ) → sent_after lists a α m ≡ true → (i : ℕ) × (event_at (lists a) i ≡ Some (sent m)) × (α < interval (lists a) i)
    unfolding sent_after
    after_out m e =
        let s = sent_out (lists a) m (λ i. ltb α (interval (lists a) i)) e in
        (s.0, s.1, ltb-true α (interval (lists a) s.0) s.2)

    after_in : (m i : ℕ) → event_at (lists a) i ≡ Some (sent m) → α < interval (lists a) i → sent_after lists a α m ≡ true
    unfolding sent_after
    after_in m i s lt = sent_in_lem (lists a) m (λ i. ltb α (interval (lists a) i)) i s (lt-ltb α (interval (lists a) i) lt)

    -- The far end of a sequence.
    ends_out : (b β : ℕ) (step : ℕ → ℕ → Bool) → connects n sends lists a α b β step ≡ true
        → (m : ℕ) × (j : ℕ) × (is_last (suc sends) (sent_after lists a α) step (suc sends) m ≡ true) × (event_at (lists b) j ≡ Some (received m)) × (interval (lists b) j ≤ β)
    unfolding connects received_before
    ends_out b β step e =
        let u = any_out (suc sends) (λ m. is_last (suc sends) (sent_after lists a α) step (suc sends) m && received_before lists b β m) e in
        let d = and_out (is_last (suc sends) (sent_after lists a α) step (suc sends) u.0) (received_before lists b β u.0) u.2 in
        let r = received_out (lists b) u.0 (λ j. leb (interval (lists b) j) β) d.1 in
        (u.0, r.0, d.0, r.1, leb-true (interval (lists b) r.0) β r.2)

    ends_in : (b β : ℕ) (step : ℕ → ℕ → Bool) (m j : ℕ) → is_last (suc sends) (sent_after lists a α) step (suc sends) m ≡ true → event_at (lists b) j ≡ Some (received m)
        → interval (lists b) j ≤ β → connects n sends lists a α b β step ≡ true
    unfolding connects received_before
    ends_in b β step m j e r le =
        any_in (suc sends) (λ m. is_last (suc sends) (sent_after lists a α) step (suc sends) m && received_before lists b β m) m (w.received_by b j m r).1
        (and_both (is_last (suc sends) (sent_after lists a α) step (suc sends) m) (received_before lists b β m) e
        (received_in (lists b) m (λ j. leb (interval (lists b) j) β) j r (le-leb (interval (lists b) j) β le)))

    -- Zigzag paths.
    abbrev ends_zigzag : ℕ → ℕ → Bool
    ends_zigzag = is_last (suc sends) (sent_after lists a α) (sent_onward n lists)

    to_path : (k m : ℕ) → ends_zigzag k m ≡ true → (b j : ℕ) → event_at (lists b) j ≡ Some (received m) → Path lists a α b (interval (lists b) j)
    to_path zero m e b j r = last_none (suc sends) (sent_after lists a α) (sent_onward n lists) m e
    to_path (suc k) m e b j r = elim (last_out (suc sends) (sent_after lists a α) (sent_onward n lists) k m e) [
      | inl q ↦
          let s = after_out m q in
          one {m = m} (stands_at (lists a) s.0 (sent m) s.1) s.2 (stands_at (lists b) j (received m) r)
      | inr (x, lt, d, o) ↦
          let s = onward_out x m o in
          onward {m = m} (to_path k x d s.0 s.1 s.3) (stands_at (lists s.0) s.2 (sent m) s.4) s.5 (stands_at (lists b) j (received m) r)
    ]

    by_path : {b h : ℕ} → Path lists a α b h → (m : ℕ) × (j : ℕ) × (ends_zigzag (suc sends) m ≡ true) × (event_at (lists b) j ≡ Some (received m)) × (interval (lists b) j ≡ h)
    by_path (one {b = b} {g = g} {h = h} {m = m} s lt r) =
        (m, r.0, begun (suc sends) (sent_after lists a α) (sent_onward n lists) m (w.received_by b r.0 m r.1).1 (after_in m s.0 s.1 (omega (arith, lt, s.2))), r.1, r.2)
    by_path (onward {c = c} {h = h} {b = b} {g = g} {j = j} {m = m} p s le r) =
        let u = by_path p in
        let x = u.0 in (
          m,
          r.0,
          closed (suc sends) (sent_after lists a α) (sent_onward n lists) x m (w.received_by c u.1 x u.3).1 (w.received_by b r.0 m r.1).1 u.2
              (onward_in x m c u.1 s.0 u.3 s.1 (omega (arith, le, u.4, s.2))),
          r.1,
          r.2,
        )

    pub zigzag_out : (b β : ℕ) → has_zigzag n sends lists a α b β ≡ true → Zigzag lists a α b β
    unfolding has_zigzag
    zigzag_out b β e =
        let u = ends_out b β (sent_onward n lists) e in
        (interval (lists b) u.1, to_path (suc sends) u.0 u.2 b u.1 u.3, u.4)

    pub zigzag_in : (b β : ℕ) → Zigzag lists a α b β → has_zigzag n sends lists a α b β ≡ true
    unfolding has_zigzag
    zigzag_in b β z = let u = by_path z.1 in ends_in b β (sent_onward n lists) u.0 u.1 u.2 u.3 (omega (arith, u.4, z.2))

    -- Causal precedence.
    abbrev ends_causal : ℕ → ℕ → Bool
    ends_causal = is_last (suc sends) (sent_after lists a α) (sent_later n lists)

    to_precedes : (k m : ℕ) → ends_causal k m ≡ true → (q j : ℕ) → event_at (lists q) j ≡ Some (received m) → Precedes lists a (place_of α (lists a)) q j
    to_precedes zero m e q j r = last_none (suc sends) (sent_after lists a α) (sent_later n lists) m e
    to_precedes (suc k) m e q j r = elim (last_out (suc sends) (sent_after lists a α) (sent_later n lists) k m e) [
      | inl f ↦
          let s = after_out m f in
          through (along lists a (place_of α (lists a)) s.0 (place_before (lists a) s.0 α s.2) (omega (arith, place_in (lists a) s.0 (sent m) s.1))) (message s.1 r)
      | inr (x, lt, d, o) ↦
          let s = later_out x m o in
          let c = s.0 in
          through (to_precedes k x d c s.1 s.3)
          (through (along lists c s.1 s.2 s.5 (omega (arith, place_in (lists c) s.2 (sent m) s.4))) (message s.4 r))
    ]

    module _ (near : α < checkpoints (lists a)) where
      pub before_out : (b β : ℕ) → β ≤ checkpoints (lists b) → is_before n sends lists a α b β ≡ true → Before lists a α b β
      unfolding is_before
      before_out b β far e = by_bool (eqb a b && ltb α β)
          (λ q.
          let d = and_out (eqb a b) (ltb α β) q in
          same (sym (eqb-true a b d.0)) (ltb-true α β d.1))
          (λ q.
          let u = ends_out b β (sent_later n lists) (or_right (eqb a b && ltb α β) _ q e) in
          through (to_precedes (suc sends) u.0 u.2 b u.1 u.3)
          (along lists b u.1 (place_of β (lists b)) (before_state (lists b) β u.1 u.0 far u.3 u.4) (place_le (lists b) β)))
        where
          same : b ≡ a → α < β → Before lists a α b β
          same c lt =
              let inside : β ≤ checkpoints (lists a) = rw c at far in
              rw c (along lists a (place_of α (lists a)) (place_of β (lists a)) (place_rises (lists a) α β lt inside) (place_le (lists a) β))

      -- What a place after the near end knows of it: a message that tells it ends a sequence from the near end.
      abbrev Known : ℕ → ℕ → Type 0
      Known = Knows lists a α (λ m. ends_causal (suc sends) m ≡ true)

      known : (q j : ℕ) → Precedes lists a (place_of α (lists a)) q j → Known q j
      known = reached lists a α (λ m. ends_causal (suc sends) m ≡ true) near
          (λ j m here lt. begun (suc sends) (sent_after lists a α) (sent_later n lists) m (w.sent_by a j m here).1 (after_in m j here lt))
          (λ q i j x m r e lt c. closed (suc sends) (sent_after lists a α) (sent_later n lists) x m (w.received_by q i x r).1 (w.sent_by q j m e).1 c (later_in x m q i j r e lt))

      learnt : (b β : ℕ) → Known b (place_of β (lists b)) → is_before n sends lists a α b β ≡ true
      unfolding Knows is_before
      learnt b β (inl (e, lt)) =
          let later : place_of α (lists a) < place_of β (lists a) = omega (arith, lt, ap (λ (q : ℕ). place_of β (lists q)) e) in
          let above : α < β = omega (arith, interval_after (lists a) (place_of β (lists a)) α near later, interval_before (lists a) (place_of β (lists a)) β (omega arith)) in
          or_left (eqb a b && ltb α β) _ (and_both (eqb a b) (ltb α β) (eq-eqb a b (sym e)) (lt-ltb α β above))
      learnt b β (inr (m, i, r, le, c)) = or_in_right (eqb a b && ltb α β) _ (ends_in b β (sent_later n lists) m i c r (interval_before (lists b) i β le))

      pub before_in : (b β : ℕ) → Before lists a α b β → is_before n sends lists a α b β ≡ true
      before_in b β p = learnt b β (known b (place_of β (lists b)) p)
