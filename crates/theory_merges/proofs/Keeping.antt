-- Note 12, proved: a merge that comes to its end keeps both halves' orders, and each record stands in the half of its process.
-- Assumes nothing.
use Rattle.std.specs.Prelude.{◌≡◌, ◌||◌, ◌∷◌, ◌++◌, ◌⊎◌, ◌+◌}
use Rattle.laws.specs.Basics.{refl, sym, ◌∙◌, ap, fun_ext, Bool, true, false, not, List, [], map, append_assoc, Option, None, Some, inl, inr, ℕ, zero, suc, arith, eqb, leb, length, leb-true, not-true, not-false, by_bool}
use Rattle.laws.specs.{Tests.every, Truth.and_both}
use Rattle.model.specs.declared.{Fields.Fields, Refusal.Refusal}
use Rattle.model.specs.{Words.in_set, Trace.if_zero_of, laws.Refusals.no_rule}
use Rattle.whole_runs.specs.Outcomes.{judged}
use Rattle.theory_merges.specs.Halves.{HalfEvent, checkpoint_at, send_to, deliver_of, lose_of, message_number, receiver_of, receiver_in, newest_first, KeepsBoth, was_sent, sends_first, happens_at, SplitBy}
use Rattle.theory_merges.specs.Merge.{argument_sender, argument_count, half_event_of, is_ready, Next, next_is, neither, next_of_second, next_record, in_half_of, record_refusal, Taken, stopped, took, on_record, on_next, take_from, MergeKeeps}
use Rattle.theory_merges.proofs.{Lists.number_out, Lists.reversed_append, Lists.receiver_still, Orders.same_receiver}

-- What a record of a half stands for.
zero_out : (k : ℕ) (x y : HalfEvent) → if_zero_of k x ≡ Some y → x ≡ y
unfolding if_zero_of
zero_out zero x y e = cc
zero_out (suc k) x y e = absurd (let z : ◌≡◌ {A = ℕ} 0 1 = cc in omega arith)

-- A record that is ready names a message that was sent, if it names one.
ready_sent : (taken : List HalfEvent) (r : Fields) → (eqb r.kind 2 || eqb r.kind 3) ≡ true → is_ready taken r ≡ true → leb 1 (message_number taken (argument_sender r) (argument_count r)) ≡ true
unfolding is_ready
ready_sent taken r e ready = rw e at ready

half_ready : (taken : List HalfEvent) (r : Fields) (x : HalfEvent) → half_event_of r ≡ Some x → is_ready taken r ≡ true → was_sent taken x ≡ true
unfolding half_event_of was_sent
half_ready taken r x e ready = by_bool (eqb r.kind 0)
    (λ a. let q = zero_out r.argument (checkpoint_at r.process) x (rw a at e) in rw (← q))
    (λ a. by_bool (eqb r.kind 1)
    (λ b. let q : send_to r.process r.argument ≡ x = one (send_to r.process r.argument) x (rw (a, b) at e) in rw (← q))
    (λ b. by_bool (eqb r.kind 2)
    (λ c. let q = zero_out r.process (deliver_of (argument_sender r) (argument_count r)) x (rw (a, b, c) at e) in
    rw (← q) (ready_sent taken r (rw c) ready))
    (λ c. by_bool (eqb r.kind 3)
    (λ d. let q = zero_out r.process (lose_of (argument_sender r) (argument_count r)) x (rw (a, b, c, d) at e) in
    rw (← q) (ready_sent taken r (rw (c, d)) ready))
    (λ d. absurd (clash x (rw (a, b, c, d) at e))))))
  where
    one : (x y : HalfEvent) → ◌≡◌ {A = Option HalfEvent} (Some x) (Some y) → x ≡ y
    one x y e = cc

    clash : (x : HalfEvent) → ◌≡◌ {A = Option HalfEvent} None (Some x) → ⊥
    clash x e = let z : ◌≡◌ {A = ℕ} 0 1 = cc in omega arith

-- The process of a record that was ready is the same whatever is taken later.
still_at : (more taken : List HalfEvent) (x : HalfEvent) → was_sent taken x ≡ true → happens_at (receiver_of (more ++ taken)) x ≡ happens_at (receiver_of taken) x
unfolding happens_at was_sent
still_at more taken (checkpoint_at p) sent = refl
still_at more taken (send_to i j) sent = refl
still_at more taken (deliver_of s c) sent = receiver_still more taken s c (number_out taken s c (leb-true 1 (message_number taken s c) sent)).1
still_at more taken (lose_of s c) sent = receiver_still more taken s c (number_out taken s c (leb-true 1 (message_number taken s c) sent)).1

-- A step of a merge that does not stop.
not_stopped : (r : Refusal) (T : List HalfEvent) → stopped r ≡ took T → ⊥
not_stopped r T e = let z : ◌≡◌ {A = ℕ} 0 1 = cc in omega arith

module _ (n set : ℕ) where
  -- What a step is, by its next_record.
  pub next_out : (taken : List HalfEvent) (T : List HalfEvent) (next : HalfEvent → List Fields → List Fields → Taken) (o : Next) → on_next n set taken next o ≡ took T
      → (side : Bool) × (r : Fields) × (a b : List Fields) × (o ≡ next_is side r a b) × (on_record n set taken side (λ x. next x a b) (half_event_of r) ≡ took T)
  unfolding on_next
  next_out taken T next neither e = absurd (not_stopped _ T e)
  next_out taken T next (next_is side r a b) e = (side, r, a, b, refl, e)

  pub record_out : (taken : List HalfEvent) (T : List HalfEvent) (side : Bool) (next : HalfEvent → Taken) (o : Option HalfEvent) → on_record n set taken side next o ≡ took T
      → (x : HalfEvent) × (o ≡ Some x) × (record_refusal n set side taken x ≡ None) × (next x ≡ took T)
  unfolding on_record
  record_out taken T side next None e = absurd (not_stopped _ T e)
  record_out taken T side next (Some x) e = go (record_refusal n set side taken x) refl e
    where
      go : (o : Option Refusal) → record_refusal n set side taken x ≡ o → judged o stopped (next x) ≡ took T
          → (y : HalfEvent) × (◌≡◌ {A = Option HalfEvent} (Some x) (Some y)) × (record_refusal n set side taken y ≡ None) × (next y ≡ took T)
      go None q d = (x, refl, q, d)
      go (Some r) q d = absurd (not_stopped r T d)

  -- Which half a chosen record was the next of, and that it was ready.
  From : List HalfEvent → List Fields → List Fields → Bool → Fields → List Fields → List Fields → Type 0
  From taken first second side r a b = (is_ready taken r ≡ true) × (((side ≡ true) × (first ≡ r ∷ a) × (second ≡ b)) ⊎ ((side ≡ false) × (first ≡ a) × (second ≡ r ∷ b)))

  same_next : (s s' : Bool) (r r' : Fields) (a a' b b' : List Fields) → next_is s r a b ≡ next_is s' r' a' b' → (s ≡ s') × (r ≡ r') × (a ≡ a') × (b ≡ b')
  same_next s s' r r' a a' b b' e = (cc, cc, cc, cc)

  no_next : (s : Bool) (r : Fields) (a b : List Fields) → neither ≡ next_is s r a b → ⊥
  no_next s r a b e = let z : ◌≡◌ {A = ℕ} 0 1 = cc in omega arith

  from_second : (taken : List HalfEvent) (first second : List Fields) (side : Bool) (r : Fields) (a b : List Fields) → next_of_second taken first second ≡ next_is side r a b → From taken first second side r a b
  unfolding next_of_second From
  from_second taken first [] side r a b e = absurd (no_next side r a b e)
  from_second taken first (y ∷ second) side r a b e = by_bool (is_ready taken y)
      (λ q. let w = same_next false side y r first a second b (rw q at e) in
      (rw (← w.1) q, inr (sym w.0, w.2, (λ j. w.1 j ∷ w.3 j))))
      (λ q. absurd (no_next side r a b (rw q at e)))

  at_first : (taken : List HalfEvent) (x : Fields) (first second : List Fields) (side : Bool) (r : Fields) (a b : List Fields) → next_is true x first second ≡ next_is side r a b → is_ready taken x ≡ true
      → From taken (x ∷ first) second side r a b
  unfolding From
  at_first taken x first second side r a b e q =
      let w = same_next true side x r first a second b e in
      (rw (← w.1) q, inl (sym w.0, (λ j. w.1 j ∷ w.2 j), w.3))

  from_either : (taken : List HalfEvent) (first second : List Fields) (side : Bool) (r : Fields) (a b : List Fields) → next_record taken first second ≡ next_is side r a b → From taken first second side r a b
  unfolding next_record
  from_either taken [] second side r a b e = from_second taken [] second side r a b e
  from_either taken (x ∷ first) second side r a b e = by_bool (is_ready taken x)
      (λ q. at_first taken x first second side r a b (rw q at e) q)
      (λ q. from_second taken (x ∷ first) second side r a b (rw q at e))

  -- What a merge from some records on leaves: the events of what was left of both halves, and the order of these.
  pub record Rest (T taken : List HalfEvent) (first second : List Fields) : Type 0 where
    pub one : List HalfEvent
    pub other : List HalfEvent
    pub order : List HalfEvent
    pub first_events : map half_event_of first ≡ map Some one
    pub second_events : map half_event_of second ≡ map Some other
    pub keeps : KeepsBoth one other order
    pub sends : sends_first taken order ≡ true
    pub all : T ≡ newest_first taken order
    pub mine : every (λ x. in_set set (happens_at (receiver_of T) x)) one ≡ true
    pub theirs : every (λ x. not (in_set set (happens_at (receiver_of T) x))) other ≡ true

  -- Nothing is left.
  empty : {A : Type 0} (l : List A) → length l ≡ 0 → l ≡ []
  empty [] e = refl
  empty (x ∷ l) e = absurd (omega arith)

  rest_none : (T taken : List HalfEvent) (first second : List Fields) → first ≡ [] → second ≡ [] → took taken ≡ took T → Rest T taken first second
  unfolding KeepsBoth sends_first newest_first every
  rest_none T taken first second e d q = rw (e, d) (record { one = []; other = []; order = []; first_events = refl; second_events = refl; keeps = (refl, refl); sends = refl; all = cc; mine = refl; theirs = refl })

  -- A record in the half of its process.
  in_half_lem : (side : Bool) (taken : List HalfEvent) (x : HalfEvent) → record_refusal n set side taken x ≡ None → in_half_of set side (happens_at (receiver_of taken) x) ≡ true
  unfolding record_refusal
  in_half_lem side taken x e = not-false _ (no_rule _ e 2)

  rest_first : (T taken : List HalfEvent) (r : Fields) (x : HalfEvent) (a b : List Fields) → half_event_of r ≡ Some x → was_sent taken x ≡ true → in_set set (happens_at (receiver_of T) x) ≡ true
      → Rest T (x ∷ taken) a b → Rest T taken (r ∷ a) b
  unfolding KeepsBoth sends_first newest_first every
  rest_first T taken r x a b e sent q w = record {
    one = x ∷ w.one;
    other = w.other;
    order = x ∷ w.order;
    first_events = λ j. e j ∷ w.first_events j;
    second_events = w.second_events;
    keeps = inl (w.one, refl, w.keeps);
    sends = and_both _ _ sent w.sends;
    all = w.all;
    mine = and_both _ _ q w.mine;
    theirs = w.theirs;
  }

  rest_second : (T taken : List HalfEvent) (r : Fields) (x : HalfEvent) (a b : List Fields) → half_event_of r ≡ Some x → was_sent taken x ≡ true → in_set set (happens_at (receiver_of T) x) ≡ false
      → Rest T (x ∷ taken) a b → Rest T taken a (r ∷ b)
  unfolding KeepsBoth sends_first newest_first every
  rest_second T taken r x a b e sent q w = record {
    one = w.one;
    other = x ∷ w.other;
    order = x ∷ w.order;
    first_events = w.first_events;
    second_events = λ j. e j ∷ w.second_events j;
    keeps = inr (w.other, refl, w.keeps);
    sends = and_both _ _ sent w.sends;
    all = w.all;
    mine = w.mine;
    theirs = and_both (not (in_set set (happens_at (receiver_of T) x))) (every (λ x. not (in_set set (happens_at (receiver_of T) x))) w.other) (rw q) w.theirs;
  }

  -- The process of a record, by the end and when it was taken.
  at_end_lem : (T taken : List HalfEvent) (r : Fields) (x : HalfEvent) (order : List HalfEvent) → half_event_of r ≡ Some x → is_ready taken r ≡ true → T ≡ newest_first (x ∷ taken) order
      → happens_at (receiver_of T) x ≡ happens_at (receiver_of taken) x
  at_end_lem T taken r x order e ready all =
      let more : T ≡ (newest_first [] order ++ (x ∷ [])) ++ taken = all ∙ reversed_append (x ∷ taken) order ∙ sym (append_assoc (newest_first [] order) (x ∷ []) taken) in
      ap (λ (t : List HalfEvent). happens_at (receiver_of t) x) more ∙ still_at (newest_first [] order ++ (x ∷ [])) taken x (half_ready taken r x e ready)

  -- One record less is left.
  less : (taken : List HalfEvent) (first second : List Fields) (side : Bool) (r : Fields) (a b : List Fields) → From taken first second side r a b → length first + length second ≡ suc (length a + length b)
  unfolding From
  less taken first second side r a b u = elim u.1 [
    | inl z ↦ rw (z.1, z.2) (omega arith)
    | inr z ↦ rw (z.1, z.2) (omega arith)
  ]

  taken_one : (T taken : List HalfEvent) (first second : List Fields) (side : Bool) (r : Fields) (a b : List Fields) (x : HalfEvent) → From taken first second side r a b
      → half_event_of r ≡ Some x → record_refusal n set side taken x ≡ None → Rest T (x ∷ taken) a b → Rest T taken first second
  unfolding From in_half_of
  taken_one T taken first second side r a b x u e ok w =
      let at : happens_at (receiver_of T) x ≡ happens_at (receiver_of taken) x = at_end_lem T taken r x w.order e u.0 w.all in
      let sent : was_sent taken x ≡ true = half_ready taken r x e u.0 in
      elim u.1 [
        | inl z ↦ rw (z.1, z.2) (rest_first T taken r x a b e sent (rw at (rw z.0 at (in_half_lem side taken x ok))) w)
        | inr z ↦ rw (z.1, z.2) (rest_second T taken r x a b e sent (rw at (not-true _ (rw z.0 at (in_half_lem side taken x ok)))) w)
      ]

  from_here : (k : ℕ) (T taken : List HalfEvent) (first second : List Fields) → length first + length second ≡ k → take_from k n set taken first second ≡ took T → Rest T taken first second
  unfolding take_from
  from_here zero T taken first second len e = rest_none T taken first second (empty first (omega arith)) (empty second (omega arith)) e
  from_here (suc k) T taken first second len e =
      let z = next_out taken T (λ x a b. take_from k n set (x ∷ taken) a b) (next_record taken first second) e in
      let w = record_out taken T z.0 (λ x. take_from k n set (x ∷ taken) z.2 z.3) (half_event_of z.1) z.5 in
      let u = from_either taken first second z.0 z.1 z.2 z.3 z.4 in
      taken_one T taken first second z.0 z.1 z.2 z.3 w.0 u w.1 w.2
      (from_here k T (w.0 ∷ taken) z.2 z.3 (omega (arith, len, less taken first second z.0 z.1 z.2 z.3 u)) w.3)

-- Note 12: the merge keeps both halves.
pub merge_keeps : MergeKeeps
unfolding MergeKeeps SplitBy
merge_keeps n set first second taken e =
    let w = from_here n set (length first + length second) taken [] first second refl e in
    let to : receiver_in w.one w.other ≡ receiver_of taken = fun_ext (λ s. fun_ext (λ c.
    same_receiver set w.one w.other (receiver_of taken) (w.mine, w.theirs) w.order w.keeps s c ∙ ap (λ (t : List HalfEvent). receiver_of t s c) (sym w.all))) in
    (w.one, w.other, w.order, w.first_events, w.second_events, w.keeps, w.sends, (rw to w.mine, rw to w.theirs), w.all)
