-- The messages of a run and of a sub-run of it: the sub-run has sent those alone that carry at most g of process f. What is under way in it are these messages,
-- under numbers of its own.
use Rattle.std.specs.Prelude.{◌≡◌, ◌&&◌, ◌≤◌, ◌<◌}
use Rattle.laws.specs.Basics.{refl, sym, ◌∙◌, ap, Bool, true, false, ℕ, suc, arith, leb, le-leb, lt-leb, by_bool, by_eq}
use Rattle.laws.specs.{Counting.count_same, Counting.count_off, Tests.count_below, Truth.never_both, Truth.and_both}
use Rattle.laws.specs.Update.{upd, upd_same, upd_other, upd_same₁, upd_other₁}
use Rattle.histories.proofs.{Run.Ideal, Run.checkpointed, Run.sending, Run.forces, Run.taken_in, Run.taken_by, Run.delivered, Run.lost, Invariant.Inv}
use Rattle.histories.proofs.Messages.{used_number}

-- Message m is no longer under way; nothing else changed about messages.
pub record Without (r r₁ : Ideal) (m : ℕ) : Type 0 where
  pub transit : r₁.transit ≡ upd r.transit m false
  pub carried : r₁.carried ≡ r.carried
  pub sender : r₁.sender ≡ r.sender
  pub receiver : r₁.receiver ≡ r.receiver
  pub last : r₁.last ≡ r.last

pub lost_without : (r : Ideal) (m : ℕ) → Without r (lost r m) m
unfolding lost
lost_without r m = record { transit = refl; carried = refl; sender = refl; receiver = refl; last = refl }

pub delivered_without : (r : Ideal) (m : ℕ) → Without r (delivered r m) m
unfolding delivered taken_in taken_by checkpointed
delivered_without r m = by_bool (forces r m)
    (λ e. rw e (record { transit = refl; carried = refl; sender = refl; receiver = refl; last = refl }))
    (λ e. rw e (record { transit = refl; carried = refl; sender = refl; receiver = refl; last = refl }))

-- Message number one above the last is sent from i to j and carries c; nothing else changed about messages.
pub record With (r r₁ : Ideal) (i j : ℕ) (c : ℕ → ℕ) : Type 0 where
  pub transit : r₁.transit ≡ upd r.transit (suc r.last) true
  pub carried : r₁.carried ≡ upd r.carried (suc r.last) c
  pub sender : r₁.sender ≡ upd r.sender (suc r.last) i
  pub receiver : r₁.receiver ≡ upd r.receiver (suc r.last) j
  pub last : r₁.last ≡ suc r.last

pub sending_with : (r : Ideal) (i j : ℕ) → With r (sending r i j) i j (r.vector i (r.own i))
unfolding sending
sending_with r i j = record { transit = refl; carried = refl; sender = refl; receiver = refl; last = refl }

-- Nothing changed about messages.
pub record MessagesStay (r r₁ : Ideal) : Type 0 where
  pub transit : r₁.transit ≡ r.transit
  pub carried : r₁.carried ≡ r.carried
  pub sender : r₁.sender ≡ r.sender
  pub receiver : r₁.receiver ≡ r.receiver
  pub last : r₁.last ≡ r.last

pub messages_stay : (r : Ideal) → MessagesStay r r
messages_stay r = record { transit = refl; carried = refl; sender = refl; receiver = refl; last = refl }

pub checkpointed_messages_stay : (r : Ideal) (i : ℕ) → MessagesStay r (checkpointed r i)
unfolding checkpointed
checkpointed_messages_stay r i = record { transit = refl; carried = refl; sender = refl; receiver = refl; last = refl }

-- Message k of r' is message m of r.
pub record Counterpart (r r' : Ideal) (m k : ℕ) : Type 0 where
  pub under : r'.transit k ≡ true
  pub carried : r'.carried k ≡ r.carried m
  pub sender : r'.sender k ≡ r.sender m
  pub receiver : r'.receiver k ≡ r.receiver m

module _ (f g : ℕ) where
  -- Message m carries at most g of f.
  abbrev pub passes : Ideal → ℕ → Bool
  passes r m = leb (r.carried m f) g

  -- r' has used no more numbers; as many are under way in it as are in r and pass (that there are no more would not carry over to the next step); each of these has
  -- a number in r', no two the same.
  pub record SubMessages (r r' : Ideal) : Type 0 where
    pub last : r'.last ≤ r.last
    pub count : count_below (suc r'.last) r'.transit ≡ count_below (suc r.last) (λ m. r.transit m && passes r m)
    pub number : ℕ → ℕ
    pub counterpart : (m : ℕ) → r.transit m ≡ true → passes r m ≡ true → Counterpart r r' m (number m)
    pub apart : (m j : ℕ) → r.transit m ≡ true → passes r m ≡ true → r.transit j ≡ true → passes r j ≡ true → number m ≡ number j → m ≡ j

  -- What is still under way without m is not m, and was under way.
  still : (r r₁ : Ideal) (m x : ℕ) → Without r r₁ m → r₁.transit x ≡ true → (x ≡ m → ⊥) × (r.transit x ≡ true)
  still r r₁ m x w e =
      let d : upd r.transit m false x ≡ true = ap (λ (t : ℕ → Bool). t x) (sym w.transit) ∙ e in
      by_eq x m
      (λ c. never_both false (sym (upd_same r.transit m false) ∙ ap (upd r.transit m false) (sym c) ∙ d) refl)
      (λ ne. (ne, sym (upd_other r.transit m false x ne) ∙ d))

  -- A message goes in both.
  module _ (r r' r₁ r₁' : Ideal) (m : ℕ) (v : Inv r) (v' : Inv r') (a : SubMessages r r') (e : r.transit m ≡ true) (p : passes r m ≡ true)
      (w : Without r r₁ m) (w' : Without r' r₁' (a.number m)) where
    one_less : count_below (suc r'.last) r'.transit ≡ suc (count_below (suc r'.last) (upd r'.transit (a.number m) false))
    one_less = count_off (suc r'.last) r'.transit (upd r'.transit (a.number m) false) (a.number m)
        (used_number r' v' (a.number m) (a.counterpart m e p).under) (a.counterpart m e p).under (upd_same r'.transit (a.number m) false)
        (λ j lt ne. sym (upd_other r'.transit (a.number m) false j ne))

    one_less_here : count_below (suc r.last) (λ x. r.transit x && passes r x) ≡ suc (count_below (suc r.last) (λ x. upd r.transit m false x && passes r x))
    one_less_here = count_off (suc r.last) (λ x. r.transit x && passes r x) (λ x. upd r.transit m false x && passes r x) m
        (used_number r v m e) (and_both (r.transit m) (passes r m) e p) (rw (upd_same r.transit m false))
        (λ j lt ne. rw (upd_other r.transit m false j ne))

    counted : count_below (suc r₁'.last) r₁'.transit ≡ count_below (suc r₁.last) (λ x. r₁.transit x && passes r₁ x)
    counted = rw (w.transit, w.carried, w.last, w'.transit, w'.last) (omega (arith, one_less, one_less_here, a.count))

    -- Another message that is still under way in r₁.
    was : (x : ℕ) → r₁.transit x ≡ true → passes r₁ x ≡ true → (x ≡ m → ⊥) × (r.transit x ≡ true) × (passes r x ≡ true)
    was x t q = let z = still r r₁ m x w t in (z.0, z.1, rw w.carried at q)

    counterpart_still : (x : ℕ) → r₁.transit x ≡ true → passes r₁ x ≡ true → Counterpart r₁ r₁' x (a.number x)
    counterpart_still x t q =
        let z = was x t q in
        let b = a.counterpart x z.1 z.2 in
        let ne : a.number x ≡ a.number m → ⊥ = λ c. z.0 (a.apart x m z.1 z.2 e p c) in
        rw (w.carried, w.sender, w.receiver, w'.transit, w'.carried, w'.sender, w'.receiver) (record {
          under = upd_other r'.transit (a.number m) false (a.number x) ne ∙ b.under;
          carried = b.carried;
          sender = b.sender;
          receiver = b.receiver;
        })

    pub messages_gone : SubMessages r₁ r₁'
    messages_gone = record {
      last = omega (arith, a.last, w.last, w'.last);
      count = counted;
      number = a.number;
      counterpart = counterpart_still;
      apart = λ x y t q t' q' c. let z = was x t q in let z' = was y t' q' in a.apart x y z.1 z.2 z'.1 z'.2 c;
    }

  -- A message goes that the other run never sent.
  module _ (r r' r₁ : Ideal) (m : ℕ) (a : SubMessages r r') (p : passes r m ≡ false) (w : Without r r₁ m) where
    counted_left : count_below (suc r'.last) r'.transit ≡ count_below (suc r₁.last) (λ x. r₁.transit x && passes r₁ x)
    counted_left = rw (w.transit, w.carried, w.last) (a.count ∙ count_same (suc r.last) (λ x. r.transit x && passes r x) (λ x. upd r.transit m false x && passes r x)
        (λ x lt. by_eq x m
        (λ c. rw (c, upd_same r.transit m false, p) (by_bool (r.transit m) (λ d. rw d) (λ d. rw d)))
        (λ ne. rw (upd_other r.transit m false x ne))))

    was_left : (x : ℕ) → r₁.transit x ≡ true → passes r₁ x ≡ true → (r.transit x ≡ true) × (passes r x ≡ true)
    was_left x t q = let z = still r r₁ m x w t in (z.1, rw w.carried at q)

    counterpart_left : (x : ℕ) → r₁.transit x ≡ true → passes r₁ x ≡ true → Counterpart r₁ r' x (a.number x)
    counterpart_left x t q =
        let z = was_left x t q in
        let b = a.counterpart x z.0 z.1 in
        rw (w.carried, w.sender, w.receiver) (record { under = b.under; carried = b.carried; sender = b.sender; receiver = b.receiver })

    pub messages_left : SubMessages r₁ r'
    messages_left = record {
      last = omega (arith, a.last, w.last);
      count = counted_left;
      number = a.number;
      counterpart = counterpart_left;
      apart = λ x y t q t' q' c. let z = was_left x t q in let z' = was_left y t' q' in a.apart x y z.0 z.1 z'.0 z'.1 c;
    }

  -- What is under way after a send and passes: the new message, or one that was under way and passed before.
  module _ (r r₁ : Ideal) (i j : ℕ) (c : ℕ → ℕ) (w : With r r₁ i j c) where
    before : (x : ℕ) → (x ≡ suc r.last → ⊥) → r₁.transit x ≡ true → passes r₁ x ≡ true → (r.transit x ≡ true) × (passes r x ≡ true)
    before x ne t q =
        let t₁ : upd r.transit (suc r.last) true x ≡ true = rw w.transit at t in
        let q₁ : leb (upd r.carried (suc r.last) c x f) g ≡ true = rw w.carried at q in
        (sym (upd_other r.transit (suc r.last) true x ne) ∙ t₁, rw (upd_other₁ r.carried (suc r.last) c x f ne) at q₁)

    -- The count of those that were under way before.
    before_count : count_below (suc r.last) (λ x. r₁.transit x && passes r₁ x) ≡ count_below (suc r.last) (λ x. r.transit x && passes r x)
    before_count = rw (w.transit, w.carried) (count_same (suc r.last) _ (λ x. r.transit x && passes r x)
        (λ x lt. rw (upd_other r.transit (suc r.last) true x (omega arith), upd_other₁ r.carried (suc r.last) c x f (omega arith))))

    new_passes : (b : Bool) → leb (c f) g ≡ b → (r₁.transit (suc r.last) && passes r₁ (suc r.last)) ≡ b
    new_passes b e = rw (w.transit, w.carried, upd_same r.transit (suc r.last) true, upd_same₁ r.carried (suc r.last) c f) e

    -- The counterpart of an older message is so still.
    counterpart_older : (r' : Ideal) (x k : ℕ) → (x ≡ suc r.last → ⊥) → Counterpart r r' x k → Counterpart r₁ r' x k
    counterpart_older r' x k ne b = rw (w.carried, w.sender, w.receiver) (record {
      under = b.under;
      carried = b.carried ∙ sym (upd_other r.carried (suc r.last) c x ne);
      sender = b.sender ∙ sym (upd_other r.sender (suc r.last) i x ne);
      receiver = b.receiver ∙ sym (upd_other r.receiver (suc r.last) j x ne);
    })

  -- A message is sent that does not pass: the other run does not send it.
  module _ (r r' r₁ : Ideal) (i j : ℕ) (c : ℕ → ℕ) (a : SubMessages r r') (past : g < c f) (w : With r r₁ i j c) where
    older : (x : ℕ) → passes r₁ x ≡ true → x ≡ suc r.last → ⊥
    older x q e =
        let q₁ : leb (upd r.carried (suc r.last) c (suc r.last) f) g ≡ true = rw (w.carried, e) at q in
        let q₂ : leb (c f) g ≡ true = rw (upd_same₁ r.carried (suc r.last) c f) at q₁ in
        never_both (leb (c f) g) q₂ (lt-leb (c f) g past)

    counted_skipped : count_below (suc r'.last) r'.transit ≡ count_below (suc r₁.last) (λ x. r₁.transit x && passes r₁ x)
    unfolding count_below
    counted_skipped = rw (w.last, new_passes r r₁ i j c w false (lt-leb (c f) g past)) (omega (arith, a.count, before_count r r₁ i j c w))

    pub messages_skipped : SubMessages r₁ r'
    messages_skipped = record {
      last = omega (arith, a.last, w.last);
      count = counted_skipped;
      number = a.number;
      counterpart = λ x t q. let z = before r r₁ i j c w x (older x q) t q in counterpart_older r r₁ i j c w r' x (a.number x) (older x q) (a.counterpart x z.0 z.1);
      apart = λ x y t q t' q' d.
          let z = before r r₁ i j c w x (older x q) t q in
          let z' = before r r₁ i j c w y (older y q') t' q' in
          a.apart x y z.0 z.1 z'.0 z'.1 d;
    }

  -- A message is sent that passes: the other run sends it too.
  module _ (r r' r₁ r₁' : Ideal) (i j : ℕ) (c : ℕ → ℕ) (v' : Inv r') (a : SubMessages r r') (low : c f ≤ g) (w : With r r₁ i j c) (w' : With r' r₁' i j c) where
    -- The numbers, with that of the new message.
    number₁ : ℕ → ℕ
    number₁ = upd a.number (suc r.last) (suc r'.last)

    number_new : number₁ (suc r.last) ≡ suc r'.last
    unfolding number₁
    number_new = upd_same a.number (suc r.last) (suc r'.last)

    number_old : (x : ℕ) → (x ≡ suc r.last → ⊥) → number₁ x ≡ a.number x
    unfolding number₁
    number_old x ne = upd_other a.number (suc r.last) (suc r'.last) x ne

    old_less : (x : ℕ) → r.transit x ≡ true → passes r x ≡ true → a.number x < suc r'.last
    old_less x t q = used_number r' v' (a.number x) (a.counterpart x t q).under

    counted_added : count_below (suc r₁'.last) r₁'.transit ≡ count_below (suc r₁.last) (λ x. r₁.transit x && passes r₁ x)
    unfolding count_below
    counted_added =
        let here = before_count r r₁ i j c w in
        let there : count_below (suc r'.last) r₁'.transit ≡ count_below (suc r'.last) r'.transit =
        rw w'.transit (count_same (suc r'.last) _ r'.transit (λ x lt. upd_other r'.transit (suc r'.last) true x (omega arith))) in
        let new : r₁'.transit (suc r'.last) ≡ true = rw w'.transit (upd_same r'.transit (suc r'.last) true) in
        rw (w.last, w'.last, new_passes r r₁ i j c w true (le-leb (c f) g low), new) (omega (arith, a.count, here, there))

    -- A counterpart in r' is one after its send.
    counterpart_later : (x k : ℕ) → k < suc r'.last → Counterpart r₁ r' x k → Counterpart r₁ r₁' x k
    counterpart_later x k lt b =
        let ne : k ≡ suc r'.last → ⊥ = omega arith in
        rw (w'.transit, w'.carried, w'.sender, w'.receiver) (record {
          under = upd_other r'.transit (suc r'.last) true k ne ∙ b.under;
          carried = upd_other r'.carried (suc r'.last) c k ne ∙ b.carried;
          sender = upd_other r'.sender (suc r'.last) i k ne ∙ b.sender;
          receiver = upd_other r'.receiver (suc r'.last) j k ne ∙ b.receiver;
        })

    counterpart_new : Counterpart r₁ r₁' (suc r.last) (suc r'.last)
    counterpart_new = rw (w.carried, w.sender, w.receiver, w'.transit, w'.carried, w'.sender, w'.receiver) (record {
      under = upd_same r'.transit (suc r'.last) true;
      carried = upd_same r'.carried (suc r'.last) c ∙ sym (upd_same r.carried (suc r.last) c);
      sender = upd_same r'.sender (suc r'.last) i ∙ sym (upd_same r.sender (suc r.last) i);
      receiver = upd_same r'.receiver (suc r'.last) j ∙ sym (upd_same r.receiver (suc r.last) j);
    })

    counterpart_added : (x : ℕ) → r₁.transit x ≡ true → passes r₁ x ≡ true → Counterpart r₁ r₁' x (number₁ x)
    counterpart_added x t q = by_eq x (suc r.last)
        (λ e. rw (e, number_new) counterpart_new)
        (λ ne. let z = before r r₁ i j c w x ne t q in
        rw (number_old x ne) (counterpart_later x (a.number x) (old_less x z.0 z.1) (counterpart_older r r₁ i j c w r' x (a.number x) ne (a.counterpart x z.0 z.1))))

    apart_added : (x y : ℕ) → r₁.transit x ≡ true → passes r₁ x ≡ true → r₁.transit y ≡ true → passes r₁ y ≡ true → number₁ x ≡ number₁ y → x ≡ y
    apart_added x y t q t' q' d = by_eq x (suc r.last)
        (λ e. by_eq y (suc r.last)
        (λ e'. e ∙ sym e')
        (λ ne. let z = before r r₁ i j c w y ne t' q' in
        absurd (omega (arith, old_less y z.0 z.1, number_old y ne, d, ap number₁ e, number_new))))
        (λ ne. let z = before r r₁ i j c w x ne t q in
        by_eq y (suc r.last)
        (λ e'. absurd (omega (arith, old_less x z.0 z.1, number_old x ne, d, ap number₁ e', number_new)))
        (λ ne'. let z' = before r r₁ i j c w y ne' t' q' in
        a.apart x y z.0 z.1 z'.0 z'.1 (sym (number_old x ne) ∙ d ∙ number_old y ne')))

    pub messages_added : SubMessages r₁ r₁'
    messages_added = record { last = omega (arith, a.last, w.last, w'.last); count = counted_added; number = number₁; counterpart = counterpart_added; apart = apart_added }

  -- At the start nothing is under way.
  pub messages_begin : (r : Ideal) → ((m : ℕ) → r.transit m ≡ false) → SubMessages r r
  messages_begin r none = record {
    last = omega arith;
    count = count_same (suc r.last) r.transit (λ m. r.transit m && passes r m) (λ m lt. rw (none m));
    number = λ m. m;
    counterpart = λ m t q. record { under = t; carried = refl; sender = refl; receiver = refl };
    apart = λ m j t q t' q' d. d;
  }

  -- Nothing changes about messages, in either run.
  pub messages_same : (r r' r₁ r₁' : Ideal) → SubMessages r r' → MessagesStay r r₁ → MessagesStay r' r₁' → SubMessages r₁ r₁'
  messages_same r r' r₁ r₁' a w w' = record {
    last = omega (arith, a.last, w.last, w'.last);
    count = rw (w.transit, w.carried, w.last, w'.transit, w'.last) a.count;
    number = a.number;
    counterpart = λ m t q. again m (a.counterpart m (rw w.transit at t) (rw w.carried at q));
    apart = λ m j t q t' q' d. a.apart m j (rw w.transit at t) (rw w.carried at q) (rw w.transit at t') (rw w.carried at q') d;
  }
    where
      again : (m : ℕ) → Counterpart r r' m (a.number m) → Counterpart r₁ r₁' m (a.number m)
      again m b = rw (w.carried, w.sender, w.receiver, w'.transit, w'.carried, w'.sender, w'.receiver) (record { under = b.under; carried = b.carried; sender = b.sender; receiver = b.receiver })
