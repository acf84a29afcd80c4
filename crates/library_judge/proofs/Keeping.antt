-- The invariant of the reading after each kind of record, and the refusals of a record by what is read.
-- Assumes nothing.
use Rattle.std.specs.Prelude.{◌≡◌, ◌&&◌, ◌+◌, ◌-◌, ◌≤◌, ◌<◌}
use Rattle.laws.specs.Basics.{refl, sym, ◌∙◌, ap, fun_ext, Bool, true, false, not, false≢true, List, None, Some, ℕ, zero, suc, arith, eqb, ltb, leb, length, get_or, set, length-set, get_or-set_same, get_or-set_other, eq-eqb, ne_eqb, lt-ltb, le-ltb, ltb-true, ltb-false, leb-false, pick, by_bool, by_eq}
use native.Mathlib.Numerals.{add-one}
use Rattle.laws.specs.{Counting.count_same, Counting.count_none, Options.some_same, Options.none≢some, Tables.length_table, Tests.count_below, Update.upd, Update.upd_same, Update.upd_other}
use Rattle.model.specs.declared.{Interval.Interval, Event.TheVariants.Checkpoint, Event.TheVariants.Send, Event.TheVariants.Deliver, Event.TheVariants.Lose}
use Rattle.histories.specs.History.{stored, sent, received, Lists, checkpoints}
use Rattle.model.specs.{Refusals.first_of, Words.entry, Steps.advanced, Steps.taken_entry, Steps.taken_vector}
use Rattle.whole_runs.specs.Survival.{added}
use Rattle.theory_patterns.specs.Patterns.{Pattern, empty, record_refusal, taken}
use Rattle.theory_patterns.proofs.{Adding.event_old, Adding.event_new, Facts.begin, Facts.begin_right}
use Rattle.theory_patterns.proofs.Trail.{Trail, storing, storing_right, sending, sending_right, carried_old, carried_new, receiving, receiving_right}
use Rattle.theory_patterns.proofs.Followed as followed
use Rattle.library_judge.specs.decision.Rows.{owner_at, vector_at, entry_at, from_at, carried_at, receipt_mark, receiver_mark, to_at, mark_at, put_same, put_other}
use Rattle.library_judge.specs.{decision.Represents.interval_of, decision.Represents.Represents, Kept.Waits, Kept.Kept}
use Rattle.library_judge.specs.declared.{pattern.State.State, pattern.Sent.Sent, reading.Reading.Reading, reading.Found.Found}
use Rattle.library_judge.specs.declared.pattern.Fate.TheVariants.{Lost, UnderWay, Received}
use Rattle.admissions.proofs.Cases.{admission_rules}
use Rattle.library_judge.specs.Readings.{EnoughRoom, live_row, live_vector, checkpoint_refusal, with_state, with_checkpoint, SendRoom, send_refusal, with_message, is_under_way, found_in_of, settled, with_receipt, DeliverRoom, FirstRows}
use Rattle.library_judge.proofs.{Begin.own_begin, Begin.begin_represented, Steps.stored_own, Steps.other_own, Steps.sent_own, Steps.received_own}
use Rattle.library_judge.proofs.Trails.{sent_same, sent_other, stores, sends, receives, got_live, got_owner, live_entry_lem, represented_same}

-- One that passes no longer does: the count falls by one.
count_off : (k : ℕ) (u : ℕ → Bool) (j : ℕ) → j < k → u j ≡ true → count_below k u ≡ count_below k (upd u j false) + 1
unfolding count_below
count_off zero u j h e = absurd (omega arith)
count_off (suc k) u j h e = by_eq k j
    (λ c. let same = count_same k u (upd u j false) (λ i l. sym (upd_other u j false i (λ d. omega arith))) in
    let last : u k ≡ true = ap u c ∙ e in
    let off : upd u j false k ≡ false = ap (upd u j false) c ∙ upd_same u j false in
    rw (last, off) (omega (arith, same)))
    (λ ne. let below = count_off k u j (omega arith) e in
    rw (upd_other u j false k ne) (omega (arith, below)))

-- One more passes, at the end: the count rises by one.
count_on : (k : ℕ) (u : ℕ → Bool) → count_below (suc k) (upd u k true) ≡ count_below k u + 1
unfolding count_below
count_on k u = rw (upd_same u k true) (omega (arith, count_same k (upd u k true) u (λ i l. upd_other u k true i (λ d. omega arith))))

-- What is_under_way says of a place, and what it goes by.
under_low : (ms : List Sent) (last m : ℕ) → is_under_way ms last m ≡ true → (y : ℕ) × (m ≡ suc y) × (y < last)
unfolding is_under_way
under_low ms last zero e = absurd (false≢true e)
under_low ms last (suc y) e = by_bool (ltb y last)
    (λ a. (y, refl, ltb-true y last a))
    (λ a. absurd (false≢true (rw a at e)))

under_way_by : (ms : List Sent) (last y k : ℕ) → mark_at ms y ≡ k → is_under_way ms last (suc y) ≡ (ltb y last && not (eqb k 0))
unfolding is_under_way
under_way_by ms last y k e = ap (λ (q : ℕ). ltb y last && not (eqb q 0)) e

-- One message is put: what is under way then.
module _ (ms : List Sent) (last y : ℕ) (x : Sent) (in_messages : y < length ms) where
  mark_same : mark_at (set ms y x) y ≡ receiver_mark x.fate
  mark_same = ap (λ (z : Sent). receiver_mark z.fate) (sent_same ms y x in_messages)

  mark_other : (z : ℕ) → (z ≡ y → ⊥) → mark_at (set ms y x) z ≡ mark_at ms z
  mark_other z ne = ap (λ (q : Sent). receiver_mark q.fate) (sent_other ms y x z ne)

  mark_off : (m : ℕ) → receiver_mark x.fate ≡ 0 → upd (is_under_way ms last) (suc y) false m ≡ is_under_way (set ms y x) last m
  mark_off zero h = upd_other (is_under_way ms last) (suc y) false zero (λ e. omega arith) ∙ none_zero
    where
      none_zero : is_under_way ms last zero ≡ is_under_way (set ms y x) last zero
      none_zero = unfold is_under_way in refl
  mark_off (suc z) h = by_eq z y
      (λ c. rw c (upd_same (is_under_way ms last) (suc y) false ∙ sym (under_way_by (set ms y x) last y 0 (mark_same ∙ h) ∙ no_more (ltb y last))))
      (λ ne. upd_other (is_under_way ms last) (suc y) false (suc z) (λ e. ne (omega arith)) ∙ under_way_by ms last z (mark_at ms z) refl ∙ sym (under_way_by (set ms y x) last z (mark_at ms z) (mark_other z ne)))
    where
      no_more : (b : Bool) → (b && not (eqb 0 0)) ≡ false
      no_more true = refl
      no_more false = refl

  mark_on : (j m : ℕ) → y ≡ last → receiver_mark x.fate ≡ suc j → upd (is_under_way ms last) (suc y) true m ≡ is_under_way (set ms y x) (last + 1) m
  mark_on j zero here h = upd_other (is_under_way ms last) (suc y) true zero (λ e. omega arith) ∙ none_zero
    where
      none_zero : is_under_way ms last zero ≡ is_under_way (set ms y x) (last + 1) zero
      none_zero = unfold is_under_way in refl
  mark_on j (suc z) here h = by_eq z y
      (λ c. rw c (upd_same (is_under_way ms last) (suc y) true ∙ sym (under_way_by (set ms y x) (last + 1) y (suc j) (mark_same ∙ h)
      ∙ rw (lt-ltb y (last + 1) (omega arith), ne_eqb (suc j) 0 (λ e. omega arith)))))
      (λ ne. upd_other (is_under_way ms last) (suc y) true (suc z) (λ e. ne (omega arith)) ∙ under_way_by ms last z (mark_at ms z) refl
      ∙ ap (λ (b : Bool). b && not (eqb (mark_at ms z) 0)) (same_side ne) ∙ sym (under_way_by (set ms y x) (last + 1) z (mark_at ms z) (mark_other z ne)))
    where
      same_side : (z ≡ y → ⊥) → ltb z last ≡ ltb z (last + 1)
      same_side ne = by_bool (ltb z last)
          (λ a. let l = ltb-true z last a in rw (a, lt-ltb z (last + 1) (omega arith)))
          (λ a. let l = ltb-false z last a in rw (a, le-ltb z (last + 1) (omega (arith, ne, here))))

module _ (n read : ℕ) (t : Pattern) (tr : Trail) (R : Reading) (h : Kept n read t tr R) (more : read < 4096) where
  abbrev S : List State
  S = R.states

  abbrev M : List Sent
  M = R.messages

  -- A live row is in use.
  live_low : (p : ℕ) → p < n → live_row R p < 4112
  live_low p lp = omega (arith, h.row_there p lp, h.represented.most_rows_lem)

  -- There is room for one more record.
  pub enough_room : EnoughRoom n R
  enough_room = record { few = h.represented.few; rows = omega (arith, h.few_rows, h.represented.few); current = live_low }

  pub send_room : SendRoom n R
  send_room = record { few = h.represented.few; underway = h.most; last = omega (arith, h.few_messages); current = live_low }

  -- What is found of a message, from the pattern.
  pub found_none : (m : ℕ) → t.underway m ≡ false → found_in_of R m ≡ None
  unfolding found_in_of
  found_none zero u = refl
  found_none (suc y) u = let e : is_under_way M R.last (suc y) ≡ false = sym (h.marked (suc y)) ∙ u in rw e

  pub found_at : (y : ℕ) → t.underway (suc y) ≡ true → found_in_of R (suc y) ≡ Some (record { place = y; receiver = t.receiver (suc y) })
  unfolding found_in_of
  found_at y e =
      let on : is_under_way M R.last (suc y) ≡ true = sym (h.marked (suc y)) ∙ e in
      let q : mark_at M y - 1 ≡ t.receiver (suc y) = omega (arith, (h.waits y e).mark) in
      rw on (ap (λ (r : ℕ). Some (record { place = y; receiver = r })) q)

  -- A message under way has a place.
  pub place_of_lem : (m : ℕ) → t.underway m ≡ true → (y : ℕ) × (m ≡ suc y) × (y < R.last)
  place_of_lem m e = under_low M R.last m (sym (h.marked m) ∙ e)

  none_zero : found_in_of R zero ≡ None
  unfolding found_in_of
  none_zero = refl

  pub deliver_room : (m : ℕ) → DeliverRoom R m
  deliver_room m = record {
    last = h.represented.most_messages;
    receiver = λ f e. let w = receiver_in m f e in omega (arith, w, h.represented.few);
    current = λ f e. live_low f.receiver (receiver_in m f e);
  }
    where
      receiver_in : (m : ℕ) (f : Found) → found_in_of R m ≡ Some f → f.receiver < n
      receiver_in zero f e = absurd (none≢some (sym none_zero ∙ e))
      receiver_in (suc y) f e = by_bool (t.underway (suc y))
          (λ u. let same = some_same (sym (found_at y u) ∙ e) in
          omega (arith, ap (λ (x : Found). x.receiver) same, (h.waits y u).receiver))
          (λ u. absurd (none≢some (sym (found_none (suc y) u) ∙ e)))

  -- The refusals of a record, by what is read.
  pub checkpoint_refusal_lem : (i : ℕ) → record_refusal n t (Some (Checkpoint i)) ≡ checkpoint_refusal n R i
  unfolding record_refusal checkpoint_refusal first_of
  checkpoint_refusal_lem i = by_bool (leb n i)
      (λ e. rw e)
      (λ e. rw (e, own_is (leb-false n i e)))
    where
      own_is : i < n → checkpoints (t.lists i) ≡ (entry (live_vector R i) i).0
      own_is li =
          ap (λ (l : Lists). checkpoints (l i)) h.lists ∙ sym (h.row_live i li) ∙ ap (λ (p : ℕ). entry_at S (live_row R i) p) (h.row_own i li)

  pub send_refusal_lem : (i j : ℕ) → record_refusal n t (Some (Send i j)) ≡ send_refusal n R i j
  unfolding record_refusal send_refusal
  send_refusal_lem i j = let last : t.sends ≡ R.last = h.sends ∙ sym h.last in rw (sym h.counted, last) (sym (admission_rules i j n R.underway R.last))

  -- A checkpoint.
  module _ (i : ℕ) (li : i < n) where
    abbrev row : ℕ
    row = live_row R i

    abbrev next_state : State
    next_state = record { process = i; vector = advanced i (vector_at S row) }

    abbrev S' : List State
    S' = set S R.rows next_state

    room : R.rows < 4112
    room = omega (arith, h.few_rows, h.represented.few)

    room_there : R.rows < length S
    room_there = omega (arith, h.room, room)

    represented' : Represents n (storing tr h.right i).lists (storing tr h.right i).vector (suc R.rows) R.last S' M
    represented' = stores n tr h.right R.rows R.last S M h.represented i row li (h.row_there i li) (h.row_own i li) (h.row_live i li) (h.wide row (h.row_there i li)) room room_there

    own_same : (r : ℕ) → r < R.rows → owner_at S' r ≡ owner_at S r
    own_same r lr = ap (λ (x : State). x.process) (put_other S R.rows next_state r (λ e. omega arith))

    own_new : owner_at S' R.rows ≡ i
    own_new = ap (λ (x : State). x.process) (put_same S R.rows next_state room_there)

    current_new : get_or (set R.current i R.rows) i 0 ≡ R.rows
    current_new = get_or-set_same R.current i R.rows 0 (omega (arith, h.places, h.represented.few))

    current_old : (p : ℕ) → (p ≡ i → ⊥) → get_or (set R.current i R.rows) p 0 ≡ live_row R p
    current_old p ne = get_or-set_other R.current i p R.rows 0 ne

    -- The new row is the live state: it is a state above all others of i, by the rows before.
    live_new : interval_of S' R.rows ≡ checkpoints (added tr.lists i stored i)
    live_new =
        let top = represented'.there i (suc (checkpoints (tr.lists i))) li (omega arith) (reach (stored_own tr.lists i)) in
        by_eq top.0 R.rows
        (λ e. ap (λ (r : ℕ). interval_of S' r) (sym e) ∙ top.3 ∙ sym (stored_own tr.lists i))
        (λ ne. absurd (omega (arith, top.3, represented'.ascends top.0 R.rows (omega (arith, top.1)) (omega arith) (top.2 ∙ sym own_new), high (represented'.state R.rows (omega arith)))))
      where
        reach : checkpoints (added tr.lists i stored i) ≡ suc (checkpoints (tr.lists i)) → suc (checkpoints (tr.lists i)) ≤ checkpoints ((storing tr h.right i).lists i)
        reach e = unfold storing in omega (arith, e)

        high : interval_of S' R.rows ≤ checkpoints ((storing tr h.right i).lists (owner_at S' R.rows)) → interval_of S' R.rows ≤ suc (checkpoints (tr.lists i))
        high w = unfold storing in omega (arith, w, ap (λ (q : ℕ). checkpoints (added tr.lists i stored q)) own_new, stored_own tr.lists i)

    live_old : (p : ℕ) → p < n → (p ≡ i → ⊥) → interval_of S' (live_row R p) ≡ checkpoints (added tr.lists i stored p)
    live_old p lp ne = ap (λ (x : State). (entry x.vector x.process).0) (put_other S R.rows next_state (live_row R p) (λ e. omega (arith, h.row_there p lp)))
        ∙ h.row_live p lp ∙ sym (other_own tr.lists i stored p ne)

    wide' : (r : ℕ) → r < R.rows + 1 → length (vector_at S' r) ≡ 16
    wide' r lr = by_eq r R.rows
        (λ e. rw e (ap (λ (x : State). length x.vector) (put_same S R.rows next_state room_there) ∙ long_advanced (h.wide row (h.row_there i li))))
        (λ ne. ap (λ (x : State). length x.vector) (put_other S R.rows next_state r ne) ∙ h.wide r (omega arith))
      where
        long_advanced : length (vector_at S row) ≡ 16 → length (advanced i (vector_at S row)) ≡ 16
        long_advanced e = unfold advanced in length-set (vector_at S row) i _ ∙ e

    rows_one : {l : Lists} {g : ℕ → ℕ → ℕ → ℕ} → Represents n l g (suc R.rows) R.last S' M → Represents n l g (R.rows + 1) R.last S' M
    rows_one w = rw add-one w

    pub kept_checkpoint : Kept n (suc read) (taken t (Some (Checkpoint i))) (storing tr h.right i) (with_checkpoint R i)
    unfolding taken storing with_state
    kept_checkpoint = record {
      right = storing_right tr h.right i;
      lists = ap (λ (l : Lists). added l i stored) h.lists;
      sends = h.sends;
      last = h.last;
      represented = rows_one represented';
      wide = wide';
      row_there = λ p lp. by_eq p i (λ e. rw (e, current_new) (omega arith)) (λ ne. rw (current_old p ne) (omega (arith, h.row_there p lp)));
      row_own = λ p lp. by_eq p i (λ e. rw (e, current_new) own_new) (λ ne. rw (current_old p ne) (own_same (live_row R p) (h.row_there p lp) ∙ h.row_own p lp));
      row_live = λ p lp. by_eq p i (λ e. rw (e, current_new) live_new) (λ ne. rw (current_old p ne) (live_old p lp ne));
      few_rows = omega (arith, h.few_rows);
      few_messages = omega (arith, h.few_messages);
      room = length-set S R.rows next_state ∙ h.room;
      sent_room = h.sent_room;
      places = length-set R.current i R.rows ∙ h.places;
      counted = h.counted;
      most = h.most;
      marked = h.marked;
      waits = λ y e. let w = h.waits y e in record {
        mark = w.mark;
        receiver = w.receiver;
        not_got = w.not_got;
        carried = w.carried;
        was_sent = (w.was_sent.0, w.was_sent.1, event_old tr.lists i stored w.was_sent.0 w.was_sent.1 (sent (suc y)) w.was_sent.2);
      };
    }

  -- A send.
  module _ (i j : ℕ) (li : i < n) (lj : j < n) (few : R.underway < 64) where
    abbrev from_row : ℕ
    from_row = live_row R i

    abbrev next_sent : Sent
    next_sent = record { from = from_row; carried = live_vector R i; fate = UnderWay j }

    abbrev M' : List Sent
    M' = set M R.last next_sent

    low : R.last < 4096
    low = omega (arith, h.few_messages)

    last_there : R.last < length M
    last_there = omega (arith, h.sent_room, low)

    number : t.sends + 1 ≡ suc R.last
    number = rw (add-one, h.sends, sym h.last)

    sent_represented : Represents n (sending tr h.right i).lists (sending tr h.right i).vector R.rows (suc R.last) S M'
    sent_represented = sends n tr h.right R.rows R.last S M h.represented i from_row li (h.row_there i li) (h.row_own i li) (h.row_live i li) j (live_vector R i) h.last low last_there

    last_one : {l : Lists} {g : ℕ → ℕ → ℕ → ℕ} → Represents n l g R.rows (suc R.last) S M' → Represents n l g R.rows (R.last + 1) S M'
    last_one w = rw add-one w

    -- The lists of the trail after the send are those of the pattern.
    sent_lists : added t.lists i (sent (t.sends + 1)) ≡ added tr.lists i (sent (suc tr.last))
    sent_lists = rw (add-one, h.lists, h.sends)

    new_carried : (f : ℕ) → f < 16 → (entry (carried_at M' R.last) f).0 ≡ (sending tr h.right i).carried (suc R.last) f
    new_carried f lf =
        ap (λ (x : Sent). (entry x.carried f).0) (sent_same M R.last next_sent last_there)
        ∙ live_entry_lem n tr h.right R.rows R.last S M h.represented i from_row li (h.row_there i li) (h.row_own i li) (h.row_live i li) f lf
        ∙ sym (carried_new tr h.right i f) ∙ ap (λ (k : ℕ). (sending tr h.right i).carried (suc k) f) (sym h.last)

    was_there : (m : ℕ) → followed.Sent tr.lists m → followed.Sent (sending tr h.right i).lists m
    unfolding sending
    was_there m w = (w.0, w.1, event_old tr.lists i (sent (suc tr.last)) w.0 w.1 (sent m) w.2)

    is_there_lem : followed.Sent (sending tr h.right i).lists (suc R.last)
    unfolding sending
    is_there_lem = rw h.last (i, length (tr.lists i), event_new tr.lists i (sent (suc tr.last)))

    new_waits : (y : ℕ) → upd t.underway (suc R.last) true (suc y) ≡ true → Waits n (taken t (Some (Send i j))) (sending tr h.right i) M' y
    unfolding taken
    new_waits y e = by_eq y R.last
        (λ c. rw c (record {
          mark = ap (λ (x : Sent). receiver_mark x.fate) (sent_same M R.last next_sent last_there) ∙ ap suc (sym (rw (number, upd_same t.receiver (suc R.last) j)));
          receiver = rw (number, upd_same t.receiver (suc R.last) j) lj;
          not_got = ap (λ (x : Sent). receipt_mark x.fate) (sent_same M R.last next_sent last_there);
          carried = new_carried;
          was_sent = is_there_lem;
        }))
        (λ ne.
        let apart : suc y ≡ suc R.last → ⊥ = λ d. ne (omega arith) in
        let u : t.underway (suc y) ≡ true = sym (upd_other t.underway (suc R.last) true (suc y) apart) ∙ e in
        let w = h.waits y u in
        let same : upd t.receiver (t.sends + 1) j (suc y) ≡ t.receiver (suc y) = rw number (upd_other t.receiver (suc R.last) j (suc y) apart) in
        record {
          mark = ap (λ (x : Sent). receiver_mark x.fate) (sent_other M R.last next_sent y ne) ∙ w.mark ∙ ap suc (sym same);
          receiver = rw same w.receiver;
          not_got = ap (λ (x : Sent). receipt_mark x.fate) (sent_other M R.last next_sent y ne) ∙ w.not_got;
          carried = λ f lf. ap (λ (x : Sent). (entry x.carried f).0) (sent_other M R.last next_sent y ne) ∙ w.carried f lf
              ∙ sym (carried_old tr h.right i (suc y) f (omega (arith, low_place y u, h.last)));
          was_sent = was_there (suc y) w.was_sent;
        })
      where
        low_place : (y : ℕ) → t.underway (suc y) ≡ true → y < R.last
        low_place y u = let w = place_of_lem (suc y) u in omega (arith, w.1, w.2)

    pub kept_send : Kept n (suc read) (taken t (Some (Send i j))) (sending tr h.right i) (with_message R i j)
    kept_send = record {
      right = sending_right tr h.right i;
      lists = unfold taken sending in sent_lists;
      sends = unfold taken sending in number ∙ ap suc h.last;
      last = unfold sending with_message in omega (arith, h.last);
      represented = unfold with_message in last_one sent_represented;
      wide = unfold with_message in h.wide;
      row_there = λ p lp. unfold with_message in h.row_there p lp;
      row_own = λ p lp. unfold with_message in h.row_own p lp;
      row_live = λ p lp. unfold with_message sending in h.row_live p lp ∙ sym (sent_own tr.lists i (suc tr.last) p);
      few_rows = unfold with_message in omega (arith, h.few_rows);
      few_messages = unfold with_message in omega (arith, h.few_messages);
      room = unfold with_message in h.room;
      sent_room = unfold with_message in length-set M R.last next_sent ∙ h.sent_room;
      places = unfold with_message in h.places;
      counted = unfold with_message taken in rw number (ap (λ (k : ℕ). k + 1) h.counted ∙ ap (λ (k : ℕ). count_below (suc k) t.underway + 1) (h.sends ∙ sym h.last) ∙ sym (count_on (suc R.last) t.underway));
      most = unfold with_message in omega (arith, few);
      marked = λ m. unfold with_message taken in rw number (all_marks m);
      waits = λ y e. unfold with_message in new_waits y (unfold taken in (rw number at e));
    }
      where
        all_marks : (m : ℕ) → upd t.underway (suc R.last) true m ≡ is_under_way M' (R.last + 1) m
        all_marks m = ap (λ (u : ℕ → Bool). upd u (suc R.last) true m) (fun_ext h.marked) ∙ mark_on M R.last R.last next_sent last_there j m refl refl

  -- A message is no longer under way.
  module _ (y : ℕ) (u : t.underway (suc y) ≡ true) where
    low_y : y < R.last
    low_y = let w = place_of_lem (suc y) u in omega (arith, w.1, w.2)

    in_messages : y < length M
    in_messages = omega (arith, low_y, h.sent_room, h.represented.most_messages)

    pub wait : Waits n t tr M y
    wait = h.waits y u

    off_counted : R.underway - 1 ≡ count_below (suc t.sends) (upd t.underway (suc y) false)
    off_counted = omega (arith, h.counted, count_off (suc t.sends) t.underway (suc y) (omega (arith, low_y, h.sends, h.last)) u)

    off_marked : (x : Sent) → receiver_mark x.fate ≡ 0 → (m : ℕ) → upd t.underway (suc y) false m ≡ is_under_way (set M y x) R.last m
    off_marked x z m = ap (λ (v : ℕ → Bool). upd v (suc y) false m) (fun_ext h.marked) ∙ mark_off M R.last y x in_messages m z

    -- Another message that is still under way has another place, and waits as it did.
    other_place : (x : ℕ) → upd t.underway (suc y) false (suc x) ≡ true → x ≡ y → ⊥
    other_place x e c = false≢true (sym (upd_same t.underway (suc y) false) ∙ ap (λ (k : ℕ). upd t.underway (suc y) false (suc k)) (sym c) ∙ e)

    still : (x : ℕ) → upd t.underway (suc y) false (suc x) ≡ true → t.underway (suc x) ≡ true
    still x e = sym (upd_other t.underway (suc y) false (suc x) (λ c. other_place x e (omega arith))) ∙ e

    -- A loss.
    abbrev lost_sent : Sent
    lost_sent = record { from = from_at M y; carried = carried_at M y; fate = Lost }

    lost_from : (m : ℕ) → from_at (set M y lost_sent) m ≡ from_at M m
    lost_from m = by_eq m y
        (λ e. rw e (ap (λ (x : Sent). x.from) (sent_same M y lost_sent in_messages)))
        (λ ne. ap (λ (x : Sent). x.from) (sent_other M y lost_sent m ne))

    lost_to : (m : ℕ) → to_at (set M y lost_sent) m ≡ to_at M m
    lost_to m = by_eq m y
        (λ e. rw e (ap (λ (x : Sent). receipt_mark x.fate) (sent_same M y lost_sent in_messages) ∙ sym wait.not_got))
        (λ ne. ap (λ (x : Sent). receipt_mark x.fate) (sent_other M y lost_sent m ne))

    pub kept_lose : Kept n (suc read) (taken t (Some (Lose (suc y)))) tr (settled R y Lost)
    unfolding taken settled
    kept_lose = record {
      right = h.right;
      lists = h.lists;
      sends = h.sends;
      last = h.last;
      represented = represented_same n tr.lists tr.vector R.rows R.last S M h.represented (set M y lost_sent) lost_from lost_to;
      wide = h.wide;
      row_there = h.row_there;
      row_own = h.row_own;
      row_live = h.row_live;
      few_rows = omega (arith, h.few_rows);
      few_messages = omega (arith, h.few_messages);
      room = h.room;
      sent_room = length-set M y lost_sent ∙ h.sent_room;
      places = h.places;
      counted = off_counted;
      most = omega (arith, h.most);
      marked = off_marked lost_sent refl;
      waits = λ x e. let w = h.waits x (still x e) in let ne = other_place x e in record {
        mark = ap (λ (z : Sent). receiver_mark z.fate) (sent_other M y lost_sent x ne) ∙ w.mark;
        receiver = w.receiver;
        not_got = ap (λ (z : Sent). receipt_mark z.fate) (sent_other M y lost_sent x ne) ∙ w.not_got;
        carried = λ f lf. ap (λ (z : Sent). (entry z.carried f).0) (sent_other M y lost_sent x ne) ∙ w.carried f lf;
        was_sent = w.was_sent;
      };
    }

    -- A delivery.
    abbrev i : ℕ
    i = t.receiver (suc y)

    abbrev got_row : ℕ
    got_row = live_row R i

    abbrev got_state : State
    got_state = record { process = owner_at S got_row; vector = taken_vector (vector_at S got_row) (carried_at M y) }

    abbrev got_sent : Sent
    got_sent = record { from = from_at M y; carried = carried_at M y; fate = Received got_row }

    abbrev S'' : List State
    S'' = set S got_row got_state

    abbrev M'' : List Sent
    M'' = set M y got_sent

    in_states : got_row < length S
    in_states = omega (arith, h.row_there i wait.receiver, h.represented.most_rows_lem, h.room)

    abbrev pub after : Trail
    after = receiving tr h.right i (suc y) wait.was_sent.0 wait.was_sent.1 wait.was_sent.2

    got_represented : Represents n after.lists after.vector R.rows R.last S'' M''
    got_represented = receives n tr h.right R.rows R.last S M h.represented i got_row wait.receiver (h.row_there i wait.receiver) (h.row_own i wait.receiver)
        (h.row_live i wait.receiver) y wait.was_sent.0 wait.was_sent.1 wait.was_sent.2 low_y wait.not_got (carried_at M y) wait.carried in_states in_messages

    live_now : entry_at S'' got_row i ≡ checkpoints (tr.lists i)
    live_now = got_live n tr h.right R.rows R.last S M h.represented i got_row wait.receiver (h.row_there i wait.receiver) (h.row_own i wait.receiver)
        (h.row_live i wait.receiver) y wait.was_sent.0 wait.was_sent.1 wait.was_sent.2 low_y wait.not_got (carried_at M y) wait.carried in_states in_messages

    owner_then : (r : ℕ) → owner_at S'' r ≡ owner_at S r
    owner_then = got_owner n tr h.right R.rows R.last S M h.represented i got_row wait.receiver (h.row_there i wait.receiver) (h.row_own i wait.receiver)
        (h.row_live i wait.receiver) y wait.was_sent.0 wait.was_sent.1 wait.was_sent.2 low_y wait.not_got (carried_at M y) wait.carried in_states in_messages

    -- The live rows of the other processes are as they were.
    live_then : (p : ℕ) → p < n → interval_of S'' (live_row R p) ≡ checkpoints (tr.lists p)
    live_then p lp = by_eq p i
        (λ c. rw c (ap (λ (q : ℕ). entry_at S'' got_row q) (owner_then got_row ∙ h.row_own i wait.receiver) ∙ live_now))
        (λ ne.
        let apart : live_row R p ≡ got_row → ⊥ = λ c. ne (sym (h.row_own p lp) ∙ ap (λ (r : ℕ). owner_at S r) c ∙ h.row_own i wait.receiver) in
        ap (λ (x : State). (entry x.vector x.process).0) (put_other S got_row got_state (live_row R p) apart) ∙ h.row_live p lp)

    got_wide : (r : ℕ) → r < R.rows → length (vector_at S'' r) ≡ 16
    got_wide r lr = by_eq r got_row
        (λ e. rw e (ap (λ (x : State). length x.vector) (put_same S got_row got_state in_states) ∙ long_taken))
        (λ ne. ap (λ (x : State). length x.vector) (put_other S got_row got_state r ne) ∙ h.wide r lr)
      where
        long_taken : length (taken_vector (vector_at S got_row) (carried_at M y)) ≡ 16
        long_taken = unfold taken_vector in length_table {A = Interval} 16 (taken_entry (vector_at S got_row) (carried_at M y))

    got_was_sent : (m : ℕ) → followed.Sent tr.lists m → followed.Sent after.lists m
    unfolding receiving
    got_was_sent m w = (w.0, w.1, event_old tr.lists i (received (suc y)) w.0 w.1 (sent m) w.2)

    pub kept_deliver : Kept n (suc read) (taken t (Some (Deliver (suc y)))) after (settled (with_receipt R got_row (carried_at M y)) y (Received got_row))
    kept_deliver = record {
      right = receiving_right tr h.right i (suc y) wait.was_sent.0 wait.was_sent.1 wait.was_sent.2;
      lists = unfold taken receiving in ap (λ (l : Lists). added l i (received (suc y))) h.lists;
      sends = unfold taken receiving in h.sends;
      last = unfold settled with_receipt receiving in h.last;
      represented = unfold settled with_receipt in got_represented;
      wide = unfold settled with_receipt in got_wide;
      row_there = λ p lp. unfold settled with_receipt in h.row_there p lp;
      row_own = λ p lp. unfold settled with_receipt in owner_then (live_row R p) ∙ h.row_own p lp;
      row_live = λ p lp. unfold settled with_receipt receiving in live_then p lp ∙ sym (received_own tr.lists i (suc y) p);
      few_rows = unfold settled with_receipt in omega (arith, h.few_rows);
      few_messages = unfold settled with_receipt in omega (arith, h.few_messages);
      room = unfold settled with_receipt in length-set S got_row got_state ∙ h.room;
      sent_room = unfold settled with_receipt in length-set M y got_sent ∙ h.sent_room;
      places = unfold settled with_receipt in h.places;
      counted = unfold settled with_receipt taken in off_counted;
      most = unfold settled with_receipt in omega (arith, h.most);
      marked = λ m. unfold settled with_receipt taken in off_marked got_sent refl m;
      waits = λ x e. unfold settled with_receipt in got_waits x (unfold taken in e);
    }
      where
        got_waits : (x : ℕ) → upd t.underway (suc y) false (suc x) ≡ true → Waits n (taken t (Some (Deliver (suc y)))) after M'' x
        got_waits x e = let w = h.waits x (still x e) in let ne = other_place x e in record {
          mark = unfold taken in ap (λ (z : Sent). receiver_mark z.fate) (sent_other M y got_sent x ne) ∙ w.mark;
          receiver = unfold taken in w.receiver;
          not_got = ap (λ (z : Sent). receipt_mark z.fate) (sent_other M y got_sent x ne) ∙ w.not_got;
          carried = λ f lf. unfold receiving in ap (λ (z : Sent). (entry z.carried f).0) (sent_other M y got_sent x ne) ∙ w.carried f lf;
          was_sent = got_was_sent (suc x) w.was_sent;
        }

-- The start.
pub kept_begin : (n : ℕ) (R : Reading) → n ≤ 16 → FirstRows n R → Kept n 0 empty begin R
unfolding empty begin
kept_begin n R few w = record {
  right = begin_right;
  lists = refl;
  sends = refl;
  last = w.last;
  represented = start_represented;
  wide = λ r lr. w.first.wide r (omega (arith, lr, w.rows));
  row_there = λ p lp. omega (arith, w.first.live p lp, w.rows);
  row_own = λ p lp. ap (owner_at R.states) (w.first.live p lp) ∙ w.first.owner p lp;
  row_live = λ p lp. ap (interval_of R.states) (w.first.live p lp) ∙ first_live p lp;
  few_rows = omega (arith, w.rows);
  few_messages = omega (arith, w.last);
  room = w.room;
  sent_room = w.sent_room;
  places = w.places;
  counted = w.underway ∙ sym (count_none 1 (λ m. false) (λ j l. refl));
  most = omega (arith, w.underway);
  marked = λ m. sym (rw w.last (none_marked m));
  waits = λ y e. absurd (false≢true e);
}
  where
    start_represented : Represents n begin.lists begin.vector R.rows R.last R.states R.messages
    start_represented = rw (w.rows, w.last) (begin_represented n R.states R.messages R.current few w.first)

    first_live : (p : ℕ) → p < n → interval_of R.states p ≡ checkpoints (begin.lists p)
    first_live p lp = ap (λ (q : ℕ). entry_at R.states p q) (w.first.owner p lp) ∙ w.first.vector p p lp (omega arith) ∙ ap (λ b. pick b 1 0) (eq-eqb p p refl) ∙ sym (own_begin p)

    none_marked : (m : ℕ) → is_under_way R.messages 0 m ≡ false
    none_marked zero = unfold is_under_way in refl
    none_marked (suc y) = unfold is_under_way in rw (le-ltb y 0 (omega arith))
