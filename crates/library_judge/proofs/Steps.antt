-- The tables hold the trail after each record: a checkpoint, a send, a delivery. A lost message changes nothing that the tables hold.
-- Assumes nothing.
use Rattle.std.specs.Prelude.{◌≡◌, ◌⊎◌, ◌-◌, ◌≤◌, ◌<◌}
use Rattle.laws.specs.Basics.{sym, ◌∙◌, ap, List, inl, inr, ℕ, suc, arith, ltb, length, ltb-true, ltb-false, by_bool, by_eq}
use Rattle.laws.specs.Loops.{either}
use Rattle.histories.specs.History.{HistoryEvent, stored, sent, received, Lists, checkpoints}
use Rattle.whole_runs.specs.Survival.{added}
use Rattle.histories.proofs.Apart.{same_sent, same_received, sent_stored, received_stored, sent_received}
use Rattle.histories.proofs.Places.{checkpoints_stored, checkpoints_sent, checkpoints_received}
use Rattle.theory_patterns.specs.Paths.{interval, StandsIn}
use Rattle.theory_patterns.proofs.Placing.{place_in}
use Rattle.theory_patterns.proofs.Adding.{list_same, list_other, event_old, event_new, event_cases, interval_old, interval_new}
use Rattle.library_judge.specs.declared.pattern.{State.State, Sent.Sent}
use Rattle.library_judge.specs.decision.{Rows.owner_at, Rows.entry_at, Rows.from_at, Rows.to_at, Represents.interval_of, Represents.Represents}
use Rattle.library_judge.proofs.decision.Verdict.{received_row}

module _ (lists : Lists) (i : ℕ) (x : HistoryEvent) where
  pub keeps : {e : HistoryEvent} {g : ℕ} (p : ℕ) → StandsIn e g (lists p) → StandsIn e g (added lists i x p)
  keeps {e} {g} p s = (s.0, event_old lists i x p s.0 e s.1, interval_old lists i x p s.0 (omega (arith, place_in (lists p) s.0 e s.1)) ∙ s.2)

  pub ends : StandsIn x (checkpoints (lists i)) (added lists i x i)
  ends = (length (lists i), event_new lists i x, interval_new lists i x)

  pub cases : {e : HistoryEvent} {g : ℕ} (p : ℕ) → StandsIn e g (added lists i x p) → StandsIn e g (lists p) ⊎ ((p ≡ i) × (e ≡ x) × (g ≡ checkpoints (lists i)))
  cases {e} {g} p s = either (event_cases lists i x p s.0 e s.1)
      (λ w. inl (s.0, w, sym (interval_old lists i x p s.0 (omega (arith, place_in (lists p) s.0 e w))) ∙ s.2))
      (λ w. inr (w.0, sym w.2, sym s.2 ∙ ap (interval (added lists i x p)) w.1 ∙ ap (λ (q : ℕ). interval (added lists i x q) (length (lists i))) w.0 ∙ interval_new lists i x))

pub stored_own : (lists : Lists) (i : ℕ) → checkpoints (added lists i stored i) ≡ suc (checkpoints (lists i))
stored_own lists i = rw (list_same lists i stored) (checkpoints_stored (lists i))

pub other_own : (lists : Lists) (i : ℕ) (x : HistoryEvent) (p : ℕ) → (p ≡ i → ⊥) → checkpoints (added lists i x p) ≡ checkpoints (lists p)
other_own lists i x p ne = rw (list_other lists i x p ne)

pub sent_own : (lists : Lists) (i m p : ℕ) → checkpoints (added lists i (sent m) p) ≡ checkpoints (lists p)
sent_own lists i m p = by_eq p i (λ e. rw (e, list_same lists i (sent m)) (checkpoints_sent (lists i) m)) (λ ne. other_own lists i (sent m) p ne)

pub received_own : (lists : Lists) (i m p : ℕ) → checkpoints (added lists i (received m) p) ≡ checkpoints (lists p)
received_own lists i m p = by_eq p i (λ e. rw (e, list_same lists i (received m)) (checkpoints_received (lists i) m)) (λ ne. other_own lists i (received m) p ne)

pub placed_to : {e : HistoryEvent} {g j p q : ℕ} (lists : Lists) → g ≡ j → p ≡ q → StandsIn e g (lists p) → StandsIn e j (lists q)
placed_to lists a b s = rw b at (rw a at s)

module _ (n : ℕ) (lists : Lists) (vector vector' : ℕ → ℕ → ℕ → ℕ) (rows last : ℕ) (vs : List State) (ms : List Sent)
    (h : Represents n lists vector rows last vs ms) where
  -- A checkpoint of i: a new row, after all others.
  module _ (i : ℕ) (vs' : List State) (li : i < n) (room : rows < 4112)
      (old-e : (r f : ℕ) → r < rows → f < 16 → entry_at vs' r f ≡ entry_at vs r f)
      (old-p : (r : ℕ) → r < rows → owner_at vs' r ≡ owner_at vs r)
      (new-p : owner_at vs' rows ≡ i)
      (new-e : (f : ℕ) → f < 16 → entry_at vs' rows f ≡ vector' i (suc (checkpoints (lists i))) f)
      (self : vector' i (suc (checkpoints (lists i))) i ≡ suc (checkpoints (lists i)))
      (old-v : (p k f : ℕ) → k ≤ checkpoints (lists p) → vector' p k f ≡ vector p k f) where
    old_i : (r : ℕ) → r < rows → interval_of vs' r ≡ interval_of vs r
    old_i r lr = ap (λ (q : ℕ). entry_at vs' r q) (old-p r lr) ∙ old-e r (owner_at vs r) lr (omega (arith, h.owner r lr, h.few))

    new_i : interval_of vs' rows ≡ suc (checkpoints (lists i))
    new_i = ap (λ (q : ℕ). entry_at vs' rows q) new-p ∙ new-e i (omega (arith, h.few)) ∙ self

    least : (p : ℕ) → checkpoints (lists p) ≤ checkpoints (added lists i stored p)
    least p = by_eq p i (λ e. rw e (omega (arith, stored_own lists i))) (λ ne. omega (arith, other_own lists i stored p ne))

    state' : (r : ℕ) → r < rows → interval_of vs' r ≤ checkpoints (added lists i stored (owner_at vs' r))
    state' r lr = omega (arith, old_i r lr, h.state r lr, least (owner_at vs r), ap (λ (q : ℕ). checkpoints (added lists i stored q)) (old-p r lr))

    pub represented_stored : Represents n (added lists i stored) vector' (suc rows) last vs' ms
    represented_stored = record {
      few = h.few;
      most_rows_lem = omega arith;
      most_messages = h.most_messages;
      owner = λ r lr. by_eq r rows (λ e. rw (e, new-p) li) (λ ne. let l : r < rows = omega arith in rw (old-p r l) (h.owner r l));
      state = λ r lr. by_eq r rows
          (λ e. rw e (omega (arith, new_i, stored_own lists i, ap (λ (q : ℕ). checkpoints (added lists i stored q)) new-p)))
          (λ ne. state' r (omega arith));
      vector_is = λ r f lr lf. by_eq r rows
          (λ e. rw e (new-e f lf ∙ ap (λ (q : ℕ). vector' i q f) (sym new_i) ∙ ap (λ (q : ℕ). vector' q (interval_of vs' rows) f) (sym new-p)))
          (λ ne. let l : r < rows = omega arith in
          old-e r f l lf ∙ h.vector_is r f l lf ∙ sym (old-v (owner_at vs r) (interval_of vs r) f (h.state r l))
          ∙ ap (λ (q : ℕ). vector' (owner_at vs r) q f) (sym (old_i r l)) ∙ ap (λ (q : ℕ). vector' q (interval_of vs' r) f) (sym (old-p r l)));
      there = λ p k lp pos le. by_eq k (suc (checkpoints (lists p)))
          (λ e. by_eq p i
          (λ d. (rows, omega arith, new-p ∙ sym d, new_i ∙ sym (e ∙ ap (λ (q : ℕ). suc (checkpoints (lists q))) d)))
          (λ ne. absurd (omega (arith, other_own lists i stored p ne))))
          (λ nk. let low : k ≤ checkpoints (lists p) = by_eq p i
          (λ d. omega (arith, stored_own lists i, ap (λ (q : ℕ). checkpoints (added lists i stored q)) d, ap (λ (q : ℕ). checkpoints (lists q)) d, nk))
          (λ ne. omega (arith, other_own lists i stored p ne)) in
          let w = h.there p k lp pos low in
          (w.0, omega (arith, w.1), old-p w.0 w.1 ∙ w.2, old_i w.0 w.1 ∙ w.3));
      ascends = λ r x lt lx e. by_eq x rows
          (λ d. let l : r < rows = omega arith in
          let is_i : owner_at vs r ≡ i = sym (old-p r l) ∙ e ∙ ap (λ (q : ℕ). owner_at vs' q) d ∙ new-p in
          rw d (omega (arith, new_i, old_i r l, h.state r l, ap (λ (q : ℕ). checkpoints (lists q)) is_i)))
          (λ ne. let lx' : x < rows = omega arith in let lr : r < rows = omega arith in
          omega (arith, old_i r lr, old_i x lx', h.ascends r x lt lx' (sym (old-p r lr) ∙ e ∙ old-p x lx')));
      from_row = λ m lm. omega (arith, h.from_row m lm);
      to_row = λ m lm. omega (arith, h.to_row m lm);
      sent_in_lem = λ m lm. let l = h.from_row m lm in
          placed_to (added lists i stored) (sym (old_i (from_at ms m) l)) (sym (old-p (from_at ms m) l)) (keeps lists i stored (owner_at vs (from_at ms m)) (h.sent_in_lem m lm));
      received_in = λ m lm ne. let l = received_row h m lm ne in
          placed_to (added lists i stored) (sym (old_i (to_at ms m - 1) l)) (sym (old-p (to_at ms m - 1) l)) (keeps lists i stored (owner_at vs (to_at ms m - 1)) (h.received_in m lm ne));
      all_sent = λ p g m s. either (cases lists i stored p s)
          (λ w. let y = h.all_sent p g m w in let l = h.from_row y.0 y.1 in
          (y.0, y.1, y.2, old-p (from_at ms y.0) l ∙ y.3, old_i (from_at ms y.0) l ∙ y.4))
          (λ w. absurd (sent_stored m w.1));
      all_received = λ p g m s. either (cases lists i stored p s)
          (λ w. let y = h.all_received p g m w in let l = received_row h y.0 y.1 y.3 in
          (y.0, y.1, y.2, y.3, old-p (to_at ms y.0 - 1) l ∙ y.4, old_i (to_at ms y.0 - 1) l ∙ y.5))
          (λ w. absurd (received_stored m w.1));
    }

  -- A send of i, from its live row.
  module _ (i row : ℕ) (ms' : List Sent) (room : last < 4096)
      (lr : row < rows) (own_row : owner_at vs row ≡ i) (live : interval_of vs row ≡ checkpoints (lists i))
      (old-f : (m : ℕ) → m < last → from_at ms' m ≡ from_at ms m) (new-f : from_at ms' last ≡ row)
      (old-t : (m : ℕ) → m < last → to_at ms' m ≡ to_at ms m) (new-t : to_at ms' last ≡ 0) where
    e : HistoryEvent
    e = sent (suc last)

    own_is : (p : ℕ) → checkpoints (added lists i e p) ≡ checkpoints (lists p)
    unfolding e
    own_is p = sent_own lists i (suc last) p

    sent_at : {g j p q : ℕ} {x : HistoryEvent} → g ≡ j → p ≡ q → StandsIn x g (lists p) → StandsIn x j (added lists i e q)
    sent_at {q = q} a b s = keeps lists i e q (placed_to lists a b s)

    from_iv : (m : ℕ) → m < last → interval_of vs (from_at ms' m) ≡ interval_of vs (from_at ms m)
    from_iv m lm = ap (λ (r : ℕ). interval_of vs r) (old-f m lm)

    from_own : (m : ℕ) → m < last → owner_at vs (from_at ms' m) ≡ owner_at vs (from_at ms m)
    from_own m lm = ap (λ (r : ℕ). owner_at vs r) (old-f m lm)

    to_iv : (m : ℕ) → m < last → interval_of vs (to_at ms' m - 1) ≡ interval_of vs (to_at ms m - 1)
    to_iv m lm = ap (λ (r : ℕ). interval_of vs (r - 1)) (old-t m lm)

    to_own : (m : ℕ) → m < last → owner_at vs (to_at ms' m - 1) ≡ owner_at vs (to_at ms m - 1)
    to_own m lm = ap (λ (r : ℕ). owner_at vs (r - 1)) (old-t m lm)

    new_own : owner_at vs (from_at ms' last) ≡ i
    new_own = ap (λ (r : ℕ). owner_at vs r) new-f ∙ own_row

    new_iv : interval_of vs (from_at ms' last) ≡ checkpoints (lists i)
    new_iv = ap (λ (r : ℕ). interval_of vs r) new-f ∙ live

    new_sent : StandsIn (sent (suc last)) (interval_of vs (from_at ms' last)) (added lists i e (owner_at vs (from_at ms' last)))
    unfolding e
    new_sent = placed_to (added lists i (sent (suc last))) (sym new_iv) (sym new_own) (ends lists i (sent (suc last)))

    pub represented_sent : Represents n (added lists i (sent (suc last))) vector rows (suc last) vs ms'
    unfolding e
    represented_sent = record {
      few = h.few;
      most_rows_lem = h.most_rows_lem;
      most_messages = omega arith;
      owner = h.owner;
      state = λ r l. omega (arith, h.state r l, own_is (owner_at vs r));
      vector_is = h.vector_is;
      there = λ p k lp pos le. h.there p k lp pos (omega (arith, own_is p));
      ascends = h.ascends;
      from_row = λ m lm. by_eq m last (λ d. rw (d, new-f) lr) (λ ne. let l : m < last = omega arith in rw (old-f m l) (h.from_row m l));
      to_row = λ m lm. by_eq m last (λ d. rw (d, new-t) (omega arith)) (λ ne. let l : m < last = omega arith in rw (old-t m l) (h.to_row m l));
      sent_in_lem = λ m lm. by_eq m last
          (λ d. rw d new_sent)
          (λ ne. let l : m < last = omega arith in sent_at (sym (from_iv m l)) (sym (from_own m l)) (h.sent_in_lem m l));
      received_in = λ m lm got. by_eq m last
          (λ d. absurd (got (ap (λ (r : ℕ). to_at ms' r) d ∙ new-t)))
          (λ ne. let l : m < last = omega arith in sent_at (sym (to_iv m l)) (sym (to_own m l)) (h.received_in m l (λ z. got (old-t m l ∙ z))));
      all_sent = λ p g m s. either (cases lists i (sent (suc last)) p s)
          (λ w. let y = h.all_sent p g m w in (y.0, omega (arith, y.1), y.2, from_own y.0 y.1 ∙ y.3, from_iv y.0 y.1 ∙ y.4))
          (λ w. (last, omega arith, same_sent m (suc last) w.1, new_own ∙ sym w.0, new_iv ∙ sym w.2));
      all_received = λ p g m s. either (cases lists i (sent (suc last)) p s)
          (λ w. let y = h.all_received p g m w in
          (y.0, omega (arith, y.1), y.2, (λ z. y.3 (sym (old-t y.0 y.1) ∙ z)), to_own y.0 y.1 ∙ y.4, to_iv y.0 y.1 ∙ y.5))
          (λ w. absurd (sent_received (suc last) m (sym w.1)));
    }

  -- A delivery to b, in its live row, of the message in place y, which is not received yet.
  module _ (b row y : ℕ) (vs' : List State) (ms' : List Sent) (ly : y < last)
      (lr : row < rows) (own_row : owner_at vs row ≡ b) (live : interval_of vs row ≡ checkpoints (lists b))
      (old-e : (r f : ℕ) → (r ≡ row → ⊥) → f < 16 → entry_at vs' r f ≡ entry_at vs r f)
      (new-e : (f : ℕ) → f < 16 → entry_at vs' row f ≡ vector' b (checkpoints (lists b)) f)
      (self : vector' b (checkpoints (lists b)) b ≡ checkpoints (lists b))
      (old-v : (p k f : ℕ) → (p ≡ b → k ≡ checkpoints (lists b) → ⊥) → vector' p k f ≡ vector p k f)
      (old-p : (r : ℕ) → owner_at vs' r ≡ owner_at vs r) (old-f : (m : ℕ) → from_at ms' m ≡ from_at ms m)
      (old-t : (m : ℕ) → (m ≡ y → ⊥) → to_at ms' m ≡ to_at ms m) (new-t : to_at ms' y ≡ suc row) (not_got : to_at ms y ≡ 0) where
    b16 : b < 16
    b16 = omega (arith, own_row, h.owner row lr, h.few)

    own_got : (p : ℕ) → checkpoints (added lists b (received (suc y)) p) ≡ checkpoints (lists p)
    own_got p = received_own lists b (suc y) p

    own_row' : owner_at vs' row ≡ b
    own_row' = old-p row ∙ own_row

    -- The interval of every row stays.
    same_i : (r : ℕ) → r < rows → interval_of vs' r ≡ interval_of vs r
    same_i r l = by_eq r row
        (λ d. rw d (ap (λ (q : ℕ). entry_at vs' row q) own_row' ∙ new-e b b16 ∙ self ∙ sym live))
        (λ ne. ap (λ (q : ℕ). entry_at vs' r q) (old-p r) ∙ old-e r (owner_at vs r) ne (omega (arith, h.owner r l, h.few)))

    -- A row that is not the live row of b is another state.
    another : (r : ℕ) → r < rows → (r ≡ row → ⊥) → owner_at vs r ≡ b → interval_of vs r ≡ checkpoints (lists b) → ⊥
    another r l ne d q = by_bool (ltb r row)
        (λ z. omega (arith, h.ascends r row (ltb-true r row z) lr (d ∙ sym own_row), live))
        (λ z. let gt : row < r = omega (arith, ltb-false r row z, ne) in omega (arith, h.ascends row r gt l (own_row ∙ sym d), live))

    got_at : {g j p q : ℕ} {x : HistoryEvent} → g ≡ j → p ≡ q → StandsIn x g (lists p) → StandsIn x j (added lists b (received (suc y)) q)
    got_at {q = q} a d s = keeps lists b (received (suc y)) q (placed_to lists a d s)

    -- The row of a send.
    got_from_own : (m : ℕ) → owner_at vs' (from_at ms' m) ≡ owner_at vs (from_at ms m)
    got_from_own m = ap (owner_at vs') (old-f m) ∙ old-p (from_at ms m)

    got_from_iv : (m : ℕ) → m < last → interval_of vs' (from_at ms' m) ≡ interval_of vs (from_at ms m)
    got_from_iv m lm = ap (interval_of vs') (old-f m) ∙ same_i (from_at ms m) (h.from_row m lm)

    -- The row of a receipt.
    new_row : to_at ms' y - 1 ≡ row
    new_row = omega (arith, new-t)

    new_own_got : owner_at vs' (to_at ms' y - 1) ≡ b
    new_own_got = ap (owner_at vs') new_row ∙ own_row'

    new_iv_got : interval_of vs' (to_at ms' y - 1) ≡ checkpoints (lists b)
    new_iv_got = ap (interval_of vs') new_row ∙ same_i row lr ∙ live

    old_iv_got : (m : ℕ) → m < last → (m ≡ y → ⊥) → (to_at ms m ≡ 0 → ⊥) → interval_of vs' (to_at ms' m - 1) ≡ interval_of vs (to_at ms m - 1)
    old_iv_got m lm ne got = ap (λ (r : ℕ). interval_of vs' (r - 1)) (old-t m ne) ∙ same_i (to_at ms m - 1) (received_row h m lm got)

    old_own_got : (m : ℕ) → (m ≡ y → ⊥) → owner_at vs' (to_at ms' m - 1) ≡ owner_at vs (to_at ms m - 1)
    old_own_got m ne = ap (λ (r : ℕ). owner_at vs' (r - 1)) (old-t m ne) ∙ old-p (to_at ms m - 1)

    pub represented_received : Represents n (added lists b (received (suc y))) vector' rows last vs' ms'
    represented_received = record {
      few = h.few;
      most_rows_lem = h.most_rows_lem;
      most_messages = h.most_messages;
      owner = λ r l. omega (arith, old-p r, h.owner r l);
      state = λ r l. omega (arith, h.state r l, own_got (owner_at vs r), same_i r l, ap (λ (q : ℕ). checkpoints (added lists b (received (suc y)) q)) (old-p r));
      vector_is = λ r f l lf. by_eq r row
          (λ d. rw d (new-e f lf ∙ ap (λ (q : ℕ). vector' b q f) (sym (same_i row lr ∙ live)) ∙ ap (λ (q : ℕ). vector' q (interval_of vs' row) f) (sym own_row')))
          (λ ne. old-e r f ne lf ∙ h.vector_is r f l lf ∙ sym (old-v (owner_at vs r) (interval_of vs r) f (another r l ne))
          ∙ ap (λ (q : ℕ). vector' (owner_at vs r) q f) (sym (same_i r l)) ∙ ap (λ (q : ℕ). vector' q (interval_of vs' r) f) (sym (old-p r)));
      there = λ p k lp pos le. let w = h.there p k lp pos (omega (arith, own_got p)) in (w.0, w.1, old-p w.0 ∙ w.2, same_i w.0 w.1 ∙ w.3);
      ascends = λ r x lt lx d. omega (arith, h.ascends r x lt lx (sym (old-p r) ∙ d ∙ old-p x), same_i r (omega arith), same_i x lx);
      from_row = λ m lm. omega (arith, old-f m, h.from_row m lm);
      to_row = λ m lm. by_eq m y (λ d. rw (d, new-t) (omega arith)) (λ ne. rw (old-t m ne) (h.to_row m lm));
      sent_in_lem = λ m lm. got_at (sym (got_from_iv m lm)) (sym (got_from_own m)) (h.sent_in_lem m lm);
      received_in = λ m lm got. by_eq m y
          (λ d. rw d (placed_to (added lists b (received (suc y))) (sym new_iv_got) (sym new_own_got) (ends lists b (received (suc y)))))
          (λ ne. let before : to_at ms m ≡ 0 → ⊥ = λ z. got (old-t m ne ∙ z) in got_at (sym (old_iv_got m lm ne before)) (sym (old_own_got m ne)) (h.received_in m lm before));
      all_sent = λ p g m s. either (cases lists b (received (suc y)) p s)
          (λ w. let z = h.all_sent p g m w in (z.0, z.1, z.2, got_from_own z.0 ∙ z.3, got_from_iv z.0 z.1 ∙ z.4))
          (λ w. absurd (sent_received m (suc y) w.1));
      all_received = λ p g m s. either (cases lists b (received (suc y)) p s)
          (λ w. let z = h.all_received p g m w in
          let ne : z.0 ≡ y → ⊥ = λ d. z.3 (ap (λ (q : ℕ). to_at ms q) d ∙ not_got) in
          (z.0, z.1, z.2, (λ q. z.3 (sym (old-t z.0 ne) ∙ q)), old_own_got z.0 ne ∙ z.4, old_iv_got z.0 z.1 ne z.3 ∙ z.5))
          (λ w. (y, ly, same_received m (suc y) w.1, (λ q. absurd (omega (arith, new-t, q))), new_own_got ∙ sym w.0, new_iv_got ∙ sym w.2));
    }
