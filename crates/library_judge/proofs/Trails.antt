-- What the functions leave holds the trail that `patterns` makes of the record: `storing`, `sending`, `receiving`.
-- Assumes nothing.
use Rattle.std.specs.Prelude.{◌≡◌, ◌+◌, ◌-◌, ◌≤◌, ◌<◌}
use Rattle.laws.specs.Basics.{sym, ◌∙◌, ap, List, Some, ℕ, suc, max, arith, ltb, length, take, get_or, set, length-take-le, get_or-set_same, get_or-set_other, ltb-true, ltb-false, pick, by_bool, by_eq}
use Rattle.std.proofs.lemmas.List.{get_or-take}
use Rattle.laws.specs.{Tables.get_d_table, Update.upd, Update.upd_same, Update.upd_other}
use Rattle.model.specs.declared.Interval.{Interval}
use Rattle.histories.specs.History.{stored, sent, received, Lists, checkpoints}
use Rattle.model.specs.{Words.entry, Words.below, Steps.advanced, Steps.taken_entry, Steps.taken_vector}
use Rattle.whole_runs.specs.Survival.{added}
use Rattle.theory_patterns.specs.Paths.{event_at}
use Rattle.theory_patterns.proofs.Trail.{Trail, own, Right, storing, sending, receiving, receiving_right}
use Rattle.library_judge.specs.declared.{pattern.State.State, pattern.Fate.TheVariants.UnderWay, pattern.Fate.TheVariants.Received, pattern.Sent.Sent}
use Rattle.library_judge.specs.decision.Rows.{no_state, no_sent, owner_at, vector_at, entry_at, from_at, carried_at, receipt_mark, to_at, put_same, put_other}
use Rattle.library_judge.specs.decision.Represents.{interval_of, Represents}
use Rattle.library_judge.proofs.decision.Verdict.{received_row}
use Rattle.library_judge.proofs.Steps.{placed_to, represented_stored, represented_sent, represented_received, received_own}

-- Entry f of the two vectors that a record makes.
advanced_own : (v : List Interval) (i : ℕ) → i < length v → (entry (advanced i v) i).0 ≡ suc (entry v i).0
unfolding advanced
advanced_own v i h =
    ap (λ (x : Interval). x.0) (get_or-set_same v i (record { 0 = (entry v i).0 + 1 }) (record { 0 = 0 }) h) ∙ omega arith

advanced_other : (v : List Interval) (i f : ℕ) → (f ≡ i → ⊥) → (entry (advanced i v) f).0 ≡ (entry v f).0
unfolding advanced
advanced_other v i f ne = ap (λ (x : Interval). x.0) (get_or-set_other v i f (record { 0 = (entry v i).0 + 1 }) (record { 0 = 0 }) ne)

greater : (a b : Interval) → (pick (below a b) b a).0 ≡ max a.0 b.0
greater a b = by_bool (ltb a.0 b.0)
    (λ e. rw e (omega (arith, ltb-true a.0 b.0 e)))
    (λ e. rw e (omega (arith, ltb-false a.0 b.0 e)))

taken_entry_lem : (own carried : List Interval) (f : ℕ) → f < 16 → (entry (taken_vector own carried) f).0 ≡ max (entry own f).0 (entry carried f).0
unfolding taken_vector taken_entry
taken_entry_lem own carried f h = ap (λ (x : Interval). x.0) (get_d_table 16 (taken_entry own carried) f (record { 0 = 0 }) h) ∙ greater (entry own f) (entry carried f)

-- One message is put in its place.
module _ (ms : List Sent) (m : ℕ) (x : Sent) where
  pub sent_same : m < length ms → get_or (set ms m x) m no_sent ≡ x
  sent_same h = get_or-set_same ms m x no_sent h

  pub sent_other : (q : ℕ) → (q ≡ m → ⊥) → get_or (set ms m x) q no_sent ≡ get_or ms q no_sent
  sent_other q ne = get_or-set_other ms m q x no_sent ne

module _ (n : ℕ) (t : Trail) (v : Right t) (rows last : ℕ) (vs : List State) (ms : List Sent) (h : Represents n t.lists t.vector rows last vs ms)
    (i row : ℕ) (li : i < n) (lr : row < rows) (own_row : owner_at vs row ≡ i) (live : interval_of vs row ≡ checkpoints (t.lists i)) where
  i16 : i < 16
  i16 = omega (arith, h.few)

  -- The live row is the live state.
  pub live_entry_lem : (f : ℕ) → f < 16 → entry_at vs row f ≡ t.vector i (checkpoints (t.lists i)) f
  live_entry_lem f lf = h.vector_is row f lr lf ∙ ap (λ (p : ℕ). t.vector p (interval_of vs row) f) own_row ∙ ap (λ (k : ℕ). t.vector i k f) live

  pub own_entry : entry_at vs row i ≡ checkpoints (t.lists i)
  own_entry = ap (λ (p : ℕ). entry_at vs row p) (sym own_row) ∙ live

  -- A checkpoint.
  stored_old : (p k f : ℕ) → k ≤ own t p → (storing t v i).vector p k f ≡ t.vector p k f
  unfolding storing
  stored_old p k f le = by_eq p i
      (λ e. let low : k ≡ suc (own t i) → ⊥ = λ q. omega (arith, le, q, ap (own t) e) in
      rw (e, upd_same t.vector i) (ap (λ (g : ℕ → ℕ). g f) (upd_other (t.vector i) (suc (own t i)) (upd (t.vector i (own t i)) i (suc (own t i))) k low)))
      (λ ne. ap (λ (g : ℕ → ℕ → ℕ). g k f) (upd_other t.vector i _ p ne))

  stored_new : (f : ℕ) → (storing t v i).vector i (suc (own t i)) f ≡ upd (t.vector i (own t i)) i (suc (own t i)) f
  unfolding storing
  stored_new f = rw (upd_same t.vector i) (ap (λ (g : ℕ → ℕ). g f) (upd_same (t.vector i) (suc (own t i)) _))

  stored_own_new : (storing t v i).vector i (suc (own t i)) i ≡ suc (own t i)
  stored_own_new = stored_new i ∙ upd_same (t.vector i (own t i)) i (suc (own t i))

  -- The live vector has its 16 entries.
  module _ (wide : length (vector_at vs row) ≡ 16) where
    abbrev next_state : State
    next_state = record { process = i; vector = advanced i (vector_at vs row) }

    stored_entry : (f : ℕ) → f < 16 → (entry (advanced i (vector_at vs row)) f).0 ≡ (storing t v i).vector i (suc (own t i)) f
    stored_entry f lf = by_eq f i
        (λ e. rw e (advanced_own (vector_at vs row) i (omega (arith, wide, i16)) ∙ ap suc own_entry ∙ sym stored_own_new))
        (λ ne. advanced_other (vector_at vs row) i f ne ∙ live_entry_lem f lf ∙ sym (stored_new f ∙ upd_other (t.vector i (own t i)) i (suc (own t i)) f ne))

    pub stores : rows < 4112 → rows < length vs → Represents n (storing t v i).lists (storing t v i).vector (suc rows) last (set vs rows next_state) ms
    stores room long = lists_same (represented_stored n t.lists t.vector (storing t v i).vector rows last vs ms h i (set vs rows next_state) li room
        (λ r f l lf. ap (λ (x : State). (entry x.vector f).0) (put_other vs rows next_state r (λ e. omega arith)))
        (λ r l. ap (λ (x : State). x.process) (put_other vs rows next_state r (λ e. omega arith)))
        (ap (λ (x : State). x.process) (put_same vs rows next_state long))
        (λ f lf. ap (λ (x : State). (entry x.vector f).0) (put_same vs rows next_state long) ∙ stored_entry f lf)
        stored_own_new stored_old)
      where
        lists_same : Represents n (added t.lists i stored) (storing t v i).vector (suc rows) last (set vs rows next_state) ms
            → Represents n (storing t v i).lists (storing t v i).vector (suc rows) last (set vs rows next_state) ms
        lists_same w = unfold storing in w

  -- A send.
  module _ (j : ℕ) (carried : List Interval) where
    abbrev next_sent : Sent
    next_sent = record { from = row; carried = carried; fate = UnderWay j }

    pub sends : last ≡ t.last → last < 4096 → last < length ms → Represents n (sending t v i).lists (sending t v i).vector rows (suc last) vs (set ms last next_sent)
    sends e room long = named e (represented_sent n t.lists t.vector t.vector rows last vs ms h i row (set ms last next_sent) room lr own_row live
        (λ m lm. ap (λ (x : Sent). x.from) (sent_other ms last next_sent m (λ d. omega arith))) (ap (λ (x : Sent). x.from) (sent_same ms last next_sent long))
        (λ m lm. ap (λ (x : Sent). receipt_mark x.fate) (sent_other ms last next_sent m (λ d. omega arith))) (ap (λ (x : Sent). receipt_mark x.fate) (sent_same ms last next_sent long)))
      where
        named : last ≡ t.last → Represents n (added t.lists i (sent (suc last))) t.vector rows (suc last) vs (set ms last next_sent)
            → Represents n (sending t v i).lists (sending t v i).vector rows (suc last) vs (set ms last next_sent)
        named e w = unfold sending in subst_lists (ap (λ (k : ℕ). added t.lists i (sent (suc k))) e) w
          where
            subst_lists : {l k : Lists} → l ≡ k → Represents n l t.vector rows (suc last) vs (set ms last next_sent) → Represents n k t.vector rows (suc last) vs (set ms last next_sent)
            subst_lists d w = rw d at w

  -- A delivery of the message in place y.
  module _ (y sender place : ℕ) (was_sent : event_at (t.lists sender) place ≡ Some (sent (suc y))) (ly : y < last) (not_got : to_at ms y ≡ 0)
      (carried : List Interval) (carries : (f : ℕ) → f < 16 → (entry carried f).0 ≡ t.carried (suc y) f) (in_states : row < length vs) (in_messages : y < length ms) where
    abbrev after : Trail
    after = receiving t v i (suc y) sender place was_sent

    abbrev got_state : State
    got_state = record { process = owner_at vs row; vector = taken_vector (vector_at vs row) carried }

    abbrev got_sent : Sent
    got_sent = record { from = from_at ms y; carried = carried_at ms y; fate = Received row }

    got_old : (p k f : ℕ) → (p ≡ i → k ≡ own t i → ⊥) → after.vector p k f ≡ t.vector p k f
    unfolding receiving
    got_old p k f apart = by_eq p i
        (λ e. rw (e, upd_same t.vector i) (ap (λ (g : ℕ → ℕ). g f) (upd_other (t.vector i) (own t i) (λ f. max (t.vector i (own t i) f) (t.carried (suc y) f)) k (apart e))))
        (λ ne. ap (λ (g : ℕ → ℕ → ℕ). g k f) (upd_other t.vector i _ p ne))

    got_new : (f : ℕ) → after.vector i (own t i) f ≡ max (t.vector i (own t i) f) (t.carried (suc y) f)
    unfolding receiving
    got_new f = rw (upd_same t.vector i) (ap (λ (g : ℕ → ℕ). g f) (upd_same (t.vector i) (own t i) _))

    got_self : after.vector i (own t i) i ≡ own t i
    got_self = (receiving_right t v i (suc y) sender place was_sent).self i (own t i) (reaches (received_own t.lists i (suc y) i))
      where
        reaches : checkpoints (added t.lists i (received (suc y)) i) ≡ own t i → own t i ≤ own after i
        reaches e = unfold receiving in omega (arith, e)

    got_entry : (f : ℕ) → f < 16 → (entry (taken_vector (vector_at vs row) carried) f).0 ≡ after.vector i (own t i) f
    got_entry f lf = taken_entry_lem (vector_at vs row) carried f lf
        ∙ ap (λ (x : ℕ). max x (entry carried f).0) (live_entry_lem f lf)
        ∙ ap (λ (x : ℕ). max (t.vector i (own t i) f) x) (carries f lf) ∙ sym (got_new f)

    put_entry : (f : ℕ) → f < 16 → entry_at (set vs row got_state) row f ≡ after.vector i (own t i) f
    put_entry f lf = ap (λ (x : State). (entry x.vector f).0) (put_same vs row got_state in_states) ∙ got_entry f lf

    -- The live row of the receiver still has its own entry.
    pub got_live : entry_at (set vs row got_state) row i ≡ own t i
    got_live = put_entry i i16 ∙ got_self

    pub got_owner : (r : ℕ) → owner_at (set vs row got_state) r ≡ owner_at vs r
    got_owner r = by_eq r row
        (λ e. rw e (ap (λ (x : State). x.process) (put_same vs row got_state in_states)))
        (λ ne. ap (λ (x : State). x.process) (put_other vs row got_state r ne))

    got_from : (m : ℕ) → from_at (set ms y got_sent) m ≡ from_at ms m
    got_from m = by_eq m y
        (λ e. rw e (ap (λ (x : Sent). x.from) (sent_same ms y got_sent in_messages)))
        (λ ne. ap (λ (x : Sent). x.from) (sent_other ms y got_sent m ne))

    pub receives : Represents n after.lists after.vector rows last (set vs row got_state) (set ms y got_sent)
    receives =
        lists_same (represented_received n t.lists t.vector after.vector rows last vs ms h i row y (set vs row got_state) (set ms y got_sent) ly lr own_row live
        (λ r f ne lf. ap (λ (x : State). (entry x.vector f).0) (put_other vs row got_state r ne))
        put_entry got_self got_old got_owner got_from
        (λ m ne. ap (λ (x : Sent). receipt_mark x.fate) (sent_other ms y got_sent m ne))
        (ap (λ (x : Sent). receipt_mark x.fate) (sent_same ms y got_sent in_messages)) not_got)
      where
        lists_same : Represents n (added t.lists i (received (suc y))) after.vector rows last (set vs row got_state) (set ms y got_sent)
            → Represents n after.lists after.vector rows last (set vs row got_state) (set ms y got_sent)
        lists_same w = unfold receiving in w

-- A message that is lost, and states and messages past those in use, change nothing that is held.
module _ (n : ℕ) (lists : Lists) (vector : ℕ → ℕ → ℕ → ℕ) (rows last : ℕ) (vs : List State) (ms : List Sent) (h : Represents n lists vector rows last vs ms) where
  module _ (ms' : List Sent) (same_from : (m : ℕ) → from_at ms' m ≡ from_at ms m) (same_to : (m : ℕ) → to_at ms' m ≡ to_at ms m) where
    pub represented_same : Represents n lists vector rows last vs ms'
    represented_same = record {
      few = h.few;
      most_rows_lem = h.most_rows_lem;
      most_messages = h.most_messages;
      owner = h.owner;
      state = h.state;
      vector_is = h.vector_is;
      there = h.there;
      ascends = h.ascends;
      from_row = λ m lm. omega (arith, same_from m, h.from_row m lm);
      to_row = λ m lm. omega (arith, same_to m, h.to_row m lm);
      sent_in_lem = λ m lm. placed_to lists (ap (interval_of vs) (sym (same_from m))) (ap (owner_at vs) (sym (same_from m))) (h.sent_in_lem m lm);
      received_in = λ m lm got. placed_to lists (ap (λ (r : ℕ). interval_of vs (r - 1)) (sym (same_to m))) (ap (λ (r : ℕ). owner_at vs (r - 1)) (sym (same_to m)))
          (h.received_in m lm (λ z. got (same_to m ∙ z)));
      all_sent = λ p g m s. let w = h.all_sent p g m s in (w.0, w.1, w.2, ap (owner_at vs) (same_from w.0) ∙ w.3, ap (interval_of vs) (same_from w.0) ∙ w.4);
      all_received = λ p g m s. let w = h.all_received p g m s in
          (w.0, w.1, w.2, (λ z. w.3 (sym (same_to w.0) ∙ z)), ap (λ (r : ℕ). owner_at vs (r - 1)) (same_to w.0) ∙ w.4, ap (λ (r : ℕ). interval_of vs (r - 1)) (same_to w.0) ∙ w.5);
    }

  module _ (long : rows ≤ length vs) (longer : last ≤ length ms) where
    front_state : (r : ℕ) → r < rows → get_or (take rows vs) r no_state ≡ get_or vs r no_state
    front_state r lr = get_or-take rows vs r no_state lr

    front_sent : (m : ℕ) → m < last → get_or (take last ms) m no_sent ≡ get_or ms m no_sent
    front_sent m lm = get_or-take last ms m no_sent lm

    abbrev vs' : List State
    vs' = take rows vs

    abbrev ms' : List Sent
    ms' = take last ms

    front_own : (r : ℕ) → r < rows → owner_at vs' r ≡ owner_at vs r
    front_own r lr = ap (λ (x : State). x.process) (front_state r lr)

    front_entry : (r f : ℕ) → r < rows → entry_at vs' r f ≡ entry_at vs r f
    front_entry r f lr = ap (λ (x : State). (entry x.vector f).0) (front_state r lr)

    front_iv : (r : ℕ) → r < rows → interval_of vs' r ≡ interval_of vs r
    front_iv r lr = ap (entry_at vs' r) (front_own r lr) ∙ front_entry r (owner_at vs r) lr

    front_from : (m : ℕ) → m < last → from_at ms' m ≡ from_at ms m
    front_from m lm = ap (λ (x : Sent). x.from) (front_sent m lm)

    front_to : (m : ℕ) → m < last → to_at ms' m ≡ to_at ms m
    front_to m lm = ap (λ (x : Sent). receipt_mark x.fate) (front_sent m lm)

    -- The rows that a message names.
    front_from_own : (m : ℕ) → m < last → owner_at vs' (from_at ms' m) ≡ owner_at vs (from_at ms m)
    front_from_own m lm = ap (owner_at vs') (front_from m lm) ∙ front_own (from_at ms m) (h.from_row m lm)

    front_from_iv : (m : ℕ) → m < last → interval_of vs' (from_at ms' m) ≡ interval_of vs (from_at ms m)
    front_from_iv m lm = ap (interval_of vs') (front_from m lm) ∙ front_iv (from_at ms m) (h.from_row m lm)

    front_to_own : (m : ℕ) → m < last → (to_at ms m ≡ 0 → ⊥) → owner_at vs' (to_at ms' m - 1) ≡ owner_at vs (to_at ms m - 1)
    front_to_own m lm ne = ap (λ (r : ℕ). owner_at vs' (r - 1)) (front_to m lm) ∙ front_own (to_at ms m - 1) (received_row h m lm ne)

    front_to_iv : (m : ℕ) → m < last → (to_at ms m ≡ 0 → ⊥) → interval_of vs' (to_at ms' m - 1) ≡ interval_of vs (to_at ms m - 1)
    front_to_iv m lm ne = ap (λ (r : ℕ). interval_of vs' (r - 1)) (front_to m lm) ∙ front_iv (to_at ms m - 1) (received_row h m lm ne)

    front : Represents n lists vector rows last vs' ms'
    front = record {
      few = h.few;
      most_rows_lem = h.most_rows_lem;
      most_messages = h.most_messages;
      owner = λ r lr. omega (arith, front_own r lr, h.owner r lr);
      state = λ r lr. omega (arith, front_iv r lr, h.state r lr, ap (λ (p : ℕ). checkpoints (lists p)) (front_own r lr));
      vector_is = λ r f lr lf. front_entry r f lr ∙ h.vector_is r f lr lf
          ∙ ap (λ (p : ℕ). vector p (interval_of vs r) f) (sym (front_own r lr)) ∙ ap (λ (k : ℕ). vector (owner_at vs' r) k f) (sym (front_iv r lr));
      there = λ p k lp pos le. let w = h.there p k lp pos le in (w.0, w.1, front_own w.0 w.1 ∙ w.2, front_iv w.0 w.1 ∙ w.3);
      ascends = λ r x lt lx e. let lr : r < rows = omega arith in
          omega (arith, h.ascends r x lt lx (sym (front_own r lr) ∙ e ∙ front_own x lx), front_iv r lr, front_iv x lx);
      from_row = λ m lm. omega (arith, front_from m lm, h.from_row m lm);
      to_row = λ m lm. omega (arith, front_to m lm, h.to_row m lm);
      sent_in_lem = λ m lm. placed_to lists (sym (front_from_iv m lm)) (sym (front_from_own m lm)) (h.sent_in_lem m lm);
      received_in = λ m lm got. let ne : to_at ms m ≡ 0 → ⊥ = λ z. got (front_to m lm ∙ z) in
          placed_to lists (sym (front_to_iv m lm ne)) (sym (front_to_own m lm ne)) (h.received_in m lm ne);
      all_sent = λ p g m s. let w = h.all_sent p g m s in (w.0, w.1, w.2, front_from_own w.0 w.1 ∙ w.3, front_from_iv w.0 w.1 ∙ w.4);
      all_received = λ p g m s. let w = h.all_received p g m s in
          (w.0, w.1, w.2, (λ z. w.3 (sym (front_to w.0 w.1) ∙ z)), front_to_own w.0 w.1 w.3 ∙ w.4, front_to_iv w.0 w.1 w.3 ∙ w.5);
    }

    pub fronts : Represents n lists vector (length (take rows vs)) (length (take last ms)) (take rows vs) (take last ms)
    fronts = rw (length-take-le rows vs long, length-take-le last ms longer) front
