-- The recovery of one process on the words says what Steps says of the run that sound words stand for.
-- Assumes nothing.
use Rattle.std.specs.Prelude.{◌≡◌, ◌&&◌, ◌+◌, ◌-◌, ◌*◌, ◌≤◌, ◌<◌, None}
use Rattle.laws.specs.Basics.{sym, ◌∙◌, ap, Bool, true, false, not, List, [], ℕ, arith, eqb, leb, length, get_or, get_or-replicate, get_or-set_other, eq-eqb, ne_eqb, eqb-true, lt-ltb, le-ltb, le-leb, lt-leb, leb-true, pick, by_bool, by_eq}
use Rattle.laws.specs.{Choice.pick_same, Elements.every_table, Lists.select, Lists.last_of, Lists.table, Prefixes.select_none, Rows.by_lt, Rows.every_beyond}
use Rattle.laws.specs.{Search.any_below, Search.any_in, Search.any_out, Select.all_chosen, Tables.get_d_table, Tables.table_same, Tests.some_of, Truth.never_both}
use Rattle.model.specs.Shapes.{Pin}
use Rattle.model.specs.declared.{Interval.Interval, Checkpoint.Checkpoint, Run.Run}
use Rattle.model.specs.Words.{entry, below, is_pinned, names, zero_vector, live, Process, process, own, blocks_of}
use Rattle.model.specs.{Refusals.no_member_of, Sound.is_nothing_of, Sound.nothing_from, Sound.sound}
use Rattle.model.specs.Steps.{advanced, member, rolled_back, vector_after, not_lost, own_after, latest_pin, moved_pin, pin_after, pins_after, recovered, gone_at_of}
use Rattle.words.specs.Layout.{word, count_of, kept_count_at_of, blocks_at_of, part_at, pins_at_of, index_at_of, stored_at, interval_of, index_of_def, pin_of_def, row_in, vector_in, pins_in, mark_in, checkpoint_in, decoded, run_of}
use Rattle.words.specs.Parts.{process_in}
use Rattle.words.proofs.{Same.row_word, Same.vector_length, Same.vector_word, Same.pins_length, View.run_fits, View.count_is_lem, View.part_past}
use Rattle.words.proofs.ViewRows.{vector_zero, stored_zero, kept_pinned}
use Rattle.words.proofs.ViewSound.{SoundPart, sound_fits, sound_few, sound_known, sound_process_is, sound_own_is, sound_part}
use Rattle.words_line.specs.{Line.limits_in, Line.past_latest, Line.state_in, Line.has_members, Line.pasts_in, Restored.found_in_of}
use Rattle.words_line.proofs.LineRule.{past_most, pasts_length, member_is, all_found, past_at, past_beyond, found_one}
use Rattle.words_process.specs.{Kept.Used, Kept.AllPinned, Pins.pin_row, Steps.places_of, Steps.unpinned_in}
use Rattle.words_process.proofs.{PinRows.pinned_row, PinRows.pins_row, PinRows.row_pin, Stepping.selected_blocks}
use Rattle.in_place_recover.specs.Restored.{goes_back, restored_vector, restored_own, owns_after_of, restored_pins, restored_part, restored_gone, Returns, AllReturn, Restorable}
use Rattle.in_place_recover.proofs.Found.{select_alike, select_short, found_is, found_under, known_at_lem, pick_least, pin_pick, nothing_is, advanced_own}

-- "every kept one is pinned"
each_pinned : (w : List ℕ) → sound (run_of w) ≡ true → (p : ℕ) → p < count_of w → AllPinned w p (pins_in w (pins_at_of p)) (word w (kept_count_at_of p))
unfolding AllPinned is_pinned checkpoint_in
each_pinned w h p lt k less =
    let one = kept_pinned w h p lt k less in
    let here = (sound_part w h p lt).used k less in
    ap (some_of (λ pin. names pin (index_of_def (word w (index_at_of p k))))) (pins_row w (pins_at_of p))
    ∙ pinned_row (row_in w (pins_at_of p)) (word w (index_at_of p k)) here
    ∙ any_in 16 (λ f. eqb (get_or (row_in w (pins_at_of p)) f 0) (word w (index_at_of p k))) one.0 one.1 (eq-eqb _ _ (row_word w (pins_at_of p) one.0 one.1 ∙ one.2))

module _ (w : List ℕ) (h : sound (run_of w) ≡ true) (F : ℕ) (all : has_members w (count_of w) (limits_in w (count_of w) F) ≡ true) where
  abbrev s : Run
  s = run_of w

  abbrev limits : List Interval
  limits = limits_in w (count_of w) F

  abbrev pub pasts : List ℕ
  pasts = pasts_in w (count_of w) limits

  abbrev pub past_of : ℕ → ℕ
  past_of p = get_or pasts p 0

  abbrev pub owns : List Interval
  owns = owns_after_of w pasts

  few : count_of w ≤ 16
  few = sound_few w h

  there : no_member_of s F ≡ false
  there = by_bool (no_member_of s F) (λ e. never_both (not (no_member_of s F)) (sym (all_found w h F) ∙ all) (ap not e)) (λ e. e)

  module _ (p : ℕ) (lt : p < count_of w) where
    abbrev kept_count_of_def : ℕ
    kept_count_of_def = word w (kept_count_at_of p)

    part : SoundPart w p
    part = sound_part w h p lt

    room : p < 16
    room = omega (arith, few)

    kept_count_most : kept_count_of_def ≤ 16
    kept_count_most = omega (arith, part.kept_count_most, few)

    past_is : past_of p ≡ past_latest w limits p
    past_is = past_at w h F p lt

    past_some : 1 ≤ past_of p
    past_some = omega (arith, past_is, found_one w h F there p lt)

    past_least : past_of p ≤ kept_count_of_def + 1
    past_least = omega (arith, past_is, past_most w limits p)

    -- The line's member.
    member_state : member s F p ≡ state_in w p (past_of p - 1)
    member_state = rw past_is (member_is w h F p lt (found_one w h F there p lt))

    member_stored : past_of p ≤ kept_count_of_def → member s F p ≡ checkpoint_in w p (past_of p - 1)
    unfolding state_in
    member_stored le = member_state ∙ rw (lt-ltb (past_of p - 1) kept_count_of_def (omega (arith, past_some)))

    member_live : kept_count_of_def < past_of p → member s F p ≡ live p (process_in w p)
    unfolding state_in
    member_live less = member_state ∙ rw (le-ltb (past_of p - 1) kept_count_of_def (omega (arith, past_some)))

    stored_index : past_of p ≤ kept_count_of_def → (member s F p).index.0 ≡ word w (index_at_of p (past_of p - 1)) - 1
    unfolding checkpoint_in
    stored_index le = ap (λ (c : Checkpoint). c.index.0) (member_stored le)

    live_index : kept_count_of_def < past_of p → (member s F p).index.0 ≡ word w (part_at p + p)
    unfolding live process_in
    live_index less = ap (λ (c : Checkpoint). c.index.0) (member_live less) ∙ ap (λ (x : Interval). x.0) (vector_word w (part_at p) p room)

    own_here : (own s p).0 ≡ word w (part_at p + p)
    own_here = ap (λ (x : Interval). x.0) (sound_own_is w h p lt)

    pub rolled : goes_back w p (past_of p) ≡ rolled_back s F p
    unfolding rolled_back
    rolled = by_lt kept_count_of_def (past_of p)
        (λ less. lt-leb (past_of p) kept_count_of_def less ∙ sym (le-ltb (member s F p).index.0 (own s p).0 (omega (arith, live_index less, own_here))))
        (λ le. le-leb (past_of p) kept_count_of_def le
        ∙ sym (lt-ltb (member s F p).index.0 (own s p).0
        (omega (arith, stored_index le, own_here, part.used (past_of p - 1) (omega (arith, past_some)), part.index_most (past_of p - 1) (omega (arith, past_some))))))

    vector_is : restored_vector w p (past_of p) ≡ vector_after s F p
    unfolding restored_vector vector_after process_in checkpoint_in
    vector_is = by_bool (goes_back w p (past_of p))
        (λ e. rw (sym rolled, e) (ap (λ (c : Checkpoint). advanced p c.vector) (sym (member_stored (leb-true (past_of p) kept_count_of_def e)))))
        (λ e. rw (sym rolled, e) (ap (λ (P : Process). P.vector) (sym (sound_process_is w h p lt))))

    -- The own entry.
    own_back : goes_back w p (past_of p) ≡ true → interval_of (word w (stored_at p (past_of p - 1) + p) + 1) ≡ entry (restored_vector w p (past_of p)) p
    unfolding restored_vector
    own_back e = rw e (sym (advanced_own p (vector_in w (stored_at p (past_of p - 1))) (omega (arith, vector_length w (stored_at p (past_of p - 1)), room))
        ∙ ap (λ (x : Interval). record { 0 = x.0 + 1 }) (vector_word w (stored_at p (past_of p - 1)) p room)))

    own_live : goes_back w p (past_of p) ≡ false → interval_of (word w (part_at p + p)) ≡ entry (restored_vector w p (past_of p)) p
    unfolding restored_vector
    own_live e = rw e (sym (vector_word w (part_at p) p room))

    own_then : restored_own w p (past_of p) ≡ entry (restored_vector w p (past_of p)) p
    unfolding restored_own
    own_then = by_bool (goes_back w p (past_of p)) (λ e. own_picked true e ∙ own_back e) (λ e. own_picked false e ∙ own_live e)
      where
        own_picked : (b : Bool) → goes_back w p (past_of p) ≡ b → restored_own w p (past_of p) ≡ pick b (interval_of (word w (stored_at p (past_of p - 1) + p) + 1)) (interval_of (word w (part_at p + p)))
        own_picked b e = rw (lt-ltb 0 (past_of p) past_some, e)

    own_is : restored_own w p (past_of p) ≡ own_after s F p
    unfolding own_after
    own_is = own_then ∙ ap (λ (v : List Interval). entry v p) vector_is

  -- own(f), of the processes.
  pub owns_are : (f : ℕ) → f < count_of w → entry owns f ≡ own_after s F f
  unfolding owns_after_of
  owns_are f lt = get_d_table 16 (λ p. restored_own w p (get_or pasts p 0)) f (record { 0 = 0 }) (omega (arith, few)) ∙ own_is f lt

  -- Past them Steps has 0; what the words hold there is not known.
  unused_own : (f : ℕ) → count_of w ≤ f → f < 16 → (own s f).0 ≡ 0
  unfolding own process decoded
  unused_own f le lt =
      let none : Interval = record { 0 = 0 } in
      rw (run_fits w (sound_fits w h), part_past w (λ q. vector_in w (part_at q)) zero_vector [] f le lt) (ap (λ (x : Interval). x.0) (get_or-replicate 16 f none none lt))

  unused_after : (f : ℕ) → (own s f).0 ≡ 0 → (own_after s F f).0 ≡ 0
  unfolding own_after vector_after rolled_back own
  unused_after f e = rw (le-ltb (member s F f).index.0 (own s f).0 (omega (arith, e))) e

  own_unused : (f : ℕ) → count_of w ≤ f → f < 16 → (own_after s F f).0 ≡ 0
  own_unused f le lt = unused_after f (unused_own f le lt)

  module _ (p : ℕ) (lt : p < count_of w) where
    abbrev row : List ℕ
    row = restored_pins w p (past_of p) owns

    kept_here : (process s p).kept ≡ table (word w (kept_count_at_of p)) (checkpoint_in w p)
    kept_here = ap (λ (P : Process). P.kept) (sound_process_is w h p lt) ∙ (part p lt).kept_is

    -- "later checkpoints": those in the places after the member's.
    not_later : (k : ℕ) → k < word w (kept_count_at_of p) → k < past_of p → leb (checkpoint_in w p k).index.0 (member s F p).index.0 ≡ true
    unfolding checkpoint_in
    not_later k less before = le-leb (word w (index_at_of p k) - 1) (member s F p).index.0 (by_lt (word w (kept_count_at_of p)) (past_of p)
        (λ over. omega (arith, live_index p lt over, (part p lt).index_most k less))
        (λ le. by_eq k (past_of p - 1)
        (λ e. rw e (omega (arith, stored_index p lt le)))
        (λ ne. omega (arith, stored_index p lt le, (part p lt).ascend k (past_of p - 1) (omega arith) (omega (arith, past_some p lt))))))

    later : past_of p ≤ word w (kept_count_at_of p) → (k : ℕ) → past_of p ≤ k → k < word w (kept_count_at_of p) → leb (checkpoint_in w p k).index.0 (member s F p).index.0 ≡ false
    unfolding checkpoint_in
    later le k after less = lt-leb (word w (index_at_of p k) - 1) (member s F p).index.0 (omega (
      arith,
      stored_index p lt le,
      past_some p lt,
      (part p lt).ascend (past_of p - 1) k (omega (arith, past_some p lt)) less,
      (part p lt).used (past_of p - 1) (omega (arith, past_some p lt)),
    ))

    lost_not : past_of p ≤ word w (kept_count_at_of p) → not_lost s F p ≡ table (past_of p) (checkpoint_in w p)
    unfolding not_lost
    lost_not le =
        rw kept_here
        (select_short (checkpoint_in w p) (λ c. leb c.index.0 (member s F p).index.0) (past_of p) (word w (kept_count_at_of p)) le (later le)
        ∙ all_chosen (λ c. leb c.index.0 (member s F p).index.0) (table (past_of p) (checkpoint_in w p)) (every_table _ (past_of p) (checkpoint_in w p) (λ k less. not_later k (omega arith) less)))

    lost_none : word w (kept_count_at_of p) < past_of p → not_lost s F p ≡ table (word w (kept_count_at_of p)) (checkpoint_in w p)
    unfolding not_lost
    lost_none over = rw kept_here (all_chosen (λ c. leb c.index.0 (member s F p).index.0) (table (word w (kept_count_at_of p)) (checkpoint_in w p)) (every_table _ (word w (kept_count_at_of p)) (checkpoint_in w p) (λ k less. not_later k less (omega arith))))

    -- The pins.
    moved_pin_lem : past_of p ≤ word w (kept_count_at_of p) → (f : ℕ) → f < 16 → entry owns f ≡ own_after s F f → pin_of_def (get_or (found_in_of w owns p (past_of p)) f 0) ≡ moved_pin s F p f
    unfolding moved_pin
    moved_pin_lem le f less is = found_is w owns p f less (past_of p) (λ j under. (part p lt).used j (omega arith)) ∙ (λ j. latest_pin (last_of (select (λ c. below (entry c.vector f) (is j)) (sym (lost_not le) j))))

    kept_pin : (f : ℕ) → f < 16 → pin_of_def (get_or (row_in w (pins_at_of p)) f 0) ≡ get_or (process s p).pins f None
    unfolding process_in
    kept_pin f less = sym (ap (λ (P : Process). get_or P.pins f None) (sound_process_is w h p lt) ∙ ap (λ (l : List Pin). get_or l f None) (pins_row w (pins_at_of p)) ∙ row_pin (row_in w (pins_at_of p)) f less)

    chosen_pin : (f : ℕ) → f < 16 → entry owns f ≡ own_after s F f → pin_of_def (get_or (pick (goes_back w p (past_of p)) (found_in_of w owns p (past_of p)) (row_in w (pins_at_of p))) f 0)
        ≡ pick (rolled_back s F p) (moved_pin s F p f) (get_or (process s p).pins f None)
    chosen_pin f less is = by_bool (goes_back w p (past_of p))
        (λ e. rw (sym (rolled p lt), e) (moved_pin_lem (leb-true (past_of p) (word w (kept_count_at_of p)) e) f less is))
        (λ e. rw (sym (rolled p lt), e) (kept_pin f less))

    pin_known : (f : ℕ) → f < 16 → entry owns f ≡ own_after s F f → pin_of_def (get_or row f 0) ≡ pin_after s F p f
    unfolding restored_pins pin_after
    pin_known f less is =
        ap pin_of_def (known_at_lem (restored_vector w p (past_of p)) owns (pick (goes_back w p (past_of p)) (found_in_of w owns p (past_of p)) (row_in w (pins_at_of p))) f less)
        ∙ pin_pick (eqb (entry (restored_vector w p (past_of p)) f).0 (entry owns f).0) _
        ∙ (λ j. pick (eqb (entry (vector_is p lt j) f).0 (is j).0) (chosen_pin f less is j) None)

    -- No vector has an entry for a place of no process, and no pin is for it: whatever its own entry is taken to be.
    module _ (f : ℕ) (le : count_of w ≤ f) (less : f < 16) where
      entry_unused : (entry (restored_vector w p (past_of p)) f).0 ≡ 0
      unfolding restored_vector advanced
      entry_unused = by_bool (goes_back w p (past_of p))
          (λ e. rw e (ap (λ (x : Interval). x.0) (get_or-set_other (vector_in w (stored_at p (past_of p - 1))) p f _ (record { 0 = 0 }) (omega arith) ∙ vector_word w (stored_at p (past_of p - 1)) f less)
          ∙ stored_zero w h p lt (past_of p - 1) (omega (arith, leb-true (past_of p) (word w (kept_count_at_of p)) e, past_some p lt)) f le less))
          (λ e. rw e (ap (λ (x : Interval). x.0) (vector_word w (part_at p) f less) ∙ vector_zero w h p lt f le less))

      moved_unused : moved_pin s F p f ≡ None
      unfolding moved_pin latest_pin last_of
      moved_unused = ap (λ (l : List Checkpoint). latest_pin (last_of l)) (select_none (λ c. below (entry c.vector f) (own_after s F f)) (not_lost s F p)
          (λ c. le-ltb (entry c.vector f).0 (own_after s F f).0 (omega (arith, own_unused f le less))))

      kept_unused : get_or (process s p).pins f None ≡ None
      unfolding process_in nothing_from
      kept_unused =
          let e = rw (sound_process_is w h p lt) at (sound_known w h p lt).pins_unused in
          ap (λ (P : Process). get_or P.pins f None) (sound_process_is w h p lt)
          ∙ nothing_is (get_or (pins_in w (pins_at_of p)) f None) (every_beyond is_nothing_of s.count (pins_in w (pins_at_of p)) f None e (omega (arith, count_is_lem w (sound_fits w h))) (omega (arith, pins_length w (pins_at_of p))))

      pin_unused : pin_after s F p f ≡ None
      unfolding pin_after
      pin_unused = rw (moved_unused, kept_unused, pick_same {A = Pin} (rolled_back s F p) None) (pick_same {A = Pin} (eqb (entry (vector_after s F p) f).0 (own_after s F f).0) None)

      pin_other : ((entry owns f).0 ≡ 0 → ⊥) → pin_of_def (get_or row f 0) ≡ None
      unfolding restored_pins pin_of_def
      pin_other ne =
          let none : get_or row f 0 ≡ 0 = known_at_lem (restored_vector w p (past_of p)) owns (pick (goes_back w p (past_of p)) (found_in_of w owns p (past_of p)) (row_in w (pins_at_of p))) f less
          ∙ rw (ne_eqb (entry (restored_vector w p (past_of p)) f).0 (entry owns f).0 (λ e. ne (sym e ∙ entry_unused))) in
          ap pin_of_def none

    pin_is : (f : ℕ) → f < 16 → pin_of_def (get_or row f 0) ≡ pin_after s F p f
    pin_is f less = by_lt f (count_of w)
        (λ used. pin_known f less (owns_are f used))
        (λ le. by_eq (entry owns f).0 0
        (λ e. pin_known f less (ap (λ (x : ℕ). record { 0 = x }) (e ∙ sym (own_unused f le less))))
        (λ ne. pin_other f le less ne ∙ sym (pin_unused f le less)))

    pub pins_are : pin_row row ≡ pins_after s F p
    unfolding pin_row pins_after
    pins_are = table_same 16 _ _ pin_is

    -- They name none of the later checkpoints.
    row_under : past_of p ≤ word w (kept_count_at_of p) → (k : ℕ) → past_of p ≤ k → k < word w (kept_count_at_of p) → (f : ℕ) → f < 16 → get_or row f 0 < word w (index_at_of p k)
    unfolding restored_pins
    row_under le k after less f small =
        let back : goes_back w p (past_of p) ≡ true = le-leb (past_of p) (word w (kept_count_at_of p)) le in
        let is : get_or row f 0 ≡ pick (eqb (entry (restored_vector w p (past_of p)) f).0 (entry owns f).0) (get_or (found_in_of w owns p (past_of p)) f 0) 0
        = known_at_lem (restored_vector w p (past_of p)) owns (pick (goes_back w p (past_of p)) (found_in_of w owns p (past_of p)) (row_in w (pins_at_of p))) f small ∙ rw back in
        let under = found_under w owns p f small (past_of p) (word w (index_at_of p k)) ((part p lt).used k less) (λ j a. (part p lt).ascend j k (omega arith) less) in
        omega (arith, is, pick_least (eqb (entry (restored_vector w p (past_of p)) f).0 (entry owns f).0) (get_or (found_in_of w owns p (past_of p)) f 0) (word w (index_at_of p k)) under)

    later_unpinned : past_of p ≤ word w (kept_count_at_of p) → (k : ℕ) → past_of p ≤ k → k < word w (kept_count_at_of p) → is_pinned (pin_row row) (checkpoint_in w p k) ≡ false
    unfolding is_pinned checkpoint_in
    later_unpinned le k after less =
        pinned_row row (word w (index_at_of p k)) ((part p lt).used k less)
        ∙ by_bool (any_below 16 (λ f. eqb (get_or row f 0) (word w (index_at_of p k))))
        (λ e. let x = any_out 16 (λ f. eqb (get_or row f 0) (word w (index_at_of p k))) e in
        absurd (let z = row_under le k after less x.0 x.1 in omega (arith, eqb-true (get_or row x.0 0) (word w (index_at_of p k)) x.2)))
        (λ e. e)

    kept_is : select (is_pinned (pin_row row)) (places_of w p) ≡ (recovered s F p).kept
    unfolding places_of recovered
    kept_is = by_lt (word w (kept_count_at_of p)) (past_of p)
        (λ over. λ j. select (is_pinned (pins_are j)) (sym (lost_none over) j))
        (λ le. select_short (checkpoint_in w p) (is_pinned (pin_row row)) (past_of p) (word w (kept_count_at_of p)) le (later_unpinned le) ∙ (λ j. select (is_pinned (pins_are j)) (sym (lost_not le) j)))

    mark_is : (mark_in w p && not (goes_back w p (past_of p))) ≡ ((process s p).mark && not (rolled_back s F p))
    unfolding process_in
    mark_is = λ j. ap (λ (P : Process). P.mark) (sym (sound_process_is w h p lt)) j && not (rolled p lt j)

    -- All of process p, and what is deleted of it.
    pub recovered_is : restored_part w p (past_of p) owns ≡ recovered s F p
    unfolding restored_part recovered
    recovered_is = λ j. record { vector = vector_is p lt j; pins = pins_are j; mark = mark_is j; kept = kept_is j }

    stays_alike : (k : ℕ) → k < word w (kept_count_at_of p)
        → not (is_pinned (pin_row row) (checkpoint_in w p k)) ≡ not (leb (checkpoint_in w p k).index.0 (member s F p).index.0 && is_pinned (pins_after s F p) (checkpoint_in w p k))
    stays_alike k less = by_lt k (past_of p)
        (λ before. rw (not_later k less before, pins_are))
        (λ after. let le : past_of p ≤ word w (kept_count_at_of p) = omega arith in rw (later le k after less, later_unpinned le k after less))

    pub gone_is : restored_gone w p (past_of p) owns ≡ gone_at_of s F p
    unfolding restored_gone unpinned_in places_of gone_at_of
    gone_is = select_alike (checkpoint_in w p) (λ c. not (is_pinned (pin_row row) c)) (λ c. not (leb c.index.0 (member s F p).index.0 && is_pinned (pins_after s F p) c)) (word w (kept_count_at_of p)) stays_alike
        ∙ ap (select (λ c. not (leb c.index.0 (member s F p).index.0 && is_pinned (pins_after s F p) c))) (sym kept_here)

    pub gone_blocks : length (restored_gone w p (past_of p) owns) * word w (blocks_at_of p) ≡ blocks_of (gone_at_of s F p)
    unfolding restored_gone unpinned_in places_of
    gone_blocks = ap (λ (l : List Checkpoint). length (select (λ c. not (is_pinned (pin_row row) c)) l) * word w (blocks_at_of p)) (sym (part p lt).kept_is)
        ∙ selected_blocks w h p lt (λ c. not (is_pinned (pin_row row) c))
        ∙ ap (λ (l : List Checkpoint). blocks_of (select (λ c. not (is_pinned (pin_row row) c)) l)) (part p lt).kept_is
        ∙ ap blocks_of gone_is

    -- It may be restored: no word is above 65,535.
    module _ (small : (k : ℕ) → word w k < 65536) where
      pub returns_there : Returns w p (past_of p)
      returns_there = (
        kept_count_most p lt,
        past_some p lt,
        past_least p lt,
        λ le. omega (arith, small (index_at_of p (past_of p - 1)), (part p lt).stored_own (past_of p - 1) (omega (arith, past_some p lt))),
      )

      pub restorable : Restorable w p (past_of p)
      unfolding Used
      restorable = (returns_there, (part p lt).used, each_pinned w h p lt)

  pub all_return : ((k : ℕ) → word w k < 65536) → AllReturn pasts w
  all_return small = (
    omega (arith, pasts_length w (count_of w) limits),
    λ p lt some. by_lt p (count_of w) (λ less. returns_there p less small) (λ le. absurd (omega (arith, past_beyond w h F p le lt))),
  )
