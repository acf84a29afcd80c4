-- A checkpoint and a receipt of a process of a sound state: the pins move first, then what no pin names is deleted, then the new checkpoint is stored. The definitions
-- store first and delete then; both leave the same.
-- Assumes nothing.
use Rattle.std.specs.Prelude.{◌≡◌, ◌∷◌, ◌++◌, ◌+◌, ◌-◌, ◌*◌, ◌≤◌, ◌<◌, None, Some}
use Rattle.laws.specs.Basics.{refl, sym, ◌∙◌, ap, Bool, true, false, not, List, [], ℕ, arith, length, get_or, set, length-set, sets, get_or-set_other, eqb-true, pick}
use native.Mathlib.Nat.{mul-le-mul_left}
use lib.Seq.{ext_get_or}
use Rattle.laws.specs.{Lists.select, Lists.table, Lists.last_of, Lists.or_else, Rows.by_lt, Rows.every_at, Rows.some_at, Rows.some_where}
use Rattle.laws.specs.Tables.{length_table, get_d_table, table_same}
use Rattle.model.specs.Shapes.{Pin}
use Rattle.model.specs.declared.{Interval.Interval, Checkpoint.Checkpoint, CheckpointIndex.CheckpointIndex, Disk.Disk}
use Rattle.model.specs.Words.{basic, forced, entry, live_index_of, names, is_pinned, Process, blocks_of, block_count, no_checkpoint, process}
use Rattle.model.specs.Sound.{ascending, sound}
use Rattle.model.specs.Steps.{listed, settled, gone, deletions, billed, storing, checkpointed, advanced, taken_vector, taken_pins, risen}
use Rattle.words_process.specs.receipts.Receipt.{vector_first, pins_first, vector_then, pins_then, kept_then_of}
use Rattle.words_process.proofs.receipts.Billing.{blocks_of_some}
use Rattle.words_process.proofs.receipts.Receipts.{receipt_room, receipt_leaves, receipt_gone}
use Rattle.words_process.proofs.receipts.Settling.{indexes, moved_own_lem, stays_after, deleted_before, room_after}
use Rattle.whole_runs.specs.Outcomes.{pairs}
use Rattle.whole_runs.proofs.whole.Pairs.{length_listed}
use Rattle.words.specs.{Clean.CleanKept, Frames.OnlyProcess, Parts.process_in, Puts.Put, Puts.puts, Puts.vector_put}
use Rattle.words.specs.Layout.{word, wide4, count_of, kept_count_at_of, mark_at, blocks_at_of, part_at, pins_at_of, index_at_of, cause_at_of, stored_at, interval_of, pin_of_def, row_in, vector_in, pins_in, mark_in, checkpoint_in, run_of}
use Rattle.words.proofs.{Frames.process_then, Reading.puts_length, Reading.untouched, Reading.touched, Reading.pin_back, View.count_is_lem}
use Rattle.words.proofs.Same.{vector_word, vector_back, pins_length, checkpoint_moved}
use Rattle.words.proofs.ViewSound.{SoundPart, SoundWords, sound_words, sound_part, sound_known, sound_process_is, sound_own_is}
use Rattle.words_process.specs.{Kept.Used, Kept.AllPinned, Moves.disk_in, Moves.Moves, Pins.pin_row, Pins.moved_row, Pins.risen_or_own}
use Rattle.words_process.specs.Steps.{stored_in, places_of, unpinned_in, settled_part, received}
use Rattle.words_process.proofs.PinRows.{names_word, row_length, pins_row, own_moved, receipt_pins}

-- Another vector is put.
module _ (w : List ℕ) (size : length w ≡ 6464) (i : ℕ) (room : i < 16) (x : List Interval) where
  abbrev l : List Put
  l = vector_put (part_at i) x ∷ []

  abbrev pub vectored : List ℕ
  vectored = puts w l

  pub vectored_size : length vectored ≡ 6464
  vectored_size = puts_length w l ∙ size

  pub vectored_low : (q : ℕ) → q < 64 + 320 * i → word vectored q ≡ word w q
  vectored_low q less = untouched w l q (omega arith)

  pub vectored_high : (q : ℕ) → 80 + 320 * i ≤ q → word vectored q ≡ word w q
  vectored_high q more = untouched w l q (omega arith)

  vectored_checkpoint : (k : ℕ) → k < 16 → checkpoint_in vectored i k ≡ checkpoint_in w i k
  vectored_checkpoint k lt = checkpoint_moved vectored w i i k k (vectored_high (index_at_of i k) (omega arith)) (vectored_high (cause_at_of i k) (omega arith)) (vectored_low (blocks_at_of i) (omega arith))
      (λ f less. vectored_high (stored_at i k + f) (omega arith))

  pub vectored_kept_count : word vectored (kept_count_at_of i) ≡ word w (kept_count_at_of i)
  vectored_kept_count = vectored_low (kept_count_at_of i) (omega arith)

  pub vectored_places : word w (kept_count_at_of i) ≤ 16 → places_of vectored i ≡ places_of w i
  unfolding places_of
  vectored_places most = ap (λ (n : ℕ). table n (checkpoint_in vectored i)) vectored_kept_count ∙ table_same (word w (kept_count_at_of i)) (checkpoint_in vectored i) (checkpoint_in w i) (λ k lt. vectored_checkpoint k (omega arith))

  pub vectored_used : word w (kept_count_at_of i) ≤ 16 → Used w i (word w (kept_count_at_of i)) → Used vectored i (word vectored (kept_count_at_of i))
  unfolding Used
  vectored_used most used k lt = omega (arith, used k (omega (arith, vectored_kept_count)), vectored_high (index_at_of i k) (omega (arith, vectored_kept_count)))

  pub vectored_pinned : (pins : List Pin) (n : ℕ) → n ≤ 16 → AllPinned w i pins n → AllPinned vectored i pins n
  unfolding AllPinned
  vectored_pinned pins n most all k lt = ap (is_pinned pins) (vectored_checkpoint k (omega arith)) ∙ all k lt

  pub vectored_disk : (k : ℕ) → k < 12 → word vectored k ≡ word w k
  vectored_disk k lt = vectored_low k (omega arith)

  vectored_blocks : disk_in vectored ≡ disk_in w
  vectored_blocks = λ j. record {
    written = (let e : wide4 vectored 4 ≡ wide4 w 4 = rw (vectored_disk 4 (omega arith), vectored_disk 5 (omega arith), vectored_disk 6 (omega arith), vectored_disk 7 (omega arith)) in e) j;
    deleted = (let e : wide4 vectored 8 ≡ wide4 w 8 = rw (vectored_disk 8 (omega arith), vectored_disk 9 (omega arith), vectored_disk 10 (omega arith), vectored_disk 11 (omega arith)) in e) j;
  }

  pub vectored_bill : disk_in vectored ≡ disk_in w
  vectored_bill = vectored_blocks

  vectored_mark : mark_in vectored i ≡ mark_in w i
  unfolding mark_in
  vectored_mark = rw (vectored_low (mark_at i) (omega arith))

  pub vectored_part : length x ≡ 16 → word w (kept_count_at_of i) ≤ 16 → (pins : List Pin) (stores : Bool) (index : CheckpointIndex) (cause : ℕ) (vector : List Interval)
      → settled_part vectored i pins stores (stored_in vectored i index cause vector)
      ≡ record { vector = x; pins = pins; mark = pick stores false (mark_in w i); kept = kept_then_of stores pins (places_of w i) (stored_in w i index cause vector) }
  unfolding settled_part stored_in
  vectored_part long most pins stores index cause vector = λ j. record {
    vector = vector_back w (part_at i) x long (omega (arith, size)) j;
    pins = pins;
    mark = pick stores false (vectored_mark j);
    kept = kept_then_of stores pins (vectored_places most j) (record { index = index; vector = vector; cause = cause; blocks = vectored_low (blocks_at_of i) (omega arith) j });
  }

  vectored_only : OnlyProcess w vectored i
  vectored_only = record {
    size = puts_length w l;
    front = λ k lt nh nm. vectored_low k (omega arith);
    lower = λ k a b. vectored_low k (omega arith);
    upper = λ k a. vectored_high k (omega arith);
  }

  vectored_clean : CleanKept w i → CleanKept vectored i
  vectored_clean h = record {
    index = λ k le lt. vectored_high (index_at_of i k) (omega arith) ∙ h.index k (omega (arith, vectored_kept_count)) lt;
    cause = λ k le lt. vectored_high (cause_at_of i k) (omega arith) ∙ h.cause k (omega (arith, vectored_kept_count)) lt;
    vector = λ k f le lt less. vectored_high (stored_at i k + f) (omega arith) ∙ h.vector k f (omega (arith, vectored_kept_count)) lt less;
  }

  pub vectored_moves : (P Q : Process) (d e : Disk) (v : List ℕ) → P ≡ Q → d ≡ e → Moves vectored i P d v → Moves w i Q e v
  vectored_moves P Q d e v p q m = record {
    between = m.between;
    process = process_then w vectored m.between i vectored_only m.process;
    part = m.part ∙ p;
    kept_count = m.kept_count;
    clean = λ h. m.clean (vectored_clean h);
    disk = m.disk;
    blocks = m.blocks ∙ q;
  }

-- What `settle` requires.
abbrev pub Ready : List ℕ → ℕ → List ℕ → ℕ → Bool → CheckpointIndex → ℕ → Type 0
Ready u i r from stores index lent =
    ((length u ≡ 6464) × (i < 16) × (stores ≡ true → index.0 < 65535) × ((disk_in u).written ≤ 1000000000000000) × ((disk_in u).deleted ≤ 1000000000000000))
    × (((from ≤ word u (kept_count_at_of i)) × (word u (kept_count_at_of i) ≤ 16) × Used u i (word u (kept_count_at_of i)) × AllPinned u i (pin_row r) from)
    × ((stores ≡ true → length (select (is_pinned (pin_row r)) (table (word u (kept_count_at_of i)) (checkpoint_in u i))) < 16) × (2 * word u (kept_count_at_of i) ≤ lent)))

used_by : (w : List ℕ) (i n : ℕ) → ((k : ℕ) → k < n → 1 ≤ word w (index_at_of i k)) → Used w i n
unfolding Used
used_by w i n h = h

places_by : (w : List ℕ) (i : ℕ) → table (word w (kept_count_at_of i)) (checkpoint_in w i) ≡ places_of w i
unfolding places_of
places_by w i = refl

module _ (w : List ℕ) (h : sound (run_of w) ≡ true) (i : ℕ) (lt : i < count_of w) where
  abbrev P : Process
  P = process_in w i

  abbrev vec : List Interval
  vec = vector_in w (part_at i)

  pub facts : SoundPart w i
  facts = sound_part w h i lt

  pub words : SoundWords w
  words = sound_words w h

  pub in_range : i < 16
  in_range = omega (arith, words.few)

  pub kept_count_most : word w (kept_count_at_of i) ≤ 16
  kept_count_most = omega (arith, facts.kept_count_most, words.few)

  pub own_entry : entry vec i ≡ interval_of (word w (part_at i + i))
  own_entry = vector_word w (part_at i) i in_range

  same : process (run_of w) i ≡ P
  same = sound_process_is w h i lt

  kept_places : places_of w i ≡ P.kept
  unfolding places_of
  kept_places = sym facts.kept_is

  pub block_count_lem : block_count P ≡ word w (blocks_at_of i)
  unfolding block_count checkpoint_in
  block_count_lem = rw facts.kept_is (ap (λ (c : Checkpoint). c.blocks) (get_d_table (word w (kept_count_at_of i)) (checkpoint_in w i) 0 no_checkpoint (omega (arith, facts.kept_count_some))))

  up : ascending 0 (indexes P.kept) ≡ true
  up = rw same at (sound_known w h i lt).kept_ascend

  last_less : (or_else (last_of P.kept) no_checkpoint).index.0 < (entry vec i).0
  last_less =
      let last = rw (same, sound_own_is w h i lt) at (sound_known w h i lt).kept_last in
      omega (arith, last, facts.own_some, ap (λ (x : Interval). x.0) own_entry)

  pub selected_blocks : (t : Checkpoint → Bool) → length (select t P.kept) * word w (blocks_at_of i) ≡ blocks_of (select t P.kept)
  selected_blocks t = sym (rw (same, block_count_lem) at (blocks_of_some (run_of w) h i (omega (arith, count_is_lem w words.fit)) t))

  -- What collecting and storing need, once the vector is put.
  pub ready : (x : List Interval) (u : List ℕ) → u ≡ vectored w words.size i in_range x → (r : List ℕ) (from : ℕ) → from ≤ word w (kept_count_at_of i) → AllPinned w i (pin_row r) from
      → (stores : Bool) (index : CheckpointIndex) → (stores ≡ true → index.0 < 65535) → (stores ≡ true → length (select (is_pinned (pin_row r)) (places_of w i)) < 16)
      → (lent : ℕ) → 2 * count_of w * count_of w ≤ lent → Ready u i r from stores index lent
  ready x u e r from le all stores index small free lent enough =
      let d = vectored_bill w words.size i in_range x in
      rw e (
        (vectored_size w words.size i in_range x, in_range, small, omega (arith, ap (λ (y : Disk). y.written) d, words.written_most), omega (arith, ap (λ (y : Disk). y.deleted) d, words.deleted_most, words.written_most)),
        (
          (
            omega (arith, vectored_kept_count w words.size i in_range x),
            omega (arith, vectored_kept_count w words.size i in_range x, kept_count_most),
            vectored_used w words.size i in_range x kept_count_most (used_all facts.used),
            vectored_pinned w words.size i in_range x (pin_row r) from (omega (arith, kept_count_most)) all,
          ),
          (
            λ s. rw (places_there x) (free s),
            omega (arith, enough, vectored_kept_count w words.size i in_range x, facts.kept_count_most, mul-le-mul_left {m = 1} {n = count_of w} (2 * count_of w) words.some_process),
          ),
        ),
      )
    where
      used_all : ((k : ℕ) → k < word w (kept_count_at_of i) → 1 ≤ word w (index_at_of i k)) → Used w i (word w (kept_count_at_of i))
      used_all = used_by w i (word w (kept_count_at_of i))

      places_there : (x : List Interval) → table (word (vectored w words.size i in_range x) (kept_count_at_of i)) (checkpoint_in (vectored w words.size i in_range x) i) ≡ places_of w i
      places_there x = places_by (vectored w words.size i in_range x) i ∙ vectored_places w words.size i in_range x kept_count_most

  -- A checkpoint but the last is named by a pin that is not the own one.
  other_pin : (k : ℕ) → k < word w (kept_count_at_of i) - 1 → (f : ℕ) × (f < 16) × (f ≡ i → ⊥) × (names (get_or P.pins f None) (checkpoint_in w i k).index ≡ true)
  unfolding is_pinned process_in pins_in checkpoint_in
  other_pin k less =
      let all = rw (same, facts.kept_is) at (sound_known w h i lt).kept_pinned in
      let one = every_at (is_pinned P.pins) (table (word w (kept_count_at_of i)) (checkpoint_in w i)) k no_checkpoint (omega (arith, length_table (word w (kept_count_at_of i)) (checkpoint_in w i))) all in
      let here = rw (get_d_table (word w (kept_count_at_of i)) (checkpoint_in w i) k no_checkpoint (omega arith)) at one in
      let found = some_where (λ pin. names pin (checkpoint_in w i k).index) P.pins None here in
      let f = found.0 in
      let small : f < 16 = omega (arith, found.1, pins_length w (pins_at_of i)) in (
        f,
        small,
        λ e.
            let by = rw (get_d_table 16 (λ g. pin_of_def (word w (pins_at_of i + g))) f None small) at found.2 in
            let is = eqb-true (word w (pins_at_of i + f)) (word w (index_at_of i k)) (sym (names_word (word w (pins_at_of i + f)) (word w (index_at_of i k)) (facts.used k (omega arith))) ∙ by) in
            omega (arith, is, ap (λ (g : ℕ). word w (pins_at_of i + g)) e, facts.own_pin, facts.last_index, facts.ascend k (word w (kept_count_at_of i) - 1) less (omega (arith, facts.kept_count_some))),
        found.2,
      )

  others_name : (a : Pin) (k : ℕ) → k < word w (kept_count_at_of i) - 1 → is_pinned (set P.pins i a) (checkpoint_in w i k) ≡ true
  unfolding is_pinned process_in
  others_name a k less =
      let o = other_pin k less in
      some_at (λ pin. names pin (checkpoint_in w i k).index) (set P.pins i a) o.0 None (omega (arith, o.1, length-set P.pins i a, pins_length w (pins_at_of i)))
      (rw (get_or-set_other P.pins i o.0 a None o.2) o.3)

  -- A checkpoint.
  module _ (r : List ℕ) (index : CheckpointIndex) (is : index ≡ live_index_of (entry vec i)) (row : r ≡ moved_row (risen_or_own 0 i) (row_in w (pins_at_of i)) (index.0 + 1)) where
    abbrev stored : Checkpoint
    stored = storing basic i P

    pins_are : pin_row r ≡ set P.pins i (Some index)
    unfolding process_in
    pins_are = ap pin_row row ∙ own_moved (row_in w (pins_at_of i)) i (index.0 + 1) in_range ∙ ap (λ (p : Pin). set (pin_row (row_in w (pins_at_of i))) i p) (pin_back index)
        ∙ ap (λ (l : List Pin). set l i (Some index)) (sym (pins_row w (pins_at_of i)))

    in_row : i < length P.pins
    unfolding process_in
    in_row = omega (arith, pins_length w (pins_at_of i), in_range)

    there : i < length (pin_row r)
    there = omega (arith, row_length r, in_range)

    own_there : get_or (pin_row r) i None ≡ Some stored.index
    unfolding storing process_in
    own_there = rw pins_are (moved_own_lem P.pins i index in_row) ∙ ap Some is

    stored_is : stored_in w i index basic vec ≡ stored
    unfolding stored_in storing process_in
    stored_is = λ j. record { index = is j; vector = vec; cause = basic; blocks = sym block_count_lem j }

    pub checkpoint_part : record { vector = advanced i vec; pins = pin_row r; mark = false; kept = kept_then_of true (pin_row r) (places_of w i) (stored_in w i index basic vec) } ≡ settled (checkpointed basic i P)
    unfolding settled checkpointed kept_then_of process_in
    checkpoint_part = sym (λ j. record {
      vector = advanced i vec;
      pins = own_pins j;
      mark = false;
      kept = (ap (λ (l : List Pin). select (is_pinned l) (P.kept ++ (stored ∷ []))) own_pins
          ∙ stays_after (pin_row r) i stored there own_there P.kept
          ∙ (λ k. select (is_pinned (pin_row r)) (sym kept_places k) ++ (sym stored_is k ∷ []))) j;
    })
      where
        own_pins : set P.pins i (Some (live_index_of (entry vec i))) ≡ pin_row r
        own_pins = ap (λ (a : CheckpointIndex). set P.pins i (Some a)) (sym is) ∙ sym pins_are

    pub checkpoint_gone : unpinned_in w i (pin_row r) ≡ gone (checkpointed basic i P)
    unfolding unpinned_in gone checkpointed process_in
    checkpoint_gone = ap (λ (l : List Checkpoint). select (λ c. not (is_pinned (pin_row r) c)) l) kept_places ∙ sym (deleted_before (pin_row r) i stored there own_there P.kept)
        ∙ ap (λ (l : List Pin). select (λ c. not (is_pinned l c)) (P.kept ++ (stored ∷ []))) (pins_are ∙ ap (λ (a : CheckpointIndex). set P.pins i (Some a)) is)

    last_under : (or_else (last_of P.kept) no_checkpoint).index.0 < stored.index.0
    unfolding storing process_in
    last_under = last_less

    pub checkpoint_room : length (select (is_pinned (pin_row r)) (places_of w i)) < 16
    checkpoint_room = rw kept_places (omega (arith, row_length r, room_after (pin_row r) i stored there own_there 0 no_checkpoint P.kept up last_under))

    -- The pins that do not move name each checkpoint but the last.
    pub checkpoint_pinned : AllPinned w i (pin_row r) (word w (kept_count_at_of i) - 1)
    unfolding AllPinned
    checkpoint_pinned k less = rw pins_are (others_name (Some index) k less)

  -- A receipt, before which a checkpoint is stored if `stores`.
  module _ (stores : Bool) (carried : List Interval) (r : List ℕ) (index : CheckpointIndex) (is : index ≡ live_index_of (entry vec i)) (x : ℕ)
      (own-word : x ≡ pick stores (index.0 + 1) (get_or (row_in w (pins_at_of i)) i 0)) (row : r ≡ moved_row (risen_or_own (risen (vector_first stores i vec) carried) i) (row_in w (pins_at_of i)) x) where
    abbrev after : List Pin
    after = pins_then stores i (live_index_of (entry vec i)) vec carried P.pins

    taken_pins_lem : pin_row r ≡ after
    unfolding pins_then process_in
    taken_pins_lem = ap pin_row row ∙ receipt_pins (row_in w (pins_at_of i)) i x in_range (vector_first stores i vec) carried stores index own-word
        ∙ (λ j. taken_pins i (vector_first stores i vec) carried (pins_first stores i (is j) (sym (pins_row w (pins_at_of i)) j)))

    in_pins : i < length P.pins
    unfolding process_in
    in_pins = omega (arith, pins_length w (pins_at_of i), in_range)

    forced_is : stored_in w i index forced vec ≡ storing forced i P
    unfolding stored_in storing process_in
    forced_is = λ j. record { index = is j; vector = vec; cause = forced; blocks = sym block_count_lem j }

    pub receive_part : record { vector = taken_vector (vector_first stores i vec) carried; pins = pin_row r; mark = pick stores false (mark_in w i); kept = kept_then_of stores (pin_row r) (places_of w i) (stored_in w i index forced vec) }
        ≡ settled (received i stores carried P)
    unfolding received process_in vector_then
    receive_part = (λ j. record {
      vector = taken_vector (vector_first stores i vec) carried;
      pins = taken_pins_lem j;
      mark = pick stores false (mark_in w i);
      kept = kept_then_of stores (taken_pins_lem j) (kept_places j) (forced_is j);
    }) ∙ sym (receipt_leaves forced i carried P in_pins in_range stores)

    pub receive_gone : unpinned_in w i (pin_row r) ≡ gone (received i stores carried P)
    unfolding unpinned_in received process_in
    receive_gone = (λ j. select (λ c. not (is_pinned (taken_pins_lem j) c)) (kept_places j)) ∙ sym (receipt_gone forced i carried P in_pins in_range stores)

    pub receive_room : stores ≡ true → length (select (is_pinned (pin_row r)) (places_of w i)) < 16
    unfolding process_in
    receive_room e =
        let free = receipt_room forced i carried P in_pins in_range up last_less in
        rw (taken_pins_lem, kept_places, e) free

  pub pinned_none : (pins : List Pin) → AllPinned w i pins 0
  unfolding AllPinned
  pinned_none pins k less = absurd (omega arith)

  unpinned_blocks : (pins : List Pin) → length (unpinned_in w i pins) * word w (blocks_at_of i) ≡ blocks_of (unpinned_in w i pins)
  unfolding unpinned_in
  unpinned_blocks pins = rw kept_places (selected_blocks (λ c. not (is_pinned pins c)))

  -- The own entry of a vector that was read.
  pub own_number : (v : List Interval) → v ≡ vector_in w (part_at i) → (entry v i).0 ≡ word w (part_at i + i)
  own_number v e = ap (λ (x : List Interval). (entry x i).0) e ∙ ap (λ (x : Interval). x.0) own_entry

  -- What is left, once the process is settled after its vector was put.
  module _ (x : List Interval) (long : length x ≡ 16) (u : List ℕ) (e : u ≡ vectored w words.size i in_range x) (r : List ℕ) (stores : Bool) (index : CheckpointIndex) (cause : ℕ)
      (vector : List Interval) (Q : Process)
      (part : record { vector = x; pins = pin_row r; mark = pick stores false (mark_in w i); kept = kept_then_of stores (pin_row r) (places_of w i) (stored_in w i index cause vector) } ≡ settled Q)
      (lost : unpinned_in w i (pin_row r) ≡ gone Q) where
    unpinned_there : unpinned_in u i (pin_row r) ≡ unpinned_in w i (pin_row r)
    unfolding unpinned_in
    unpinned_there = ap (λ (y : List ℕ). select (λ c. not (is_pinned (pin_row r) c)) (places_of y i)) e ∙ ap (select (λ c. not (is_pinned (pin_row r) c))) (vectored_places w words.size i in_range x kept_count_most)

    blocks_there : word u (blocks_at_of i) ≡ word w (blocks_at_of i)
    blocks_there = ap (λ (y : List ℕ). word y (blocks_at_of i)) e ∙ vectored_low w words.size i in_range x (blocks_at_of i) (omega (arith, in_range))

    module _ (y : List ℕ) (g : ℕ) (many : g ≡ length (unpinned_in u i (pin_row r))) where
      bill : billed (disk_in u) (pick stores (word u (blocks_at_of i)) 0) (g * word u (blocks_at_of i)) ≡ billed (disk_in w) (pick stores (word w (blocks_at_of i)) 0) (blocks_of (gone Q))
      bill = λ j. billed ((ap disk_in e ∙ vectored_bill w words.size i in_range x) j) (pick stores (blocks_there j) 0)
          ((ap (λ (n : ℕ). g * n) blocks_there ∙ ap (λ (n : ℕ). n * word w (blocks_at_of i)) (many ∙ ap length unpinned_there) ∙ unpinned_blocks (pin_row r) ∙ ap blocks_of lost) j)

      pub moved : Moves u i (settled_part u i (pin_row r) stores (stored_in u i index cause vector)) (billed (disk_in u) (pick stores (word u (blocks_at_of i)) 0) (g * word u (blocks_at_of i))) y
          → Moves w i (settled Q) (billed (disk_in w) (pick stores (word w (blocks_at_of i)) 0) (blocks_of (gone Q))) y
      moved m = vectored_moves w words.size i in_range x _ (settled Q) _ (billed (disk_in w) (pick stores (word w (blocks_at_of i)) 0) (blocks_of (gone Q))) y
          (vectored_part w words.size i in_range x long kept_count_most (pin_row r) stores index cause vector ∙ part)
          (rw e at bill)
          (rw e at m)

      pub deletes : g ≡ length (deletions i Q)
      unfolding deletions
      deletes = many ∙ ap length (unpinned_there ∙ lost) ∙ sym (length_listed i (gone Q))

    pub lists : (l : List ℕ) → sets l 0 (pairs (listed i (unpinned_in u i (pin_row r)))) ≡ sets l 0 (pairs (deletions i Q))
    unfolding deletions
    lists l = ap (λ (q : List Checkpoint). sets l 0 (pairs (listed i q))) (unpinned_there ∙ lost)

-- A vector put twice.
pub put_again : (w : List ℕ) (at : ℕ) (a b : List Interval) → at + 16 ≤ length w → puts (puts w (vector_put at a ∷ [])) (vector_put at b ∷ []) ≡ puts w (vector_put at b ∷ [])
put_again w at a b fits =
    let v = puts w (vector_put at a ∷ []) in
    let long : length v ≡ length w = puts_length w (vector_put at a ∷ []) in
    ext_get_or 0 (puts v (vector_put at b ∷ [])) (puts w (vector_put at b ∷ [])) (puts_length v (vector_put at b ∷ []) ∙ long ∙ sym (puts_length w (vector_put at b ∷ [])))
    (λ k lt. by_lt k at
    (λ less. untouched v (vector_put at b ∷ []) k (λ x y. omega arith, tt) ∙ untouched w (vector_put at a ∷ []) k (λ x y. omega arith, tt) ∙ sym (untouched w (vector_put at b ∷ []) k (λ x y. omega arith, tt)))
    (λ more. by_lt k (at + 16)
    (λ less. touched v (vector_put at b ∷ []) 0 (k - at) k (omega arith, omega arith, omega (arith, long), tt) ∙ sym (touched w (vector_put at b ∷ []) 0 (k - at) k (omega arith, omega arith, fits, tt)))
    (λ past. untouched v (vector_put at b ∷ []) k (λ x y. omega arith, tt) ∙ untouched w (vector_put at a ∷ []) k (λ x y. omega arith, tt) ∙ sym (untouched w (vector_put at b ∷ []) k (λ x y. omega arith, tt)))))
