-- What words hold whose run is sound: each clause of document 01's "A sound state", place by place.
-- Assumes nothing.
use Rattle.std.specs.Prelude.{◌≡◌, ◌&&◌, ◌+◌, ◌-◌, ◌≤◌, ◌<◌, None}
use Rattle.laws.specs.Basics.{sym, ◌∙◌, ap, true, List, map, Some, ℕ, suc, arith, eqb, leb, length, get_or, take, length-take-le, eqb-true, eqb-false, leb-true, not-true, by_bool, by_eq}
use lib.Seq.{get_or-take}
use Rattle.laws.specs.{Lists.select, Lists.last_of, Lists.table, Lists.placed, Prefixes.placed_length, Rows.by_lt, Rows.every_at, Rows.every_beyond, Tests.every}
use Rattle.laws.specs.{Select.last_of_snoc, Tables.length_table, Tables.get_d_table, Truth.and_out}
use Rattle.model.specs.declared.{Interval.Interval, Checkpoint.Checkpoint, Message.Message}
use Rattle.model.specs.Words.{most_processes, most_under_way, most_messages, most_block_count, most_blocks, entry, Process, no_checkpoint, no_message, block_count, blank, process, own, under_way}
use Rattle.model.specs.Sound.{ascending, message_sound, unused_message, cause_sound, is_block_count_of, record_sound, sound}
use Rattle.model.specs.laws.Sound.{SoundProcess, SoundState, sound_message, sound_state}
use Rattle.words.specs.Layout.{word, wide2, wide4, count_of, end_of, kept_count_at_of, blocks_at_of, part_at, pins_at_of, index_at_of, stored_at, interval_of, pin_of_def, vector_in, pins_in, checkpoint_in, kept_in, message_in, is_message, messages_in, fits, run_of}
use Rattle.words.specs.Parts.{process_in}
use Rattle.words.proofs.Ascending.{ascending_least, ascending_less, selected_less, every_selected, selected_passes}
use Rattle.words.proofs.{Reading.pinned_word, Same.vector_word}
use Rattle.words.proofs.View.{run_unfit, fits_size, fits_end, end_most, kept_length, kept_at, kept_none, kept_table, kept_placed, placed_at, placed_past, count_is_lem, underway_is, last_is_lem, written_is, deleted_is, messages_is, messages_most, under_way_is, kept_count_is, process_is, own_is}

-- What they hold of process p.
pub record SoundPart (w : List ℕ) (p : ℕ) : Type 0 where
  -- "Own entries at least 1."
  pub own_some : 1 ≤ word w (part_at p + p)
  -- "Each process keeps 1 to n checkpoints,"
  pub kept_count_some : 1 ≤ word w (kept_count_at_of p)
  pub kept_count_most : word w (kept_count_at_of p) ≤ count_of w
  -- which stand in their places,
  pub used : (k : ℕ) → k < word w (kept_count_at_of p) → 1 ≤ word w (index_at_of p k)
  pub kept_is : (process_in w p).kept ≡ table (word w (kept_count_at_of p)) (checkpoint_in w p)
  pub row_is : kept_in w p ≡ placed most_processes no_checkpoint (table (word w (kept_count_at_of p)) (checkpoint_in w p))
  -- "indexes ascending, each one's own entry equal to its index; the last is the own entry minus 1 and the own pin names it."
  pub ascend : (j k : ℕ) → j < k → k < word w (kept_count_at_of p) → word w (index_at_of p j) < word w (index_at_of p k)
  pub stored_own : (k : ℕ) → k < word w (kept_count_at_of p) → word w (stored_at p k + p) + 1 ≡ word w (index_at_of p k)
  pub last_index : word w (index_at_of p (word w (kept_count_at_of p) - 1)) ≡ word w (part_at p + p)
  pub index_most : (k : ℕ) → k < word w (kept_count_at_of p) → word w (index_at_of p k) ≤ word w (part_at p + p)
  pub own_pin : word w (pins_at_of p + p) ≡ word w (part_at p + p)
  -- Note 5: "block counts from 1 to 65,535"
  pub blocks_some : 1 ≤ word w (blocks_at_of p)
  pub blocks_most : word w (blocks_at_of p) ≤ most_block_count

-- What they hold of the message in place k.
pub record SoundPlace (w : List ℕ) (k : ℕ) : Type 0 where
  pub numbered : (message_in w k).number ≤ wide2 w 2
  pub from : (message_in w k).sender < count_of w
  pub to : (message_in w k).receiver < count_of w
  pub apart : (message_in w k).sender ≡ (message_in w k).receiver → ⊥

pub record SoundWords (w : List ℕ) : Type 0 where
  -- They are of the right size, and the end of the places in use is where it has to be.
  pub fit : fits w ≡ true
  pub size : length w ≡ 6464
  pub end : end_of w ≤ 64
  -- "Count 1 to 16."
  pub some_process : 1 ≤ count_of w
  pub few : count_of w ≤ 16
  pub parts : (p : ℕ) → p < count_of w → SoundPart w p
  -- "Messages ascend by number, from 1 to the last used, at most 64; sender and receiver are in the run and differ. The last used number is at most
  -- 1,000,000."
  pub counted : word w 1 ≡ length (messages_in w)
  pub under_way_lem : under_way (run_of w) ≡ messages_in w
  pub message : (k : ℕ) → k < end_of w → is_message (message_in w k) ≡ true → SoundPlace w k
  pub ascend : (j k : ℕ) → j < k → k < end_of w → is_message (message_in w j) ≡ true → is_message (message_in w k) ≡ true
      → (message_in w j).number < (message_in w k).number
  pub last_most : wide2 w 2 ≤ most_messages
  -- Note 5: ".. and that sum, within the bound of 16"
  pub written_most : wide4 w 4 ≤ most_blocks
  pub deleted_most : wide4 w 8 ≤ wide4 w 4

module _ (w : List ℕ) (h : sound (run_of w) ≡ true) where
  pub sound_fits : fits w ≡ true
  unfolding blank
  sound_fits = by_bool (fits w) (λ e. e)
      (λ e. absurd (let some_process : 1 ≤ (run_of w).count = (sound_state (run_of w) h).count_some in let no_process : 1 ≤ (blank 0).count = rw (run_unfit w e) at some_process in omega arith))

  state : SoundState (run_of w)
  state = sound_state (run_of w) h

  pub sound_some : 1 ≤ count_of w
  sound_some = omega (arith, state.count_some, count_is_lem w sound_fits)

  pub sound_few : count_of w ≤ 16
  sound_few = omega (arith, state.count_most, count_is_lem w sound_fits)

  module _ (p : ℕ) (lt : p < count_of w) where
    room : p < 16
    room = omega (arith, sound_few)

    -- what the run says of the process
    pub sound_known : SoundProcess (run_of w) p
    sound_known = state.processes p (omega (arith, count_is_lem w sound_fits))

    pub sound_process_is : process (run_of w) p ≡ process_in w p
    sound_process_is = process_is w sound_fits p lt sound_few

    pub sound_own_is : own (run_of w) p ≡ interval_of (word w (part_at p + p))
    sound_own_is = own_is w sound_fits p lt sound_few

    some_kept_count : 1 ≤ word w (kept_count_at_of p)
    some_kept_count = omega (arith, sound_known.kept_count_some, kept_count_is w sound_fits p lt sound_few)

    most_kept_count : word w (kept_count_at_of p) ≤ count_of w
    most_kept_count = omega (arith, sound_known.kept_count_most, kept_count_is w sound_fits p lt sound_few, count_is_lem w sound_fits)

    records : every (record_sound (process (run_of w) p)) (take (word w (kept_count_at_of p)) (kept_in w p)) ≡ true
    unfolding process_in
    records = ap (λ (P : Process). every (record_sound (process (run_of w) p)) P.kept) (sym sound_process_is) ∙ sound_known.records_sound

    record_at : (k : ℕ) → k < word w (kept_count_at_of p) → record_sound (process (run_of w) p) (get_or (kept_in w p) k no_checkpoint) ≡ true
    record_at k less =
        let long : length (take (word w (kept_count_at_of p)) (kept_in w p)) ≡ word w (kept_count_at_of p) = length-take-le (word w (kept_count_at_of p)) (kept_in w p) (omega (arith, most_kept_count, sound_few, kept_length w p)) in
        let one = every_at (record_sound (process (run_of w) p)) (take (word w (kept_count_at_of p)) (kept_in w p)) k no_checkpoint (omega arith) records in
        rw (get_or-take (word w (kept_count_at_of p)) (kept_in w p) k no_checkpoint less) at one

    -- a record's block count
    blocks_of_lem : (P : Process) (c : Checkpoint) → record_sound P c ≡ true → (1 ≤ c.blocks) × (c.blocks ≤ most_block_count)
    unfolding record_sound is_block_count_of
    blocks_of_lem P c e =
        let a = and_out (cause_sound c.index.0 c.cause && is_block_count_of c.blocks) (eqb c.blocks (block_count P)) e in
        let b = and_out (cause_sound c.index.0 c.cause) (is_block_count_of c.blocks) a.0 in
        let d = and_out (leb 1 c.blocks) (leb c.blocks most_block_count) b.1 in
        (leb-true 1 c.blocks d.0, leb-true c.blocks most_block_count d.1)

    used_at : (k : ℕ) → k < word w (kept_count_at_of p) → 1 ≤ word w (index_at_of p k)
    used_at k less = by_eq (word w (index_at_of p k)) 0
        (λ none. absurd (let b = blocks_of_lem (process (run_of w) p) no_checkpoint (rw (kept_none w p k none (omega (arith, most_kept_count, sound_few))) at (record_at k less)) in omega (arith, b.0)))
        (λ ne. omega arith)

    here : (k : ℕ) → k < word w (kept_count_at_of p) → get_or (kept_in w p) k no_checkpoint ≡ checkpoint_in w p k
    here k less = kept_at w p k less (used_at k less) (omega (arith, most_kept_count, sound_few))

    blocks_here : (1 ≤ word w (blocks_at_of p)) × (word w (blocks_at_of p) ≤ most_block_count)
    unfolding checkpoint_in
    blocks_here = blocks_of_lem (process (run_of w) p) (checkpoint_in w p 0) (rw (here 0 some_kept_count) at (record_at 0 some_kept_count))

    in_table : (process_in w p).kept ≡ table (word w (kept_count_at_of p)) (checkpoint_in w p)
    in_table = kept_table w p (omega (arith, most_kept_count, sound_few)) used_at

    pub sound_kept_is : (process (run_of w) p).kept ≡ table (word w (kept_count_at_of p)) (checkpoint_in w p)
    sound_kept_is = ap (λ (P : Process). P.kept) sound_process_is ∙ in_table

    at : (k : ℕ) → k < word w (kept_count_at_of p) → get_or (table (word w (kept_count_at_of p)) (checkpoint_in w p)) k no_checkpoint ≡ checkpoint_in w p k
    at k less = get_d_table (word w (kept_count_at_of p)) (checkpoint_in w p) k no_checkpoint less

    indexes_ascend : ascending 0 (map (λ c. c.index.0) (table (word w (kept_count_at_of p)) (checkpoint_in w p))) ≡ true
    indexes_ascend = rw sound_kept_is at sound_known.kept_ascend

    ascends : (j k : ℕ) → j < k → k < word w (kept_count_at_of p) → word w (index_at_of p j) < word w (index_at_of p k)
    unfolding checkpoint_in
    ascends j k less under =
        let long = length_table (word w (kept_count_at_of p)) (checkpoint_in w p) in
        let e = ascending_less (λ (c : Checkpoint). c.index.0) no_checkpoint 0 (table (word w (kept_count_at_of p)) (checkpoint_in w p)) j k indexes_ascend less (omega arith) in
        let e' = rw (at j (omega arith), at k under) at e in
        omega (arith, used_at j (omega arith), used_at k under, e')

    owned : (k : ℕ) → k < word w (kept_count_at_of p) → word w (stored_at p k + p) + 1 ≡ word w (index_at_of p k)
    unfolding checkpoint_in
    owned k less =
        let all = rw sound_kept_is at sound_known.kept_own in
        let one = every_at (λ (c : Checkpoint). eqb (entry c.vector p).0 c.index.0) (table (word w (kept_count_at_of p)) (checkpoint_in w p)) k no_checkpoint (omega (arith, length_table (word w (kept_count_at_of p)) (checkpoint_in w p))) all in
        let same = eqb-true (entry (vector_in w (stored_at p k)) p).0 (word w (index_at_of p k) - 1) (rw (at k less) at one) in
        omega (arith, ap (λ (x : Interval). x.0) (vector_word w (stored_at p k) p room), used_at k less)

    some_own : 1 ≤ word w (part_at p + p)
    some_own = omega (arith, sound_known.own_some, ap (λ (x : Interval). x.0) sound_own_is)

    last_of_lem : (n : ℕ) → n ≡ suc (n - 1) → last_of (table n (checkpoint_in w p)) ≡ Some (checkpoint_in w p (n - 1))
    unfolding table
    last_of_lem n e = ap (λ (m : ℕ). last_of (table m (checkpoint_in w p))) e ∙ last_of_snoc (table (n - 1) (checkpoint_in w p)) (checkpoint_in w p (n - 1))

    last_is_own : word w (index_at_of p (word w (kept_count_at_of p) - 1)) ≡ word w (part_at p + p)
    unfolding checkpoint_in
    last_is_own =
        let e = rw (sound_kept_is, last_of_lem (word w (kept_count_at_of p)) (omega (arith, some_kept_count)), sound_own_is) at sound_known.kept_last in
        omega (arith, e, some_own, used_at (word w (kept_count_at_of p) - 1) (omega (arith, some_kept_count)))

    under_own : (k : ℕ) → k < word w (kept_count_at_of p) → word w (index_at_of p k) ≤ word w (part_at p + p)
    under_own k less = by_eq k (word w (kept_count_at_of p) - 1)
        (λ e. omega (arith, last_is_own, ap (λ (j : ℕ). word w (index_at_of p j)) e))
        (λ ne. omega (arith, last_is_own, ascends k (word w (kept_count_at_of p) - 1) (omega arith) (omega arith)))

    own_pinned : word w (pins_at_of p + p) ≡ word w (part_at p + p)
    unfolding process_in pins_in
    own_pinned =
        let e = rw (sound_process_is, sound_own_is, get_d_table 16 (λ f. pin_of_def (word w (pins_at_of p + f))) p None room) at sound_known.own_pin in
        pinned_word (word w (pins_at_of p + p)) (word w (part_at p + p)) some_own e

    pub sound_part : SoundPart w p
    sound_part = record {
      own_some = some_own;
      kept_count_some = some_kept_count;
      kept_count_most = most_kept_count;
      used = used_at;
      kept_is = in_table;
      row_is = sym (kept_placed w p (omega (arith, most_kept_count, sound_few))) ∙ ap (placed most_processes no_checkpoint) in_table;
      ascend = ascends;
      stored_own = owned;
      last_index = last_is_own;
      index_most = under_own;
      own_pin = own_pinned;
      blocks_some = blocks_here.0;
      blocks_most = blocks_here.1;
    }

  -- The messages.
  under_way_taken : under_way (run_of w) ≡ take (word w 1) (placed most_under_way no_message (messages_in w))
  unfolding under_way
  under_way_taken = rw (underway_is w sound_fits, messages_is w sound_fits)

  few_under_way : word w 1 ≤ 64
  few_under_way = omega (arith, state.underway_most, underway_is w sound_fits)

  whole_table : length (placed most_under_way no_message (messages_in w)) ≡ 64
  whole_table = placed_length most_under_way no_message (messages_in w) (messages_most w sound_fits)

  numbered_at : (k : ℕ) → k < length (messages_in w) → is_message (get_or (messages_in w) k no_message) ≡ true
  unfolding messages_in
  numbered_at k lt = every_at is_message (select is_message (table (end_of w) (message_in w))) k no_message lt (selected_passes is_message (table (end_of w) (message_in w)))

  no_number : (x : Message) → is_message x ≡ true → unused_message x ≡ true → ⊥
  unfolding is_message unused_message
  no_number x a b = eqb-false x.number 0 (not-true (eqb x.number 0) a)
      (eqb-true x.number 0 (and_out (eqb x.number 0) _ (and_out (eqb x.number 0 && eqb x.sender 0) _ (and_out (eqb x.number 0 && eqb x.sender 0 && eqb x.receiver 0) _ b).0).0).0)

  not_fewer : word w 1 < length (messages_in w) → ⊥
  not_fewer less =
      let e = rw (underway_is w sound_fits, messages_is w sound_fits) at state.messages_unused in
      let one = every_beyond unused_message (word w 1) (placed most_under_way no_message (messages_in w)) (word w 1) no_message e (omega arith) (omega (arith, whole_table, messages_most w sound_fits)) in
      no_number (get_or (messages_in w) (word w 1) no_message) (numbered_at (word w 1) less) (rw (placed_at most_under_way no_message (messages_in w) (word w 1) less) at one)

  not_more : length (messages_in w) < word w 1 → ⊥
  not_more more =
      let long : length (take (word w 1) (placed most_under_way no_message (messages_in w))) ≡ word w 1 = length-take-le (word w 1) (placed most_under_way no_message (messages_in w)) (omega (arith, whole_table, few_under_way)) in
      let e = rw under_way_taken at state.messages_ascend in
      let one = ascending_least (λ (x : Message). x.number) no_message 1 (take (word w 1) (placed most_under_way no_message (messages_in w))) (length (messages_in w)) e (omega arith) in
      let none = get_or-take (word w 1) (placed most_under_way no_message (messages_in w)) (length (messages_in w)) no_message more
      ∙ placed_past most_under_way no_message (messages_in w) (length (messages_in w)) (omega arith) (omega (arith, few_under_way)) in
      let z : 1 ≤ no_message.number = rw none at one in
      omega arith

  pub sound_counted : word w 1 ≡ length (messages_in w)
  sound_counted = by_lt (word w 1) (length (messages_in w)) (λ less. absurd (not_fewer less))
      (λ le. by_eq (word w 1) (length (messages_in w)) (λ e. e) (λ ne. absurd (not_more (omega arith))))

  pub sound_under_way : under_way (run_of w) ≡ messages_in w
  sound_under_way = under_way_is w sound_fits sound_counted

  module _ (k : ℕ) (lt : k < end_of w) (used : is_message (message_in w k) ≡ true) where
    place_at : get_or (table (end_of w) (message_in w)) k no_message ≡ message_in w k
    place_at = get_d_table (end_of w) (message_in w) k no_message lt

    place_sound : message_sound (run_of w) (message_in w k) ≡ true
    unfolding messages_in
    place_sound =
        let all = rw sound_under_way at state.messages_sound_lem in
        rw place_at at (every_selected is_message (message_sound (run_of w)) (table (end_of w) (message_in w)) k no_message all (omega (arith, length_table (end_of w) (message_in w))) (rw place_at used))

    pub sound_place : SoundPlace w k
    sound_place =
        let x = sound_message (run_of w) (message_in w k) place_sound in
        let count = count_is_lem w sound_fits in
        record { numbered = omega (arith, x.numbered, last_is_lem w sound_fits); from = omega (arith, x.from); to = omega (arith, x.to); apart = x.apart }

  places_ascend : (j k : ℕ) → j < k → k < end_of w → is_message (message_in w j) ≡ true → is_message (message_in w k) ≡ true → (message_in w j).number < (message_in w k).number
  unfolding messages_in
  places_ascend j k less lt a b =
      let e = rw sound_under_way at state.messages_ascend in
      let at_j = place_at j (omega arith) a in
      let at_k = place_at k lt b in
      let one = selected_less (λ (x : Message). x.number) no_message is_message 1 (table (end_of w) (message_in w)) j k e less (omega (arith, length_table (end_of w) (message_in w))) (rw at_j a) (rw at_k b) in
      rw (at_j, at_k) at one

  pub sound_words : SoundWords w
  sound_words = record {
    fit = sound_fits;
    size = fits_size w sound_fits;
    end = end_most w (fits_end w sound_fits);
    some_process = sound_some;
    few = sound_few;
    parts = sound_part;
    counted = sound_counted;
    under_way_lem = sound_under_way;
    message = sound_place;
    ascend = places_ascend;
    last_most = omega (arith, state.last_most, last_is_lem w sound_fits);
    written_most = omega (arith, state.written_most, written_is w sound_fits);
    deleted_most = omega (arith, state.written_sum, written_is w sound_fits, deleted_is w sound_fits);
  }
