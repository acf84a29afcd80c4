-- A sound state stays sound where other messages are under way, and where the part of one process and the blocks written and deleted are others, by what holds of these.
-- Assumes nothing.
use Rattle.std.specs.Prelude.{◌≡◌, ◌+◌, ◌≤◌, ◌<◌}
use Rattle.laws.specs.Basics.{refl, sym, ◌∙◌, ap, subst, Bool, true, false, List, [], map, ℕ, arith, eqb, leb, length, get_or, drop, get_or-set_same, get_or-set_other, eq-eqb, ne_eqb, le-leb, leb-true, pick, by_eq}
use lib.Seq.{drop-set-lt}
use Rattle.laws.specs.{Elements.every_from, Lists.select, Lists.placed, Prefixes.placed_length, Prefixes.every_select, Search.all_in, Search.all_out}
use Rattle.laws.specs.{Select.select_length, Sums.sum_below, Sums.sum_both, Sums.sum_only, Tables.take_placed, Tests.every}
use Rattle.model.specs.declared.{Interval.Interval, Message.Message, Disk.Disk, Run.Run}
use Rattle.model.specs.Words.{most_processes, most_under_way, most_messages, most_blocks, entry, Process, blocks_of, zero_vector, no_checkpoint, no_message, process, with_process, own, under_way, with_messages, with_disk}
use Rattle.model.specs.{Steps.advanced, laws.Sound.SoundProcess, laws.Sound.SoundState, laws.Sound.sound_state}
use Rattle.model.specs.Sound.{within, ascending, message_sound, zero_from, unused_checkpoint, unused_message, nothing_from, kept_blocks, sound}
use Rattle.words_process.specs.receipts.Sized.{Sized}
use Rattle.words_process.proofs.{receipts.Facts.place, receipts.Filled.row_many}
use Rattle.words.proofs.View.{placed_past}
use Rattle.in_place.proofs.Keeping.{every_then, Fine, ascending_select}

-- The places after a list that is laid into a table are unused.
placed_unused : {A : Type 0} (t : A → Bool) (n : ℕ) (d : A) (l : List A) → t d ≡ true → length l ≤ n → every t (drop (length l) (placed n d l)) ≡ true
placed_unused t n d l h few = every_from t d (length l) (placed n d l) (λ k le lt. ap t (placed_past n d l k le (omega (arith, placed_length n d l few))) ∙ h)

-- Unused places are unused.
no_vector : zero_from 0 zero_vector ≡ true
unfolding zero_from every
no_vector = refl

no_message_lem : unused_message no_message ≡ true
unfolding unused_message
no_message_lem = rw no_vector

no_checkpoint_lem : unused_checkpoint no_checkpoint ≡ true
unfolding unused_checkpoint
no_checkpoint_lem = rw no_vector

-- Other messages.
module _ (s : Run) (h : SoundState s) (l : List Message) (last : ℕ) where
  process_same : (p : ℕ) → SoundProcess s p → SoundProcess (with_messages s l last) p
  unfolding with_messages process own within
  process_same p q = record {
    own_some = q.own_some;
    current_within = q.current_within;
    stored_within = q.stored_within;
    kept_count_some = q.kept_count_some;
    kept_count_most = q.kept_count_most;
    kept_ascend = q.kept_ascend;
    kept_own = q.kept_own;
    kept_last = q.kept_last;
    own_pin = q.own_pin;
    pins_kept = q.pins_kept;
    kept_pinned = q.kept_pinned;
    vector_unused = q.vector_unused;
    pins_unused = q.pins_unused;
    stored_unused = q.stored_unused;
    row_unused_lem = q.row_unused_lem;
    records_sound = q.records_sound;
  }

  these : under_way (with_messages s l last) ≡ l
  unfolding with_messages under_way
  these = take_placed most_under_way no_message l

  rest_after : length l ≤ most_under_way → every unused_message (drop (with_messages s l last).underway (with_messages s l last).messages) ≡ true
  unfolding with_messages
  rest_after few = placed_unused unused_message most_under_way no_message l no_message_lem few

  pub messages_stay : length l ≤ most_under_way → last ≤ most_messages → every (λ x. within s x.vector) l ≡ true → ascending 1 (map (λ x. x.number) l) ≡ true
      → every (message_sound (with_messages s l last)) l ≡ true → every (λ x. zero_from s.count x.vector) l ≡ true → SoundState (with_messages s l last)
  unfolding with_messages within own process kept_blocks
  messages_stay few most inside up each zeros = record {
    count_some = h.count_some;
    count_most = h.count_most;
    processes = λ p lt. process_same p (h.processes p lt);
    carried_within = rw these inside;
    underway_most = few;
    messages_ascend = rw these up;
    messages_sound_lem = rw these each;
    last_most = most;
    vectors_beyond = h.vectors_beyond;
    pins_beyond = h.pins_beyond;
    sent_beyond = h.sent_beyond;
    kept_beyond = h.kept_beyond;
    kept_count_beyond = h.kept_count_beyond;
    carried_unused = rw these zeros;
    messages_unused = rest_after few;
    written_sum = h.written_sum;
    written_most = h.written_most;
  }

-- Fewer messages.
pub fewer_stay : (t : Run) → SoundState t → length (under_way t) ≤ most_under_way → (u : Message → Bool) → SoundState (with_messages t (select u (under_way t)) t.last)
unfolding with_messages message_sound
fewer_stay t h many u =
    messages_stay t h (select u (under_way t)) t.last (omega (arith, many, select_length u (under_way t))) h.last_most (every_select _ u (under_way t) h.carried_within)
    (ascending_select (λ x. x.number) 1 u (under_way t) h.messages_ascend) same (every_select _ u (under_way t) h.carried_unused)
  where
    same : every (message_sound (with_messages t (select u (under_way t)) t.last)) (select u (under_way t)) ≡ true
    same = every_select (message_sound t) u (under_way t) h.messages_sound_lem

-- A sum of which one number changes.
sum_change : (n : ℕ) (f g : ℕ → ℕ) (i : ℕ) → i < n → ((k : ℕ) → k < n → (k ≡ i → ⊥) → f k ≡ g k) → sum_below n f + g i ≡ sum_below n g + f i
sum_change n f g i lt same =
    let at : (ℕ → ℕ) → ℕ → ℕ = λ u k. pick (eqb k i) (u i) 0 in
    let one : (u : ℕ → ℕ) → sum_below n (at u) ≡ u i = λ u. sum_only n (at u) i lt (λ k less ne. rw (ne_eqb k i ne)) ∙ rw (eq-eqb i i refl) in
    ap (λ (x : ℕ). sum_below n f + x) (sym (one g))
    ∙ sum_both n f (at g) g (at f) (λ k less. by_eq k i (λ e. rw (e, eq-eqb i i refl) (omega arith)) (λ ne. rw (ne_eqb k i ne) (omega (arith, same k less ne))))
    ∙ ap (λ (x : ℕ). sum_below n g + x) (one f)

-- A vector that has no entry above an own entry, by its entries.
pub within_by : (t : Run) (v : List Interval) → ((f : ℕ) → f < t.count → (entry v f).0 ≤ (own t f).0) → within t v ≡ true
unfolding within
within_by t v h = all_in t.count _ (λ f lt. le-leb (entry v f).0 (own t f).0 (h f lt))

pub within_at : (t : Run) (v : List Interval) → within t v ≡ true → (f : ℕ) → f < t.count → (entry v f).0 ≤ (own t f).0
unfolding within
within_at t v h f lt = leb-true (entry v f).0 (own t f).0 (all_out t.count (λ f. leb (entry v f).0 (own t f).0) h f lt)

-- A vector with 1 added to its own entry, as after a checkpoint, and that no other entry is above an own entry then.
pub advanced_own : (v : List Interval) (i : ℕ) → i < length v → (entry (advanced i v) i).0 ≡ (entry v i).0 + 1
unfolding advanced
advanced_own v i lt = ap (λ (x : Interval). x.0) (get_or-set_same v i (record { 0 = (entry v i).0 + 1 }) (record { 0 = 0 }) lt)

pub advanced_other : (v : List Interval) (i f : ℕ) → (f ≡ i → ⊥) → entry (advanced i v) f ≡ entry v f
unfolding advanced
advanced_other v i f ne = get_or-set_other v i f (record { 0 = (entry v i).0 + 1 }) (record { 0 = 0 }) ne

pub advanced_within : (s t : Run) (i : ℕ) (v : List Interval) → t.count ≡ s.count → (entry (advanced i v) i).0 ≤ (own t i).0 → ((f : ℕ) → (own s f).0 ≤ (own t f).0)
    → within s v ≡ true → within t (advanced i v) ≡ true
advanced_within s t i v same own_most rise h = within_by t (advanced i v) (λ f lt. by_eq f i
    (λ e. rw e own_most)
    (λ ne. rw (advanced_other v i f ne) (omega (arith, within_at s v h f (omega (arith, lt, same)), rise f))))

-- The part of process p, by itself.
module _ (s : Run) (size : Sized s) (whole : sound s ≡ true) (p : ℕ) (lt : p < s.count) where
  vector_size : length (process s p).vector ≡ most_processes
  unfolding process
  vector_size = size.vector_row p (place s whole p lt)

  pins_size : length (process s p).pins ≡ most_processes
  unfolding process
  pins_size = size.pin_row p (place s whole p lt)

  pub part_fine : Fine s.count (within s) p (process s p)
  unfolding own
  part_fine =
      let q = (sound_state s whole).processes p lt in
      let many = row_many s size whole p lt in
      record {
        loose = record {
          vector_long = vector_size;
          pins_long = pins_size;
          own_some = q.own_some;
          current_within = q.current_within;
          stored_within = q.stored_within;
          kept_count_some = omega (arith, q.kept_count_some, many);
          kept_ascend = q.kept_ascend;
          kept_own = q.kept_own;
          kept_last = q.kept_last;
          own_pin = q.own_pin;
          pins_kept = q.pins_kept;
          vector_unused = q.vector_unused;
          pins_unused = q.pins_unused;
          stored_unused = q.stored_unused;
          records_sound = q.records_sound;
        };
        kept_count_most = omega (arith, q.kept_count_most, many);
        kept_pinned = q.kept_pinned;
      }

-- The part of process i and the blocks are others.
module _ (s : Run) (size : Sized s) (whole : sound s ≡ true) (i : ℕ) (inside : i < s.count) (Q : Process) (D : Disk) where
  row_there : i < most_processes
  row_there = place s whole i inside

  part_own : process (with_disk (with_process s i Q) D) i ≡ Q
  unfolding process with_process with_disk
  part_own = rw (
    get_or-set_same s.vectors.0 i Q.vector [] (omega (arith, size.vectors, row_there)),
    get_or-set_same s.pins.0 i Q.pins [] (omega (arith, size.pins, row_there)),
    get_or-set_same s.sent i Q.mark false (omega (arith, size.sent, row_there)),
    get_or-set_same s.kept.0 i (placed most_processes no_checkpoint Q.kept) [] (omega (arith, size.kept, row_there)),
    get_or-set_same s.kept_count i (length Q.kept) 0 (omega (arith, size.kept_count, row_there)),
    take_placed most_processes no_checkpoint Q.kept,
  )

  kept_count_own : get_or (with_disk (with_process s i Q) D).kept_count i 0 ≡ length Q.kept
  unfolding with_process with_disk
  kept_count_own = get_or-set_same s.kept_count i (length Q.kept) 0 (omega (arith, size.kept_count, row_there))

  unused_own : length Q.kept ≤ most_processes → every unused_checkpoint (drop (get_or (with_disk (with_process s i Q) D).kept_count i 0) (get_or (with_disk (with_process s i Q) D).kept.0 i [])) ≡ true
  unfolding with_process with_disk
  unused_own few = rw (
    get_or-set_same s.kept_count i (length Q.kept) 0 (omega (arith, size.kept_count, row_there)),
    get_or-set_same s.kept.0 i (placed most_processes no_checkpoint Q.kept) [] (omega (arith, size.kept, row_there)),
  ) (placed_unused unused_checkpoint most_processes no_checkpoint Q.kept no_checkpoint_lem few)

  module _ (p : ℕ) (ne : p ≡ i → ⊥) where
    part_other : process (with_disk (with_process s i Q) D) p ≡ process s p
    unfolding process with_process with_disk
    part_other = rw (
      get_or-set_other s.vectors.0 i p Q.vector [] ne,
      get_or-set_other s.pins.0 i p Q.pins [] ne,
      get_or-set_other s.sent i p Q.mark false ne,
      get_or-set_other s.kept.0 i p (placed most_processes no_checkpoint Q.kept) [] ne,
      get_or-set_other s.kept_count i p (length Q.kept) 0 ne,
    )

    own_other : own (with_disk (with_process s i Q) D) p ≡ own s p
    unfolding own
    own_other = ap (λ (P : Process). entry P.vector p) part_other

    kept_count_other : get_or (with_disk (with_process s i Q) D).kept_count p 0 ≡ get_or s.kept_count p 0
    unfolding with_process with_disk
    kept_count_other = get_or-set_other s.kept_count i p (length Q.kept) 0 ne

    row_other : get_or (with_disk (with_process s i Q) D).kept.0 p [] ≡ get_or s.kept.0 p []
    unfolding with_process with_disk
    row_other = get_or-set_other s.kept.0 i p (placed most_processes no_checkpoint Q.kept) [] ne

  count_then : (with_disk (with_process s i Q) D).count ≡ s.count
  unfolding with_process with_disk
  count_then = refl

  pub own_then : own (with_disk (with_process s i Q) D) i ≡ entry Q.vector i
  unfolding own
  own_then = ap (λ (P : Process). entry P.vector i) part_own

  module _ (rises : (own s i).0 ≤ (entry Q.vector i).0) where
    pub own_rises : (f : ℕ) → (own s f).0 ≤ (own (with_disk (with_process s i Q) D) f).0
    own_rises f = by_eq f i
        (λ e. rw (e, own_then) rises)
        (λ ne. let same = ap (λ (x : Interval). x.0) (own_other f ne) in omega (arith, same))

    pub within_rises : (v : List Interval) → within s v ≡ true → within (with_disk (with_process s i Q) D) v ≡ true
    within_rises v e = within_by (with_disk (with_process s i Q) D) v (λ f lt. omega (arith, within_at s v e f (omega (arith, lt, count_then)), own_rises f))

    module _ (fine : Fine s.count (within (with_disk (with_process s i Q) D)) i Q)
        (paid : D.written + blocks_of (process s i).kept + s.disk.deleted ≡ s.disk.written + blocks_of Q.kept + D.deleted) (most : D.written ≤ most_blocks) where
      abbrev t : Run
      t = with_disk (with_process s i Q) D

      sound_own : SoundProcess (with_disk (with_process s i Q) D) i
      unfolding own
      sound_own =
          let q = fine.loose in record {
            own_some = rw part_own q.own_some;
            current_within = rw part_own q.current_within;
            stored_within = rw part_own q.stored_within;
            kept_count_some = rw kept_count_own q.kept_count_some;
            kept_count_most = rw (count_then, kept_count_own) fine.kept_count_most;
            kept_ascend = rw part_own q.kept_ascend;
            kept_own = rw part_own q.kept_own;
            kept_last = rw part_own q.kept_last;
            own_pin = rw part_own q.own_pin;
            pins_kept = rw part_own q.pins_kept;
            kept_pinned = rw part_own fine.kept_pinned;
            vector_unused = ap (λ (P : Process). zero_from t.count P.vector) part_own ∙ ap (λ (k : ℕ). zero_from k Q.vector) count_then ∙ q.vector_unused;
            pins_unused = ap (λ (P : Process). nothing_from t.count P.pins) part_own ∙ ap (λ (k : ℕ). nothing_from k Q.pins) count_then ∙ q.pins_unused;
            stored_unused = ap (λ (P : Process). every (λ c. zero_from t.count c.vector) P.kept) part_own ∙ ap (λ (k : ℕ). every (λ c. zero_from k c.vector) Q.kept) count_then ∙ q.stored_unused;
            row_unused_lem = unused_own (omega (arith, fine.kept_count_most, (sound_state s whole).count_most));
            records_sound = rw part_own q.records_sound;
          }

      sound_other : (p : ℕ) → (p ≡ i → ⊥) → SoundProcess s p → SoundProcess (with_disk (with_process s i Q) D) p
      sound_other p ne q = record {
        own_some = rw (own_other p ne) q.own_some;
        current_within = rw (part_other p ne) (within_rises (process s p).vector q.current_within);
        stored_within = rw (part_other p ne) (every_then _ _ (process s p).kept (λ c. within_rises c.vector) q.stored_within);
        kept_count_some = rw (kept_count_other p ne) q.kept_count_some;
        kept_count_most = rw (count_then, kept_count_other p ne) q.kept_count_most;
        kept_ascend = rw (part_other p ne) q.kept_ascend;
        kept_own = rw (part_other p ne) q.kept_own;
        kept_last = rw (part_other p ne, own_other p ne) q.kept_last;
        own_pin = rw (part_other p ne, own_other p ne) q.own_pin;
        pins_kept = rw (part_other p ne) q.pins_kept;
        kept_pinned = rw (part_other p ne) q.kept_pinned;
        vector_unused = ap (λ (P : Process). zero_from t.count P.vector) (part_other p ne) ∙ ap (λ (k : ℕ). zero_from k (process s p).vector) count_then ∙ q.vector_unused;
        pins_unused = ap (λ (P : Process). nothing_from t.count P.pins) (part_other p ne) ∙ ap (λ (k : ℕ). nothing_from k (process s p).pins) count_then ∙ q.pins_unused;
        stored_unused = ap (λ (P : Process). every (λ c. zero_from t.count c.vector) P.kept) (part_other p ne) ∙ ap (λ (k : ℕ). every (λ c. zero_from k c.vector) (process s p).kept) count_then ∙ q.stored_unused;
        row_unused_lem = rw (kept_count_other p ne, row_other p ne) q.row_unused_lem;
        records_sound = rw (part_other p ne) q.records_sound;
      }

      blocks_then : kept_blocks (with_disk (with_process s i Q) D) + blocks_of (process s i).kept ≡ kept_blocks s + blocks_of Q.kept
      unfolding kept_blocks
      blocks_then =
          ap (λ (k : ℕ). sum_below k (λ p. blocks_of (process t p).kept) + blocks_of (process s i).kept) count_then
          ∙ sum_change s.count (λ p. blocks_of (process t p).kept) (λ p. blocks_of (process s p).kept) i inside (λ k lt ne. ap (λ (P : Process). blocks_of P.kept) (part_other k ne))
          ∙ ap (λ (P : Process). kept_blocks s + blocks_of P.kept) part_own

      pub process_stays : SoundState (with_disk (with_process s i Q) D)
      unfolding with_process with_disk under_way message_sound
      process_stays =
          let h = sound_state s whole in record {
            count_some = h.count_some;
            count_most = h.count_most;
            processes = λ p lt. by_eq p i (λ e. subst (SoundProcess t) (sym e) sound_own) (λ ne. sound_other p ne (h.processes p lt));
            carried_within = every_then _ _ (under_way s) (λ x. within_rises x.vector) h.carried_within;
            underway_most = h.underway_most;
            messages_ascend = h.messages_ascend;
            messages_sound_lem = h.messages_sound_lem;
            last_most = h.last_most;
            vectors_beyond = rw (drop-set-lt s.count s.vectors.0 i Q.vector inside) h.vectors_beyond;
            pins_beyond = rw (drop-set-lt s.count s.pins.0 i Q.pins inside) h.pins_beyond;
            sent_beyond = rw (drop-set-lt s.count s.sent i Q.mark inside) h.sent_beyond;
            kept_beyond = rw (drop-set-lt s.count s.kept.0 i (placed most_processes no_checkpoint Q.kept) inside) h.kept_beyond;
            kept_count_beyond = rw (drop-set-lt s.count s.kept_count i (length Q.kept) inside) h.kept_count_beyond;
            carried_unused = h.carried_unused;
            messages_unused = h.messages_unused;
            written_sum = omega (arith, blocks_then, paid, h.written_sum);
            written_most = most;
          }
