-- What words hold that a state fills, thing by thing, where the state fits them.
-- Assumes nothing.
use Rattle.std.specs.Prelude.{◌≡◌, ◌&&◌, ◌∷◌, ◌+◌, ◌*◌, ◌/◌, ◌%◌, ◌≤◌, ◌<◌, None}
use Rattle.laws.specs.Basics.{◌∙◌, ap, Bool, true, false, List, [], ℕ, arith, ltb, leb, length, get_or, lt-ltb, le-leb, by_bool}
use Rattle.laws.specs.Loops.{iter}
use Rattle.model.specs.Shapes.{Pin}
use Rattle.model.specs.declared.{Interval.Interval, Checkpoint.Checkpoint, Message.Message, Run.Run}
use Rattle.model.specs.Words.{entry, past_end}
use Rattle.words.specs.Layout.{word, wide2, wide4, kept_count_at_of, mark_at, blocks_at_of, part_at, pins_at_of, index_at_of, cause_at_of, stored_at, low_at, high_at, sender_at_of, receiver_at_of, carried_at}
use Rattle.words.specs.Puts.{Put, puts}
use Rattle.words.proofs.Reading.{Clear, Hits, nth, puts_length, untouched, touched, wide2_back, wide4_back}
use Rattle.library_calls.specs.run_words.Fits.{past_messages, index_fits, message_fits}
use Rattle.library_calls.specs.run_words.Filled.{pin_word, mark_word_of, checkpoint_puts, place_filled, blocks_put, kept_filled, process_puts, row_filled, rows_filled, message_puts, one_filled, messages_filled, number_puts, filled}
use Rattle.library_calls.proofs.run_words.Iters.{iter_length, iter_stays, iter_at}

-- The things of a state by their places.
abbrev pub stored : Run → ℕ → ℕ → Checkpoint
stored s p k = get_or (get_or s.kept.0 p []) k past_end

abbrev pub message : Run → ℕ → Message
message s k = get_or s.messages k past_messages

-- Process p in words.
pub record HoldsProcess (v : List ℕ) (s : Run) (p : ℕ) : Type 0 where
  pub vector : (f : ℕ) → f < 16 → word v (part_at p + f) ≡ (entry (get_or s.vectors.0 p []) f).0
  pub pins : (f : ℕ) → f < 16 → word v (pins_at_of p + f) ≡ pin_word (get_or (get_or s.pins.0 p []) f None)
  pub kept_count : word v (kept_count_at_of p) ≡ get_or s.kept_count p 0
  pub blocks : word v (blocks_at_of p) ≡ (stored s p 0).blocks
  pub mark : word v (mark_at p) ≡ mark_word_of (get_or s.sent p false)

-- The checkpoint in place k of process p.
pub record HoldsStored (v : List ℕ) (s : Run) (p k : ℕ) : Type 0 where
  pub index : word v (index_at_of p k) ≡ (stored s p k).index.0 + 1
  pub cause : word v (cause_at_of p k) ≡ (stored s p k).cause
  pub vector : (f : ℕ) → f < 16 → word v (stored_at p k + f) ≡ (entry (stored s p k).vector f).0

-- The message in place k.
pub record HoldsMessage (v : List ℕ) (s : Run) (k : ℕ) : Type 0 where
  pub low : word v (low_at k) ≡ (message s k).number % 65_536
  pub high : word v (high_at k) ≡ (message s k).number / 65_536
  pub sender : word v (sender_at_of k) ≡ (message s k).sender
  pub receiver : word v (receiver_at_of k) ≡ (message s k).receiver
  pub vector : (f : ℕ) → f < 16 → word v (carried_at k + f) ≡ (entry (message s k).vector f).0

-- The whole state.
pub record Holds (v : List ℕ) (s : Run) : Type 0 where
  pub size : length v ≡ 6464
  pub count : word v 0 ≡ s.count
  pub underway : word v 1 ≡ s.underway
  pub last : wide2 v 2 ≡ s.last
  pub written : wide4 v 4 ≡ s.disk.written
  pub deleted : wide4 v 8 ≡ s.disk.deleted
  pub end : word v 12 ≡ s.underway
  pub process : (p : ℕ) → p < s.count → p < 16 → get_or s.kept_count p 0 ≤ 16 → HoldsProcess v s p
  pub kept : (p k : ℕ) → p < 16 → k < 16 → k < get_or s.kept_count p 0 → index_fits (stored s p k).index ≡ true → HoldsStored v s p k
  pub each_message : (k : ℕ) → k < s.underway → k < 64 → message_fits (message s k) ≡ true → HoldsMessage v s k

-- One step: what it leaves alone, and where it does something, what it does.
module _ (p k kept_count_of_def : ℕ) (c : Checkpoint) (v : List ℕ) where
  place_size : length (place_filled p k kept_count_of_def c v) ≡ length v
  unfolding place_filled
  place_size = by_bool (ltb k kept_count_of_def && index_fits c.index) (λ e. rw e (puts_length v (checkpoint_puts p k c))) (λ e. rw e)

  place_stays : (m : ℕ) → Clear (checkpoint_puts p k c) m → word (place_filled p k kept_count_of_def c v) m ≡ word v m
  unfolding place_filled
  place_stays m clear = by_bool (ltb k kept_count_of_def && index_fits c.index) (λ e. rw e (untouched v (checkpoint_puts p k c) m clear)) (λ e. rw e)

  place_is : k < kept_count_of_def → index_fits c.index ≡ true → place_filled p k kept_count_of_def c v ≡ puts v (checkpoint_puts p k c)
  unfolding place_filled
  place_is lt fit = rw (lt-ltb k kept_count_of_def lt, fit)

module _ (p n : ℕ) (vector : List Interval) (pins : List Pin) (kept_count_of_def : ℕ) (mark : Bool) (v : List ℕ) where
  row_size : length (row_filled p n vector pins kept_count_of_def mark v) ≡ length v
  unfolding row_filled
  row_size = by_bool (ltb p n && leb kept_count_of_def 16) (λ e. rw e (puts_length v (process_puts p vector pins kept_count_of_def mark))) (λ e. rw e)

  row_stays : (m : ℕ) → Clear (process_puts p vector pins kept_count_of_def mark) m → word (row_filled p n vector pins kept_count_of_def mark v) m ≡ word v m
  unfolding row_filled
  row_stays m clear = by_bool (ltb p n && leb kept_count_of_def 16) (λ e. rw e (untouched v (process_puts p vector pins kept_count_of_def mark) m clear)) (λ e. rw e)

  row_is : p < n → kept_count_of_def ≤ 16 → row_filled p n vector pins kept_count_of_def mark v ≡ puts v (process_puts p vector pins kept_count_of_def mark)
  unfolding row_filled
  row_is lt fit = rw (lt-ltb p n lt, le-leb kept_count_of_def 16 fit)

module _ (k many : ℕ) (x : Message) (v : List ℕ) where
  one_size : length (one_filled k many x v) ≡ length v
  unfolding one_filled
  one_size = by_bool (ltb k many && message_fits x) (λ e. rw e (puts_length v (message_puts k x))) (λ e. rw e)

  one_stays : (m : ℕ) → Clear (message_puts k x) m → word (one_filled k many x v) m ≡ word v m
  unfolding one_filled
  one_stays m clear = by_bool (ltb k many && message_fits x) (λ e. rw e (untouched v (message_puts k x) m clear)) (λ e. rw e)

  one_is : k < many → message_fits x ≡ true → one_filled k many x v ≡ puts v (message_puts k x)
  unfolding one_filled
  one_is lt fit = rw (lt-ltb k many lt, fit)

-- The places of two checkpoints are apart.
module _ (p k j : ℕ) (room : k < 16) (after : 16 * p + k < j) (c : Checkpoint) where
  index_clear : Clear (checkpoint_puts (j / 16) (j % 16) c) (index_at_of p k)
  index_clear = omega arith

  cause_clear : Clear (checkpoint_puts (j / 16) (j % 16) c) (cause_at_of p k)
  cause_clear = omega arith

  stored_clear : (f : ℕ) → f < 16 → Clear (checkpoint_puts (j / 16) (j % 16) c) (stored_at p k + f)
  stored_clear f lt = omega arith

module _ (s : Run) (w : List ℕ) (long : length w ≡ 6464) where
  abbrev kept_step : ℕ → List ℕ → List ℕ
  kept_step = kept_filled s.kept.0 s.kept_count

  abbrev row_step : ℕ → List ℕ → List ℕ
  row_step = rows_filled s.count s.vectors.0 s.pins.0 s.kept_count s.sent

  abbrev message_step : ℕ → List ℕ → List ℕ
  message_step = messages_filled s.underway s.messages

  kept_size : (q : ℕ) (v : List ℕ) → length (kept_step q v) ≡ length v
  unfolding kept_filled
  kept_size q v = place_size (q / 16) (q % 16) _ _ _ ∙ puts_length v (blocks_put (q / 16) s.kept.0 ∷ [])

  rows_size : (p : ℕ) (v : List ℕ) → length (row_step p v) ≡ length v
  unfolding rows_filled
  rows_size p v = row_size p _ _ _ _ _ v

  message_step_size : (k : ℕ) (v : List ℕ) → length (message_step k v) ≡ length v
  unfolding messages_filled
  message_step_size k v = one_size k _ _ v

  abbrev a : List ℕ
  a = iter 256 kept_step w

  abbrev b : List ℕ
  b = iter 16 row_step a

  abbrev d : List ℕ
  d = iter 64 message_step b

  abbrev all : List ℕ
  all = puts d (number_puts s.count s.underway s.last s.disk)

  a_long : length a ≡ 6464
  a_long = iter_length kept_step kept_size w 256 ∙ long

  b_long : length b ≡ 6464
  b_long = iter_length row_step rows_size a 16 ∙ a_long

  d_long : length d ≡ 6464
  d_long = iter_length message_step message_step_size b 64 ∙ b_long

  -- Words that the messages and the numbers leave alone; those that the rows do.
  numbers_stay : (m : ℕ) → 16 ≤ m → word all m ≡ word d m
  numbers_stay m low = untouched d (number_puts s.count s.underway s.last s.disk) m (omega arith)

  message_steps_stay : (m : ℕ) → 16 ≤ m → m < 5184 → word all m ≡ word b m
  unfolding messages_filled
  message_steps_stay m low under = numbers_stay m low ∙ iter_stays message_step message_step_size b 64 m (λ k lt v. one_stays k _ _ v m (omega arith))

  rows_stay : (p m : ℕ) → p < 16 → 96 + 320 * p ≤ m → m < 384 + 320 * p → word all m ≡ word a m
  unfolding rows_filled
  rows_stay p m lt low under = message_steps_stay m (omega arith) (omega arith) ∙ iter_stays row_step rows_size a 16 m (λ q less v. row_stays q _ _ _ _ _ v m (omega arith))

  module _ (p k : ℕ) (lt : p < 16) (room : k < 16) (used : k < get_or s.kept_count p 0) (fit : index_fits (stored s p k).index ≡ true) where
    this : (v : List ℕ) → kept_step (16 * p + k) v ≡ puts (puts v (blocks_put p s.kept.0 ∷ [])) (checkpoint_puts p k (stored s p k))
    unfolding kept_filled
    this v =
        let e : (16 * p + k) / 16 ≡ p = omega arith in
        let r : (16 * p + k) % 16 ≡ k = omega arith in
        rw (e, r) (place_is p k (get_or s.kept_count p 0) (stored s p k) _ used fit)

    other : (m : ℕ) → 64 ≤ m → ((j : ℕ) → 16 * p + k < j → (c : Checkpoint) → Clear (checkpoint_puts (j / 16) (j % 16) c) m) → (j : ℕ) → 16 * p + k < j → j < 256 → (v : List ℕ) → word (kept_step j v) m ≡ word v m
    unfolding kept_filled
    other m past clear j less under v =
        place_stays (j / 16) (j % 16) (get_or s.kept_count (j / 16) 0) (stored s (j / 16) (j % 16)) _ m (clear j less (stored s (j / 16) (j % 16)))
        ∙ untouched v (blocks_put (j / 16) s.kept.0 ∷ []) m (omega arith)

    there : (m x : ℕ) → 64 ≤ m → ((v : List ℕ) → length v ≡ 6464 → word (puts v (checkpoint_puts p k (stored s p k))) m ≡ x)
        → ((j : ℕ) → 16 * p + k < j → (c : Checkpoint) → Clear (checkpoint_puts (j / 16) (j % 16) c) m) → word a m ≡ x
    there m x past here clear = iter_at kept_step kept_size w 256 (16 * p + k) m x (omega arith)
        (λ v same. ap (λ (u : List ℕ). word u m) (this v) ∙ here _ (puts_length v (blocks_put p s.kept.0 ∷ []) ∙ same ∙ long)) (other m past clear)

    holds_stored : HoldsStored all s p k
    holds_stored = record {
      index = rows_stay p (index_at_of p k) lt (omega arith) (omega arith)
          ∙ there (index_at_of p k) _ (omega arith) (λ v l. touched v (checkpoint_puts p k (stored s p k)) 0 0 (index_at_of p k) (omega arith)) (λ j less c. index_clear p k j room less c);
      cause = rows_stay p (cause_at_of p k) lt (omega arith) (omega arith)
          ∙ there (cause_at_of p k) _ (omega arith) (λ v l. touched v (checkpoint_puts p k (stored s p k)) 1 0 (cause_at_of p k) (omega arith)) (λ j less c. cause_clear p k j room less c);
      vector = λ f less. rows_stay p (stored_at p k + f) lt (omega arith) (omega arith)
          ∙ there (stored_at p k + f) _ (omega arith) (λ v l. touched v (checkpoint_puts p k (stored s p k)) 2 f (stored_at p k + f) (omega arith)) (λ j under c. stored_clear p k j room under c f less);
    }

  -- The block count is put with each place of the process: the last of them leaves it.
  blocks_there : (p : ℕ) → p < 16 → word all (blocks_at_of p) ≡ (stored s p 0).blocks
  unfolding kept_filled rows_filled
  blocks_there p lt =
      message_steps_stay (blocks_at_of p) (omega arith) (omega arith)
      ∙ iter_stays row_step rows_size a 16 (blocks_at_of p) (λ q less v. row_stays q _ _ _ _ _ v (blocks_at_of p) (omega arith))
      ∙ iter_at kept_step kept_size w 256 (16 * p + 15) (blocks_at_of p) (stored s p 0).blocks (omega arith)
      (λ v same.
      let e : (16 * p + 15) / 16 ≡ p = omega arith in
      rw e (place_stays p _ _ _ _ (blocks_at_of p) (omega arith) ∙ touched v (blocks_put p s.kept.0 ∷ []) 0 0 (blocks_at_of p) (omega (arith, same, long))))
      (λ j less most v. place_stays (j / 16) _ _ _ _ (blocks_at_of p) (omega arith) ∙ untouched v (blocks_put (j / 16) s.kept.0 ∷ []) (blocks_at_of p) (omega arith))

  module _ (p : ℕ) (lt : p < s.count) (room : p < 16) (few : get_or s.kept_count p 0 ≤ 16) where
    this_row : (v : List ℕ) → row_step p v ≡ puts v (process_puts p (get_or s.vectors.0 p []) (get_or s.pins.0 p []) (get_or s.kept_count p 0) (get_or s.sent p false))
    unfolding rows_filled
    this_row v = row_is p _ _ _ _ _ v lt few

    abbrev row_puts : ℕ → List Put
    row_puts q = process_puts q (get_or s.vectors.0 q []) (get_or s.pins.0 q []) (get_or s.kept_count q 0) (get_or s.sent q false)

    there_row : (m x : ℕ) → 16 ≤ m → m < 5184 → ((v : List ℕ) → length v ≡ 6464 → word (puts v (row_puts p)) m ≡ x) → ((q : ℕ) → p < q → q < 16 → Clear (row_puts q) m) → word all m ≡ x
    unfolding rows_filled
    there_row m x low under here clear = message_steps_stay m low under ∙ iter_at row_step rows_size a 16 p m x room
        (λ v same. ap (λ (u : List ℕ). word u m) (this_row v) ∙ here v (same ∙ a_long))
        (λ q less most v. row_stays q _ _ _ _ _ v m (clear q less most))

    holds_process : HoldsProcess all s p
    holds_process = record {
      vector = λ f less. there_row (part_at p + f) _ (omega arith) (omega arith) (λ v l. touched v (row_puts p) 0 f (part_at p + f) (omega arith)) (λ q more most. omega arith);
      pins = λ f less. there_row (pins_at_of p + f) _ (omega arith) (omega arith) (λ v l. touched v (row_puts p) 1 f (pins_at_of p + f) (omega arith)) (λ q more most. omega arith);
      kept_count = there_row (kept_count_at_of p) _ (omega arith) (omega arith) (λ v l. touched v (row_puts p) 2 0 (kept_count_at_of p) (omega arith)) (λ q more most. omega arith);
      blocks = blocks_there p room;
      mark = there_row (mark_at p) _ (omega arith) (omega arith) (λ v l. touched v (row_puts p) 3 0 (mark_at p) (omega arith)) (λ q more most. omega arith);
    }

  module _ (k : ℕ) (lt : k < s.underway) (room : k < 64) (fit : message_fits (message s k) ≡ true) where
    this_one : (v : List ℕ) → message_step k v ≡ puts v (message_puts k (message s k))
    unfolding messages_filled
    this_one v = one_is k _ _ v lt fit

    there_one : (m x : ℕ) → 16 ≤ m → ((v : List ℕ) → length v ≡ 6464 → word (puts v (message_puts k (message s k))) m ≡ x) → ((q : ℕ) → k < q → q < 64 → Clear (message_puts q (message s q)) m) → word all m ≡ x
    unfolding messages_filled
    there_one m x low here clear = numbers_stay m low ∙ iter_at message_step message_step_size b 64 k m x room
        (λ v same. ap (λ (u : List ℕ). word u m) (this_one v) ∙ here v (same ∙ b_long))
        (λ q less most v. one_stays q _ _ v m (clear q less most))

    holds_message : HoldsMessage all s k
    holds_message = record {
      low = there_one (low_at k) _ (omega arith) (λ v l. touched v (message_puts k (message s k)) 0 0 (low_at k) (omega arith)) (λ q more most. omega arith);
      high = there_one (high_at k) _ (omega arith) (λ v l. touched v (message_puts k (message s k)) 1 0 (high_at k) (omega arith)) (λ q more most. omega arith);
      sender = there_one (sender_at_of k) _ (omega arith) (λ v l. touched v (message_puts k (message s k)) 2 0 (sender_at_of k) (omega arith)) (λ q more most. omega arith);
      receiver = there_one (receiver_at_of k) _ (omega arith) (λ v l. touched v (message_puts k (message s k)) 3 0 (receiver_at_of k) (omega arith)) (λ q more most. omega arith);
      vector = λ f less. there_one (carried_at k + f) _ (omega arith) (λ v l. touched v (message_puts k (message s k)) 4 f (carried_at k + f) (omega arith)) (λ q more most. omega arith);
    }

  -- A word of the numbers, by its put.
  number : (n q : ℕ) → Hits d (number_puts s.count s.underway s.last s.disk) n 0 q
      → word all q ≡ (nth (number_puts s.count s.underway s.last s.disk) n).fill 0
  number n q hits = touched d (number_puts s.count s.underway s.last s.disk) n 0 q hits

  pub all_holds : Holds (filled s w) s
  unfolding filled
  all_holds =
      let l = d_long in
      record {
        size = puts_length d (number_puts s.count s.underway s.last s.disk) ∙ d_long;
        count = number 0 0 (omega arith);
        underway = number 1 1 (omega arith);
        last = rw (number 2 2 (omega arith), number 3 3 (omega arith)) (wide2_back s.last);
        written = rw (number 4 4 (omega arith), number 5 5 (omega arith), number 6 6 (omega arith), number 7 7 (omega arith)) (wide4_back s.disk.written);
        deleted = rw (number 8 8 (omega arith), number 9 9 (omega arith), number 10 10 (omega arith), number 11 11 (omega arith)) (wide4_back s.disk.deleted);
        end = number 12 12 (omega arith);
        process = λ p lt room few. holds_process p lt room few;
        kept = λ p k lt room used fit. holds_stored p k lt room used fit;
        each_message = λ k lt room fit. holds_message k lt room fit;
      }
