-- The sizes of the arrays of the run that words stand for: 16 rows of 16 places, 64 messages, each vector of 16. They hold of all words.
-- Assumes nothing.
use Rattle.std.specs.Prelude.{◌≡◌, ◌<◌}
use Rattle.laws.specs.Basics.{refl, ◌∙◌, ap, true, List, [], ℕ, arith, length, get_or, replicate, get_or-replicate, pick, by_bool}
use Rattle.laws.specs.{Lists.table, Prefixes.placed_length, Rows.by_lt, Tables.length_table, Tables.get_d_table}
use Rattle.model.specs.declared.{Checkpoint.Checkpoint, Message.Message, Run.Run}
use Rattle.model.specs.Words.{most_processes, most_under_way, zero_vector, no_pins_of, no_checkpoint, no_message, blank}
use Rattle.words.specs.Layout.{count_of, end_of, part_at, pins_at_of, stored_at, carried_at, vector_in, pins_in, checkpoint_in, is_kept_in, kept_in, message_in, is_message, messages_in, of_processes, decoded, fits, run_of}
use Rattle.words.proofs.{Ascending.selected_where, Same.vector_length, Same.pins_length}
use Rattle.words.proofs.View.{run_fits, run_unfit, part_is, part_past, kept_length, placed_at, placed_past, messages_most}

module _ (w : List ℕ) where
  -- A fact of every run that words stand for: of the decoded one, and of a state of zeros.
  of_all : (P : Run → Type 0) → (fits w ≡ true → P (decoded w)) → P (blank 0) → P (run_of w)
  of_all P one other = by_bool (fits w) (λ e. rw (run_fits w e) (one e)) (λ e. rw (run_unfit w e) other)

  pub vectors_size : length (run_of w).vectors.0 ≡ most_processes
  unfolding decoded blank
  vectors_size = of_all (λ (r : Run). length r.vectors.0 ≡ most_processes) (λ e. length_table 16 _) refl

  pub pins_size : length (run_of w).pins.0 ≡ most_processes
  unfolding decoded blank
  pins_size = of_all (λ (r : Run). length r.pins.0 ≡ most_processes) (λ e. length_table 16 _) refl

  pub sent_size : length (run_of w).sent ≡ most_processes
  unfolding decoded blank
  sent_size = of_all (λ (r : Run). length r.sent ≡ most_processes) (λ e. length_table 16 _) refl

  pub kept_size : length (run_of w).kept.0 ≡ most_processes
  unfolding decoded blank
  kept_size = of_all (λ (r : Run). length r.kept.0 ≡ most_processes) (λ e. length_table 16 _) refl

  pub kept_count_size : length (run_of w).kept_count ≡ most_processes
  unfolding decoded blank
  kept_count_size = of_all (λ (r : Run). length r.kept_count ≡ most_processes) (λ e. length_table 16 _) refl

  pub messages_size : length (run_of w).messages ≡ most_under_way
  unfolding decoded blank
  messages_size = of_all (λ (r : Run). length r.messages ≡ most_under_way) (λ e. placed_length most_under_way no_message (messages_in w) (messages_most w e)) refl

  -- A fact of a row: of each process below n, and of an unused one.
  row_fact : {A : Type 0} (part : ℕ → A) (unused d : A) (P : A → Type 0) → ((p : ℕ) → P (part p)) → P unused → (p : ℕ) → p < 16 → P (get_or (of_processes w part unused) p d)
  row_fact part unused d P one other p lt = by_lt p (count_of w)
      (λ less. rw (part_is w part unused d p less lt) (one p))
      (λ le. rw (part_past w part unused d p le lt) other)

  module _ (p : ℕ) (lt : p < 16) where
    pub vector_row_size : length (get_or (run_of w).vectors.0 p []) ≡ most_processes
    unfolding decoded blank
    vector_row_size = of_all (λ (r : Run). length (get_or r.vectors.0 p []) ≡ most_processes)
        (λ e. row_fact (λ q. vector_in w (part_at q)) zero_vector [] (λ l. length l ≡ most_processes) (λ q. vector_length w (part_at q)) refl p lt)
        (ap length (get_or-replicate most_processes p zero_vector [] lt))

    pub pin_row_size : length (get_or (run_of w).pins.0 p []) ≡ most_processes
    unfolding decoded blank
    pin_row_size = of_all (λ (r : Run). length (get_or r.pins.0 p []) ≡ most_processes)
        (λ e. row_fact (λ q. pins_in w (pins_at_of q)) no_pins_of [] (λ l. length l ≡ most_processes) (λ q. pins_length w (pins_at_of q)) refl p lt)
        (ap length (get_or-replicate most_processes p no_pins_of [] lt))

    pub kept_row_size : length (get_or (run_of w).kept.0 p []) ≡ most_processes
    unfolding decoded blank
    kept_row_size = of_all (λ (r : Run). length (get_or r.kept.0 p []) ≡ most_processes)
        (λ e. row_fact (kept_in w) (replicate most_processes no_checkpoint) [] (λ l. length l ≡ most_processes) (kept_length w) refl p lt)
        (ap length (get_or-replicate most_processes p (replicate most_processes no_checkpoint) [] lt))

    module _ (k : ℕ) (less : k < 16) where
      one_size : (q : ℕ) → length (get_or (kept_in w q) k no_checkpoint).vector ≡ most_processes
      unfolding kept_in checkpoint_in
      one_size q = ap (λ (c : Checkpoint). length c.vector) (get_d_table 16 (λ j. pick (is_kept_in w q j) (checkpoint_in w q j) no_checkpoint) k no_checkpoint less)
          ∙ by_bool (is_kept_in w q k) (λ e. rw e (vector_length w (stored_at q k))) (λ e. rw e)

      none_size : length (get_or (replicate most_processes no_checkpoint) k no_checkpoint).vector ≡ most_processes
      none_size = ap (λ (c : Checkpoint). length c.vector) (get_or-replicate most_processes k no_checkpoint no_checkpoint less)

      pub stored_size : length (get_or (get_or (run_of w).kept.0 p []) k no_checkpoint).vector ≡ most_processes
      unfolding decoded blank
      stored_size = of_all (λ (r : Run). length (get_or (get_or r.kept.0 p []) k no_checkpoint).vector ≡ most_processes)
          (λ e. row_fact (kept_in w) (replicate most_processes no_checkpoint) [] (λ l. length (get_or l k no_checkpoint).vector ≡ most_processes) one_size none_size p lt)
          (ap (λ (l : List Checkpoint). length (get_or l k no_checkpoint).vector) (get_or-replicate most_processes p (replicate most_processes no_checkpoint) [] lt) ∙ none_size)

  -- Every carried vector.
  under_way_size : (k : ℕ) → k < length (messages_in w) → length (get_or (messages_in w) k no_message).vector ≡ most_processes
  unfolding messages_in message_in
  under_way_size k lt =
      let r = selected_where is_message (table (end_of w) (message_in w)) k no_message lt in
      ap (λ (x : Message). length x.vector) (r.2 ∙ get_d_table (end_of w) (message_in w) r.0 no_message (omega (arith, r.1, length_table (end_of w) (message_in w))))
      ∙ vector_length w (carried_at r.0)

  pub carried_size : (k : ℕ) → k < most_under_way → length (get_or (run_of w).messages k no_message).vector ≡ most_processes
  unfolding decoded blank
  carried_size k lt = of_all (λ (r : Run). length (get_or r.messages k no_message).vector ≡ most_processes)
      (λ e. by_lt k (length (messages_in w))
      (λ less. rw (placed_at most_under_way no_message (messages_in w) k less) (under_way_size k less))
      (λ le. rw (placed_past most_under_way no_message (messages_in w) k le lt)))
      (ap (λ (x : Message). length x.vector) (get_or-replicate most_under_way k no_message no_message lt))
