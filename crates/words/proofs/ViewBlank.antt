-- Words of zeros but for n and for block counts: "a state of zeros with every pin none", with its count. A start goes on from here, process by process.
-- Assumes nothing.
use Rattle.std.specs.Prelude.{◌≡◌, ◌+◌, ◌≤◌, ◌<◌, None}
use Rattle.laws.specs.Basics.{refl, sym, ◌∙◌, ap, true, false, List, [], ℕ, arith, ltb, length, replicate, get_or-replicate, le-ltb, pick}
use Rattle.laws.specs.{Choice.pick_same, Lists.select, Lists.table, Prefixes.placed_none, Tables.table_same, Tables.table_replicate}
use Rattle.model.specs.declared.Interval.{Interval}
use Rattle.model.specs.Words.{most_processes, most_under_way, zero_vector, no_pins_of, no_checkpoint, no_message, blank}
use Rattle.words.specs.Layout.{word, count_of, kept_count_at_of, mark_at, blocks_at_of, part_at, pins_at_of, index_at_of, cause_at_of, stored_at, low_at, high_at, sender_at_of, receiver_at_of, carried_at, pin_of_def, vector_in, pins_in, mark_in, checkpoint_in, is_kept_in, kept_in, messages_in, of_processes, decoded, end_fits_of, fits, run_of}
use Rattle.words.specs.Clean.{Clean}
use Rattle.words.proofs.{Same.vector_is, View.run_fits, View.fits_by}

module _ (w : List ℕ) (front : (k : ℕ) → 1 ≤ k → k < 48 → word w k ≡ 0) (rest : (k : ℕ) → 64 ≤ k → word w k ≡ 0) where
  zero_vector_lem : (at : ℕ) → 64 ≤ at → vector_in w at ≡ zero_vector
  zero_vector_lem at low = vector_is w at zero_vector refl
      (λ f lt. rest (at + f) (omega arith) ∙ sym (ap (λ (x : Interval). x.0) (get_or-replicate most_processes f (record { 0 = 0 }) (record { 0 = 0 }) lt)))

  no_pins : (at : ℕ) → 64 ≤ at → pins_in w at ≡ no_pins_of
  unfolding pins_in pin_of_def
  no_pins at low = table_same 16 (λ f. pin_of_def (word w (at + f))) (λ f. None) (λ f lt. rw (rest (at + f) (omega arith))) ∙ sym (table_replicate 16 None)

  no_mark : (p : ℕ) → p < 16 → mark_in w p ≡ false
  unfolding mark_in
  no_mark p lt = rw (front (mark_at p) (omega arith) (omega arith))

  none_kept : (p : ℕ) → p < 16 → kept_in w p ≡ replicate most_processes no_checkpoint
  unfolding kept_in is_kept_in
  none_kept p lt = table_same 16 (λ k. pick (is_kept_in w p k) (checkpoint_in w p k) no_checkpoint) (λ k. no_checkpoint)
      (λ k less. rw (le-ltb k (word w (kept_count_at_of p)) (omega (arith, front (kept_count_at_of p) (omega arith) (omega arith)))))
      ∙ sym (table_replicate 16 no_checkpoint)

  unused_rows : {A : Type 0} (part : ℕ → A) (unused : A) → ((p : ℕ) → p < 16 → part p ≡ unused) → of_processes w part unused ≡ replicate most_processes unused
  unused_rows part unused same = table_same 16 (λ p. pick (ltb p (count_of w)) (part p) unused) (λ p. unused)
      (λ p lt. rw (same p lt) (pick_same (ltb p (count_of w)) unused))
      ∙ sym (table_replicate 16 unused)

  no_messages : messages_in w ≡ []
  unfolding messages_in select table
  no_messages = rw (front 12 (omega arith) (omega arith))

  blank_end : end_fits_of w ≡ true
  unfolding end_fits_of
  blank_end = rw (front 12 (omega arith) (omega arith))

  blank_decoded : decoded w ≡ blank (count_of w)
  unfolding decoded blank
  blank_decoded = rw (
    unused_rows (λ p. vector_in w (part_at p)) zero_vector (λ p lt. zero_vector_lem (part_at p) (omega arith)),
    unused_rows (λ p. pins_in w (pins_at_of p)) no_pins_of (λ p lt. no_pins (pins_at_of p) (omega arith)),
    unused_rows (mark_in w) false no_mark,
    unused_rows (kept_in w) (replicate most_processes no_checkpoint) none_kept,
    unused_rows (λ p. word w (kept_count_at_of p)) 0 (λ p lt. front (kept_count_at_of p) (omega arith) (omega arith)),
    no_messages,
    placed_none most_under_way no_message,
    front 1 (omega arith) (omega arith),
    front 2 (omega arith) (omega arith),
    front 3 (omega arith) (omega arith),
    front 4 (omega arith) (omega arith),
    front 5 (omega arith) (omega arith),
    front 6 (omega arith) (omega arith),
    front 7 (omega arith) (omega arith),
    front 8 (omega arith) (omega arith),
    front 9 (omega arith) (omega arith),
    front 10 (omega arith) (omega arith),
    front 11 (omega arith) (omega arith),
  )

  pub blank_fits : length w ≡ 6464 → fits w ≡ true
  blank_fits long = fits_by w long blank_end

  pub blank_run : length w ≡ 6464 → run_of w ≡ blank (count_of w)
  blank_run long = run_fits w (blank_fits long) ∙ blank_decoded

  -- The block counts of processes at n and above are zero too: the words are clean.
  pub blank_clean : ((p : ℕ) → count_of w ≤ p → p < 16 → word w (blocks_at_of p) ≡ 0) → Clean w
  blank_clean blocks = record {
    spare = λ k low lt. front k (omega arith) (omega arith);
    kept_count = λ q le lt. front (kept_count_at_of q) (omega arith) (omega arith);
    mark = λ q le lt. front (mark_at q) (omega arith) (omega arith);
    blocks = blocks;
    part = λ q k le lt less. rest (part_at q + k) (omega arith);
    kept = λ q lt. record {
      index = λ k le less. rest (index_at_of q k) (omega arith);
      cause = λ k le less. rest (cause_at_of q k) (omega arith);
      vector = λ k f le less under. rest (stored_at q k + f) (omega arith);
    };
    messages = record {
      low = λ k lt e. rest (low_at k) (omega arith);
      high = λ k lt e. rest (high_at k) (omega arith);
      sender = λ k lt e. rest (sender_at_of k) (omega arith);
      receiver = λ k lt e. rest (receiver_at_of k) (omega arith);
      vector = λ k f lt less e. rest (carried_at k + f) (omega arith);
    };
  }
