-- Words that agree outside of one process, outside of the messages, or outside of the two numbers of blocks stand for runs that differ there alone.
-- Assumes nothing.
use Rattle.std.specs.Prelude.{◌≡◌, ◌+◌, ◌-◌, ◌≤◌, ◌<◌}
use Rattle.laws.specs.Basics.{refl, sym, ◌∙◌, ap, true, false, List, ℕ, arith, ltb, length, set, replicate, lt-ltb, pick, by_eq}
use Rattle.laws.specs.{Lists.select, Tables.table_same, Tables.table_set, Update.upd, Update.upd_same, Update.upd_other}
use Rattle.model.specs.declared.Run.{Run}
use Rattle.model.specs.Words.{most_processes, zero_vector, no_pins_of, no_checkpoint, with_process, with_messages, with_disk}
use Rattle.words.specs.Layout.{word, wide2, wide4, count_of, end_of, kept_count_at_of, mark_at, blocks_at_of, part_at, pins_at_of, low_at, high_at, sender_at_of, receiver_at_of, carried_at, vector_in, pins_in, mark_in, kept_in, message_in, is_message, messages_in, of_processes, decoded, end_fits_of, fits, run_of}
use Rattle.words.specs.{Parts.process_in, Frames.OnlyProcess, Frames.OnlyMessages, Frames.OnlyDisk}
use Rattle.words.proofs.Same.{vector_same, pins_same, kept_same, message_same}
use Rattle.words.proofs.Frames.{process_head, process_blocks, process_kept_count, process_mark, process_part, process_message_words}
use Rattle.words.proofs.View.{run_fits, fits_size, fits_end, fits_by, kept_placed, kept_count_lem}

-- Words that agree on the places of messages and on their end hold the same messages.
module _ (w v : List ℕ) (end : end_of v ≡ end_of w) (same : (k : ℕ) → 5184 ≤ k → word v k ≡ word w k) where
  pub message_words_same : (k : ℕ) → message_in v k ≡ message_in w k
  message_words_same k = message_same v w k k
      (same (low_at k) (omega arith)) (same (high_at k) (omega arith)) (same (sender_at_of k) (omega arith)) (same (receiver_at_of k) (omega arith))
      (λ f lt. same (carried_at k + f) (omega arith))

  pub messages_same : messages_in v ≡ messages_in w
  unfolding messages_in
  messages_same = rw (end) (ap (select is_message) (table_same (end_of w) (message_in v) (message_in w) (λ k lt. message_words_same k)))

  pub end_same : end_fits_of v ≡ end_fits_of w
  unfolding end_fits_of
  end_same = rw (end, message_words_same (end_of w - 1))

-- A process.
module _ (w v : List ℕ) (p : ℕ) (fit : fits w ≡ true) (lt : p < count_of w) (few : count_of w ≤ 16) (only : OnlyProcess w v p) where
  room : p < 16
  room = omega arith

  pub process_fits : fits v ≡ true
  process_fits = fits_by v (only.size ∙ fits_size w fit) (end_same w v (process_head w v p only 12 (omega arith)) (process_message_words w v p only room) ∙ fits_end w fit)

  one_changed : {A : Type 0} (f g : ℕ → A) (unused x : A) → f p ≡ x → ((q : ℕ) → q < 16 → (q ≡ p → ⊥) → f q ≡ g q) → of_processes v f unused ≡ set (of_processes w g unused) p x
  one_changed {A = A} f g unused x e same =
      let count : count_of v ≡ count_of w = process_head w v p only 0 (omega arith) in
      table_same 16 (λ q. pick (ltb q (count_of v)) (f q) unused) (upd (λ q. pick (ltb q (count_of w)) (g q) unused) p x)
      (λ q less. by_eq q p
      (λ here. rw (here, count, lt-ltb p (count_of w) lt) (e ∙ sym (upd_same (λ q. pick (ltb q (count_of w)) (g q) unused) p x)))
      (λ ne. rw (count, same q less ne) (sym (upd_other (λ q. pick (ltb q (count_of w)) (g q) unused) p x q ne))))
      ∙ sym (table_set 16 (λ q. pick (ltb q (count_of w)) (g q) unused) p x)

  vectors_changed : of_processes v (λ q. vector_in v (part_at q)) zero_vector ≡ set (of_processes w (λ q. vector_in w (part_at q)) zero_vector) p (vector_in v (part_at p))
  vectors_changed = one_changed (λ q. vector_in v (part_at q)) (λ q. vector_in w (part_at q)) zero_vector (vector_in v (part_at p)) refl
      (λ q less ne. vector_same v w (part_at q) (part_at q) (λ f under. process_part w v p only q room less ne (part_at q + f) (omega arith) (omega arith)))

  pins_changed : of_processes v (λ q. pins_in v (pins_at_of q)) no_pins_of ≡ set (of_processes w (λ q. pins_in w (pins_at_of q)) no_pins_of) p (pins_in v (pins_at_of p))
  pins_changed = one_changed (λ q. pins_in v (pins_at_of q)) (λ q. pins_in w (pins_at_of q)) no_pins_of (pins_in v (pins_at_of p)) refl
      (λ q less ne. pins_same v w (pins_at_of q) (pins_at_of q) (λ f under. process_part w v p only q room less ne (pins_at_of q + f) (omega arith) (omega arith)))

  mark_same : (q : ℕ) → q < 16 → (q ≡ p → ⊥) → mark_in v q ≡ mark_in w q
  unfolding mark_in
  mark_same q less ne = rw (process_mark w v p only q room less ne)

  marks_changed : of_processes v (mark_in v) false ≡ set (of_processes w (mark_in w) false) p (mark_in v p)
  marks_changed = one_changed (mark_in v) (mark_in w) false (mark_in v p) refl mark_same

  pub rows_same : (q : ℕ) → q < 16 → (q ≡ p → ⊥) → kept_in v q ≡ kept_in w q
  rows_same q less ne = kept_same v w q (process_kept_count w v p only q room less ne) (process_blocks w v p only q room less)
      (λ k low under. process_part w v p only q room less ne k (omega arith) (omega arith))

  kept_changed : of_processes v (kept_in v) (replicate most_processes no_checkpoint) ≡ set (of_processes w (kept_in w) (replicate most_processes no_checkpoint)) p (kept_in v p)
  kept_changed = one_changed (kept_in v) (kept_in w) (replicate most_processes no_checkpoint) (kept_in v p) refl rows_same

  kept_count_changed : of_processes v (λ q. word v (kept_count_at_of q)) 0 ≡ set (of_processes w (λ q. word w (kept_count_at_of q)) 0) p (word v (kept_count_at_of p))
  kept_count_changed = one_changed (λ q. word v (kept_count_at_of q)) (λ q. word w (kept_count_at_of q)) 0 (word v (kept_count_at_of p)) refl (λ q less ne. process_kept_count w v p only q room less ne)

  decoded_process : word v (kept_count_at_of p) ≤ 16 → decoded v ≡ with_process (decoded w) p (process_in v p)
  unfolding decoded with_process process_in
  decoded_process most = rw (
    kept_placed v p most,
    kept_count_lem v p most,
    vectors_changed,
    pins_changed,
    marks_changed,
    kept_changed,
    kept_count_changed,
    messages_same w v (process_head w v p only 12 (omega arith)) (process_message_words w v p only room),
    process_head w v p only 0 (omega arith),
    process_head w v p only 1 (omega arith),
    process_head w v p only 2 (omega arith),
    process_head w v p only 3 (omega arith),
    process_head w v p only 4 (omega arith),
    process_head w v p only 5 (omega arith),
    process_head w v p only 6 (omega arith),
    process_head w v p only 7 (omega arith),
    process_head w v p only 8 (omega arith),
    process_head w v p only 9 (omega arith),
    process_head w v p only 10 (omega arith),
    process_head w v p only 11 (omega arith),
  )

  pub with_process_lem : word v (kept_count_at_of p) ≤ 16 → run_of v ≡ with_process (run_of w) p (process_in v p)
  with_process_lem most = run_fits v process_fits ∙ decoded_process most ∙ ap (λ (r : Run). with_process r p (process_in v p)) (sym (run_fits w fit))

-- The messages.
module _ (w v : List ℕ) (only : OnlyMessages w v) where
  messages_parts : {A : Type 0} (f g : ℕ → A) (unused : A) → ((q : ℕ) → q < 16 → f q ≡ g q) → of_processes v f unused ≡ of_processes w g unused
  messages_parts f g unused same = table_same 16 (λ q. pick (ltb q (count_of v)) (f q) unused) (λ q. pick (ltb q (count_of w)) (g q) unused)
      (λ q less. rw (only.count, same q less))

  mark_stays : (q : ℕ) → q < 16 → mark_in v q ≡ mark_in w q
  unfolding mark_in
  mark_stays q less = rw (only.rest (mark_at q) (omega arith) (omega arith))

  decoded_messages : word v 1 ≡ length (messages_in v) → decoded v ≡ with_messages (decoded w) (messages_in v) (wide2 v 2)
  unfolding decoded with_messages
  decoded_messages counted = rw (
    messages_parts (λ q. vector_in v (part_at q)) (λ q. vector_in w (part_at q)) zero_vector
        (λ q less. vector_same v w (part_at q) (part_at q) (λ f under. only.rest (part_at q + f) (omega arith) (omega arith))),
    messages_parts (λ q. pins_in v (pins_at_of q)) (λ q. pins_in w (pins_at_of q)) no_pins_of
        (λ q less. pins_same v w (pins_at_of q) (pins_at_of q) (λ f under. only.rest (pins_at_of q + f) (omega arith) (omega arith))),
    messages_parts (mark_in v) (mark_in w) false mark_stays,
    messages_parts (kept_in v) (kept_in w) (replicate most_processes no_checkpoint)
        (λ q less. kept_same v w q (only.rest (kept_count_at_of q) (omega arith) (omega arith)) (only.rest (blocks_at_of q) (omega arith) (omega arith))
        (λ k low under. only.rest k (omega arith) (omega arith))),
    messages_parts (λ q. word v (kept_count_at_of q)) (λ q. word w (kept_count_at_of q)) 0 (λ q less. only.rest (kept_count_at_of q) (omega arith) (omega arith)),
    counted,
    only.count,
    only.disk 4 (omega arith) (omega arith),
    only.disk 5 (omega arith) (omega arith),
    only.disk 6 (omega arith) (omega arith),
    only.disk 7 (omega arith) (omega arith),
    only.disk 8 (omega arith) (omega arith),
    only.disk 9 (omega arith) (omega arith),
    only.disk 10 (omega arith) (omega arith),
    only.disk 11 (omega arith) (omega arith),
  )

  pub messages_fit : fits w ≡ true → end_fits_of v ≡ true → fits v ≡ true
  messages_fit fit end = fits_by v (only.size ∙ fits_size w fit) end

  pub with_messages_lem : fits w ≡ true → end_fits_of v ≡ true → word v 1 ≡ length (messages_in v) → run_of v ≡ with_messages (run_of w) (messages_in v) (wide2 v 2)
  with_messages_lem fit end counted =
      run_fits v (messages_fit fit end) ∙ decoded_messages counted ∙ ap (λ (r : Run). with_messages r (messages_in v) (wide2 v 2)) (sym (run_fits w fit))

-- The blocks written and deleted.
module _ (w v : List ℕ) (only : OnlyDisk w v) where
  disk_parts : {A : Type 0} (f g : ℕ → A) (unused : A) → ((q : ℕ) → q < 16 → f q ≡ g q) → of_processes v f unused ≡ of_processes w g unused
  disk_parts f g unused same = table_same 16 (λ q. pick (ltb q (count_of v)) (f q) unused) (λ q. pick (ltb q (count_of w)) (g q) unused)
      (λ q less. rw (only.front 0 (omega arith), same q less))

  disk_mark : (q : ℕ) → mark_in v q ≡ mark_in w q
  unfolding mark_in
  disk_mark q = rw (only.rest (mark_at q) (omega arith))

  decoded_disk : decoded v ≡ with_disk (decoded w) (record { written = wide4 v 4; deleted = wide4 v 8 })
  unfolding decoded with_disk
  decoded_disk = rw (
    disk_parts (λ q. vector_in v (part_at q)) (λ q. vector_in w (part_at q)) zero_vector
        (λ q less. vector_same v w (part_at q) (part_at q) (λ f under. only.rest (part_at q + f) (omega arith))),
    disk_parts (λ q. pins_in v (pins_at_of q)) (λ q. pins_in w (pins_at_of q)) no_pins_of
        (λ q less. pins_same v w (pins_at_of q) (pins_at_of q) (λ f under. only.rest (pins_at_of q + f) (omega arith))),
    disk_parts (mark_in v) (mark_in w) false (λ q less. disk_mark q),
    disk_parts (kept_in v) (kept_in w) (replicate most_processes no_checkpoint)
        (λ q less. kept_same v w q (only.rest (kept_count_at_of q) (omega arith)) (only.rest (blocks_at_of q) (omega arith)) (λ k low under. only.rest k (omega arith))),
    disk_parts (λ q. word v (kept_count_at_of q)) (λ q. word w (kept_count_at_of q)) 0 (λ q less. only.rest (kept_count_at_of q) (omega arith)),
    messages_same w v (only.rest 12 (omega arith)) (λ k low. only.rest k (omega arith)),
    only.front 0 (omega arith),
    only.front 1 (omega arith),
    only.front 2 (omega arith),
    only.front 3 (omega arith),
  )

  pub disk_fits : fits w ≡ true → fits v ≡ true
  disk_fits fit = fits_by v (only.size ∙ fits_size w fit) (end_same w v (only.rest 12 (omega arith)) (λ k low. only.rest k (omega arith)) ∙ fits_end w fit)

  pub with_disk_lem : fits w ≡ true → run_of v ≡ with_disk (run_of w) (record { written = wide4 v 4; deleted = wide4 v 8 })
  with_disk_lem fit =
      run_fits v (disk_fits fit) ∙ decoded_disk ∙ ap (λ (r : Run). with_disk r (record { written = wide4 v 4; deleted = wide4 v 8 })) (sym (run_fits w fit))
