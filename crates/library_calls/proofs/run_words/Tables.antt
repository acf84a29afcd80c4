-- The tables of the state that words stand for, as loops fill them.
-- Assumes nothing.
use Rattle.std.specs.Prelude.{◌≡◌, ◌&&◌, ◌∷◌, ◌++◌, ◌+◌, ◌*◌, ◌/◌, ◌%◌, ◌≤◌, ◌<◌}
use Rattle.laws.specs.Basics.{refl, sym, ◌∙◌, ap, Bool, true, false, not, false≢true, List, [], append-nil, ℕ, arith, eqb, ltb, length, get_or, set, replicate, length-append, length-replicate, get_or-replicate, ne_eqb, lt-ltb, le-ltb, pick, by_eq}
use native.Mathlib.Numerals.{add-one}
use lib.Seq.{set-get_or}
use Rattle.laws.specs.{Lists.select, Lists.table, Lists.placed, Loops.set_below, Loops.below_length, Loops.below_above, Loops.below_at, Prefixes.placed_more}
use Rattle.laws.specs.{Rows.by_lt, Select.select_append, Select.select_one, Select.select_length, Update.upd, Update.upd_same, Update.upd_other, Truth.and_out}
use Rattle.laws.specs.Tables.{length_table, get_d_table, table_is, table_same, table_set, table_replicate}
use Rattle.model.specs.{declared.Checkpoint.Checkpoint, declared.Message.Message, Words.most_processes, Words.no_checkpoint, Words.no_message}
use Rattle.words.specs.Layout.{word, kept_count_at_of, index_at_of, count_of, checkpoint_in, is_kept_in, kept_in, message_in, is_message, of_processes}

-- A row for each process.
rows_below : {A : Type 0} (w : List ℕ) (n : ℕ) (part : ℕ → A) (unused : A) → n ≡ count_of w → n ≤ 16 → set_below n part (replicate 16 unused) ≡ of_processes w part unused
rows_below {A} w n part unused e few =
    let long : length (replicate 16 unused) ≡ 16 = length-replicate 16 unused in
    table_is unused (set_below n part (replicate 16 unused)) 16 (λ p. pick (ltb p (count_of w)) (part p) unused) (below_length part (replicate 16 unused) n ∙ long)
    (λ p lt. by_lt p n
    (λ less. below_at part (replicate 16 unused) n p unused less (omega (arith, long)) ∙ sym (ap (λ (b : Bool). pick b (part p) unused) (lt-ltb p (count_of w) (omega arith))))
    (λ le. below_above part (replicate 16 unused) n p unused le ∙ get_or-replicate 16 p unused unused lt ∙ sym (ap (λ (b : Bool). pick b (part p) unused) (le-ltb p (count_of w) (omega arith)))))

-- What a loop over the processes leaves of rows that were all the unused one.
pub rows_of : {A : Type 0} (w : List ℕ) (n p : ℕ) (part : ℕ → A) (unused first : A) (rows : List A) → rows ≡ set_below p part (replicate 16 first) → p ≡ n → first ≡ unused
    → n ≡ count_of w → n ≤ 16 → rows ≡ of_processes w part unused
rows_of w n p part unused first rows inv all none e few = rw (all, none) at inv ∙ rows_below w n part unused e few

-- The kept checkpoints of the first q places, of all processes.
module _ (w : List ℕ) where
  abbrev place_at : ℕ → ℕ → ℕ → Checkpoint
  place_at q p k = pick (ltb (16 * p + k) q && is_kept_in w p k) (checkpoint_in w p k) no_checkpoint

  unfoldable pub so_far : ℕ → List (List Checkpoint)
  so_far q = table 16 (λ p. table 16 (place_at q p))

  so_far_none : replicate 16 (replicate 16 no_checkpoint) ≡ so_far 0
  unfolding so_far
  so_far_none =
      table_replicate 16 (replicate 16 no_checkpoint)
      ∙ table_same 16 (λ p. replicate 16 no_checkpoint) (λ p. table 16 (place_at 0 p))
      (λ p lt. table_replicate 16 no_checkpoint ∙ table_same 16 (λ k. no_checkpoint) (place_at 0 p) (λ k less. sym (ap (λ (b : Bool). pick (b && is_kept_in w p k) (checkpoint_in w p k) no_checkpoint) (le-ltb (16 * p + k) 0 (omega arith)))))

  -- A row that is stored into where it is the same already.
  pub unused_rows : (c : Checkpoint) (k : ℕ) → k < 16 → c ≡ no_checkpoint → replicate 16 (set (replicate 16 c) k c) ≡ so_far 0
  unused_rows c k lt e =
      ap (λ (r : List Checkpoint). replicate 16 r) (ap (set (replicate 16 c) k) (sym (get_or-replicate 16 k c c lt)) ∙ set-get_or (replicate 16 c) k c)
      ∙ ap (λ (x : Checkpoint). replicate 16 (replicate 16 x)) e ∙ so_far_none

  -- A place that is not the next one.
  further : (m q : ℕ) → (m ≡ q → ⊥) → ltb m q ≡ ltb m (q + 1)
  further m q ne = by_lt m q (λ lt. lt-ltb m q lt ∙ sym (lt-ltb m (q + 1) (omega arith))) (λ le. le-ltb m q le ∙ sym (le-ltb m (q + 1) (omega arith)))

  same_place : (q p k : ℕ) → (16 * p + k ≡ q → ⊥) → place_at q p k ≡ place_at (q + 1) p k
  same_place q p k ne = ap (λ (b : Bool). pick (b && is_kept_in w p k) (checkpoint_in w p k) no_checkpoint) (further (16 * p + k) q ne)

  module _ (q : ℕ) (under : q < 256) where
    new_place : is_kept_in w (q / 16) (q % 16) ≡ true → checkpoint_in w (q / 16) (q % 16) ≡ place_at (q + 1) (q / 16) (q % 16)
    new_place used = sym (rw (lt-ltb (16 * (q / 16) + q % 16) (q + 1) (omega arith), used))

    row_set : is_kept_in w (q / 16) (q % 16) ≡ true → (k : ℕ) → k < 16
        → upd (place_at q (q / 16)) (q % 16) (checkpoint_in w (q / 16) (q % 16)) k ≡ place_at (q + 1) (q / 16) k
    row_set used k lt = by_eq k (q % 16)
        (λ e. rw e (upd_same (place_at q (q / 16)) (q % 16) (checkpoint_in w (q / 16) (q % 16)) ∙ new_place used))
        (λ ne. upd_other (place_at q (q / 16)) (q % 16) (checkpoint_in w (q / 16) (q % 16)) k ne ∙ same_place q (q / 16) k (λ e. ne (omega arith)))

    pub so_far_set : is_kept_in w (q / 16) (q % 16) ≡ true
        → set (so_far q) (q / 16) (set (get_or (so_far q) (q / 16) []) (q % 16) (checkpoint_in w (q / 16) (q % 16))) ≡ so_far (q + 1)
    unfolding so_far
    so_far_set used =
        let p = q / 16 in
        let k = q % 16 in
        let c = checkpoint_in w (q / 16) (q % 16) in
        ap (λ (r : List Checkpoint). set (table 16 (λ j. table 16 (place_at q j))) (q / 16) (set r (q % 16) c)) (get_d_table 16 (λ j. table 16 (place_at q j)) (q / 16) [] (omega arith))
        ∙ ap (λ (r : List Checkpoint). set (table 16 (λ j. table 16 (place_at q j))) (q / 16) r) (table_set 16 (place_at q (q / 16)) (q % 16) c ∙ table_same 16 (upd (place_at q (q / 16)) (q % 16) c) (place_at (q + 1) (q / 16)) (row_set used))
        ∙ table_set 16 (λ j. table 16 (place_at q j)) (q / 16) (table 16 (place_at (q + 1) (q / 16)))
        ∙ table_same 16 (upd (λ j. table 16 (place_at q j)) (q / 16) (table 16 (place_at (q + 1) (q / 16)))) (λ j. table 16 (place_at (q + 1) j))
        (λ j lt. by_eq j (q / 16)
        (λ e. rw e (upd_same (λ i. table 16 (place_at q i)) (q / 16) (table 16 (place_at (q + 1) (q / 16)))))
        (λ ne. upd_other (λ i. table 16 (place_at q i)) (q / 16) (table 16 (place_at (q + 1) (q / 16))) j ne
        ∙ table_same 16 (place_at q j) (place_at (q + 1) j) (λ i less. same_place q j i (λ e. ne (omega arith)))))

    pub so_far_step : (kept : List (List Checkpoint)) (c : Checkpoint) → kept ≡ so_far q → c ≡ checkpoint_in w (q / 16) (q % 16) → is_kept_in w (q / 16) (q % 16) ≡ true
        → set kept (q / 16) (set (get_or kept (q / 16) []) (q % 16) c) ≡ so_far (q + 1)
    so_far_step kept c e f used = rw (e, f) (so_far_set used)

    none_place : is_kept_in w (q / 16) (q % 16) ≡ false → (b : Bool) → pick (b && is_kept_in w (q / 16) (q % 16)) (checkpoint_in w (q / 16) (q % 16)) no_checkpoint ≡ no_checkpoint
    none_place unused true = rw unused
    none_place unused false = refl

    pub so_far_keep : is_kept_in w (q / 16) (q % 16) ≡ false → so_far q ≡ so_far (q + 1)
    unfolding so_far
    so_far_keep unused = table_same 16 (λ j. table 16 (place_at q j)) (λ j. table 16 (place_at (q + 1) j))
        (λ j lt. table_same 16 (place_at q j) (place_at (q + 1) j)
        (λ i less. by_eq (16 * j + i) q
        (λ e. let a : j ≡ q / 16 = omega arith in let b : i ≡ q % 16 = omega arith in
        rw (a, b) (none_place unused (ltb (16 * (q / 16) + q % 16) q) ∙ sym (none_place unused (ltb (16 * (q / 16) + q % 16) (q + 1)))))
        (λ ne. same_place q j i ne)))

  pub so_far_all : (n : ℕ) → n ≡ count_of w → n ≤ 16 → so_far (16 * n) ≡ of_processes w (kept_in w) (replicate most_processes no_checkpoint)
  unfolding so_far kept_in
  so_far_all n e few = table_same 16 (λ p. table 16 (place_at (16 * n) p)) (λ p. pick (ltb p (count_of w)) (table 16 (λ k. pick (is_kept_in w p k) (checkpoint_in w p k) no_checkpoint)) (replicate most_processes no_checkpoint))
      (λ p lt. by_lt p n
      (λ less. table_same 16 (place_at (16 * n) p) (λ k. pick (is_kept_in w p k) (checkpoint_in w p k) no_checkpoint)
      (λ k under. ap (λ (b : Bool). pick (b && is_kept_in w p k) (checkpoint_in w p k) no_checkpoint) (lt-ltb (16 * p + k) (16 * n) (omega arith)))
      ∙ sym (ap (λ (b : Bool). pick b (table 16 (λ k. pick (is_kept_in w p k) (checkpoint_in w p k) no_checkpoint)) (replicate most_processes no_checkpoint)) (lt-ltb p (count_of w) (omega arith))))
      (λ le. table_same 16 (place_at (16 * n) p) (λ k. no_checkpoint)
      (λ k under. ap (λ (b : Bool). pick (b && is_kept_in w p k) (checkpoint_in w p k) no_checkpoint) (le-ltb (16 * p + k) (16 * n) (omega arith)))
      ∙ sym (table_replicate 16 no_checkpoint)
      ∙ sym (ap (λ (b : Bool). pick b (table 16 (λ k. pick (is_kept_in w p k) (checkpoint_in w p k) no_checkpoint)) (replicate most_processes no_checkpoint)) (le-ltb p (count_of w) (omega arith)))))

  -- A place in use has an index.
  pub kept_some : (p k : ℕ) → is_kept_in w p k ≡ true → 1 ≤ word w (index_at_of p k)
  unfolding is_kept_in
  kept_some p k used = by_eq (word w (index_at_of p k)) 0
      (λ e. absurd (false≢true (rw e at (and_out (ltb k (word w (kept_count_at_of p))) (not (eqb (word w (index_at_of p k)) 0)) used).1)))
      (λ ne. omega arith)

  -- The messages of the first k places.
  abbrev pub first_messages : ℕ → List Message
  first_messages k = select is_message (table k (message_in w))

  first_messages_more : (k : ℕ) → first_messages (k + 1) ≡ first_messages k ++ pick (is_message (message_in w k)) (message_in w k ∷ []) []
  unfolding table
  first_messages_more k = rw (add-one k) (select_append is_message (table k (message_in w)) (message_in w k ∷ []) ∙ ap (λ (l : List Message). first_messages k ++ l) (select_one is_message (message_in w k)))

  pub first_messages_few : (k : ℕ) → length (first_messages k) ≤ k
  first_messages_few k = omega (arith, select_length is_message (table k (message_in w)), length_table k (message_in w))

  module _ (k many : ℕ) (messages : List Message) (x : Message) (room : k < 64) (here : x ≡ message_in w k) (so-many : many ≡ length (first_messages k)) (laid : messages ≡ placed 64 no_message (first_messages k)) where
    pub first_messages_used : (x.number ≡ 0 → ⊥) → (many + 1 ≡ length (first_messages (k + 1))) × (set messages many x ≡ placed 64 no_message (first_messages (k + 1)))
    unfolding is_message
    first_messages_used some =
        let used : not (eqb (message_in w k).number 0) ≡ true = ap (λ (m : Message). not (eqb m.number 0)) (sym here) ∙ ap not (ne_eqb x.number 0 some) in
        let e : first_messages (k + 1) ≡ first_messages k ++ (message_in w k ∷ []) = first_messages_more k ∙ ap (λ (b : Bool). first_messages k ++ pick b (message_in w k ∷ []) []) used in (
          ap (λ (n : ℕ). n + 1) so-many ∙ sym (ap length e ∙ length-append (first_messages k) (message_in w k ∷ [])),
          rw (laid, so-many, here) (placed_more 64 no_message (first_messages k) (message_in w k) (omega (arith, first_messages_few k)) ∙ ap (placed 64 no_message) (sym e)),
        )

    pub first_messages_unused : x.number ≡ 0 → (many ≡ length (first_messages (k + 1))) × (messages ≡ placed 64 no_message (first_messages (k + 1)))
    unfolding is_message
    first_messages_unused none =
        let unused : not (eqb (message_in w k).number 0) ≡ false = ap (λ (m : Message). not (eqb m.number 0)) (sym here) ∙ ap (λ (n : ℕ). not (eqb n 0)) none in
        let e : first_messages (k + 1) ≡ first_messages k = first_messages_more k ∙ ap (λ (b : Bool). first_messages k ++ pick b (message_in w k ∷ []) []) unused ∙ append-nil (first_messages k) in
        (so-many ∙ ap length (sym e), laid ∙ ap (placed 64 no_message) (sym e))
