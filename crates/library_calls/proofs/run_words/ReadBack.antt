-- A state that fits its words is read back from words that hold it.
-- Assumes nothing.
use Rattle.std.specs.Prelude.{◌≡◌, ◌&&◌, ◌∷◌, ◌+◌, ◌-◌, ◌*◌, ◌/◌, ◌%◌, ◌≤◌, ◌<◌, None, Some}
use Rattle.laws.specs.Basics.{refl, sym, ◌∙◌, ap, Bool, true, false, not, List, [], ℕ, zero, suc, arith, eqb, ltb, leb, length, get_or, replicate, ne_eqb, eqb-true, lt-ltb, le-ltb, le-leb, leb-true, not-true, pick, by_eq}
use lib.Seq.{ext_get_or}
use Rattle.laws.specs.{Elements.every_table, Lists.table, Lists.placed, Lists.select, Prefixes.placed_length, Rows.by_lt, Rows.every_at, Select.all_chosen}
use Rattle.laws.specs.{Search.all_below, Search.all_out, Tables.length_table, Tables.get_d_table, Tables.table_is, Tables.table_replicate}
use Rattle.laws.specs.Truth.{and_out, or_in_right}
use Rattle.model.specs.Shapes.{Pin}
use Rattle.model.specs.declared.{Interval.Interval, Checkpoint.Checkpoint, Message.Message, Run.Run}
use Rattle.model.specs.Words.{most_processes, most_under_way, entry, zero_vector, no_pins_of, no_checkpoint, no_message, past_end}
use Rattle.model.specs.Sound.{zero_from, is_nothing_of, nothing_from, unused_checkpoint, unused_message}
use Rattle.words.specs.Layout.{word, count_of, kept_count_at_of, part_at, pins_at_of, index_at_of, stored_at, high_at, carried_at, index_of_def, pin_of_def, vector_in, pins_in, mark_in, checkpoint_in, is_kept_in, kept_in, message_in, is_message, messages_in, of_processes, decoded, end_fits_of, run_of}
use Rattle.words.proofs.{Reading.index_back, Reading.pin_back, Reading.wide2_back, Same.vector_is}
use Rattle.words.proofs.View.{run_fits, fits_by, placed_at, placed_past}
use Rattle.library_calls.specs.run_words.Fits.{past_messages, index_fits, pin_fits, message_fits, checkpoint_fits, place_fits, row_fits_of, one_fits, kept_fits, rows_fit_of, messages_fit_of, fits_words}
use Rattle.library_calls.specs.run_words.Filled.{pin_word, mark_word_of}
use Rattle.library_calls.proofs.run_words.Sizes.{Sized}
use Rattle.library_calls.proofs.run_words.Holding.{stored, message, HoldsProcess, HoldsStored, HoldsMessage, Holds}
use Rattle.in_place_recover.proofs.Found.{nothing_is}

-- What is unused is the unused one.
pub zero_vector_lem : (v : List Interval) → zero_from 0 v ≡ true → length v ≡ 16 → v ≡ zero_vector
unfolding zero_from
zero_vector_lem v e long =
    table_is (record { 0 = 0 }) v 16 (λ k. record { 0 = 0 }) long
    (λ k lt. ap (λ (x : ℕ). record { 0 = x }) (eqb-true (entry v k).0 0 (every_at (λ (x : Interval). eqb x.0 0) v k (record { 0 = 0 }) (omega arith) e)))
    ∙ sym (table_replicate 16 (record { 0 = 0 }))

pub no_pins : (pins : List Pin) → nothing_from 0 pins ≡ true → length pins ≡ 16 → pins ≡ no_pins_of
unfolding nothing_from
no_pins pins e long =
    table_is None pins 16 (λ k. None) long (λ k lt. nothing_is (get_or pins k None) (every_at is_nothing_of pins k None (omega arith) e))
    ∙ sym (table_replicate 16 None)

pub zero_checkpoint : (c : Checkpoint) → unused_checkpoint c ≡ true → length c.vector ≡ 16 → c ≡ no_checkpoint
unfolding unused_checkpoint
zero_checkpoint c e n =
    let d = and_out _ (eqb c.blocks 0) e in
    let b = and_out _ (eqb c.cause 0) d.0 in
    let q = and_out (eqb c.index.0 0) (zero_from 0 c.vector) b.0 in
    λ j. record {
      index = record { 0 = eqb-true c.index.0 0 q.0 j };
      vector = zero_vector_lem c.vector q.1 n j;
      cause = eqb-true c.cause 0 b.1 j;
      blocks = eqb-true c.blocks 0 d.1 j;
    }

pub zero_message : (x : Message) → unused_message x ≡ true → length x.vector ≡ 16 → x ≡ no_message
unfolding unused_message
zero_message x e n =
    let d = and_out _ (zero_from 0 x.vector) e in
    let c = and_out _ (eqb x.receiver 0) d.0 in
    let b = and_out (eqb x.number 0) (eqb x.sender 0) c.0 in
    λ j. record {
      number = eqb-true x.number 0 b.0 j;
      sender = eqb-true x.sender 0 b.1 j;
      receiver = eqb-true x.receiver 0 c.1 j;
      vector = zero_vector_lem x.vector d.1 n j;
    }

-- An entry of a list does not depend on what stands past its end.
pub same_entry : {A : Type 0} (l : List A) (k : ℕ) (d e : A) → k < length l → get_or l k d ≡ get_or l k e
same_entry [] k d e lt = absurd (omega arith)
same_entry (x ∷ l) zero d e lt = refl
same_entry (x ∷ l) (suc k) d e lt = same_entry l k d e (omega arith)

-- Words of a pin and of a mark.
pin_word_back : (pin : Pin) → pin_fits pin ≡ true → pin_of_def (pin_word pin) ≡ pin
unfolding pin_fits pin_word pin_of_def
pin_word_back None fit = refl
pin_word_back (Some a) fit = rw fit (pin_back a)

mark_back : (mark : Bool) → not (eqb (mark_word_of mark) 0) ≡ mark
unfolding mark_word_of
mark_back true = refl
mark_back false = refl

module _ (v : List ℕ) (s : Run) (h : Holds v s) (z : Sized s) (fit : fits_words s ≡ true) where
  -- The clauses of a state that fits.
  clauses : (s.count ≤ 16) × (s.underway ≤ 64) × (kept_fits s.kept.0 s.kept_count ≡ true)
      × (rows_fit_of s.count s.vectors.0 s.pins.0 s.kept_count s.sent ≡ true) × (messages_fit_of s.underway s.messages ≡ true)
  unfolding fits_words
  clauses =
      let d = and_out _ (messages_fit_of s.underway s.messages) fit in
      let c = and_out _ (rows_fit_of s.count s.vectors.0 s.pins.0 s.kept_count s.sent) d.0 in
      let b = and_out _ (kept_fits s.kept.0 s.kept_count) c.0 in
      let a = and_out (leb s.count 16) (leb s.underway 64) b.0 in
      (leb-true s.count 16 a.0, leb-true s.underway 64 a.1, b.1, c.1, d.1)

  few : s.count ≤ 16
  few = clauses.0

  most : s.underway ≤ 64
  most = clauses.1

  row_fits : (p : ℕ) → p < 16 → row_fits_of p s.count (get_or s.vectors.0 p []) (get_or s.pins.0 p []) (get_or s.kept_count p 0) (get_or s.sent p false) ≡ true
  unfolding rows_fit_of
  row_fits p lt = all_out 16 (λ q. row_fits_of q s.count (get_or s.vectors.0 q []) (get_or s.pins.0 q []) (get_or s.kept_count q 0) (get_or s.sent q false)) clauses.3 p lt

  place_fits_lem : (p k : ℕ) → p < 16 → k < 16 → place_fits k (get_or s.kept_count p 0) (stored s p 0).blocks (stored s p k) ≡ true
  unfolding kept_fits
  place_fits_lem p k lt less =
      let e : (16 * p + k) / 16 ≡ p = omega arith in
      let r : (16 * p + k) % 16 ≡ k = omega arith in
      let g = all_out 256 (λ q. place_fits (q % 16) (get_or s.kept_count (q / 16) 0) (stored s (q / 16) 0).blocks (stored s (q / 16) (q % 16))) clauses.2 (16 * p + k) (omega arith) in
      rw (e, r) at g

  one_fits_lem : (k : ℕ) → k < 64 → one_fits k s.underway (message s k) ≡ true
  unfolding messages_fit_of
  one_fits_lem k lt = all_out 64 (λ q. one_fits q s.underway (message s q)) clauses.4 k lt

  -- A process of the run.
  module _ (p : ℕ) (lt : p < s.count) (room : p < 16) where
    used_row : (get_or s.kept_count p 0 ≤ 16) × (all_below 16 (λ f. pin_fits (get_or (get_or s.pins.0 p []) f None)) ≡ true)
    unfolding row_fits_of
    used_row =
        let g = and_out (leb (get_or s.kept_count p 0) 16) (all_below 16 (λ f. pin_fits (get_or (get_or s.pins.0 p []) f None))) (rw (lt-ltb p s.count lt) at (row_fits p room)) in
        (leb-true (get_or s.kept_count p 0) 16 g.0, g.1)

    there : HoldsProcess v s p
    there = h.process p lt room used_row.0

    vector_row : get_or s.vectors.0 p [] ≡ vector_in v (part_at p)
    vector_row = sym (vector_is v (part_at p) (get_or s.vectors.0 p []) (z.vector_row p room) (λ f l. there.vector f l))

    pins_row : get_or s.pins.0 p [] ≡ pins_in v (pins_at_of p)
    unfolding pins_in
    pins_row = table_is None (get_or s.pins.0 p []) 16 (λ f. pin_of_def (word v (pins_at_of p + f))) (z.pin_row p room)
        (λ f l. sym (ap pin_of_def (there.pins f l) ∙ pin_word_back (get_or (get_or s.pins.0 p []) f None) (all_out 16 (λ q. pin_fits (get_or (get_or s.pins.0 p []) q None)) used_row.1 f l)))

    mark_row : get_or s.sent p false ≡ mark_in v p
    unfolding mark_in
    mark_row = sym (ap (λ (x : ℕ). not (eqb x 0)) there.mark ∙ mark_back (get_or s.sent p false))

    module _ (k : ℕ) (less : k < 16) where
      is_there_lem : k < get_or s.kept_count p 0 → stored s p k ≡ pick (is_kept_in v p k) (checkpoint_in v p k) no_checkpoint
      unfolding place_fits checkpoint_fits is_kept_in checkpoint_in
      is_there_lem under =
          let g = and_out (index_fits (stored s p k).index) (eqb (stored s p k).blocks (stored s p 0).blocks) (rw (lt-ltb k (get_or s.kept_count p 0) under) at (place_fits_lem p k room less)) in
          let o : HoldsStored v s p k = h.kept p k room less under g.0 in
          let used : ltb k (word v (kept_count_at_of p)) ≡ true = rw there.kept_count (lt-ltb k (get_or s.kept_count p 0) under) in
          let some : eqb (word v (index_at_of p k)) 0 ≡ false = rw o.index (ne_eqb ((stored s p k).index.0 + 1) 0 (λ e. omega arith)) in
          rw (used, some)
          (λ j. record {
            index = sym (ap (λ (x : ℕ). index_of_def x) o.index ∙ index_back (stored s p k).index) j;
            vector = sym (vector_is v (stored_at p k) (stored s p k).vector (z.stored p k room less) (λ f l. o.vector f l)) j;
            cause = sym o.cause j;
            blocks = (eqb-true (stored s p k).blocks (stored s p 0).blocks g.1 ∙ sym there.blocks) j;
          })

      is_none : get_or s.kept_count p 0 ≤ k → stored s p k ≡ pick (is_kept_in v p k) (checkpoint_in v p k) no_checkpoint
      unfolding place_fits is_kept_in
      is_none past =
          let g : unused_checkpoint (stored s p k) ≡ true = rw (le-ltb k (get_or s.kept_count p 0) past) at (place_fits_lem p k room less) in
          let unused : ltb k (word v (kept_count_at_of p)) ≡ false = rw there.kept_count (le-ltb k (get_or s.kept_count p 0) past) in
          rw unused (zero_checkpoint (stored s p k) g (z.stored p k room less))

    kept_row : get_or s.kept.0 p [] ≡ kept_in v p
    unfolding kept_in
    kept_row = table_is past_end (get_or s.kept.0 p []) 16 (λ k. pick (is_kept_in v p k) (checkpoint_in v p k) no_checkpoint) (z.kept_row p room)
        (λ k less. by_lt k (get_or s.kept_count p 0) (is_there_lem k less) (is_none k less))

  -- A row at n and above.
  module _ (p : ℕ) (le : s.count ≤ p) (room : p < 16) where
    unused_row : (zero_from 0 (get_or s.vectors.0 p []) ≡ true) × (nothing_from 0 (get_or s.pins.0 p []) ≡ true) × (get_or s.kept_count p 0 ≡ 0) × (get_or s.sent p false ≡ false)
    unfolding row_fits_of
    unused_row =
        let g : (zero_from 0 (get_or s.vectors.0 p []) && nothing_from 0 (get_or s.pins.0 p []) && eqb (get_or s.kept_count p 0) 0 && not (get_or s.sent p false)) ≡ true
        = rw (le-ltb p s.count le) at (row_fits p room) in
        let c = and_out _ (not (get_or s.sent p false)) g in
        let b = and_out _ (eqb (get_or s.kept_count p 0) 0) c.0 in
        let a = and_out (zero_from 0 (get_or s.vectors.0 p [])) (nothing_from 0 (get_or s.pins.0 p [])) b.0 in
        (a.0, a.1, eqb-true (get_or s.kept_count p 0) 0 b.1, not-true (get_or s.sent p false) c.1)

    kept_unused : get_or s.kept.0 p [] ≡ replicate most_processes no_checkpoint
    unfolding place_fits
    kept_unused = table_is past_end (get_or s.kept.0 p []) 16 (λ k. no_checkpoint) (z.kept_row p room)
        (λ k less. zero_checkpoint (stored s p k) (rw (le-ltb k (get_or s.kept_count p 0) (omega (arith, unused_row.2))) at (place_fits_lem p k room less)) (z.stored p k room less))
        ∙ sym (table_replicate 16 no_checkpoint)

  -- A table of all rows.
  rows_back : {A : Type 0} (d : A) (l : List A) (part : ℕ → A) (unused : A) → length l ≡ 16 → ((p : ℕ) → p < s.count → p < 16 → get_or l p d ≡ part p)
      → ((p : ℕ) → s.count ≤ p → p < 16 → get_or l p d ≡ unused) → of_processes v part unused ≡ l
  rows_back d l part unused long used past = sym (table_is d l 16 (λ p. pick (ltb p (count_of v)) (part p) unused) long
      (λ p lt. by_lt p s.count
      (λ less. used p less lt ∙ sym (ap (λ (x : Bool). pick x (part p) unused) (ap (ltb p) h.count ∙ lt-ltb p s.count less)))
      (λ le. past p le lt ∙ sym (ap (λ (x : Bool). pick x (part p) unused) (ap (ltb p) h.count ∙ le-ltb p s.count le)))))

  -- The messages.
  module _ (k : ℕ) (lt : k < s.underway) where
    message_fits_lem : message_fits (message s k) ≡ true
    unfolding one_fits
    message_fits_lem = rw (lt-ltb k s.underway lt) at (one_fits_lem k (omega (arith, most)))

    message_there : HoldsMessage v s k
    message_there = h.each_message k lt (omega (arith, most)) message_fits_lem

    message_back : message_in v k ≡ message s k
    unfolding message_in
    message_back = λ j. record {
      number = (ap (λ (x : ℕ). x + 65_536 * word v (high_at k)) message_there.low ∙ ap (λ (x : ℕ). (message s k).number % 65_536 + 65_536 * x) message_there.high ∙ wide2_back (message s k).number) j;
      sender = message_there.sender j;
      receiver = message_there.receiver j;
      vector = vector_is v (carried_at k) (message s k).vector (z.carried k (omega (arith, most))) (λ f l. message_there.vector f l) j;
    }

    is_message_lem : is_message (message_in v k) ≡ true
    unfolding is_message message_fits
    is_message_lem =
        let b = and_out _ (ltb (message s k).receiver 65_536) message_fits_lem in
        let a = and_out (not (eqb (message s k).number 0)) (ltb (message s k).sender 65_536) b.0 in
        ap (λ (x : Message). not (eqb x.number 0)) message_back ∙ a.0

  message_none : (k : ℕ) → s.underway ≤ k → k < 64 → message s k ≡ no_message
  unfolding one_fits
  message_none k le room = zero_message (message s k) (rw (le-ltb k s.underway le) at (one_fits_lem k room)) (z.carried k room)

  messages_in_lem : messages_in v ≡ table s.underway (message_in v)
  unfolding messages_in
  messages_in_lem =
      ap (λ (n : ℕ). select is_message (table n (message_in v))) h.end
      ∙ all_chosen is_message (table s.underway (message_in v)) (every_table is_message s.underway (message_in v) is_message_lem)

  many : length (messages_in v) ≡ s.underway
  many = ap length messages_in_lem ∙ length_table s.underway (message_in v)

  messages_back : placed most_under_way no_message (messages_in v) ≡ s.messages
  messages_back = ext_get_or no_message (placed most_under_way no_message (messages_in v)) s.messages
      (placed_length most_under_way no_message (messages_in v) (omega (arith, many, most)) ∙ sym z.messages)
      (λ k lt. let room : k < 64 = omega (arith, lt, placed_length most_under_way no_message (messages_in v) (omega (arith, many, most))) in
      by_lt k s.underway
      (λ less. placed_at most_under_way no_message (messages_in v) k (omega (arith, many)) ∙ ap (λ (l : List Message). get_or l k no_message) messages_in_lem
      ∙ get_d_table s.underway (message_in v) k no_message less ∙ message_back k less ∙ same_entry s.messages k past_messages no_message (omega (arith, z.messages)))
      (λ le. placed_past most_under_way no_message (messages_in v) k (omega (arith, many)) room
      ∙ sym (sym (same_entry s.messages k past_messages no_message (omega (arith, z.messages))) ∙ message_none k le room)))

  end_fits : end_fits_of v ≡ true
  unfolding end_fits_of
  end_fits = by_eq s.underway 0
      (λ e. rw (h.end, e))
      (λ ne. rw (h.end, le-leb s.underway 64 most, is_message_lem (s.underway - 1) (omega arith)) (or_in_right (eqb s.underway 0) true refl))

  pub read_back : run_of v ≡ s
  unfolding decoded
  read_back = run_fits v (fits_by v h.size end_fits) ∙ (λ j. record {
    count = h.count j;
    vectors = record { 0 = rows_back [] s.vectors.0 (λ p. vector_in v (part_at p)) zero_vector z.vectors vector_row (λ p le room. zero_vector_lem (get_or s.vectors.0 p []) (unused_row p le room).0 (z.vector_row p room)) j };
    pins = record { 0 = rows_back [] s.pins.0 (λ p. pins_in v (pins_at_of p)) no_pins_of z.pins pins_row (λ p le room. no_pins (get_or s.pins.0 p []) (unused_row p le room).1 (z.pin_row p room)) j };
    sent = rows_back false s.sent (mark_in v) false z.sent mark_row (λ p le room. (unused_row p le room).3) j;
    kept = record { 0 = rows_back [] s.kept.0 (kept_in v) (replicate most_processes no_checkpoint) z.kept kept_row kept_unused j };
    kept_count = rows_back 0 s.kept_count (λ p. word v (kept_count_at_of p)) 0 z.kept_count (λ p lt room. sym (there p lt room).kept_count) (λ p le room. (unused_row p le room).2) j;
    messages = messages_back j;
    underway = h.underway j;
    last = h.last j;
    disk = record { written = h.written j; deleted = h.deleted j };
  })
