-- A sound state fits its words.
-- Assumes nothing.
use Rattle.std.specs.Prelude.{◌≡◌, ◌&&◌, ◌-◌, ◌/◌, ◌%◌, ◌≤◌, ◌<◌, None}
use Rattle.laws.specs.Basics.{refl, sym, ◌∙◌, ap, true, false, not, List, [], Option, Some, ℕ, suc, arith, eqb, length, get_or, take, length-take-le, ne_eqb, eqb-true, lt-ltb, le-ltb, le-leb, by_eq}
use lib.Seq.{get_or-take}
use Rattle.laws.specs.{Lists.or_else, Lists.last_of, Rows.by_lt, Rows.every_at, Rows.every_beyond, Rows.some_where, Rows.last_take, Search.all_in, Tests.every}
use Rattle.laws.specs.Truth.{and_out, and_both}
use Rattle.model.specs.Shapes.{Pin}
use Rattle.model.specs.declared.{Checkpoint.Checkpoint, CheckpointIndex.CheckpointIndex, Run.Run}
use Rattle.model.specs.declared.Message.{Message}
use Rattle.model.specs.Words.{names, no_checkpoint, past_end, block_count, process, own, under_way}
use Rattle.model.specs.Sound.{cause_sound, is_block_count_of, record_sound, pin_sound, message_sound, zero_from, nothing_from, unused_checkpoint, unused_message, sound}
use Rattle.model.specs.laws.Sound.{SoundProcess, SoundState, sound_state, sound_message}
use Rattle.words.proofs.Ascending.{ascending_least, ascending_less}
use Rattle.library_calls.specs.run_words.Fits.{past_messages, index_fits, pin_fits, message_fits, checkpoint_fits, place_fits, row_fits_of, one_fits, kept_fits, rows_fit_of, messages_fit_of, fits_words}
use Rattle.library_calls.proofs.{run_words.Sizes.Sized, run_words.Holding.stored, run_words.Holding.message, run_words.ReadBack.same_entry}

index_fits_lem : (a : CheckpointIndex) → a.0 < 65535 → index_fits a ≡ true
unfolding index_fits
index_fits_lem a small = ap not (ne_eqb a.0 65535 (λ e. omega arith))

module _ (s : Run) (h : sound s ≡ true) (z : Sized s) where
  st : SoundState s
  st = sound_state s h

  few : s.count ≤ 16
  few = st.count_most

  module _ (p : ℕ) (lt : p < s.count) where
    room : p < 16
    room = omega (arith, few)

    known : SoundProcess s p
    known = st.processes p lt

    abbrev kept_count_of_def : ℕ
    kept_count_of_def = get_or s.kept_count p 0

    kept_count_few : kept_count_of_def ≤ 16
    kept_count_few = omega (arith, known.kept_count_most, few)

    abbrev row : List Checkpoint
    row = get_or s.kept.0 p []

    kept_is : (process s p).kept ≡ take kept_count_of_def row
    unfolding process
    kept_is = refl

    long : length (take kept_count_of_def row) ≡ kept_count_of_def
    long = length-take-le kept_count_of_def row (omega (arith, z.kept_row p room, kept_count_few))

    at : (k : ℕ) → k < kept_count_of_def → get_or (take kept_count_of_def row) k past_end ≡ stored s p k
    at k less = get_or-take kept_count_of_def row k past_end less

    last_at : (stored s p (kept_count_of_def - 1)).index.0 ≡ (own s p).0 - 1
    last_at =
        let e : kept_count_of_def ≡ suc (kept_count_of_def - 1) = omega (arith, known.kept_count_some) in
        let l : last_of (take kept_count_of_def row) ≡ Some (stored s p (kept_count_of_def - 1)) = ap (λ (n : ℕ). last_of (take n row)) e ∙ last_take row (kept_count_of_def - 1) past_end (omega (arith, z.kept_row p room, kept_count_few, known.kept_count_some)) in
        let m : or_else (last_of (process s p).kept) no_checkpoint ≡ stored s p (kept_count_of_def - 1) = ap (λ (q : List Checkpoint). or_else (last_of q) no_checkpoint) kept_is ∙ ap (λ (o : Option Checkpoint). or_else o no_checkpoint) l in
        sym (ap (λ (c : Checkpoint). c.index.0) m) ∙ known.kept_last

    below_own : (k : ℕ) → k < kept_count_of_def → (stored s p k).index.0 < (own s p).0
    below_own k less = by_eq k (kept_count_of_def - 1)
        (λ e. omega (arith, last_at, known.own_some, ap (λ (j : ℕ). (stored s p j).index.0) e))
        (λ ne.
        let g = ascending_less (λ (c : Checkpoint). c.index.0) past_end 0 (take kept_count_of_def row) k (kept_count_of_def - 1) (rw kept_is at known.kept_ascend) (omega arith) (omega (arith, long)) in
        let i : (stored s p k).index.0 < (stored s p (kept_count_of_def - 1)).index.0 = rw (at k less, at (kept_count_of_def - 1) (omega arith)) at g in
        omega (arith, last_at))

    -- A vector's entry has 16 bits, and so has the own entry.
    own_small : (own s p).0 < 65536
    unfolding own process
    own_small = z.own_small p room

    index_small : (k : ℕ) → k < kept_count_of_def → (stored s p k).index.0 < 65535
    index_small k less = omega (arith, below_own k less, own_small)

    all_long : length (process s p).kept ≡ kept_count_of_def
    all_long = ap length kept_is ∙ long

    all_at : (k : ℕ) → k < kept_count_of_def → get_or (process s p).kept k past_end ≡ stored s p k
    all_at k less = ap (λ (l : List Checkpoint). get_or l k past_end) kept_is ∙ at k less

    first_blocks : 0 < kept_count_of_def → block_count (process s p) ≡ (stored s p 0).blocks
    unfolding block_count
    first_blocks any = ap (λ (c : Checkpoint). c.blocks) (same_entry (process s p).kept 0 no_checkpoint past_end (omega (arith, all_long)) ∙ all_at 0 any)

    blocks_same : (k : ℕ) → k < kept_count_of_def → eqb (stored s p k).blocks (stored s p 0).blocks ≡ true
    unfolding record_sound
    blocks_same k less =
        let one = every_at (record_sound (process s p)) (process s p).kept k past_end (omega (arith, all_long)) known.records_sound in
        let e : eqb (get_or (process s p).kept k past_end).blocks (block_count (process s p)) ≡ true
        = (and_out (cause_sound (get_or (process s p).kept k past_end).index.0 (get_or (process s p).kept k past_end).cause && is_block_count_of (get_or (process s p).kept k past_end).blocks) (eqb (get_or (process s p).kept k past_end).blocks (block_count (process s p))) one).1 in
        ap (λ (c : Checkpoint). eqb c.blocks (stored s p 0).blocks) (sym (all_at k less)) ∙ ap (eqb (get_or (process s p).kept k past_end).blocks) (sym (first_blocks (omega arith))) ∙ e

    used_fits : (k : ℕ) → k < 16 → place_fits k kept_count_of_def (stored s p 0).blocks (stored s p k) ≡ true
    unfolding place_fits checkpoint_fits
    used_fits k less = by_lt k kept_count_of_def
        (λ under. rw (lt-ltb k kept_count_of_def under, index_fits_lem (stored s p k).index (index_small k under)) (blocks_same k under))
        (λ past. rw (le-ltb k kept_count_of_def past) (every_beyond unused_checkpoint kept_count_of_def row k past_end known.row_unused_lem past (omega (arith, z.kept_row p room))))

    pin_fits_lem : (pin : Pin) → pin_sound (process s p).kept pin ≡ true → pin_fits pin ≡ true
    unfolding pin_sound pin_fits
    pin_fits_lem None e = refl
    pin_fits_lem (Some a) e =
        let o = some_where (λ (c : Checkpoint). names (Some a) c.index) (take kept_count_of_def row) past_end (rw kept_is at e) in
        let less : o.0 < kept_count_of_def = omega (arith, o.1, long) in
        let same : a.0 ≡ (stored s p o.0).index.0 = eqb-true a.0 (stored s p o.0).index.0 (rw (at o.0 less) at o.2) in
        index_fits_lem a (omega (arith, index_small o.0 less))

    pins_fit : (f : ℕ) → f < 16 → pin_fits (get_or (get_or s.pins.0 p []) f None) ≡ true
    unfolding process
    pins_fit f less = pin_fits_lem (get_or (get_or s.pins.0 p []) f None) (every_at (pin_sound (process s p).kept) (get_or s.pins.0 p []) f None (omega (arith, z.pin_row p room)) known.pins_kept)

    used_row : row_fits_of p s.count (get_or s.vectors.0 p []) (get_or s.pins.0 p []) kept_count_of_def (get_or s.sent p false) ≡ true
    unfolding row_fits_of
    used_row = rw (lt-ltb p s.count lt, le-leb kept_count_of_def 16 kept_count_few) (all_in 16 (λ f. pin_fits (get_or (get_or s.pins.0 p []) f None)) pins_fit)

  module _ (p : ℕ) (le : s.count ≤ p) (lt : p < 16) where
    none_kept_count : get_or s.kept_count p 0 ≡ 0
    none_kept_count = sym (eqb-true 0 (get_or s.kept_count p 0) (every_beyond (eqb 0) s.count s.kept_count p 0 st.kept_count_beyond le (omega (arith, z.kept_count))))

    unused_fits : (k : ℕ) → k < 16 → place_fits k (get_or s.kept_count p 0) (stored s p 0).blocks (stored s p k) ≡ true
    unfolding place_fits
    unused_fits k less = rw (le-ltb k (get_or s.kept_count p 0) (omega (arith, none_kept_count)))
        (every_at unused_checkpoint (get_or s.kept.0 p []) k past_end (omega (arith, z.kept_row p lt)) (every_beyond (every unused_checkpoint) s.count s.kept.0 p [] st.kept_beyond le (omega (arith, z.kept))))

    unused_row : row_fits_of p s.count (get_or s.vectors.0 p []) (get_or s.pins.0 p []) (get_or s.kept_count p 0) (get_or s.sent p false) ≡ true
    unfolding row_fits_of
    unused_row = rw (
      le-ltb p s.count le,
      every_beyond (zero_from 0) s.count s.vectors.0 p [] st.vectors_beyond le (omega (arith, z.vectors)),
      every_beyond (nothing_from 0) s.count s.pins.0 p [] st.pins_beyond le (omega (arith, z.pins)),
      none_kept_count,
    ) (every_beyond not s.count s.sent p false st.sent_beyond le (omega (arith, z.sent)))

  module _ (k : ℕ) (lt : k < 64) where
    under_way_is : under_way s ≡ take s.underway s.messages
    unfolding under_way
    under_way_is = refl

    one_fits_lem : one_fits k s.underway (message s k) ≡ true
    unfolding one_fits message_fits
    one_fits_lem = by_lt k s.underway
        (λ less.
        let long : length (take s.underway s.messages) ≡ s.underway = length-take-le s.underway s.messages (omega (arith, z.messages, st.underway_most)) in
        let at : get_or (take s.underway s.messages) k past_messages ≡ message s k = get_or-take s.underway s.messages k past_messages less in
        let one = ascending_least (λ (x : Message). x.number) past_messages 1 (take s.underway s.messages) k (rw under_way_is at st.messages_ascend) (omega (arith, long)) in
        let numbered : 1 ≤ (message s k).number = rw at at one in
        let all = every_at (message_sound s) (take s.underway s.messages) k past_messages (omega (arith, long)) (rw under_way_is at st.messages_sound_lem) in
        let m = sound_message s (message s k) (rw at at all) in
        rw (lt-ltb k s.underway less, ne_eqb (message s k).number 0 (λ e. omega arith), lt-ltb (message s k).sender 65_536 (omega (arith, m.from, few)), lt-ltb (message s k).receiver 65_536 (omega (arith, m.to, few))))
        (λ le. rw (le-ltb k s.underway le) (every_beyond unused_message s.underway s.messages k past_messages st.messages_unused le (omega (arith, z.messages))))

  pub sound_fits : fits_words s ≡ true
  unfolding fits_words kept_fits rows_fit_of messages_fit_of
  sound_fits = rw (le-leb s.count 16 few, le-leb s.underway 64 st.underway_most)
      (and_both _ _
      (and_both _ _
      (all_in 256 (λ q. place_fits (q % 16) (get_or s.kept_count (q / 16) 0) (stored s (q / 16) 0).blocks (stored s (q / 16) (q % 16)))
      (λ q lt. by_lt (q / 16) s.count (λ less. used_fits (q / 16) less (q % 16) (omega arith)) (λ le. unused_fits (q / 16) le (omega arith) (q % 16) (omega arith))))
      (all_in 16 (λ p. row_fits_of p s.count (get_or s.vectors.0 p []) (get_or s.pins.0 p []) (get_or s.kept_count p 0) (get_or s.sent p false))
      (λ p lt. by_lt p s.count (used_row p) (λ le. unused_row p le lt))))
      (all_in 64 (λ k. one_fits k s.underway (message s k)) one_fits_lem))
