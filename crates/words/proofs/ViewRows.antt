-- What the rows of words hold whose run is sound: no entry above the own entry that it is of, zeros at n and above, each pin at a kept checkpoint and each kept
-- checkpoint pinned.
-- Assumes nothing.
use Rattle.std.specs.Prelude.{◌≡◌, ◌+◌, ◌≤◌, ◌<◌, None}
use Rattle.laws.specs.Basics.{ap, Bool, true, List, ℕ, arith, eqb, leb, get_or, eqb-true, leb-true}
use Rattle.laws.specs.{Lists.table, Rows.every_at, Rows.every_beyond, Rows.some_where, Search.all_out, Tables.length_table, Tables.get_d_table, Tests.every}
use Rattle.model.specs.Shapes.{Pin}
use Rattle.model.specs.declared.{Interval.Interval, Checkpoint.Checkpoint}
use Rattle.model.specs.{Words.entry, Words.names, Words.is_pinned, Words.no_checkpoint, Words.process, Words.own, Sound.within, Sound.zero_from, Sound.sound}
use Rattle.words.specs.Layout.{word, count_of, kept_count_at_of, part_at, pins_at_of, index_at_of, stored_at, pin_of_def, vector_in, pins_in, checkpoint_in, run_of}
use Rattle.words.specs.Parts.{process_in}
use Rattle.words.proofs.{Reading.pinned_word, Same.vector_length, Same.vector_word, Same.pins_length, View.count_is_lem}
use Rattle.words.proofs.ViewSound.{sound_fits, sound_few, sound_known, sound_process_is, sound_own_is, sound_kept_is, sound_part}

pins_word : (w : List ℕ) (at f : ℕ) → f < 16 → get_or (pins_in w at) f None ≡ pin_of_def (word w (at + f))
unfolding pins_in
pins_word w at f lt = get_d_table 16 (λ q. pin_of_def (word w (at + q))) f None lt

module _ (w : List ℕ) (h : sound (run_of w) ≡ true) where
  count : (run_of w).count ≡ count_of w
  count = count_is_lem w (sound_fits w h)

  within_word : (at : ℕ) → within (run_of w) (vector_in w at) ≡ true → (f : ℕ) → f < count_of w → word w (at + f) ≤ word w (part_at f + f)
  unfolding within
  within_word at e f lt =
      let one = leb-true (entry (vector_in w at) f).0 (own (run_of w) f).0 (all_out (run_of w).count (λ q. leb (entry (vector_in w at) q).0 (own (run_of w) q).0) e f (omega (arith, count))) in
      omega (arith, ap (λ (x : Interval). x.0) (vector_word w at f (omega (arith, sound_few w h))), ap (λ (x : Interval). x.0) (sound_own_is w h f lt))

  zero_word : (at : ℕ) → zero_from (run_of w).count (vector_in w at) ≡ true → (f : ℕ) → count_of w ≤ f → f < 16 → word w (at + f) ≡ 0
  unfolding zero_from
  zero_word at e f le lt =
      let one = every_beyond (λ (x : Interval). eqb x.0 0) (run_of w).count (vector_in w at) f (record { 0 = 0 }) e (omega (arith, count)) (omega (arith, vector_length w at)) in
      eqb-true (word w (at + f)) 0 (rw (vector_word w at f lt) at one)

  module _ (p : ℕ) (lt : p < count_of w) where
    -- "No vector (current, stored ..) has an entry for f above f's own current entry." Unused places hold zero.
    pub vector_within : (f : ℕ) → f < count_of w → word w (part_at p + f) ≤ word w (part_at f + f)
    unfolding process_in
    vector_within = within_word (part_at p) (rw (sound_process_is w h p lt) at (sound_known w h p lt).current_within)

    pub vector_zero : (f : ℕ) → count_of w ≤ f → f < 16 → word w (part_at p + f) ≡ 0
    unfolding process_in
    vector_zero = zero_word (part_at p) (rw (sound_process_is w h p lt) at (sound_known w h p lt).vector_unused)

    -- a test that every kept checkpoint passes, in its place
    kept_fact : (t : Checkpoint → Bool) → every t (process (run_of w) p).kept ≡ true → (k : ℕ) → k < word w (kept_count_at_of p) → t (checkpoint_in w p k) ≡ true
    kept_fact t e k less =
        let all : every t (table (word w (kept_count_at_of p)) (checkpoint_in w p)) ≡ true = rw (sound_kept_is w h p lt) at e in
        let one = every_at t (table (word w (kept_count_at_of p)) (checkpoint_in w p)) k no_checkpoint (omega (arith, length_table (word w (kept_count_at_of p)) (checkpoint_in w p))) all in
        rw (get_d_table (word w (kept_count_at_of p)) (checkpoint_in w p) k no_checkpoint less) at one

    pub stored_within : (k : ℕ) → k < word w (kept_count_at_of p) → (f : ℕ) → f < count_of w → word w (stored_at p k + f) ≤ word w (part_at f + f)
    unfolding checkpoint_in
    stored_within k less = within_word (stored_at p k) (kept_fact (λ c. within (run_of w) c.vector) (sound_known w h p lt).stored_within k less)

    pub stored_zero : (k : ℕ) → k < word w (kept_count_at_of p) → (f : ℕ) → count_of w ≤ f → f < 16 → word w (stored_at p k + f) ≡ 0
    unfolding checkpoint_in
    stored_zero k less = zero_word (stored_at p k) (kept_fact (λ c. zero_from (run_of w).count c.vector) (sound_known w h p lt).stored_unused k less)

    pub kept_pinned : (k : ℕ) → k < word w (kept_count_at_of p) → (f : ℕ) × (f < 16) × (word w (pins_at_of p + f) ≡ word w (index_at_of p k))
    unfolding process_in checkpoint_in is_pinned
    kept_pinned k less =
        let e = kept_fact (is_pinned (process (run_of w) p).pins) (sound_known w h p lt).kept_pinned k less in
        let some = rw (sound_process_is w h p lt) at e in
        let found = some_where (λ (pin : Pin). names pin (checkpoint_in w p k).index) (pins_in w (pins_at_of p)) None some in
        let under : found.0 < 16 = omega (arith, found.1, pins_length w (pins_at_of p)) in
        (found.0, under, pinned_word (word w (pins_at_of p + found.0)) (word w (index_at_of p k)) ((sound_part w h p lt).used k less) (rw (pins_word w (pins_at_of p) found.0 under) at found.2))
