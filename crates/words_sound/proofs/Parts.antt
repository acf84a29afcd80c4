-- The run that the words stand for, part by part: what its definitions read is at a place of the words.
-- Assumes nothing.
use Rattle.std.specs.Prelude.{◌≡◌, ◌&&◌, ◌||◌, ◌+◌, ◌-◌, ◌≤◌, ◌<◌}
use Rattle.laws.specs.Basics.{refl, sym, ◌∙◌, ap, Bool, true, not, List, [], ℕ, arith, eqb, ltb, leb, get_or, take, drop, replicate, eq-eqb, eqb-true, lt-ltb, le-ltb, le-leb, leb-true, pick, by_bool}
use Rattle.laws.specs.{Elements.same_test, Elements.every_from, Lists.table, Ranges.all_same, Search.all_below, Search.all_out, Tests.every}
use Rattle.laws.specs.Tables.{length_table, get_d_table, table_same}
use Rattle.model.specs.{declared.Interval.Interval, declared.Checkpoint.Checkpoint, Sound.within, Sound.zero_from, Sound.unused_checkpoint}
use Rattle.model.specs.Words.{most_processes, entry, zero_vector, no_pins_of, no_checkpoint, process, own}
use Rattle.words.specs.Layout.{word, count_of, kept_count_at_of, part_at, pins_at_of, vector_in, pins_in, checkpoint_in, is_kept_in, kept_in, of_processes, decoded}
use Rattle.words.proofs.Same.{vector_word}
use Rattle.words_sound.specs.Test.{own_in, most, row_within_of, index_in_of}
use Rattle.words_sound.proofs.Laws.{every_after, all_split, take_table}

-- At most 0 is 0.
pub least : (x : ℕ) → leb x 0 ≡ eqb x 0
least x = same_test (leb x 0) (eqb x 0)
    (λ e. eq-eqb x 0 (omega (arith, leb-true x 0 e)))
    (λ e. le-leb x 0 (omega (arith, eqb-true x 0 e)))

pub none_unused : unused_checkpoint no_checkpoint ≡ true
unfolding unused_checkpoint zero_from every
none_unused = refl

-- The entries of a vector from n on.
zero_rest : (w : List ℕ) (n at : ℕ) → zero_from n (vector_in w at) ≡ all_below most_processes (λ f. ltb f n || eqb (word w (at + f)) 0)
unfolding zero_from vector_in
zero_rest w n at = every_after (λ (x : Interval). eqb x.0 0) n most_processes (λ f. record { 0 = word w (at + f) })

module _ (w : List ℕ) (high : count_of w ≤ 16) where
  of_below : {A : Type 0} (part : ℕ → A) (unused d : A) (p : ℕ) → p < count_of w → get_or (of_processes w part unused) p d ≡ part p
  of_below part unused d p lt = get_d_table most_processes (λ q. pick (ltb q (count_of w)) (part q) unused) p d (omega arith) ∙ rw (lt-ltb p (count_of w) lt)

  -- Nothing is in use from n on.
  pub of_after : {A : Type 0} (t : A → Bool) (part : ℕ → A) (unused : A) → t unused ≡ true → every t (drop (count_of w) (of_processes w part unused)) ≡ true
  of_after t part unused e = every_from t unused (count_of w) (of_processes w part unused)
      (λ p from lt. let under : p < 16 = rw (length_table most_processes (λ q. pick (ltb q (count_of w)) (part q) unused)) at lt in
      rw (get_d_table most_processes (λ q. pick (ltb q (count_of w)) (part q) unused) p unused under, le-ltb p (count_of w) from) e)

  pub count_at : (decoded w).count ≡ count_of w
  unfolding decoded
  count_at = refl

  module _ (p : ℕ) (lt : p < count_of w) where
    pub vector_at : (process (decoded w) p).vector ≡ vector_in w (part_at p)
    unfolding process decoded
    vector_at = of_below (λ q. vector_in w (part_at q)) zero_vector [] p lt

    pub pins_at_lem : (process (decoded w) p).pins ≡ pins_in w (pins_at_of p)
    unfolding process decoded
    pins_at_lem = of_below (λ q. pins_in w (pins_at_of q)) no_pins_of [] p lt

    pub kept_count_at_lem : get_or (decoded w).kept_count p 0 ≡ word w (kept_count_at_of p)
    unfolding decoded
    kept_count_at_lem = of_below (λ q. word w (kept_count_at_of q)) 0 0 p lt

    pub row_at : get_or (decoded w).kept.0 p [] ≡ kept_in w p
    unfolding decoded
    row_at = of_below (kept_in w) (replicate most_processes no_checkpoint) [] p lt

    kept_taken : (process (decoded w) p).kept ≡ take (get_or (decoded w).kept_count p 0) (get_or (decoded w).kept.0 p [])
    unfolding process
    kept_taken = refl

    abbrev place : ℕ → Checkpoint
    place k = pick (is_kept_in w p k) (checkpoint_in w p k) no_checkpoint

    pub kept_table : word w (kept_count_at_of p) ≤ 16 → (process (decoded w) p).kept ≡ table (word w (kept_count_at_of p)) (λ k. pick (is_kept_in w p k) (checkpoint_in w p k) no_checkpoint)
    unfolding kept_in
    kept_table few = kept_taken ∙ rw (kept_count_at_lem, row_at) (take_table (word w (kept_count_at_of p)) most_processes place few)

    -- Where no index is 0, the kept checkpoints are those that the words hold.
    pub kept_at : word w (kept_count_at_of p) ≤ 16 → all_below (word w (kept_count_at_of p)) (λ k. not (eqb (index_in_of w p k) 0)) ≡ true
        → (process (decoded w) p).kept ≡ table (word w (kept_count_at_of p)) (checkpoint_in w p)
    unfolding is_kept_in
    kept_at few filled = kept_table few ∙ table_same (word w (kept_count_at_of p)) place (checkpoint_in w p)
        (λ k less. rw (lt-ltb k (word w (kept_count_at_of p)) less, all_out (word w (kept_count_at_of p)) (λ k. not (eqb (index_in_of w p k) 0)) filled k less))

    -- The places after the kept checkpoints are not in use.
    pub rest_unused : every unused_checkpoint (drop (word w (kept_count_at_of p)) (kept_in w p)) ≡ true
    unfolding kept_in is_kept_in
    rest_unused = every_from unused_checkpoint no_checkpoint (word w (kept_count_at_of p)) (table most_processes place)
        (λ k from less. let under : k < 16 = rw (length_table most_processes place) at less in
        rw (get_d_table most_processes place k no_checkpoint under, le-ltb k (word w (kept_count_at_of p)) from) none_unused)

    pub own_at : (own (decoded w) p).0 ≡ own_in w p
    unfolding own
    own_at = rw vector_at (ap (λ (x : Interval). x.0) (vector_word w (part_at p) p (omega arith)))

  -- A vector is within the own entries, and zero from n on: no entry of its row is above what it may be at most.
  pub row_within : (at : ℕ) → (within (decoded w) (vector_in w at) && zero_from (decoded w).count (vector_in w at)) ≡ row_within_of w at
  unfolding within row_within_of most decoded
  row_within at =
      rw (count_at, zero_rest w (count_of w) at)
      (ap (λ b. b && all_below most_processes (λ f. ltb f (count_of w) || eqb (word w (at + f)) 0)) (all_same (count_of w) (λ f. leb (entry (vector_in w at) f).0 (own (decoded w) f).0) (λ f. leb (word w (at + f)) (own_in w f))
      (λ f lt. rw (own_at f lt) (ap (λ (x : Interval). leb x.0 (own_in w f)) (vector_word w at f (omega arith)))))
      ∙ all_split (count_of w) most_processes (λ f. leb (word w (at + f)) (own_in w f)) (λ f. eqb (word w (at + f)) 0) high
      ∙ all_same most_processes (λ f. pick (ltb f (count_of w)) (leb (word w (at + f)) (own_in w f)) (eqb (word w (at + f)) 0)) (λ f. leb (word w (at + f)) (pick (ltb f (count_of w)) (own_in w f) 0))
      (λ f lt. by_bool (ltb f (count_of w)) (λ e. rw e) (λ e. rw e (sym (least (word w (at + f)))))))
