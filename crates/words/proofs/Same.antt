-- Words that agree on a section are read the same there, and what was put is read back.
-- Assumes nothing.
use Rattle.std.specs.Prelude.{◌≡◌, ◌∷◌, ◌+◌, ◌*◌, ◌≤◌, ◌<◌}
use Rattle.laws.specs.Basics.{refl, sym, ap, List, [], ℕ, arith, length, get_or}
use Rattle.laws.specs.Tables.{length_table, get_d_table, table_same, table_is}
use Rattle.model.specs.declared.Interval.{Interval}
use Rattle.model.specs.Words.{entry}
use Rattle.words.specs.Layout.{word, kept_count_at_of, blocks_at_of, index_at_of, cause_at_of, stored_at, low_at, high_at, sender_at_of, receiver_at_of, carried_at, interval_of, pin_of_def, row_in, vector_in, pins_in, checkpoint_in, is_kept_in, kept_in, message_in}
use Rattle.words.specs.Puts.{puts, vector_put}
use Rattle.words.proofs.Reading.{touched}

-- Rows have 16 entries, and these are the words.
pub row_length : (w : List ℕ) (at : ℕ) → length (row_in w at) ≡ 16
unfolding row_in
row_length w at = length_table 16 _

pub vector_length : (w : List ℕ) (at : ℕ) → length (vector_in w at) ≡ 16
unfolding vector_in
vector_length w at = length_table 16 _

pub pins_length : (w : List ℕ) (at : ℕ) → length (pins_in w at) ≡ 16
unfolding pins_in
pins_length w at = length_table 16 _

pub row_word : (w : List ℕ) (at f : ℕ) → f < 16 → get_or (row_in w at) f 0 ≡ word w (at + f)
unfolding row_in
row_word w at f lt = get_d_table 16 (λ q. word w (at + q)) f 0 lt

pub vector_word : (w : List ℕ) (at f : ℕ) → f < 16 → entry (vector_in w at) f ≡ interval_of (word w (at + f))
unfolding vector_in
vector_word w at f lt = get_d_table 16 (λ q. interval_of (word w (at + q))) f (record { 0 = 0 }) lt

-- Two lists of words that agree on 16 words, from a in the one and from b in the other.
module _ (w v : List ℕ) (a b : ℕ) (same : (f : ℕ) → f < 16 → word w (a + f) ≡ word v (b + f)) where
  pub row_same : row_in w a ≡ row_in v b
  unfolding row_in
  row_same = table_same 16 _ _ same

  pub vector_same : vector_in w a ≡ vector_in v b
  unfolding vector_in
  vector_same = table_same 16 _ _ (λ f lt. ap (λ (x : ℕ). interval_of x) (same f lt))

  pub pins_same : pins_in w a ≡ pins_in v b
  unfolding pins_in
  pins_same = table_same 16 _ _ (λ f lt. ap pin_of_def (same f lt))

-- A vector that stands in words is read.
pub vector_is : (w : List ℕ) (at : ℕ) (v : List Interval) → length v ≡ 16 → ((f : ℕ) → f < 16 → word w (at + f) ≡ (entry v f).0) → vector_in w at ≡ v
unfolding vector_in
vector_is w at v long same = sym (table_is (record { 0 = 0 }) v 16 (λ f. interval_of (word w (at + f))) long (λ f lt. ap (λ (x : ℕ). interval_of x) (sym (same f lt))))

-- What was put is read back.
pub vector_back : (w : List ℕ) (at : ℕ) (v : List Interval) → length v ≡ 16 → at + 16 ≤ length w → vector_in (puts w (vector_put at v ∷ [])) at ≡ v
vector_back w at v long fits = vector_is (puts w (vector_put at v ∷ [])) at v long (λ f lt. touched w (vector_put at v ∷ []) 0 f (at + f) (refl, lt, fits, tt))

-- The kept checkpoint in place k of p in the one, in place j of q in the other.
pub checkpoint_moved : (w v : List ℕ) (p q k j : ℕ) → word w (index_at_of p k) ≡ word v (index_at_of q j) → word w (cause_at_of p k) ≡ word v (cause_at_of q j)
    → word w (blocks_at_of p) ≡ word v (blocks_at_of q) → ((f : ℕ) → f < 16 → word w (stored_at p k + f) ≡ word v (stored_at q j + f)) → checkpoint_in w p k ≡ checkpoint_in v q j
unfolding checkpoint_in
checkpoint_moved w v p q k j a b c d = rw (a, b, c, vector_same w v (stored_at p k) (stored_at q j) d)

-- Two that agree on how many process p keeps, on its block count and on its places of kept checkpoints.
module _ (w v : List ℕ) (p : ℕ) (kept_count_of_def : word w (kept_count_at_of p) ≡ word v (kept_count_at_of p)) (blocks : word w (blocks_at_of p) ≡ word v (blocks_at_of p))
    (same : (k : ℕ) → 96 + 320 * p ≤ k → k < 384 + 320 * p → word w k ≡ word v k) where
  pub checkpoint_same : (k : ℕ) → k < 16 → checkpoint_in w p k ≡ checkpoint_in v p k
  checkpoint_same k lt = checkpoint_moved w v p p k k
      (same (index_at_of p k) (omega arith) (omega arith))
      (same (cause_at_of p k) (omega arith) (omega arith))
      blocks
      (λ f less. same (stored_at p k + f) (omega arith) (omega arith))

  is_kept_same : (k : ℕ) → k < 16 → is_kept_in w p k ≡ is_kept_in v p k
  unfolding is_kept_in
  is_kept_same k lt = rw (kept_count_of_def, same (index_at_of p k) (omega arith) (omega arith))

  pub kept_same : kept_in w p ≡ kept_in v p
  unfolding kept_in
  kept_same = table_same 16 _ _ (λ k lt. rw (is_kept_same k lt, checkpoint_same k lt))

-- The message in place k of the one, in place j of the other.
pub message_same : (w v : List ℕ) (k j : ℕ) → word w (low_at k) ≡ word v (low_at j) → word w (high_at k) ≡ word v (high_at j) → word w (sender_at_of k) ≡ word v (sender_at_of j)
    → word w (receiver_at_of k) ≡ word v (receiver_at_of j) → ((f : ℕ) → f < 16 → word w (carried_at k + f) ≡ word v (carried_at j + f)) → message_in w k ≡ message_in v j
unfolding message_in
message_same w v k j a b c d e = cc (vector_same w v (carried_at k) (carried_at j) e)
