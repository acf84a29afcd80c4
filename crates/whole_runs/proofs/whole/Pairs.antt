-- Deletions as pairs in a lent list: which pairs an answer hands out, and how many there can be.
-- Assumes nothing.
use Rattle.std.specs.Prelude.{◌≡◌, ◌&&◌, ◌∷◌, ◌+◌, ◌*◌, ◌≤◌, ◌<◌}
use Rattle.laws.specs.Basics.{refl, sym, ◌∙◌, ap, Bool, List, [], ℕ, zero, suc, arith, eqb, length, get_or}
use native.Mathlib.Nat.{not-suc-le-zero}
use lib.ListN.{length-map}
use Rattle.laws.specs.{Front.get_d_written, Ranges.any_same, Select.some_table, Sums.sum_below, Sums.sum_same, Sums.sum_front, Tables.table_is, Tests.some_of}
use Rattle.model.specs.{declared.Checkpoint.Checkpoint, Steps.Deletion, Steps.listed}
use Rattle.whole_runs.specs.{Outcomes.pairs, Outcomes.written, Calls.Reply, Survival.handed_out_of}

-- A deletion is that of checkpoint k of process p.
abbrev pub deletes : ℕ → ℕ → Deletion → Bool
deletes p k d = eqb d.process p && eqb d.index.0 k

abbrev none_deleted : Deletion
none_deleted = record { process = 0; index = record { 0 = 0 } }

-- As many deletions are listed as there are checkpoints.
pub length_listed : (p : ℕ) (l : List Checkpoint) → length (listed p l) ≡ length l
unfolding listed
length_listed p l = length-map l _

-- The numbers of the pairs, by place.
pub length_pairs : (ds : List Deletion) → length (pairs ds) ≡ 2 * length ds
unfolding pairs
length_pairs [] = refl
length_pairs (d ∷ ds) = omega (arith, length_pairs ds)

pub double : (j : ℕ) → 2 * suc j ≡ suc (suc (2 * j))
double j = omega arith

pairs_process : (ds : List Deletion) (j : ℕ) → j < length ds → get_or (pairs ds) (2 * j) 0 ≡ (get_or ds j none_deleted).process
unfolding pairs
pairs_process [] j h = absurd (not-suc-le-zero h)
pairs_process (d ∷ ds) zero h = refl
pairs_process (d ∷ ds) (suc j) h = rw (double j) (pairs_process ds j (omega arith))

pairs_index : (ds : List Deletion) (j : ℕ) → j < length ds → get_or (pairs ds) (2 * j + 1) 0 ≡ (get_or ds j none_deleted).index.0
unfolding pairs
pairs_index [] j h = absurd (not-suc-le-zero h)
pairs_index (d ∷ ds) zero h = refl
pairs_index (d ∷ ds) (suc j) h = rw (after_next j) (pairs_index ds j (omega arith))
  where
    after_next : (j : ℕ) → 2 * suc j + 1 ≡ suc (suc (2 * j + 1))
    after_next j = omega arith

-- An answer hands out exactly the pairs of its deletions.
pub handed_out : (reply : Reply) (lent : List ℕ) (ds : List Deletion) (p k : ℕ)
    → reply.deleted ≡ written lent (pairs ds) → reply.report.deletions ≡ length ds → 2 * length ds ≤ length lent
    → handed_out_of reply p k ≡ some_of (deletes p k) ds
unfolding handed_out_of
handed_out reply lent ds p k written-so counted fits =
    rw (counted, written-so)
    (any_same (length ds) _ _ (λ j h. rw (
      get_d_written lent (pairs ds) (omega (arith, length_pairs ds)) (2 * j) 0 (omega (arith, length_pairs ds)),
      get_d_written lent (pairs ds) (omega (arith, length_pairs ds)) (2 * j + 1) 0 (omega (arith, length_pairs ds)),
      pairs_process ds j h,
      pairs_index ds j h,
    ))
    ∙ sym (some_table (deletes p k) (length ds) (λ j. get_or ds j none_deleted))
    ∙ ap (some_of (deletes p k)) (sym (table_is none_deleted ds (length ds) (λ j. get_or ds j none_deleted) refl (λ j h. refl))))

-- The sum of a weight of the processes of some deletions.
unfoldable pub weigh : (ℕ → ℕ) → List Deletion → ℕ
weigh c [] = 0
weigh c (d ∷ ds) = c d.process + weigh c ds

weigh_is : (c : ℕ → ℕ) (ds : List Deletion) → sum_below (length ds) (λ j. c (get_or ds j none_deleted).process) ≡ weigh c ds
unfolding weigh sum_below
weigh_is c [] = refl
weigh_is c (d ∷ ds) = sum_front (length ds) (λ j. c (get_or (d ∷ ds) j none_deleted).process) ∙ ap (λ (x : ℕ). c d.process + x) (weigh_is c ds)

-- The pairs that an answer hands out have the processes of its deletions.
pub handed_weight : (reply : Reply) (lent : List ℕ) (ds : List Deletion) (c : ℕ → ℕ)
    → reply.deleted ≡ written lent (pairs ds) → reply.report.deletions ≡ length ds → 2 * length ds ≤ length lent
    → sum_below reply.report.deletions (λ j. c (get_or reply.deleted (2 * j) 0)) ≡ weigh c ds
handed_weight reply lent ds c written-so counted fits =
    rw (counted, written-so)
    (sum_same (length ds) _ _ (λ j h. ap c (get_d_written lent (pairs ds) (omega (arith, length_pairs ds)) (2 * j) 0 (omega (arith, length_pairs ds)) ∙ pairs_process ds j h))
    ∙ weigh_is c ds)
