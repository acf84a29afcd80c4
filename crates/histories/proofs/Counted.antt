-- Blocks over a step: those of the kept checkpoints and of those that the step stores are those of the checkpoints kept after it and of those that go.
use Rattle.std.specs.Prelude.{◌≡◌, ◌&&◌, ◌+◌, ◌-◌, ◌*◌, ◌≤◌, ◌<◌}
use Rattle.laws.specs.Basics.{refl, sym, ◌∙◌, ap, true, false, not, inl, inr, ℕ, suc, arith, pick, by_bool}
use native.Mathlib.Nat.{add-mul}
use Rattle.laws.specs.{Counting.count_none, Counting.count_split, Counting.count_wider, Sums.sum_below, Sums.sum_none, Sums.sum_only, Sums.sum_both}
use Rattle.laws.specs.Tests.{count_below}
use Rattle.histories.proofs.Run.{Ideal, Ledger, Failed, keeps, stores, checkpointed, sending, forces, taken_by, taken_in, delivered, lost, recovered}
use Rattle.histories.proofs.{Invariant.Inv, Line.keeps_below, Keeping.Moved, Keeping.moved_new, RecoveredStates.recovered_own_le}
use Rattle.histories.proofs.CheckpointedViews.{checkpointed_own, checkpointed_own_other}
use Rattle.histories.proofs.DeliveredViews.{delivered_own_forced, delivered_own_plain, delivered_own_other}

-- The blocks of all kept checkpoints; of those that are kept in one run and not in another; of those that a step stores.
unfoldable pub kept_in : Ideal → ℕ
kept_in r = sum_below r.n (λ p. count_below (r.own p) (keeps r p) * r.ledger.block_counts p)

unfoldable pub gone_in : Ideal → Ideal → ℕ
gone_in r r' = sum_below r.n (λ p. count_below (r.own p) (λ k. keeps r p k && not (keeps r' p k)) * r.ledger.block_counts p)

unfoldable pub new_in : Ideal → Ideal → ℕ
new_in r r' = sum_below r.n (λ p. (r'.own p - r.own p) * r.ledger.block_counts p)

-- A step keeps the block counts, and writes what it stores.
pub record Paid (r r' : Ideal) : Type 0 where
  pub block_counts : r'.ledger.block_counts ≡ r.ledger.block_counts
  pub written : r'.ledger.written ≡ r.ledger.written + new_in r r'

module _ (r r' : Ideal) (v : Inv r) (v' : Inv r') (w : Moved r r') where
  -- What was kept among the old checkpoints, and no longer is.
  split : (p : ℕ) → count_below (r.own p) (keeps r p) ≡ count_below (r.own p) (keeps r' p) + count_below (r.own p) (λ k. keeps r p k && not (keeps r' p k))
  split p = count_split (r.own p) (keeps r p) (keeps r' p) (w.back p)

  not_above : (p k : ℕ) → r'.own p ≤ k → keeps r' p k ≡ false
  not_above p k le = by_bool (keeps r' p k) (λ e. absurd (omega (arith, keeps_below r' v' p k e))) (λ e. e)

  one_more : (p : ℕ) → r'.own p ≡ suc (r.own p) → count_below (r'.own p) (keeps r' p) ≡ suc (count_below (r.own p) (keeps r' p))
  unfolding count_below
  one_more p e = rw (e, moved_new r r' w v' p (r.own p) (omega arith) (omega (arith, e))) (omega arith)

  -- One process.
  one : (p : ℕ) → count_below (r.own p) (keeps r p) + (r'.own p - r.own p)
      ≡ count_below (r'.own p) (keeps r' p) + count_below (r.own p) (λ k. keeps r p k && not (keeps r' p k))
  one p = elim (w.one p) [
    | inl le ↦ omega (arith, split p, count_wider (r'.own p) (r.own p) (keeps r' p) le (λ k a b. not_above p k a))
    | inr z ↦ omega (arith, split p, z.1, one_more p z.1)
  ]

  one_blocks : (p c : ℕ) → count_below (r.own p) (keeps r p) * c + (r'.own p - r.own p) * c
      ≡ count_below (r'.own p) (keeps r' p) * c + count_below (r.own p) (λ k. keeps r p k && not (keeps r' p k)) * c
  one_blocks p c =
      sym (add-mul (count_below (r.own p) (keeps r p)) (r'.own p - r.own p) c)
      ∙ ap (λ (x : ℕ). x * c) (one p)
      ∙ add-mul (count_below (r'.own p) (keeps r' p)) (count_below (r.own p) (λ k. keeps r p k && not (keeps r' p k))) c

  -- All processes together.
  kept_by : r'.ledger.block_counts ≡ r.ledger.block_counts → kept_in r' ≡ sum_below r.n (λ p. count_below (r'.own p) (keeps r' p) * r.ledger.block_counts p)
  unfolding kept_in
  kept_by e = λ j. sum_below (w.size j) (λ p. count_below (r'.own p) (keeps r' p) * e j p)

  over : kept_in r + new_in r r' ≡ sum_below r.n (λ p. count_below (r'.own p) (keeps r' p) * r.ledger.block_counts p) + gone_in r r'
  unfolding kept_in new_in gone_in
  over = sum_both r.n _ _ _ _ (λ p lt. one_blocks p (r.ledger.block_counts p))

  pub blocks_over : r'.ledger.block_counts ≡ r.ledger.block_counts → kept_in r + new_in r r' ≡ kept_in r' + gone_in r r'
  blocks_over e = over ∙ ap (λ (x : ℕ). x + gone_in r r') (sym (kept_by e))

  module _ (t : Paid r r') (fits : kept_in r ≤ r.ledger.written) where
    -- What is kept is never more than was written,
    pub paid_on : kept_in r' ≤ r'.ledger.written
    paid_on = omega (arith, t.written, blocks_over t.block_counts)

    -- and the rest was deleted.
    pub deleted_on : (r.ledger.written - kept_in r) + gone_in r r' ≡ r'.ledger.written - kept_in r'
    deleted_on = omega (arith, t.written, blocks_over t.block_counts, fits)

none_times : (a x : ℕ) → a ≡ 0 → a * x ≡ 0
none_times a x e = rw e (omega arith)

-- Where the others keep what they kept, what goes is of one process.
pub gone_one : (r r' : Ideal) (i : ℕ) → i < r.n → ((p k : ℕ) → (p ≡ i → ⊥) → keeps r' p k ≡ keeps r p k)
    → gone_in r r' ≡ count_below (r.own i) (λ k. keeps r i k && not (keeps r' i k)) * r.ledger.block_counts i
unfolding gone_in
gone_one r r' i hi same = sum_only r.n _ i hi (λ p lt ne. none_times (count_below (r.own p) (λ k. keeps r p k && not (keeps r' p k))) (r.ledger.block_counts p)
    (count_none (r.own p) (λ k. keeps r p k && not (keeps r' p k)) (λ k less. rw (same p k ne) (by_bool (keeps r p k) (λ e. rw e) (λ e. rw e)))))

-- A step that keeps what was kept.
pub gone_none : (r r' : Ideal) → ((p k : ℕ) → keeps r' p k ≡ keeps r p k) → gone_in r r' ≡ 0
unfolding gone_in
gone_none r r' same = sum_none r.n _ (λ p lt. none_times (count_below (r.own p) (λ k. keeps r p k && not (keeps r' p k))) (r.ledger.block_counts p)
    (count_none (r.own p) (λ k. keeps r p k && not (keeps r' p k)) (λ k less. rw (same p k) (by_bool (keeps r p k) (λ e. rw e) (λ e. rw e)))))

-- A step that stores nothing.
new_none : (r r' : Ideal) → ((p : ℕ) → r'.own p ≤ r.own p) → new_in r r' ≡ 0
unfolding new_in
new_none r r' h = sum_none r.n _ (λ p lt. none_times (r'.own p - r.own p) (r.ledger.block_counts p) (none_of p))
  where
    none_of : (p : ℕ) → r'.own p - r.own p ≡ 0
    none_of p = omega (arith, h p)

-- A step that stores one checkpoint of process i.
new_one : (r r' : Ideal) (i : ℕ) → i < r.n → r'.own i ≡ suc (r.own i) → ((p : ℕ) → (p ≡ i → ⊥) → r'.own p ≡ r.own p) → new_in r r' ≡ r.ledger.block_counts i
unfolding new_in
new_one r r' i hi e h =
    sum_only r.n _ i hi (λ p lt ne. none_times (r'.own p - r.own p) (r.ledger.block_counts p) (none_of p ne))
    ∙ ap (λ (x : ℕ). x * r.ledger.block_counts i) once
    ∙ once_is (r.ledger.block_counts i)
  where
    none_of : (p : ℕ) → (p ≡ i → ⊥) → r'.own p - r.own p ≡ 0
    none_of p ne = omega (arith, h p ne)

    once : r'.own i - r.own i ≡ 1
    once = omega (arith, e)

    once_is : (x : ℕ) → 1 * x ≡ x
    once_is x = omega arith

-- Each step pays for what it stores.
pub checkpointed_new : (r : Ideal) (i : ℕ) → i < r.n → new_in r (checkpointed r i) ≡ r.ledger.block_counts i
checkpointed_new r i hi = new_one r (checkpointed r i) i hi (checkpointed_own r i) (checkpointed_own_other r i)

pub delivered_new_forced : (r : Ideal) (m : ℕ) → r.receiver m < r.n → forces r m ≡ true → new_in r (delivered r m) ≡ r.ledger.block_counts (r.receiver m)
delivered_new_forced r m hi e = new_one r (delivered r m) (r.receiver m) hi (delivered_own_forced r m e) (delivered_own_other r m)

pub delivered_new_plain : (r : Ideal) (m : ℕ) → forces r m ≡ false → new_in r (delivered r m) ≡ 0
delivered_new_plain r m e = new_none r (delivered r m) (λ p. omega (arith, delivered_own_plain r m e p))

pub checkpointed_paid : (r : Ideal) (i : ℕ) → i < r.n → Paid r (checkpointed r i)
unfolding checkpointed stores
checkpointed_paid r i hi = record { block_counts = refl; written = ap (λ (x : ℕ). r.ledger.written + x) (sym (checkpointed_new r i hi)) }

pub sending_new : (r : Ideal) (i j : ℕ) → new_in r (sending r i j) ≡ 0
unfolding sending
sending_new r i j = new_none r (sending r i j) (λ p. omega arith)

pub sending_paid : (r : Ideal) (i j : ℕ) → Paid r (sending r i j)
unfolding sending
sending_paid r i j = record { block_counts = refl; written = omega (arith, sending_new r i j) }

pub lost_new : (r : Ideal) (m : ℕ) → new_in r (lost r m) ≡ 0
unfolding lost
lost_new r m = new_none r (lost r m) (λ p. omega arith)

pub lost_paid : (r : Ideal) (m : ℕ) → Paid r (lost r m)
unfolding lost
lost_paid r m = record { block_counts = refl; written = omega (arith, lost_new r m) }

pub still_new : (r : Ideal) → new_in r r ≡ 0
still_new r = new_none r r (λ p. omega arith)

pub recovered_new : (r : Ideal) → Inv r → (F : Failed) → new_in r (recovered r F) ≡ 0
recovered_new r v F = new_none r (recovered r F) (recovered_own_le r v F)

pub recovered_ledger : (r : Ideal) (F : Failed) → (recovered r F).ledger ≡ r.ledger
unfolding recovered
recovered_ledger r F = refl

pub recovered_paid : (r : Ideal) → Inv r → (F : Failed) → Paid r (recovered r F)
recovered_paid r v F = record {
  block_counts = ap (λ (l : Ledger). l.block_counts) (recovered_ledger r F);
  written = ap (λ (l : Ledger). l.written) (recovered_ledger r F) ∙ omega (arith, recovered_new r v F);
}

-- A delivery: as a checkpoint, if it forces one.
delivered_ledger : (r : Ideal) (m : ℕ) → (delivered r m).ledger ≡ pick (forces r m) (stores r (r.receiver m)) r.ledger
unfolding delivered taken_in taken_by checkpointed
delivered_ledger r m = by_bool (forces r m) (λ e. rw e) (λ e. rw e)

pub delivered_ledger_forced : (r : Ideal) (m : ℕ) → forces r m ≡ true → (delivered r m).ledger ≡ stores r (r.receiver m)
delivered_ledger_forced r m e = delivered_ledger r m ∙ rw e

pub delivered_ledger_plain : (r : Ideal) (m : ℕ) → forces r m ≡ false → (delivered r m).ledger ≡ r.ledger
delivered_ledger_plain r m e = delivered_ledger r m ∙ rw e

stored_counts : (r : Ideal) (i : ℕ) → (stores r i).block_counts ≡ r.ledger.block_counts
unfolding stores
stored_counts r i = refl

stored_written : (r : Ideal) (i : ℕ) → (stores r i).written ≡ r.ledger.written + r.ledger.block_counts i
unfolding stores
stored_written r i = refl

pub counts_delivered : (r : Ideal) (m : ℕ) → (delivered r m).ledger.block_counts ≡ r.ledger.block_counts
counts_delivered r m = by_bool (forces r m)
    (λ e. ap (λ (l : Ledger). l.block_counts) (delivered_ledger_forced r m e) ∙ stored_counts r (r.receiver m))
    (λ e. ap (λ (l : Ledger). l.block_counts) (delivered_ledger_plain r m e))

pub delivered_paid : (r : Ideal) (m : ℕ) → r.receiver m < r.n → Paid r (delivered r m)
delivered_paid r m hi = by_bool (forces r m)
    (λ e. record {
      block_counts = counts_delivered r m;
      written = ap (λ (l : Ledger). l.written) (delivered_ledger_forced r m e) ∙ stored_written r (r.receiver m) ∙ ap (λ (x : ℕ). r.ledger.written + x) (sym (delivered_new_forced r m hi e));
    })
    (λ e. record {
      block_counts = counts_delivered r m;
      written = ap (λ (l : Ledger). l.written) (delivered_ledger_plain r m e) ∙ omega (arith, delivered_new_plain r m e);
    })
