-- Blocks on the state that stands for a run: those of a process's checkpoints that pass a test, a process's block count, the disk after a step.
-- Assumes nothing.
use Rattle.std.specs.Prelude.{◌≡◌, ◌&&◌, ◌∷◌, ◌++◌, ◌+◌, ◌-◌, ◌*◌, ◌≤◌, ◌<◌}
use Rattle.laws.specs.Basics.{sym, ◌∙◌, ap, Bool, true, not, List, [], append-nil, ℕ, zero, suc, arith, eqb, length, get_or, eq-eqb, eqb-true, lt-ltb, by_bool}
use native.Mathlib.Nat.{add-mul}
use Rattle.laws.specs.{Sums.sum_below, Sums.sum_same, Tests.count_below, Tests.every, Truth.and_left}
use Rattle.model.specs.declared.Checkpoint.{Checkpoint}
use Rattle.model.specs.{Words.blocks_of, Words.no_checkpoint, Words.block_count, Steps.billed}
use Rattle.histories.proofs.{Run.Ideal, Run.keeps, Invariant.Inv, Keeping.Moved}
use Rattle.histories.proofs.Counted.{kept_in, gone_in, new_in, Paid, gone_one, deleted_on}
use Rattle.model.proofs.simulation.View.{passing, checkpoint_of, kept_of, process_of, disk_of}
use Rattle.model.proofs.simulation.Kept.{kept_every, kept_least}

-- Blocks of two lists together.
blocks_append : (a b : List Checkpoint) → blocks_of (a ++ b) ≡ blocks_of a + blocks_of b
unfolding blocks_of
blocks_append [] b = omega arith
blocks_append (c ∷ a) b = omega (arith, blocks_append a b)

-- A stored checkpoint has its process's count.
pub stored_blocks : (r : Ideal) (p k : ℕ) → k < r.own p → (checkpoint_of r p k).blocks ≡ r.ledger.block_counts p
unfolding checkpoint_of
stored_blocks r p k lt = rw (lt-ltb k (r.own p) lt)

pub stored_cause : (r : Ideal) (p k : ℕ) → k < r.own p → (checkpoint_of r p k).cause ≡ r.ledger.cause p k
unfolding checkpoint_of
stored_cause r p k lt = rw (lt-ltb k (r.own p) lt)

-- The blocks of the stored checkpoints of a process that pass a test.
pub blocks_passing : (r : Ideal) (p k : ℕ) (t : ℕ → Bool) → k ≤ r.own p → blocks_of (passing k t (checkpoint_of r p)) ≡ count_below k t * r.ledger.block_counts p
unfolding passing count_below blocks_of
blocks_passing r p zero t le = omega arith
blocks_passing r p (suc k) t le = by_bool (t k)
    (λ e. rw (e, blocks_append (passing k t (checkpoint_of r p)) (checkpoint_of r p k ∷ []), blocks_passing r p k t (omega arith), stored_blocks r p k (omega arith))
    (omega (arith, add-mul (count_below k t) 1 (r.ledger.block_counts p))))
    (λ e. rw (e, append-nil (passing k t (checkpoint_of r p)), blocks_passing r p k t (omega arith)) (omega (arith, add-mul (count_below k t) 0 (r.ledger.block_counts p))))

-- The blocks of all that a process keeps.
pub blocks_kept : (r : Ideal) (p : ℕ) → blocks_of (kept_of r p) ≡ count_below (r.own p) (keeps r p) * r.ledger.block_counts p
unfolding kept_of
blocks_kept r p = blocks_passing r p (r.own p) (keeps r p) (omega arith)

-- The first of a list of checkpoints that all have the same count.
first_count : (l : List Checkpoint) (b : ℕ) → 1 ≤ length l → every (λ c. eqb c.blocks b) l ≡ true → (get_or l 0 no_checkpoint).blocks ≡ b
unfolding every
first_count [] b some-kept e = absurd (omega arith)
first_count (c ∷ l) b some-kept e = eqb-true c.blocks b (and_left (eqb c.blocks b) (every (λ c. eqb c.blocks b) l) e)

-- A process's block count is the run's.
pub count_of : (r : Ideal) → Inv r → (p : ℕ) → p < r.n → block_count (process_of r p) ≡ r.ledger.block_counts p
unfolding block_count process_of
count_of r v p hp = first_count (kept_of r p) (r.ledger.block_counts p) (kept_least r v p hp)
    (kept_every r p _ (λ k lt e. eq-eqb (checkpoint_of r p k).blocks (r.ledger.block_counts p) (stored_blocks r p k lt)))

-- What goes, of one process and of all.
pub gone_blocks : (r r' : Ideal) (i : ℕ) → i < r.n → ((p k : ℕ) → (p ≡ i → ⊥) → keeps r' p k ≡ keeps r p k)
    → blocks_of (passing (r.own i) (λ k. keeps r i k && not (keeps r' i k)) (checkpoint_of r i)) ≡ gone_in r r'
gone_blocks r r' i hi same = blocks_passing r i (r.own i) _ (omega arith) ∙ sym (gone_one r r' i hi same)

pub gone_all : (r r' : Ideal) → sum_below r.n (λ p. blocks_of (passing (r.own p) (λ k. keeps r p k && not (keeps r' p k)) (checkpoint_of r p))) ≡ gone_in r r'
unfolding gone_in
gone_all r r' = sum_same r.n _ _ (λ p lt. blocks_passing r p (r.own p) _ (omega arith))

-- The disk after a step that stores and deletes that many blocks.
pub billed_is : (r r' : Ideal) → Inv r → Inv r' → Moved r r' → Paid r r' → kept_in r ≤ r.ledger.written → (more less : ℕ) → more ≡ new_in r r' → less ≡ gone_in r r'
    → billed (disk_of r) more less ≡ disk_of r'
unfolding billed disk_of
billed_is r r' v v' w t fits more less em el = λ j. record {
  written = (ap (λ (x : ℕ). r.ledger.written + x) em ∙ sym t.written) j;
  deleted = (ap (λ (x : ℕ). (r.ledger.written - kept_in r) + x) el ∙ deleted_on r r' v v' w t fits) j;
}
