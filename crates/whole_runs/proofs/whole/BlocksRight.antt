-- The blocks of a reached state are right: what the state carries is what the history says, the sum holds, and each kept checkpoint records its cause and its
-- process's block count.
-- Assumes nothing.
use Rattle.std.specs.Prelude.{◌≡◌, ◌&&◌, ◌-◌, ◌*◌, ◌<◌}
use Rattle.laws.specs.Basics.{sym, ◌∙◌, ap, true, ℕ, arith, eqb, eq-eqb}
use Rattle.laws.specs.{Counting.count_same, Sums.sum_below, Sums.sum_same, Tests.count_below, Tests.every, Truth.and_both}
use Rattle.model.specs.{declared.Disk.Disk, declared.Run.Run, Words.process}
use Rattle.histories.specs.History.{Lists, checkpoints}
use Rattle.whole_runs.specs.{Survival.Surviving, WholeRuns.BlocksAreRight}
use Rattle.histories.proofs.{Run.Ideal, Run.keeps, Counted.kept_in}
use Rattle.model.proofs.{simulation.View.checkpoint_of, simulation.View.disk_of, simulation.View.state_of, simulation.View.process_of, simulation.Kept.kept_every}
use Rattle.model.proofs.{simulation.Reads.disk_is, simulation.Reads.process_is, simulation.Billing.stored_blocks, simulation.Billing.stored_cause}
use Rattle.model.proofs.simulation.SoundCalls.{written_is}
use Rattle.whole_runs.proofs.whole.Reached.{Reached}

own_lists : (n : ℕ) (s : Run) (h : Surviving) (r : Ideal) → Reached n s h r → (p : ℕ) → checkpoints (h.lists p) ≡ r.own p
own_lists n s h r v p = ap (λ (l : Lists). checkpoints (l p)) v.agrees.lists ∙ sym (v.inv.counted p)

kept_sum : (n : ℕ) (s : Run) (h : Surviving) (r : Ideal) → Reached n s h r → sum_below n (λ p. count_below (checkpoints (h.lists p)) (h.kept p) * h.block_counts p) ≡ kept_in r
unfolding kept_in
kept_sum n s h r v =
    ap (λ (k : ℕ). sum_below k (λ p. count_below (checkpoints (h.lists p)) (h.kept p) * h.block_counts p)) (sym v.size)
    ∙ sum_same r.n _ _ (λ p hp.
    (λ j. count_below (own_lists n s h r v p j) (h.kept p) * v.agrees.block_counts j p)
    ∙ ap (λ (x : ℕ). x * r.ledger.block_counts p) (count_same (r.own p) (h.kept p) (keeps r p) (λ k lt. v.agrees.kept p k hp)))

deleted_is : (r : Ideal) → (state_of r).disk.deleted ≡ r.ledger.written - kept_in r
unfolding disk_of
deleted_is r = ap (λ (d : Disk). d.deleted) (disk_is r)

recorded_in : (n : ℕ) (s : Run) (h : Surviving) (r : Ideal) → Reached n s h r → (p : ℕ) → p < r.n
    → every (λ c. eqb c.cause (h.cause p c.index.0) && eqb c.blocks (h.block_counts p)) (process (state_of r) p).kept ≡ true
unfolding process_of checkpoint_of
recorded_in n s h r v p hp = rw (process_is r p v.limits.few_processes hp) (kept_every r p _ (λ k lt e. and_both _ _
    (eq-eqb _ _ (stored_cause r p k lt ∙ sym (ap (λ (c : ℕ → ℕ → ℕ). c p k) v.agrees.cause)))
    (eq-eqb _ _ (stored_blocks r p k lt ∙ sym (ap (λ (c : ℕ → ℕ). c p) v.agrees.block_counts)))))

pub reached_blocks : (n : ℕ) (s : Run) (h : Surviving) (r : Ideal) → Reached n s h r → BlocksAreRight n s h
reached_blocks n s h r v = record {
  written_in_state = ap (λ (t : Run). t.disk.written) v.state ∙ written_is r v.inv v.limits ∙ sym v.agrees.written;
  deleted_in_state = ap (λ (t : Run). t.disk.deleted) v.state ∙ deleted_is r ∙ omega (arith, v.agrees.deleted);
  balance = omega (arith, v.agrees.written, v.agrees.deleted, kept_sum n s h r v);
  recorded = λ p hp. rw v.state (recorded_in n s h r v p (rw v.size hp));
}
