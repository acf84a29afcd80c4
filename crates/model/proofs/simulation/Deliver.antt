-- A delivery: the state after it stands for the run after it, and the deleted ones are those that were kept and are kept no more.
-- Assumes nothing.
use Rattle.std.specs.Prelude.{◌≡◌, ◌&&◌, ◌≤◌, ◌<◌}
use Rattle.laws.specs.Basics.{refl, sym, ◌∙◌, ap, true, false, not, ℕ, arith, pick, by_bool}
use Rattle.model.specs.declared.Disk.{Disk}
use Rattle.model.specs.Words.{forced, most_processes, live, blocks_of, block_count, process}
use Rattle.model.specs.Steps.{settled, listed, gone, deletions, billed, deliver_state, deliver_deletions, others}
use Rattle.histories.proofs.{Run.Ideal, Run.Ledger, Run.keeps, Run.checkpointed, Run.taken_by, Run.taken_in, Run.forces, Run.delivered, Run.lost, Invariant.Inv}
use Rattle.histories.proofs.{Keeping.delivered_moved, Delivered.delivered_inv, Rule.keeps_in}
use Rattle.histories.proofs.Counted.{kept_in, new_in, delivered_new_forced, delivered_new_plain, delivered_paid}
use Rattle.histories.proofs.CheckpointedViews.{checkpointed_n, checkpointed_own, checkpointed_own_other, checkpointed_vector, checkpointed_mark, checkpointed_mark_other, checkpointed_pin, checkpointed_pin_row, checkpointed_last}
use Rattle.histories.proofs.TakenInViews.{taken_in_n, taken_in_own, taken_in_vector, taken_in_mark, taken_in_pin_other, taken_in_last}
use Rattle.model.proofs.simulation.View.{passing, vector_of, checkpoint_of, kept_of, process_of, message_of, messages_of, disk_of, state_of}
use Rattle.model.proofs.{simulation.Reads.last_is_lem, simulation.Reads.disk_is, simulation.Reads.process_is, simulation.Stepping.one_part_messages}
use Rattle.model.proofs.{simulation.Rows.keeps_same, simulation.Rows.process_same, simulation.Rows.standing, simulation.Messages.others_are}
use Rattle.model.proofs.simulation.Checkpoint.{checkpoint_vector, checkpoint_pins, checkpoint_kept, checkpoint_standing, checkpoint_gone, checkpoint_index, cause_other, counts_same}
use Rattle.model.proofs.simulation.Taking.{taken_ledger, forces_is, taken_own_pin, taken_process, taken_gone}
use Rattle.model.proofs.simulation.Billing.{count_of, gone_blocks, billed_is}
use Rattle.model.specs.Steps as steps
use Rattle.histories.proofs.Run as ideal

-- Taking in a message leaves the other processes' parts.
taken_others : (r : Ideal) (m p : ℕ) → (p ≡ r.receiver m → ⊥) → process_of (taken_in r m) p ≡ process_of r p
taken_others r m p ne = process_same r (taken_in r m) p (taken_in_n r m) (taken_in_own r m p)
    (λ k f le hf. taken_in_vector r m p k f (λ a b. ne a)) (taken_in_mark r m p) (λ f hf. taken_in_pin_other r m p f ne)
    (ap (λ (l : Ledger). l.cause p) (taken_ledger r m)) (ap (λ (l : Ledger). l.block_counts p) (taken_ledger r m))

module _ (r : Ideal) (m : ℕ) (few : r.n ≤ most_processes) (hi : r.receiver m < r.n)
    (self : r.vector (r.receiver m) (r.own (r.receiver m)) (r.receiver m) ≡ r.own (r.receiver m)) where
  -- Whether the answer names a forced checkpoint, and its index.
  pub deliver_forces : steps.forces (process (state_of r) (r.receiver m)) (message_of r m).vector ≡ forces r m
  unfolding message_of
  deliver_forces = rw (process_is r (r.receiver m) few hi) (forces_is r m few)

  pub deliver_index : (live (r.receiver m) (process (state_of r) (r.receiver m))).index.0 ≡ r.own (r.receiver m)
  deliver_index = checkpoint_index r (r.receiver m) few hi self

-- The run says that a checkpoint stored now is a forced one.
module _ (r : Ideal) (v : Inv r) (m : ℕ) (few : r.n ≤ most_processes) (hi : r.receiver m < r.n) (asked : r.ledger.why ≡ forced) where
  abbrev i : ℕ
  i = r.receiver m

  abbrev r₁ : Ideal
  r₁ = checkpointed r i

  self : r.vector (r.receiver m) (r.own (r.receiver m)) (r.receiver m) ≡ r.own (r.receiver m)
  self = v.self (r.receiver m) (r.own (r.receiver m)) (omega arith)

  -- The two ways of a delivery, with and without a forced checkpoint.
  plain : forces r m ≡ false → delivered r m ≡ taken_in r m
  unfolding delivered
  plain e = rw e

  taking : forces r m ≡ true → delivered r m ≡ taken_in r₁ m
  unfolding delivered
  taking e = rw e

  plain_part : forces r m ≡ false → steps.delivered i (vector_of r.n (r.carried m)) (process_of r i) ≡ steps.taken_in i (vector_of r.n (r.carried m)) (process_of r i)
  unfolding steps.delivered
  plain_part e = rw (forces_is r m few, e)

  forced_part : forces r m ≡ true → steps.delivered i (vector_of r.n (r.carried m)) (process_of r i)
      ≡ steps.taken_in i (vector_of r.n (r.carried m)) (steps.checkpointed r.ledger.why i (process_of r i))
  unfolding steps.delivered
  forced_part e = rw (forces_is r m few, e, asked)

  -- Without a forced checkpoint.
  plain_process : settled (steps.taken_in i (vector_of r.n (r.carried m)) (process_of r i)) ≡ process_of (taken_in r m) i
  unfolding process_of kept_of
  plain_process = taken_process r m few hi (process_of r i) (keeps r i) refl refl refl refl (λ k lt q. q)

  plain_gone : gone (steps.taken_in i (vector_of r.n (r.carried m)) (process_of r i))
      ≡ passing (r.own i) (λ k. keeps r i k && not (keeps (taken_in r m) i k)) (checkpoint_of r i)
  unfolding process_of kept_of
  plain_gone = taken_gone r m few hi (process_of r i) (keeps r i) refl refl refl refl

  -- With a forced checkpoint: i's part is that of the run after the checkpoint, with all states of before among the checkpoints.
  forced_mark : (steps.checkpointed r.ledger.why i (process_of r i)).mark ≡ r₁.mark i
  unfolding steps.checkpointed
  forced_mark = sym (checkpointed_mark r i)

  forced_kept : (steps.checkpointed r.ledger.why i (process_of r i)).kept ≡ passing (r₁.own i) (standing r i) (checkpoint_of r₁ i)
  forced_kept = rw (checkpointed_own r i) (checkpoint_kept r v i few hi)

  forced_few : r₁.n ≤ most_processes
  forced_few = rw (checkpointed_n r i) few

  forced_in : r₁.receiver m < r₁.n
  unfolding checkpointed
  forced_in = hi

  forced_vector : (steps.checkpointed r.ledger.why i (process_of r i)).vector ≡ vector_of r₁.n (r₁.vector i (r₁.own i))
  forced_vector = rw (checkpointed_n r i) (checkpoint_vector r v i few hi)

  forced_process : settled (steps.taken_in i (vector_of r.n (r.carried m)) (steps.checkpointed r.ledger.why i (process_of r i))) ≡ process_of (taken_in r₁ m) i
  unfolding checkpointed
  forced_process = taken_process r₁ m forced_few forced_in (steps.checkpointed r.ledger.why i (process_of r i)) (standing r i) forced_vector (checkpoint_pins r v i few hi) forced_mark forced_kept
      (λ k lt q. checkpoint_standing r v i few hi k (omega (arith, checkpointed_own r i)) q)

  forced_new : keeps (taken_in r₁ m) i (r.own i) ≡ true
  unfolding checkpointed
  forced_new = keeps_in (taken_in r₁ m) i i (r.own i) (rw (taken_in_n r₁ m) hi) (taken_own_pin r₁ m forced_few forced_in ∙ checkpointed_pin r i)

  forced_taken : gone (steps.taken_in i (vector_of r.n (r.carried m)) (steps.checkpointed r.ledger.why i (process_of r i)))
      ≡ passing (r₁.own i) (λ k. standing r i k && not (keeps (taken_in r₁ m) i k)) (checkpoint_of r₁ i)
  unfolding checkpointed
  forced_taken = taken_gone r₁ m forced_few forced_in (steps.checkpointed r.ledger.why i (process_of r i)) (standing r i) forced_vector (checkpoint_pins r v i few hi) forced_mark forced_kept

  forced_gone : gone (steps.taken_in i (vector_of r.n (r.carried m)) (steps.checkpointed r.ledger.why i (process_of r i)))
      ≡ passing (r.own i) (λ k. keeps r i k && not (keeps (taken_in r₁ m) i k)) (checkpoint_of r i)
  forced_gone =
      forced_taken
      ∙ rw (checkpointed_own r i) (checkpoint_gone r v i few hi (keeps (taken_in r₁ m) i) forced_new)

  -- Both ways together: the part of the receiver, the other parts, the messages.
  deliver_process : settled (steps.delivered i (vector_of r.n (r.carried m)) (process_of r i)) ≡ process_of (delivered r m) i
  deliver_process = by_bool (forces r m)
      (λ e. rw (forced_part e, taking e) forced_process)
      (λ e. rw (plain_part e, plain e) plain_process)

  forced_apart : (p : ℕ) → (p ≡ i → ⊥) → p ≡ r₁.receiver m → ⊥
  unfolding checkpointed
  forced_apart p ne = ne

  deliver_others : (p : ℕ) → p < r.n → (p ≡ i → ⊥) → process_of (delivered r m) p ≡ process_of r p
  deliver_others p lt ne = by_bool (forces r m)
      (λ e. rw (taking e) (taken_others r₁ m p (forced_apart p ne) ∙ process_same r r₁ p (checkpointed_n r i) (checkpointed_own_other r i p ne)
      (λ k f le hf. checkpointed_vector r i p k f le) (checkpointed_mark_other r i p ne) (λ f hf. checkpointed_pin_row r i p f ne)
      (cause_other r v i few hi p ne) (counts_same r v i few hi p)))
      (λ e. rw (plain e) (taken_others r m p ne))

  forced_messages : messages_of (lost r m) ≡ messages_of (taken_in r₁ m)
  unfolding messages_of message_of lost taken_in taken_by checkpointed
  forced_messages = refl

  plain_messages : messages_of (lost r m) ≡ messages_of (taken_in r m)
  unfolding messages_of message_of lost taken_in taken_by
  plain_messages = refl

  deliver_messages : messages_of (lost r m) ≡ messages_of (delivered r m)
  deliver_messages = by_bool (forces r m) (λ e. rw (taking e) forced_messages) (λ e. rw (plain e) plain_messages)

  deliver_n : (delivered r m).n ≡ r.n
  deliver_n = by_bool (forces r m)
      (λ e. rw (taking e) (taken_in_n r₁ m ∙ checkpointed_n r i))
      (λ e. rw (plain e) (taken_in_n r m))

  deliver_last : (delivered r m).last ≡ r.last
  deliver_last = by_bool (forces r m)
      (λ e. rw (taking e) (taken_in_last r₁ m ∙ checkpointed_last r i))
      (λ e. rw (plain e) (taken_in_last r m))

  -- The others keep what they kept.
  pub deliver_keeps_other : (p k : ℕ) → (p ≡ i → ⊥) → keeps (delivered r m) p k ≡ keeps r p k
  deliver_keeps_other p k ne = by_bool (forces r m)
      (λ e. rw (taking e) (keeps_same r (taken_in r₁ m) p k (taken_in_n r₁ m ∙ checkpointed_n r i)
      (λ f hf. taken_in_pin_other r₁ m p f (forced_apart p ne) ∙ checkpointed_pin_row r i p f ne)))
      (λ e. rw (plain e) (keeps_same r (taken_in r m) p k (taken_in_n r m) (λ f hf. taken_in_pin_other r m p f ne)))

  -- The deleted ones: kept before, and not now. A forced checkpoint is never among them.
  deliver_goes : gone (steps.delivered i (vector_of r.n (r.carried m)) (process_of r i)) ≡ passing (r.own i) (λ k. keeps r i k && not (keeps (delivered r m) i k)) (checkpoint_of r i)
  deliver_goes = by_bool (forces r m)
      (λ e. rw (forced_part e, taking e) forced_gone)
      (λ e. rw (plain_part e, plain e) plain_gone)

  pub deliver_deletions_lem : deliver_deletions (state_of r) (message_of r m)
      ≡ listed i (passing (r.own i) (λ k. keeps r i k && not (keeps (delivered r m) i k)) (checkpoint_of r i))
  unfolding deliver_deletions deletions message_of
  deliver_deletions_lem = rw (process_is r i few hi) (ap (listed i) deliver_goes)

  -- What is written and what is deleted.
  deliver_new : pick (steps.forces (process_of r i) (vector_of r.n (r.carried m))) (block_count (process_of r i)) 0 ≡ new_in r (delivered r m)
  deliver_new = rw (forces_is r m few) (by_bool (forces r m)
      (λ e. rw e (count_of r v i hi ∙ sym (delivered_new_forced r m hi e)))
      (λ e. rw e (sym (delivered_new_plain r m e))))

  disk_after : r.transit m ≡ true → kept_in r ≤ r.ledger.written
      → billed (state_of r).disk (pick (steps.forces (process_of r i) (vector_of r.n (r.carried m))) (block_count (process_of r i)) 0)
      (blocks_of (gone (steps.delivered i (vector_of r.n (r.carried m)) (process_of r i)))) ≡ disk_of (delivered r m)
  disk_after under fits =
      ap (λ (d : Disk). billed d (pick (steps.forces (process_of r i) (vector_of r.n (r.carried m))) (block_count (process_of r i)) 0)
      (blocks_of (gone (steps.delivered i (vector_of r.n (r.carried m)) (process_of r i))))) (disk_is r)
      ∙ billed_is r (delivered r m) v (delivered_inv r m v under) (delivered_moved r v m under) (delivered_paid r m hi) fits
      (pick (steps.forces (process_of r i) (vector_of r.n (r.carried m))) (block_count (process_of r i)) 0)
      (blocks_of (gone (steps.delivered i (vector_of r.n (r.carried m)) (process_of r i))))
      deliver_new
      (ap blocks_of deliver_goes ∙ gone_blocks r (delivered r m) i hi deliver_keeps_other)

  pub deliver_is : r.transit m ≡ true → kept_in r ≤ r.ledger.written → deliver_state (state_of r) (message_of r m) ≡ state_of (delivered r m)
  unfolding deliver_state message_of
  deliver_is under fits = rw (process_is r i few hi) (one_part_messages r (delivered r m) deliver_n i (settled (steps.delivered i (vector_of r.n (r.carried m)) (process_of r i)))
      (others (state_of r) m) (state_of r).last _ hi deliver_process deliver_others (others_are r m ∙ deliver_messages) (last_is_lem r ∙ sym deliver_last) (disk_after under fits))
