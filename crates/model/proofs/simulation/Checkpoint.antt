-- A checkpoint: the state after it stands for the run after it, and the deleted ones are those that were kept and are kept no more.
-- Assumes nothing.
use Rattle.std.specs.Prelude.{◌≡◌, ◌&&◌, ◌∷◌, ◌++◌, ◌≤◌, ◌<◌, None, Some}
use Rattle.laws.specs.Basics.{refl, sym, ◌∙◌, ap, Bool, true, not, List, [], ℕ, suc, arith, ltb, set, eq-eqb, ne_eqb, lt-ltb, pick, by_eq}
use Rattle.laws.specs.{Lists.select, Tables.table_same, Tables.table_set, Update.upd, Update.upd_same, Update.upd_other, Update.upds}
use Rattle.model.specs.Shapes.{Pin}
use Rattle.model.specs.declared.{Checkpoint.Checkpoint, Disk.Disk}
use Rattle.model.specs.Words.{basic, most_processes, entry, live_index_of, is_pinned, Process, live, blocks_of, block_count, process}
use Rattle.model.specs.Steps.{settled, listed, gone, deletions, billed, checkpoint_state, checkpoint_deletions}
use Rattle.histories.proofs.{Run.Ideal, Run.keeps, Run.stores, Run.checkpointed, Invariant.Inv, Keeping.checkpointed_moved, Checkpointed.checkpointed_inv}
use Rattle.histories.proofs.Counted.{kept_in, checkpointed_new, checkpointed_paid}
use Rattle.histories.proofs.CheckpointedViews.{checkpointed_n, checkpointed_own, checkpointed_own_other, checkpointed_vector, checkpointed_mark, checkpointed_mark_other, checkpointed_pin, checkpointed_pin_row, checkpointed_pin_column, checkpointed_keeps_old, checkpointed_keeps_new, checkpointed_last}
use Rattle.model.proofs.simulation.View.{passing, vector_of, pin_of_def, pins_of, checkpoint_of, kept_of, process_of, message_of, messages_of, disk_of, state_of}
use Rattle.model.proofs.{simulation.Passing.passing_same, simulation.Passing.passing_yes, simulation.Passing.passing_no, simulation.Stepping.one_part}
use Rattle.model.proofs.simulation.Reads.{entry_is, vector_same, disk_is, process_is, live_is}
use Rattle.model.proofs.simulation.Rows.{keeps_same, process_eq, process_same, checkpoint_same, advanced_is, standing, settled_kept, settled_gone}
use Rattle.model.proofs.simulation.Billing.{count_of, gone_blocks, billed_is}
use Rattle.model.specs.Steps as steps

-- The index that an accepted checkpoint answers.
pub checkpoint_index : (r : Ideal) (i : ℕ) → r.n ≤ most_processes → i < r.n → r.vector i (r.own i) i ≡ r.own i → (live i (process (state_of r) i)).index.0 ≡ r.own i
unfolding checkpoint_of
checkpoint_index r i few hi self = rw (process_is r i few hi, live_is r i few hi self)

-- The run says why the checkpoint is stored.
module _ (r : Ideal) (v : Inv r) (i : ℕ) (few : r.n ≤ most_processes) (hi : i < r.n) where
  self : r.vector i (r.own i) i ≡ r.own i
  self = v.self i (r.own i) (omega arith)

  -- The fields of i's part after the checkpoint, before what no pin names goes.
  live_after : (checkpointed r i).vector i ((checkpointed r i).own i) ≡ upd (r.vector i (r.own i)) i (suc (r.own i))
  unfolding checkpointed
  live_after = simp upds

  pub checkpoint_vector : (steps.checkpointed r.ledger.why i (process_of r i)).vector ≡ vector_of r.n ((checkpointed r i).vector i ((checkpointed r i).own i))
  unfolding steps.checkpointed process_of
  checkpoint_vector = rw live_after (advanced_is r.n (r.vector i (r.own i)) i few hi ∙ rw self)

  pins_after_lem : set (pins_of r i) i (Some (record { 0 = r.own i })) ≡ pins_of (checkpointed r i) i
  unfolding pins_of pin_of_def
  pins_after_lem = table_set most_processes _ i (Some (record { 0 = r.own i })) ∙ table_same most_processes _ _ (λ f lt. by_eq f i
      (λ e. rw (e, upd_same {A = Pin} (λ f. pick (ltb f r.n) (pin_of_def (r.pin i f)) None) i (Some (record { 0 = r.own i })), checkpointed_n r i, lt-ltb i r.n hi, checkpointed_pin r i))
      (λ ne. rw (upd_other {A = Pin} (λ f. pick (ltb f r.n) (pin_of_def (r.pin i f)) None) i (Some (record { 0 = r.own i })) f ne, checkpointed_n r i, checkpointed_pin_column r i i f ne)))

  pub checkpoint_pins : (steps.checkpointed r.ledger.why i (process_of r i)).pins ≡ pins_of (checkpointed r i) i
  unfolding steps.checkpointed process_of
  checkpoint_pins = rw (entry_is r.n (r.vector i (r.own i)) i few hi, self) pins_after_lem

  -- The parts of what is stored.
  stored_index : live_index_of (entry (process_of r i).vector i) ≡ record { 0 = r.own i }
  unfolding process_of
  stored_index = rw (entry_is r.n (r.vector i (r.own i)) i few hi, self)

  stored_vector : (process_of r i).vector ≡ vector_of (checkpointed r i).n ((checkpointed r i).vector i (r.own i))
  unfolding process_of
  stored_vector = rw (checkpointed_n r i) (vector_same r.n _ _ (λ f hf. sym (checkpointed_vector r i i (r.own i) f (omega arith))))

  is_stored : ltb (r.own i) ((checkpointed r i).own i) ≡ true
  is_stored = lt-ltb (r.own i) ((checkpointed r i).own i) (omega (arith, checkpointed_own r i))

  stored_why : r.ledger.why ≡ pick (ltb (r.own i) ((checkpointed r i).own i)) ((checkpointed r i).ledger.cause i (r.own i)) 0
  unfolding checkpointed stores
  stored_why = rw is_stored (sym (ap (λ (c : ℕ → ℕ). c (r.own i)) (upd_same r.ledger.cause i (upd (r.ledger.cause i) (r.own i) r.ledger.why))
      ∙ upd_same (r.ledger.cause i) (r.own i) r.ledger.why))

  stored_count : block_count (process_of r i) ≡ pick (ltb (r.own i) ((checkpointed r i).own i)) ((checkpointed r i).ledger.block_counts i) 0
  unfolding checkpointed stores
  stored_count = rw is_stored (count_of r v i hi)

  -- The causes and counts of the others stay.
  old_cause : (k : ℕ) → k < r.own i → (checkpointed r i).ledger.cause i k ≡ r.ledger.cause i k
  unfolding checkpointed stores
  old_cause k lt = ap (λ (c : ℕ → ℕ). c k) (upd_same r.ledger.cause i (upd (r.ledger.cause i) (r.own i) r.ledger.why))
      ∙ upd_other (r.ledger.cause i) (r.own i) r.ledger.why k (omega arith)

  pub cause_other : (p : ℕ) → (p ≡ i → ⊥) → (checkpointed r i).ledger.cause p ≡ r.ledger.cause p
  unfolding checkpointed stores
  cause_other p ne = upd_other r.ledger.cause i (upd (r.ledger.cause i) (r.own i) r.ledger.why) p ne

  pub counts_same : (p : ℕ) → (checkpointed r i).ledger.block_counts p ≡ r.ledger.block_counts p
  unfolding checkpointed stores
  counts_same p = refl

  -- What is stored: the live state, with the cause and the count.
  stored_is : steps.storing r.ledger.why i (process_of r i) ≡ checkpoint_of (checkpointed r i) i (r.own i)
  unfolding steps.storing checkpoint_of
  stored_is = λ j. record {
    index = stored_index j;
    vector = stored_vector j;
    cause = stored_why j;
    blocks = stored_count j;
  }

  checkpoint_still : (k : ℕ) → k < r.own i → checkpoint_of (checkpointed r i) i k ≡ checkpoint_of r i k
  checkpoint_still k lt = checkpoint_same r (checkpointed r i) i k (checkpointed_n r i) (λ f hf. checkpointed_vector r i i k f (omega arith)) lt (omega (arith, checkpointed_own r i))
      (old_cause k lt) (counts_same i)

  kept_before : kept_of r i ≡ passing (r.own i) (standing r i) (checkpoint_of (checkpointed r i) i)
  unfolding kept_of
  kept_before = passing_same (r.own i) (keeps r i) (standing r i) (checkpoint_of r i) (checkpoint_of (checkpointed r i) i)
      (λ k lt. rw (ne_eqb k (r.own i) (omega arith)))
      (λ k lt q. sym (checkpoint_still k lt))

  pub checkpoint_kept : (steps.checkpointed r.ledger.why i (process_of r i)).kept ≡ passing (suc (r.own i)) (standing r i) (checkpoint_of (checkpointed r i) i)
  unfolding steps.checkpointed process_of
  checkpoint_kept =
      (λ j. kept_before j ++ (stored_is j ∷ []))
      ∙ sym (passing_yes (r.own i) (standing r i) (checkpoint_of (checkpointed r i) i) (rw (eq-eqb (r.own i) (r.own i) refl)))

  -- What is kept now was kept, or is the new checkpoint.
  pub checkpoint_standing : (k : ℕ) → k < suc (r.own i) → keeps (checkpointed r i) i k ≡ true → standing r i k ≡ true
  checkpoint_standing k lt e = by_eq k (r.own i)
      (λ q. rw (eq-eqb k (r.own i) q))
      (λ ne. rw (ne_eqb k (r.own i) ne, checkpointed_keeps_old r i i k (omega arith) e))

  few_after : (checkpointed r i).n ≤ most_processes
  few_after = rw (checkpointed_n r i) few

  -- What a pin still names is what the run keeps.
  checkpoint_settled : (settled (steps.checkpointed r.ledger.why i (process_of r i))).kept ≡ kept_of (checkpointed r i) i
  unfolding settled kept_of
  checkpoint_settled =
      ap (λ (pins : List Pin). select (is_pinned pins) (steps.checkpointed r.ledger.why i (process_of r i)).kept) checkpoint_pins
      ∙ ap (λ (l : List Checkpoint). select (is_pinned (pins_of (checkpointed r i) i)) l) checkpoint_kept
      ∙ settled_kept (checkpointed r i) i (suc (r.own i)) (standing r i) few_after checkpoint_standing
      ∙ ap (λ (k : ℕ). passing k (keeps (checkpointed r i) i) (checkpoint_of (checkpointed r i) i)) (sym (checkpointed_own r i))

  -- The part of i after the checkpoint.
  checkpoint_process : settled (steps.checkpointed r.ledger.why i (process_of r i)) ≡ process_of (checkpointed r i) i
  unfolding settled process_of steps.checkpointed
  checkpoint_process = process_eq (settled (steps.checkpointed r.ledger.why i (process_of r i))) (process_of (checkpointed r i) i)
      (rw (checkpointed_n r i) checkpoint_vector)
      checkpoint_pins
      (sym (checkpointed_mark r i))
      checkpoint_settled

  -- The other parts stay.
  checkpoint_others : (p : ℕ) → p < r.n → (p ≡ i → ⊥) → process_of (checkpointed r i) p ≡ process_of r p
  checkpoint_others p lt ne = process_same r (checkpointed r i) p (checkpointed_n r i) (checkpointed_own_other r i p ne)
      (λ k f le hf. checkpointed_vector r i p k f le)
      (checkpointed_mark_other r i p ne)
      (λ f hf. checkpointed_pin_row r i p f ne)
      (cause_other p ne)
      (counts_same p)

  checkpoint_messages : messages_of r ≡ messages_of (checkpointed r i)
  unfolding messages_of message_of checkpointed
  checkpoint_messages = refl

  -- Of the states before, those go that a test does not keep; a test that keeps the new checkpoint leaves it out.
  pub checkpoint_gone : (u : ℕ → Bool) → u (r.own i) ≡ true → passing (suc (r.own i)) (λ k. standing r i k && not (u k)) (checkpoint_of (checkpointed r i) i)
      ≡ passing (r.own i) (λ k. keeps r i k && not (u k)) (checkpoint_of r i)
  checkpoint_gone u e =
      passing_no (r.own i) _ _ (rw (eq-eqb (r.own i) (r.own i) refl, e))
      ∙ passing_same (r.own i) _ _ _ _
      (λ k lt. rw (ne_eqb k (r.own i) (omega arith)))
      (λ k lt q. checkpoint_still k lt)

  -- The deleted ones: kept before, and not now.
  checkpoint_goes : gone (steps.checkpointed r.ledger.why i (process_of r i)) ≡ passing (r.own i) (λ k. keeps r i k && not (keeps (checkpointed r i) i k)) (checkpoint_of r i)
  unfolding gone
  checkpoint_goes = rw (checkpoint_pins, checkpoint_kept)
      (settled_gone (checkpointed r i) i (suc (r.own i)) (standing r i) few_after
      ∙ checkpoint_gone (keeps (checkpointed r i) i) (checkpointed_keeps_new r i hi))

  -- The others keep what they kept.
  pub checkpoint_keeps_other : (p k : ℕ) → (p ≡ i → ⊥) → keeps (checkpointed r i) p k ≡ keeps r p k
  checkpoint_keeps_other p k ne = keeps_same r (checkpointed r i) p k (checkpointed_n r i) (λ f hf. checkpointed_pin_row r i p f ne)

  module _ (asked : r.ledger.why ≡ basic) where
    goes : gone (steps.checkpointed basic i (process (state_of r) i)) ≡ passing (r.own i) (λ k. keeps r i k && not (keeps (checkpointed r i) i k)) (checkpoint_of r i)
    goes = ap (λ (P : Process). gone (steps.checkpointed basic i P)) (process_is r i few hi)
        ∙ ap (λ (c : ℕ). gone (steps.checkpointed c i (process_of r i))) (sym asked)
        ∙ checkpoint_goes

    part : settled (steps.checkpointed basic i (process (state_of r) i)) ≡ process_of (checkpointed r i) i
    part = ap (λ (P : Process). settled (steps.checkpointed basic i P)) (process_is r i few hi)
        ∙ ap (λ (c : ℕ). settled (steps.checkpointed c i (process_of r i))) (sym asked)
        ∙ checkpoint_process

    disk_after : kept_in r ≤ r.ledger.written
        → billed (state_of r).disk (block_count (process (state_of r) i)) (blocks_of (gone (steps.checkpointed basic i (process (state_of r) i)))) ≡ disk_of (checkpointed r i)
    disk_after fits =
        ap (λ (d : Disk). billed d (block_count (process (state_of r) i)) (blocks_of (gone (steps.checkpointed basic i (process (state_of r) i))))) (disk_is r)
        ∙ billed_is r (checkpointed r i) v (checkpointed_inv r i v) (checkpointed_moved r i hi) (checkpointed_paid r i hi) fits
        (block_count (process (state_of r) i)) (blocks_of (gone (steps.checkpointed basic i (process (state_of r) i))))
        (ap block_count (process_is r i few hi) ∙ count_of r v i hi ∙ sym (checkpointed_new r i hi))
        (ap blocks_of goes ∙ gone_blocks r (checkpointed r i) i hi checkpoint_keeps_other)

    pub checkpoint_is : kept_in r ≤ r.ledger.written → checkpoint_state (state_of r) i ≡ state_of (checkpointed r i)
    unfolding checkpoint_state
    checkpoint_is fits = one_part r (checkpointed r i) (checkpointed_n r i) i (settled (steps.checkpointed basic i (process (state_of r) i)))
        (billed (state_of r).disk (block_count (process (state_of r) i)) (blocks_of (gone (steps.checkpointed basic i (process (state_of r) i))))) hi
        part checkpoint_others checkpoint_messages (sym (checkpointed_last r i)) (disk_after fits)

    pub checkpoint_deletions_lem : checkpoint_deletions (state_of r) i
        ≡ listed i (passing (r.own i) (λ k. keeps r i k && not (keeps (checkpointed r i) i k)) (checkpoint_of r i))
    unfolding checkpoint_deletions deletions
    checkpoint_deletions_lem = ap (listed i) goes
