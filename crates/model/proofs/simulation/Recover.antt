-- A recovery: the state after it stands for the run after it, and the deleted ones are those that were kept and are kept no more.
use Rattle.std.specs.Prelude.{◌≡◌, ◌&&◌, ◌≤◌, ◌<◌}
use Rattle.laws.specs.Basics.{refl, sym, ◌∙◌, ap, Bool, true, false, not, List, Option, None, Some, ℕ, suc, arith, eqb, ltb, leb, lt-ltb, leb-true, leb-false, by_bool}
use Rattle.std.specs.Option.{option_map}
use lib.Dec.{leb-suc-zero}
use Rattle.laws.specs.{Choice.not_ltb, Lists.select, Lists.last_of, Lists.gather, Rows.and_true, Search.latest, Search.latest_out, Sums.sum_below, Sums.sum_same}
use Rattle.laws.specs.{Tables.table_same, Tables.gather_same, Truth.and_left, Truth.and_no_right}
use Rattle.model.specs.declared.{Interval.Interval, Checkpoint.Checkpoint, Disk.Disk}
use Rattle.model.specs.Words.{most_processes, entry, below, is_pinned, blocks_of, process, with_messages, with_disk, failed}
use Rattle.model.specs.Steps.{listed, billed, gone_at_of, with_processes, latest_pin, moved_pin, pins_after, not_lost, rolled_back, lost_by, still_under_way, recover_state, deleted_at, recover_deletions}
use Rattle.histories.proofs.Run.{Ideal, Failed, keeps, line, rolled, own_after, vector_after, pin_after, outlives, recovered}
use Rattle.histories.proofs.{Invariant.Inv, Keeping.recovered_moved, Recovered.recovered_inv, Counted.kept_in, Counted.recovered_new, Counted.recovered_paid}
use Rattle.histories.proofs.{Messages.underway_proper, Rule.keeps_in, Rule.keeps_out}
use Rattle.model.proofs.simulation.View.{passing, pin_of_def, pins_of, checkpoint_of, kept_of, process_of, message_of, messages_of, disk_of, state_of}
use Rattle.model.proofs.simulation.Passing.{passing_same, passing_none, select_passing, last_passing}
use Rattle.model.proofs.simulation.Reads.{entry_is, entry_past, pin_is, pin_past, count_is_lem, last_is_lem, disk_is, under_way_is, process_is}
use Rattle.model.proofs.simulation.Rows.{process_eq, pinned_is, checkpoint_same, settled_kept}
use Rattle.model.proofs.{simulation.Stepping.all_parts_messages, simulation.Lines.member_index, simulation.Lines.rolled_is}
use Rattle.model.proofs.simulation.Billing.{gone_all, billed_is}
use Rattle.model.proofs.simulation.Rollback.{own_back, own_stays, own_after_le, vector_stored, not_lost_lem, vector_after_lem, own_after_lem, own_after_past, not_lost_are}
use Rattle.model.specs.Steps as steps

-- The pin that names the checkpoint of a number, if there is one.
latest_pin_lem : (r : Ideal) (p : ℕ) (o : Option ℕ) → latest_pin (option_map (checkpoint_of r p) o) ≡ pin_of_def o
unfolding latest_pin pin_of_def checkpoint_of
latest_pin_lem r p None = refl
latest_pin_lem r p (Some k) = refl

pin_none : None ≡ pin_of_def None
unfolding pin_of_def
pin_none = refl

module _ (r : Ideal) (v : Inv r) (G : Failed) where
  -- A pin after a recovery names a checkpoint that was kept and is not lost: nothing comes back.
  pin_after_lem : (p f k : ℕ) → f < r.n → pin_after r G p f ≡ Some k → (keeps r p k ≡ true) × (k < own_after r G p)
  unfolding pin_after
  pin_after_lem p f k hf = by_bool (eqb (vector_after r G p (own_after r G p) f) (own_after r G f))
      (λ d. rw d (by_bool (rolled r G p)
      (λ e. rw e (λ q. let w = latest_out (suc (line r G p)) _ k q in (and_left (keeps r p k) _ w.1, omega (arith, w.0, own_back r v G p e))))
      (λ e. rw e (λ q. (keeps_in r p f k hf q, omega (arith, own_stays r v G p e, (v.pins p f k hf q).below))))))
      (λ d. rw d (λ q. absurd (let z : ◌≡◌ {A = ℕ} 0 1 = cc in omega arith)))

  pub recovered_keeps : (p k : ℕ) → keeps (recovered r G) p k ≡ true → (keeps r p k ≡ true) × (k < own_after r G p)
  unfolding recovered
  recovered_keeps p k e = let w = keeps_out (recovered r G) p k e in pin_after_lem p w.0 k w.1 w.2

module _ (r : Ideal) (v : Inv r) (few : r.n ≤ most_processes) (F : ℕ) where
  abbrev G : Failed
  G = failed F

  abbrev r' : Ideal
  r' = recovered r (failed F)

  module _ (p : ℕ) (lt : p < r.n) where
    -- The pin that a rolled-back process moves.
    abbrev fitting : ℕ → ℕ → Bool
    fitting f k = keeps r p k && ltb (r.vector p k f) (own_after r G f)

    moved_pin_lem : (f : ℕ) → f < r.n → rolled r G p ≡ true → moved_pin (state_of r) F p f ≡ pin_of_def (latest (suc (line r G p)) (fitting f))
    unfolding moved_pin checkpoint_of
    moved_pin_lem f hf e = rw (own_after_lem r v few F f hf, not_lost_are r v few F p lt, own_back r v G p e)
        (ap latest_pin (ap last_of (select_passing (λ c. ltb (entry c.vector f).0 (own_after r G f)) (suc (line r G p)) (keeps r p) (checkpoint_of r p)
        ∙ passing_same (suc (line r G p)) _ (fitting f) _ (checkpoint_of r p)
        (λ k h. rw (entry_is r.n (r.vector p k) f few hf))
        (λ k h q. refl))
        ∙ last_passing (suc (line r G p)) (fitting f) (checkpoint_of r p))
        ∙ latest_pin_lem r p (latest (suc (line r G p)) (fitting f)))

    moved_past : (f : ℕ) → r.n ≤ f → f < most_processes → moved_pin (state_of r) F p f ≡ None
    unfolding moved_pin latest_pin last_of
    moved_past f le hf = rw (own_after_past r v few F f le hf, not_lost_are r v few F p lt)
        (ap (λ (l : List Checkpoint). latest_pin (last_of l)) (select_passing (λ c. ltb (entry c.vector f).0 0) (own_after r G p) (keeps r p) (checkpoint_of r p)
        ∙ passing_none (own_after r G p) _ (checkpoint_of r p) (λ k h. and_no_right (keeps r p k) _ (leb-suc-zero (entry (checkpoint_of r p k).vector f).0))))

    -- Each pin after the recovery, and the row of them.
    pin_at : (f : ℕ) → f < r.n → steps.pin_after (state_of r) F p f ≡ pin_of_def (pin_after r G p f)
    unfolding steps.pin_after pin_after process_of
    pin_at f hf = rw (vector_after_lem r v few F p lt, entry_is r.n (vector_after r G p (own_after r G p)) f few hf, own_after_lem r v few F f hf, rolled_is r v few F p lt, process_is r p few lt, pin_is r p f few hf)
        (by_bool (eqb (vector_after r G p (own_after r G p) f) (own_after r G f))
        (λ d. rw d (by_bool (rolled r G p) (λ e. rw e (moved_pin_lem f hf e)) (λ e. rw e)))
        (λ d. rw d pin_none))

    pin_beyond : (f : ℕ) → r.n ≤ f → f < most_processes → steps.pin_after (state_of r) F p f ≡ None
    unfolding steps.pin_after process_of
    pin_beyond f le hf = rw (vector_after_lem r v few F p lt, entry_past r.n (vector_after r G p (own_after r G p)) f le, own_after_past r v few F f le hf, rolled_is r v few F p lt, process_is r p few lt, pin_past r p f le, moved_past f le hf)
        (by_bool (rolled r G p) (λ e. rw e) (λ e. rw e))

    pins_after_lem : pins_after (state_of r) F p ≡ pins_of r' p
    unfolding pins_after pins_of recovered
    pins_after_lem = table_same most_processes _ _ (λ f hf. by_bool (ltb f r.n)
        (λ e. rw e (pin_at f (leb-true (suc f) r.n e)))
        (λ e. rw e (pin_beyond f (omega (arith, leb-false (suc f) r.n e)) hf)))

    few_after : r'.n ≤ most_processes
    unfolding recovered
    few_after = few

    stored_after : (k : ℕ) → k < own_after r G p → checkpoint_of r' p k ≡ checkpoint_of r p k
    unfolding recovered
    stored_after k h = checkpoint_same r r' p k refl (λ f hf. ap (λ (w : ℕ → ℕ). w f) (vector_stored r v G p k h)) (omega (arith, own_after_le r v G p)) h refl refl

    mark_after : ((process (state_of r) p).mark && not (rolled_back (state_of r) F p)) ≡ r'.mark p
    unfolding recovered process_of
    mark_after = rw (process_is r p few lt, rolled_is r v few F p lt) (by_bool (rolled r G p)
        (λ e. rw e (and_no_right (r.mark p) false refl))
        (λ e. rw e (and_true (r.mark p))))

    gone : (k : ℕ) → k < r.own p → (leb k (line r G p) && keeps r' p k) ≡ keeps r' p k
    gone k h = by_bool (keeps r' p k)
        (λ e. rw (e, not_lost_lem r v G p k h, lt-ltb k (own_after r G p) (recovered_keeps r v G p k e).1))
        (λ e. rw e (and_no_right (leb k (line r G p)) false refl))

    -- The part of p after the recovery.
    kept_after : select (is_pinned (pins_after (state_of r) F p)) (not_lost (state_of r) F p) ≡ passing (own_after r G p) (keeps r' p) (checkpoint_of r' p)
    kept_after = rw (
      pins_after_lem,
      not_lost_are r v few F p lt,
      passing_same (own_after r G p) (keeps r p) (keeps r p) (checkpoint_of r p) (checkpoint_of r' p)
          (λ k h. refl)
          (λ k h q. sym (stored_after k h)),
    )
        (settled_kept r' p (own_after r G p) (keeps r p) few_after (λ k h q. (recovered_keeps r v G p k q).0))

    recover_process : steps.recovered (state_of r) F p ≡ process_of r' p
    unfolding steps.recovered process_of kept_of recovered
    recover_process = process_eq (steps.recovered (state_of r) F p) (process_of r' p)
        (vector_after_lem r v few F p lt)
        pins_after_lem
        mark_after
        kept_after

    -- The deleted ones: kept before, and not now.
    gone_at : gone_at_of (state_of r) F p ≡ passing (r.own p) (λ k. keeps r p k && not (keeps r' p k)) (checkpoint_of r p)
    unfolding gone_at_of process_of kept_of checkpoint_of
    gone_at = rw (process_is r p few lt, member_index r v few F p lt, pins_after_lem)
        (select_passing (λ c. not (leb c.index.0 (line r G p) && is_pinned (pins_of r' p) c)) (r.own p) (keeps r p) (checkpoint_of r p)
        ∙ passing_same (r.own p) _ _ _ _
        (λ k h. rw (pinned_is r' p (checkpoint_of r p k) few_after) (ap (λ (b : Bool). keeps r p k && not b) (gone k h)))
        (λ k h q. refl))

    pub deleted_at_lem : deleted_at (state_of r) F p ≡ listed p (passing (r.own p) (λ k. keeps r p k && not (keeps r' p k)) (checkpoint_of r p))
    unfolding deleted_at
    deleted_at_lem = ap (listed p) gone_at

  -- The state keeps a message under way exactly if it was sent up to its sender's member.
  still_is : (m : ℕ) → r.transit m ≡ true → not (lost_by (state_of r) F (message_of r m)) ≡ leb (r.carried m (r.sender m)) (line r (failed F) (r.sender m))
  unfolding lost_by message_of
  still_is m e =
      let from = (underway_proper r v m e).from in
      ap (λ (sent_in_lem : Interval). not (ltb (steps.member (state_of r) F (r.sender m)).index.0 sent_in_lem.0)) (entry_is r.n (r.carried m) (r.sender m) few from)
      ∙ ap (λ (k : ℕ). not (ltb k (r.carried m (r.sender m)))) (member_index r v few F (r.sender m) from)
      ∙ not_ltb (line r (failed F) (r.sender m)) (r.carried m (r.sender m))

  recover_messages : still_under_way (state_of r) F ≡ messages_of r'
  unfolding still_under_way messages_of message_of recovered outlives
  recover_messages = rw (under_way_is r) (select_passing (λ x. not (lost_by (state_of r) F x)) (suc r.last) r.transit (message_of r)
      ∙ passing_same (suc r.last) _ _ _ _
      (λ m lt. by_bool (r.transit m) (λ e. rw (e, still_is m e)) (λ e. rw e))
      (λ m lt e. refl))

  recover_n : r'.n ≡ r.n
  unfolding recovered
  recover_n = refl

  recover_last : r'.last ≡ r.last
  unfolding recovered
  recover_last = refl

  -- Nothing is written; the blocks of what goes are deleted.
  disk_after : kept_in r ≤ r.ledger.written → billed (state_of r).disk 0 (sum_below r.n (λ p. blocks_of (gone_at_of (state_of r) F p))) ≡ disk_of r'
  disk_after fits =
      ap (λ (d : Disk). billed d 0 (sum_below r.n (λ p. blocks_of (gone_at_of (state_of r) F p)))) (disk_is r)
      ∙ billed_is r r' v (recovered_inv r v (failed F)) (recovered_moved r v (failed F)) (recovered_paid r v (failed F)) fits 0 (sum_below r.n (λ p. blocks_of (gone_at_of (state_of r) F p)))
      (sym (recovered_new r v (failed F)))
      (sum_same r.n _ _ (λ p lt. ap blocks_of (gone_at p lt)) ∙ gone_all r r')

  pub recover_is : kept_in r ≤ r.ledger.written → recover_state (state_of r) F ≡ state_of r'
  unfolding recover_state
  recover_is fits =
      ap (λ (c : ℕ). with_disk (with_messages (with_processes c (steps.recovered (state_of r) F) (state_of r)) (still_under_way (state_of r) F) (state_of r).last)
      (billed (state_of r).disk 0 (sum_below c (λ p. blocks_of (gone_at_of (state_of r) F p))))) (count_is_lem r)
      ∙ all_parts_messages r r' recover_n (steps.recovered (state_of r) F) (still_under_way (state_of r) F) (state_of r).last
      (billed (state_of r).disk 0 (sum_below r.n (λ p. blocks_of (gone_at_of (state_of r) F p)))) recover_process recover_messages (last_is_lem r ∙ sym recover_last) (disk_after fits)

  pub recover_deletions_lem : recover_deletions (state_of r) F ≡ gather r.n (λ p. listed p (passing (r.own p) (λ k. keeps r p k && not (keeps r' p k)) (checkpoint_of r p)))
  unfolding recover_deletions
  recover_deletions_lem = ap (λ (c : ℕ). gather c (deleted_at (state_of r) F)) (count_is_lem r) ∙ gather_same r.n _ _ deleted_at_lem
