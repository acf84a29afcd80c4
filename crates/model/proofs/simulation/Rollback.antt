-- What a recovery leaves of each process before its pins are settled: its vector, its own entry, the checkpoints that are not lost.
use Rattle.std.specs.Prelude.{◌≡◌, ◌≤◌, ◌<◌}
use Rattle.laws.specs.Basics.{refl, sym, ◌∙◌, ap, true, false, ℕ, suc, arith, ltb, leb, lt-ltb, le-ltb, le-leb, leb-true, leb-false, by_bool}
use Rattle.laws.specs.{Lists.select, Lists.last_of, Truth.and_no_right, Update.upd, Update.upd_same, Update.upd_other}
use Rattle.model.specs.Words.{most_processes, live, own, failed}
use Rattle.model.specs.Steps.{allowed, states, latest_allowed, rolled_back, not_lost}
use Rattle.histories.proofs.{Run.Ideal, Run.Failed, Run.keeps, Run.line, Run.rolled, Run.own_after, Run.vector_after, Invariant.Inv}
use Rattle.histories.proofs.Line.{line_back, line_live, line_le}
use Rattle.model.proofs.simulation.View.{passing, vector_of, checkpoint_of, kept_of, process_of, state_of}
use Rattle.model.proofs.{simulation.Parts.unused, simulation.Passing.passing_same, simulation.Passing.passing_wider, simulation.Passing.select_passing}
use Rattle.model.proofs.simulation.Reads.{entry_is, entry_zero, process_is, process_past, own_past}
use Rattle.model.proofs.{simulation.Rows.advanced_is, simulation.Lines.member_is, simulation.Lines.member_index, simulation.Lines.rolled_is}
use Rattle.model.specs.Steps as steps

module _ (r : Ideal) (v : Inv r) where
  -- The run after a recovery, at a process that rolls back and at one that stays.
  module _ (G : Failed) (p : ℕ) where
    pub own_back : rolled r G p ≡ true → own_after r G p ≡ suc (line r G p)
    unfolding own_after
    own_back e = rw e

    pub own_stays : rolled r G p ≡ false → own_after r G p ≡ r.own p
    unfolding own_after
    own_stays e = rw e

    pub vector_back : rolled r G p ≡ true → vector_after r G p (own_after r G p) ≡ upd (r.vector p (line r G p)) p (suc (line r G p))
    unfolding vector_after own_after
    vector_back e = rw e (upd_same (r.vector p) (suc (line r G p)) (upd (r.vector p (line r G p)) p (suc (line r G p))))

    pub vector_stays : rolled r G p ≡ false → vector_after r G p (own_after r G p) ≡ r.vector p (r.own p)
    unfolding vector_after own_after
    vector_stays e = rw e

    -- Checkpoints that are not lost keep their vectors.
    pub vector_stored : (k : ℕ) → k < own_after r G p → vector_after r G p k ≡ r.vector p k
    unfolding vector_after own_after
    vector_stored k = by_bool (rolled r G p)
        (λ e. rw e (λ lt. upd_other (r.vector p) (suc (line r G p)) (upd (r.vector p (line r G p)) p (suc (line r G p))) k (omega arith)))
        (λ e. rw e (λ lt. refl))

    pub self_after : vector_after r G p (own_after r G p) p ≡ own_after r G p
    self_after = by_bool (rolled r G p)
        (λ e. rw (vector_back e, own_back e) (upd_same (r.vector p (line r G p)) p (suc (line r G p))))
        (λ e. rw (vector_stays e, own_stays e) (v.self p (r.own p) (omega arith)))

    pub own_after_le : own_after r G p ≤ r.own p
    own_after_le = by_bool (rolled r G p)
        (λ e. omega (arith, own_back e, (line_back r v G p e).below))
        (λ e. omega (arith, own_stays e))

    -- A checkpoint is lost exactly if it is past the line.
    pub not_lost_lem : (k : ℕ) → k < r.own p → leb k (line r G p) ≡ ltb k (own_after r G p)
    not_lost_lem k lt = by_bool (rolled r G p)
        (λ e. rw (own_back e) (by_bool (leb k (line r G p))
        (λ d. rw d (sym (lt-ltb k (suc (line r G p)) (omega (arith, leb-true k (line r G p) d)))))
        (λ d. rw d (sym (le-ltb k (suc (line r G p)) (omega (arith, leb-false k (line r G p) d)))))))
        (λ e. rw (own_stays e, line_live r v G p e, lt-ltb k (r.own p) lt) (le-leb k (r.own p) (omega arith)))

  module _ (few : r.n ≤ most_processes) (F : ℕ) where
    -- The vector after the recovery.
    pub vector_after_lem : (p : ℕ) → p < r.n → steps.vector_after (state_of r) F p ≡ vector_of r.n (vector_after r (failed F) p (own_after r (failed F) p))
    unfolding steps.vector_after checkpoint_of process_of
    vector_after_lem p lt = rw (rolled_is r v few F p lt, member_is r v few F p lt, process_is r p few lt) (by_bool (rolled r (failed F) p)
        (λ e. rw (e, vector_back (failed F) p e) (advanced_is r.n (r.vector p (line r (failed F) p)) p few lt ∙ rw (v.self p (line r (failed F) p) (line_le r v (failed F) p))))
        (λ e. rw (e, vector_stays (failed F) p e)))

    pub own_after_lem : (f : ℕ) → f < r.n → steps.own_after (state_of r) F f ≡ record { 0 = own_after r (failed F) f }
    unfolding steps.own_after
    own_after_lem f hf = rw (vector_after_lem f hf, entry_is r.n (vector_after r (failed F) f (own_after r (failed F) f)) f few hf, self_after (failed F) f)

    -- An unused process does not roll back and has own entry zero.
    member_past : (f : ℕ) → r.n ≤ f → f < most_processes → steps.member (state_of r) F f ≡ live f unused
    unfolding steps.member latest_allowed states select last_of
    member_past f le lt = rw (process_past r f le lt) (by_bool (allowed (state_of r) F (live f unused)) (λ e. rw e) (λ e. rw e))

    live_past : (f : ℕ) → (live f unused).index.0 ≡ 0
    unfolding live
    live_past f = rw (entry_zero f)

    rolled_past : (f : ℕ) → r.n ≤ f → f < most_processes → rolled_back (state_of r) F f ≡ false
    unfolding rolled_back
    rolled_past f le lt = rw (member_past f le lt, live_past f, own_past r f le lt)

    pub own_after_past : (f : ℕ) → r.n ≤ f → f < most_processes → steps.own_after (state_of r) F f ≡ record { 0 = 0 }
    unfolding steps.own_after steps.vector_after
    own_after_past f le lt = rw (rolled_past f le lt, process_past r f le lt) (entry_zero f)

    -- The kept checkpoints that are not lost.
    pub not_lost_are : (p : ℕ) → p < r.n → not_lost (state_of r) F p ≡ passing (own_after r (failed F) p) (keeps r p) (checkpoint_of r p)
    unfolding not_lost checkpoint_of process_of kept_of
    not_lost_are p lt = rw (process_is r p few lt)
        (ap (λ (last : ℕ). select (λ c. leb c.index.0 last) (kept_of r p)) (member_index r v few F p lt)
        ∙ select_passing (λ c. leb c.index.0 (line r (failed F) p)) (r.own p) (keeps r p) (checkpoint_of r p)
        ∙ passing_wider (own_after r (failed F) p) (r.own p) _ (checkpoint_of r p) (own_after_le (failed F) p)
        (λ k a b. and_no_right (keeps r p k) (leb k (line r (failed F) p)) (not_lost_lem (failed F) p k b ∙ le-ltb k (own_after r (failed F) p) a))
        ∙ passing_same (own_after r (failed F) p) _ _ _ _
        (λ k h. rw (not_lost_lem (failed F) p k (omega (arith, own_after_le (failed F) p)), lt-ltb k (own_after r (failed F) p) h) (by_bool (keeps r p k) (λ d. rw d) (λ d. rw d)))
        (λ k h q. refl))
