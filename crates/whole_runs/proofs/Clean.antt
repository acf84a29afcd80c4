-- Note 6, proved: straight after an accepted recovery or sweep a checkpoint is kept exactly if some failure would use it.
-- Assumes nothing.
use Rattle.std.specs.Prelude.{◌≡◌, ◌∷◌, ◌++◌, ◌^◌, ◌<◌}
use Rattle.laws.specs.Basics.{refl, sym, ◌∙◌, List, [], None, ℕ, arith}
use lib.Pow.{pow_pos}
use Rattle.laws.specs.Bits.{pow_less}
use Rattle.model.specs.declared.Run.{Run}
use Rattle.model.specs.{Words.failed, Refusals.recover_refusal}
use Rattle.whole_runs.specs.{Outcomes.start_outcome, Outcomes.recover_outcome, Calls.Call, Calls.recover, Calls.call, Calls.state_after, Calls.transcript}
use Rattle.whole_runs.specs.{Survival.Surviving, Survival.beginning, Survival.after, Survival.surviving_from, Survival.surviving, WholeRuns.StatePromise}
use Rattle.whole_runs.specs.Clean.{OnlyNeededKept, CleanAfterRecovery, CleanPromise}
use Rattle.histories.proofs.{Run.Ideal, Run.begun, Run.recovered, Invariant.Inv, Rule.keeps_out, Recovered.recovered_current}
use Rattle.whole_runs.proofs.{whole.Reached.Reached, whole.Reached.exchange, whole.Reached.refusal, whole.Runs.stepped, whole.Runs.run_after}
use Rattle.whole_runs.proofs.{WholeRuns.accepted_reached, WholeRuns.reachable_reached, WholeRuns.recover_promise, Best.in_best_line, Best.best_kept}

-- A pin that a recovery leaves, of p for f, is of f's current interval: the checkpoint that it names is in the best line for the failure of f alone.
clean : (n : ℕ) (s : Run) (h : Surviving) (r : Ideal) (F : ℕ) → Inv r → Reached n s h (recovered r (failed F)) → OnlyNeededKept n h.lists h.kept
clean n s h r F w v = record {
  used = λ p k hp e.
      let z = keeps_out (recovered r (failed F)) p k (sym (v.agrees.kept p k (rw v.size hp)) ∙ e) in
      let f : ℕ = z.0 in
      let hf : f < n = omega (arith, z.1, v.size) in
      let now = recovered_current r w (failed F) p f k z.2 in
      let d = v.inv.pins p f k z.1 z.2 in
      (2 ^ f, pow_pos f, pow_less f n hf, in_best_line n s h (recovered r (failed F)) v p f k hp hf d.below (omega (arith, d.less, now)) (omega (arith, d.next, now)));
  kept_if_used = λ p k other hp some-failed. best_kept n s h (recovered r (failed F)) v p k other hp;
}

-- A list of calls with one more.
after_last : (n : ℕ) (s : Run) (h : Surviving) (calls : List Call) (c : Call)
    → surviving_from n h (transcript s (calls ++ (c ∷ []))) ≡ after n (surviving_from n h (transcript s calls)) (exchange (state_after s calls) c)
unfolding surviving_from transcript state_after
after_last n s h [] c = refl
after_last n s h (b ∷ calls) c = after_last n (call s b).run (after n h (exchange s b)) calls c

-- An accepted recovery reaches the run after it.
recovered_reached : (n : ℕ) (s : Run) (h : Surviving) (r : Ideal) → Reached n s h r → (F : ℕ) (deleted lent : List ℕ) → recover_refusal s F deleted lent ≡ None
    → Reached n (call s (recover F deleted lent)).run (after n h (exchange s (recover F deleted lent))) (recovered r (failed F))
unfolding stepped refusal
recovered_reached n s h r v F deleted lent e = accepted_reached n s h r v (recover F deleted lent) (rw v.state at e)

-- Note 6.
pub clean_after_recovery : CleanAfterRecovery
unfolding CleanAfterRecovery surviving
clean_after_recovery n block_counts ok calls F deleted lent e =
    let s₀ = (start_outcome n block_counts).run in
    let h = surviving_from n (beginning n block_counts) (transcript s₀ calls) in
    let r = run_after (begun n block_counts) calls in
    let v = reachable_reached n block_counts ok calls in
    rw (after_last n s₀ (beginning n block_counts) calls (recover F deleted lent))
    (clean n (call (state_after s₀ calls) (recover F deleted lent)).run (after n h (exchange (state_after s₀ calls) (recover F deleted lent))) r F v.inv
    (recovered_reached n (state_after s₀ calls) h r v F deleted lent e))

-- Note 6 as a recover call says it of the state that it returns, which keeps what is kept by the pairs handed out.
pub clean_promise : (s : Run) (F : ℕ) (deleted lent : List ℕ) (t : Run) → t ≡ (recover_outcome s F deleted lent).run → CleanPromise s F deleted lent t
unfolding CleanPromise StatePromise CleanAfterRecovery
clean_promise s F deleted lent t same n block_counts ok calls e fine =
    let right = (recover_promise s F deleted lent t same n block_counts ok calls e).0 in
    let all = clean_after_recovery n block_counts ok calls F deleted lent (rw e at fine) in
    record {
      used = λ p k hp kept. all.used p k hp (sym (right.kept_in_state p k hp) ∙ kept);
      kept_if_used = λ p k F hp some-failed inside best. right.kept_in_state p k hp ∙ all.kept_if_used p k F hp some-failed inside best;
    }
