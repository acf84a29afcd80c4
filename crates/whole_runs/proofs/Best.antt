-- The best line for a failed set: there is one only, the reported line is it, and what is in it is kept.
-- Assumes nothing.
use Rattle.std.specs.Prelude.{◌≡◌, ◌^◌, ◌≤◌, ◌<◌}
use Rattle.laws.specs.Basics.{◌∙◌, true, inl, inr, ℕ, suc, arith}
use Rattle.laws.specs.{Bits.pow_less, Bits.bit_one, Bits.bit_alone, Tables.get_d_table, Truth.never_both}
use Rattle.model.specs.declared.Run.{Run}
use Rattle.model.specs.Words.{failed}
use Rattle.histories.specs.History.{Line}
use Rattle.whole_runs.specs.{Outcomes.start_outcome, Calls.state_after, Calls.transcript, Survival.Surviving, Survival.surviving, Answers.RightLine}
use Rattle.whole_runs.specs.{Best.Best, Best.InBestLine, Best.OneBestLine, WholeRuns.reported, WholeRuns.RightOverWholeRuns, Clean.ReportedIsBest}
use Rattle.histories.proofs.{Run.Ideal, Run.line, Line.line_at}
use Rattle.model.proofs.simulation.Lines.{line_is}
use Rattle.whole_runs.proofs.{whole.Agreement.live_is, whole.Reached.Reached, WholeRuns.right_over_whole_runs, WholeRuns.reached_line}

-- Two best lines are nowhere later than each other.
pub one_best_line : OneBestLine
unfolding OneBestLine
one_best_line n lists F line other a b p hp = omega (arith, a.latest other b.possible p hp, b.latest line a.possible p hp)

-- A right line, as demand 3 says it, is the best line.
pub right_best : (n : ℕ) (h : Surviving) (F : ℕ) (written : Line) → RightLine n h F written → Best n h.lists F written
right_best n h F written right = record {
  possible = record {
    within = λ p hp. elim (right.members p hp) [ inl z ↦ omega (arith, z.0) | inr z ↦ omega (arith, z.0) ];
    consistent = right.consistent;
    back = λ f hf e. elim (right.members f hf) [ inl z ↦ never_both (failed F f) e z.1 | inr z ↦ z.0 ];
  };
  latest = right.maximal;
}

pub reported_is_best : ReportedIsBest
unfolding ReportedIsBest RightOverWholeRuns
reported_is_best n block_counts ok calls F inside =
    right_best n (surviving n block_counts (transcript (start_outcome n block_counts).run calls)) F (reported (state_after (start_outcome n block_counts).run calls) F)
    ((right_over_whole_runs n block_counts ok calls).4 F inside).right

-- On a reached state.
module _ (n : ℕ) (s : Run) (h : Surviving) (r : Ideal) (v : Reached n s h r) where
  reached_best : (F : ℕ) → F < 2 ^ n → Best n h.lists F (reported s F)
  reached_best F inside = right_best n h F (reported s F) (reached_line n s h r v F inside).right

  -- The reported line is that of the run as functions.
  reached_reported : (F p : ℕ) → p < n → reported s F p ≡ line r (failed F) p
  reached_reported F p hp = rw (v.state, line_is r v.inv v.limits.few_processes F) (get_d_table r.n (line r (failed F)) p 0 (rw v.size hp))

  -- A checkpoint right after which p learnt f's current interval is in the best line for the failure of f alone.
  pub in_best_line : (p f k : ℕ) → p < n → f < n → k < r.own p → r.vector p k f < r.own f → r.own f ≤ r.vector p (suc k) f → InBestLine n h.lists (2 ^ f) p k
  unfolding InBestLine
  in_best_line p f k hp hf lt low high =
      let at : line r (failed (2 ^ f)) p ≡ k = line_at r v.inv (failed (2 ^ f)) p f k (rw v.size hf) (bit_one f) (bit_alone f) lt low high in
      (reported s (2 ^ f), reached_best (2 ^ f) (pow_less f n hf), reached_reported (2 ^ f) p hp ∙ at, rw (live_is h r v.inv v.agrees p) lt)

  -- What is in a best line is kept: the best line is the reported one, whose members are kept or live.
  pub best_kept : (p k F : ℕ) → p < n → F < 2 ^ n → InBestLine n h.lists F p k → h.kept p k ≡ true
  unfolding InBestLine OneBestLine
  best_kept p k F hp inside b =
      let same : reported s F p ≡ k = one_best_line n h.lists F (reported s F) b.0 (reached_best F inside) b.1 p hp ∙ b.2 in
      elim ((reached_line n s h r v F inside).right.members p hp) [
        | inl z ↦ absurd (omega (arith, z.0, b.3))
        | inr z ↦ rw (← same) z.1
      ]
