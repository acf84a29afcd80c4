-- The line on a state that stands for a run: the rule, the member at each process, the indexes that are written, and who rolls back.
use Rattle.std.specs.Prelude.{◌≡◌, ◌&&◌, ◌||◌, ◌≤◌, ◌<◌}
use Rattle.laws.specs.Basics.{refl, ◌∙◌, ap, true, not, Some, ℕ, suc, arith, ltb, lt-ltb, le-ltb, pick, by_bool}
use Rattle.std.specs.Option.{option_map}
use Rattle.laws.specs.{Lists.last_of, Lists.table, Ranges.all_same, Search.all_below, Search.latest, Tables.table_same}
use Rattle.model.specs.Words.{most_processes, entry, below, process, own, failed}
use Rattle.model.specs.Steps.{allowed, states, latest_allowed, line_of, rolled_back}
use Rattle.histories.proofs.{Run.Ideal, Run.safe, Run.member, Run.line, Run.rolled, Invariant.Inv, Line.line_found, Line.line_back, Line.line_live, Line.live_self}
use Rattle.model.proofs.simulation.View.{passing, checkpoint_of, process_of, state_of}
use Rattle.model.proofs.simulation.Passing.{passing_same, select_passing, last_passing}
use Rattle.model.proofs.simulation.Reads.{entry_is, count_is_lem, process_is, own_is}
use Rattle.model.proofs.simulation.Rows.{standing, states_are}
use Rattle.model.specs.Steps as steps

module _ (r : Ideal) (v : Inv r) (few : r.n ≤ most_processes) (F : ℕ) where
  -- A state passes the rule in the state exactly if it does in the run.
  allowed_at : (p k f : ℕ) → f < r.n
      → (not (failed F f) || below (entry (checkpoint_of r p k).vector f) (own (state_of r) f)) ≡ pick (failed F f) (ltb (r.vector p k f) (r.own f)) true
  unfolding checkpoint_of
  allowed_at p k f hf = rw (entry_is r.n (r.vector p k) f few hf, own_is r f few hf (live_self r v f)) (by_bool (failed F f) (λ e. rw e) (λ e. rw e))

  pub allowed_is : (p k : ℕ) → allowed (state_of r) F (checkpoint_of r p k) ≡ safe r (failed F) p k
  unfolding allowed safe
  allowed_is p k =
      ap (λ (c : ℕ). all_below c (λ f. not (failed F f) || below (entry (checkpoint_of r p k).vector f) (own (state_of r) f))) (count_is_lem r)
      ∙ all_same r.n _ _ (λ f hf. allowed_at p k f hf)

  -- The states of a process, in order.
  pub states_is : (p : ℕ) → p < r.n → states p (process (state_of r) p) ≡ passing (suc (r.own p)) (standing r p) (checkpoint_of r p)
  unfolding states process_of
  states_is p lt = rw (process_is r p few lt) (states_are r p few lt (live_self r v p))

  line_member : (p : ℕ) → latest (suc (r.own p)) (λ k. standing r p k && safe r (failed F) p k) ≡ Some (line r (failed F) p)
  unfolding member
  line_member p = line_found r v (failed F) p

  -- The latest of them that passes is the member of the run's line.
  pub latest_allowed_lem : (p : ℕ) → p < r.n → latest_allowed (state_of r) F p ≡ Some (checkpoint_of r p (line r (failed F) p))
  unfolding latest_allowed
  latest_allowed_lem p lt =
      rw (states_is p lt, select_passing (allowed (state_of r) F) (suc (r.own p)) (standing r p) (checkpoint_of r p))
      (ap last_of (passing_same (suc (r.own p)) _ (λ k. standing r p k && safe r (failed F) p k) _ (checkpoint_of r p)
      (λ k h. rw (allowed_is p k))
      (λ k h q. refl))
      ∙ last_passing (suc (r.own p)) (λ k. standing r p k && safe r (failed F) p k) (checkpoint_of r p)
      ∙ ap (option_map (checkpoint_of r p)) (line_member p))

  pub member_is : (p : ℕ) → p < r.n → steps.member (state_of r) F p ≡ checkpoint_of r p (line r (failed F) p)
  unfolding steps.member
  member_is p lt = rw (latest_allowed_lem p lt)

  pub member_index : (p : ℕ) → p < r.n → (steps.member (state_of r) F p).index.0 ≡ line r (failed F) p
  unfolding checkpoint_of
  member_index p lt = rw (member_is p lt)

  -- The indexes that are written.
  pub line_is : line_of (state_of r) F ≡ table r.n (line r (failed F))
  unfolding line_of
  line_is =
      ap (λ (c : ℕ). table c (λ p. (steps.member (state_of r) F p).index.0)) (count_is_lem r)
      ∙ table_same r.n _ _ (λ p lt. member_index p lt)

  -- Who rolls back.
  pub rolled_is : (p : ℕ) → p < r.n → rolled_back (state_of r) F p ≡ rolled r (failed F) p
  unfolding rolled_back
  rolled_is p lt = rw (member_index p lt, own_is r p few lt (live_self r v p)) (by_bool (rolled r (failed F) p)
      (λ e. rw e (lt-ltb (line r (failed F) p) (r.own p) (line_back r v (failed F) p e).below))
      (λ e. rw (e, line_live r v (failed F) p e) (le-ltb (r.own p) (r.own p) (omega arith))))
