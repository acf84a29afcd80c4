-- What the functions of the decision ask for, from states and messages that hold a trail, and the verdict from what they answer.
-- Assumes nothing.
use Rattle.std.specs.Prelude.{◌≡◌, ◌-◌, ◌≤◌, ◌<◌}
use Rattle.laws.specs.Basics.{refl, ◌∙◌, List, Option, None, Some, ℕ, zero, suc, arith, length, get_or, set, replicate, length-replicate, get_or-set_same, get_or-set_other}
use Rattle.histories.specs.History.{checkpoints}
use Rattle.model.specs.Words.{most_processes}
use Rattle.theory_patterns.specs.{declared.End.End, Paths.FirstBreaking}
use Rattle.theory_patterns.proofs.{Trail.Trail, Trail.Right, Facts.vectors, Facts.sources}
use Rattle.library_judge.specs.declared.pattern.{State.State, Sent.Sent}
use Rattle.library_judge.specs.decision.Rows.{most_rows, owner_at, from_at, to_at}
use Rattle.library_judge.specs.{decision.Crossings.Sized, decision.Crossings.NearEnd, decision.Far.Reaching, decision.Far.FarEnd}
use Rattle.library_judge.specs.{decision.Reach.Linked, decision.Reach.Closure, decision.Reach.FirstRow, decision.Represents.Represents}
use Rattle.library_judge.proofs.decision.Verdict.{says_trackable, says_breaks, first_there, far_there, reach_rows, received_row}
use Rattle.theory_patterns.specs.Paths as paths

-- What is reached at the start.
abbrev pub start_of : ℕ → Option ℕ → List (Option ℕ)
start_of p row = set (replicate 16 None) p row

start_at_lem : (p : ℕ) (row : Option ℕ) → p < 16 → get_or (start_of p row) p None ≡ row
start_at_lem p row h = get_or-set_same (replicate 16 None) p row None (omega (arith, length-replicate {A = Option ℕ} 16 None))

start_other : (p : ℕ) (row : Option ℕ) (q : ℕ) → (q ≡ p → ⊥) → get_or (start_of p row) q None ≡ None
start_other p row q ne = get_or-set_other (replicate 16 None) p q row None ne ∙ all_none 16 q
  where
    all_none : (n q : ℕ) → get_or {A = Option ℕ} (replicate n None) q None ≡ None
    all_none zero q = refl
    all_none (suc n) zero = refl
    all_none (suc n) (suc q) = all_none n q

module _ (n : ℕ) (S : List State) (M : List Sent) (t : Trail) (right : Right t) (h : Represents n t.lists t.vector (length S) (length M) S M) where
  represented : Represents n t.lists (vectors t right).vector (length S) (length M) S M
  unfolding vectors
  represented = h

  here : (p k f : ℕ) → k ≤ checkpoints (t.lists p) → (vectors t right).vector p k f ≤ checkpoints (t.lists f)
  unfolding vectors
  here = right.present

  pub sized : Sized S M
  sized m lm = (h.from_row m lm, h.to_row m lm)

  -- The rows are no more than a trace has, and every row has its process.
  pub owned : (length S ≤ most_rows) × ((r : ℕ) → r < length S → owner_at S r < most_processes)
  owned = (h.most_rows_lem, λ r lr. omega (arith, h.owner r lr, h.few))

  pub linked : Linked S M
  linked m lm = (
    sized m lm,
    (omega (arith, h.from_row m lm, owned.0), omega (arith, h.to_row m lm, owned.0)),
    owned.1 (from_at M m) (h.from_row m lm),
    λ ne. owned.1 (to_at M m - 1) (received_row h m lm ne),
  )

  pub is_trackable : NearEnd S M n None → paths.Trackable n t.lists
  is_trackable = says_trackable n t.lists (vectors t right) (sources t right) here S M represented

  module _ (near : End) (w : NearEnd S M n (Some near)) where
    pub near_in : near.process < 16
    near_in = omega (arith, w.0, h.few)

    -- A row after the near end is found.
    pub no_first : FirstRow S near.process near.index.0 None → ⊥
    no_first = first_there n t.lists (vectors t right) (sources t right) here S M represented near w

    module _ (row : ℕ) (fr : FirstRow S near.process near.index.0 (Some row)) (reach : List (Option ℕ)) (cl : Closure (length M) S M (start_of near.process (Some row)) reach) where
      reaching_some : Reaching (length S) reach
      reaching_some q r lq e = reach_rows n t.lists (vectors t right) (sources t right) here S M represented near w row fr
          (start_of near.process (Some row)) reach (start_at_lem near.process (Some row) near_in) (start_other near.process (Some row)) cl q r e

      far_some : FarEnd S reach n near None → ⊥
      far_some = far_there n t.lists (vectors t right) (sources t right) here S M represented near w row fr
          (start_of near.process (Some row)) reach (start_at_lem near.process (Some row) near_in) (start_other near.process (Some row)) cl

      breaking_some : (far : End) → FarEnd S reach n near (Some far) → FirstBreaking n t.lists near.process near.index.0 far.process far.index.0
      breaking_some = says_breaks n t.lists (vectors t right) (sources t right) here S M represented near w row fr
          (start_of near.process (Some row)) reach (start_at_lem near.process (Some row) near_in) (start_other near.process (Some row)) cl

    -- The same of the row that is found.
    module _ (reach : List (Option ℕ)) where
      pub reaching : (first : Option ℕ) → FirstRow S near.process near.index.0 first → Closure (length M) S M (start_of near.process first) reach → Reaching (length S) reach
      reaching None fr cl = absurd (no_first fr)
      reaching (Some row) fr cl = reaching_some row fr reach cl

      pub no_far : (first : Option ℕ) → FirstRow S near.process near.index.0 first → Closure (length M) S M (start_of near.process first) reach → FarEnd S reach n near None → ⊥
      no_far None fr cl fe = no_first fr
      no_far (Some row) fr cl fe = far_some row fr reach cl fe

      pub breaks : (first : Option ℕ) → FirstRow S near.process near.index.0 first → Closure (length M) S M (start_of near.process first) reach
          → (far : End) → FarEnd S reach n near (Some far) → FirstBreaking n t.lists near.process near.index.0 far.process far.index.0
      breaks None fr cl far fe = absurd (no_first fr)
      breaks (Some row) fr cl far fe = breaking_some row fr reach cl far fe
