-- A start that is accepted leads to a state that calls from a start lead to.
-- Assumes nothing.
use Rattle.std.specs.Prelude.{◌≡◌, Err, Ok}
use Rattle.laws.specs.Basics.{sym, ◌∙◌, ap, false≢true, List, Option, None, Some, ℕ, arith}
use Prim.{tt}
use Rattle.model.specs.Shapes.{StartAnswer}
use Rattle.model.specs.declared.{Refusal.Refusal, Run.Run}
use Rattle.model.specs.{Refusals.start_refusal, laws.Refusals.by_refusal}
use Rattle.whole_runs.specs.{Outcomes.Outcome, Outcomes.start_outcome, WholeRuns.Reachable}
use Rattle.whole_runs.proofs.WholeRuns.{reachable_start}
use Rattle.in_place.specs.Starting.{start_refusal_in, start_outcome_in, StartsTheSame}
use Rattle.in_place.proofs.{Judging.starts_the_same, Starting.accepted_size, Starting.accepted_long}

accepted : (n : ℕ) (block_counts : List ℕ) → (start_outcome n block_counts).answer ≡ Ok tt → start_refusal n block_counts ≡ None
unfolding start_outcome
accepted n block_counts e = by_refusal (start_refusal n block_counts) (λ f. f)
    (λ why f. absurd (let z : Err why ≡ Ok tt = rw f at e in let y : ◌≡◌ {A = ℕ} 0 1 = cc in omega arith))

started : (many n : ℕ) (block_counts : List ℕ) → start_refusal_in many n block_counts ≡ None → (start_outcome_in many n block_counts).answer ≡ Ok tt
unfolding start_outcome_in
started many n block_counts fine = rw fine

pub started_reachable : (many n : ℕ) (block_counts : List ℕ) (t : Run) → t ≡ (start_outcome_in many n block_counts).run → start_refusal_in many n block_counts ≡ None → Reachable t
unfolding StartsTheSame
started_reachable many n block_counts t e fine =
    let same : start_outcome_in many n block_counts ≡ start_outcome n block_counts = rw (accepted_size many n block_counts fine) (starts_the_same n block_counts (accepted_long many n block_counts fine)) in
    rw (e, same) (reachable_start n block_counts (accepted n block_counts (sym (ap (λ (o : Outcome StartAnswer). o.answer) same) ∙ started many n block_counts fine)))

-- A start is not both accepted and refused.
pub never_both : {o : Option Refusal} (why : Refusal) → o ≡ None → o ≡ Some why → ⊥
never_both why a b = let same : None ≡ Some why = sym a ∙ b in false≢true cc
