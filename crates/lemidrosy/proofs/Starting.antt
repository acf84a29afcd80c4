-- The report of a start on words fits the fields of its number.
-- Assumes nothing.
use Rattle.laws.specs.Basics.{List, ℕ, arith}
use Rattle.model.specs.laws.Refusals.{by_refusal}
use Rattle.whole_runs.specs.Outcomes.{start_report}
use Rattle.listing.specs.answers.Codes.{Fits}
use Rattle.listing.proofs.answers.Fit.{fits_refused, fits_none}
use Rattle.in_place.specs.Starting.{start_refusal_in, start_outcome_in}

pub start_fits : (many n : ℕ) (block_counts : List ℕ) → Fits (start_report (start_outcome_in many n block_counts).answer)
unfolding start_report start_outcome_in
start_fits many n block_counts = by_refusal (start_refusal_in many n block_counts) (λ e. rw e (fits_none 0 (omega arith))) (λ x e. rw e (fits_refused x))
