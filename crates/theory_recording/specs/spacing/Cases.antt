-- Note 10: simulations with their results, as data. Another program, written from the document alone, gave the figures (`oracle --simulate`); proofs/Cases has the
-- theorem that the definitions give the same.
-- Assumes nothing.
use Rattle.std.specs.Prelude.{◌∷◌}
use Rattle.laws.specs.Basics.{Bool, List, [], ℕ}
use Rattle.laws.specs.Tests.{same}
use Rattle.theory_recording.specs.declared.spacing.TrialResult.{TrialResult}
use Rattle.theory_recording.specs.spacing.Spacing.{trial_report, simulated}

-- n, spacing, steps and starting value; then the number, deliveries, forced checkpoints, most kept, quotient and remainder.
pub record TrialCase : Type 0 where
  pub count : ℕ
  pub spacing : ℕ
  pub steps : ℕ
  pub seed : ℕ
  pub result : List ℕ

unfoldable pub result_numbers : TrialResult → List ℕ
result_numbers r =
    let f = r.figures in
    (trial_report r.answer).refused ∷ f.deliveries ∷ f.forced ∷ f.most ∷ f.quotient ∷ f.remainder ∷ []

unfoldable pub trial_right : TrialCase → Bool
trial_right c = same (result_numbers (simulated c.count c.spacing c.steps c.seed)) c.result

unfoldable pub trial_cases : List TrialCase
trial_cases =
    record { count = 1; spacing = 1; steps = 5; seed = 1; result = 0 ∷ 0 ∷ 0 ∷ 1 ∷ 0 ∷ 0 ∷ [] }
    ∷ record { count = 2; spacing = 1; steps = 8; seed = 5; result = 0 ∷ 4 ∷ 0 ∷ 2 ∷ 0 ∷ 0 ∷ [] }
    ∷ record { count = 2; spacing = 2; steps = 9; seed = 3; result = 0 ∷ 3 ∷ 2 ∷ 2 ∷ 666 ∷ 2 ∷ [] }
    ∷ record { count = 3; spacing = 1; steps = 8; seed = 4294967295; result = 0 ∷ 2 ∷ 0 ∷ 3 ∷ 0 ∷ 0 ∷ [] }
    ∷ record { count = 3; spacing = 2; steps = 12; seed = 81; result = 0 ∷ 6 ∷ 2 ∷ 3 ∷ 333 ∷ 2 ∷ [] }
    ∷ record { count = 4; spacing = 2; steps = 12; seed = 250; result = 0 ∷ 3 ∷ 2 ∷ 4 ∷ 666 ∷ 2 ∷ [] }
    ∷ record { count = 4; spacing = 3; steps = 14; seed = 149; result = 0 ∷ 6 ∷ 2 ∷ 3 ∷ 333 ∷ 2 ∷ [] }
    ∷ record { count = 16; spacing = 3; steps = 8; seed = 317; result = 0 ∷ 2 ∷ 1 ∷ 2 ∷ 500 ∷ 0 ∷ [] }
    ∷ record { count = 0; spacing = 1; steps = 1; seed = 1; result = 22 ∷ 0 ∷ 0 ∷ 0 ∷ 0 ∷ 0 ∷ [] }
    ∷ record { count = 17; spacing = 1; steps = 1; seed = 1; result = 22 ∷ 0 ∷ 0 ∷ 0 ∷ 0 ∷ 0 ∷ [] }
    ∷ record { count = 2; spacing = 0; steps = 1; seed = 1; result = 22 ∷ 0 ∷ 0 ∷ 0 ∷ 0 ∷ 0 ∷ [] }
    ∷ record { count = 2; spacing = 1001; steps = 1; seed = 1; result = 22 ∷ 0 ∷ 0 ∷ 0 ∷ 0 ∷ 0 ∷ [] }
    ∷ record { count = 2; spacing = 1; steps = 0; seed = 1; result = 22 ∷ 0 ∷ 0 ∷ 0 ∷ 0 ∷ 0 ∷ [] }
    ∷ record { count = 2; spacing = 1; steps = 30001; seed = 1; result = 22 ∷ 0 ∷ 0 ∷ 0 ∷ 0 ∷ 0 ∷ [] }
    ∷ []
