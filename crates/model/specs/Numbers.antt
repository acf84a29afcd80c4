-- The numbers that documents 01 and 02 give the refusals: 1 to 25 without 6, each to one refusal.
-- Assumes nothing.
use Rattle.std.specs.Prelude.{◌≡◌, ◌≤◌}
use Rattle.laws.specs.Basics.{ℕ}
use Rattle.model.specs.declared.Refusal.{Refusal}
use Rattle.model.specs.Refusals.{number}

pub record NumbersAreRight : Type 0 where
  -- Note 4: "Refusal 6 never occurs any more."
  pub never_six : (x : Refusal) → number x ≡ 6 → ⊥
  -- document 01 begins with 1, and 25 is the last of document 02, Note 13's,
  pub in_table : (x : Refusal) → (1 ≤ number x) × (number x ≤ 25)
  -- each number between them but 6 is a refusal's,
  pub given : (k : ℕ) → 1 ≤ k → k ≤ 25 → (k ≡ 6 → ⊥) → (x : Refusal) × (number x ≡ k)
  -- and no two refusals share one
  pub apart : (x y : Refusal) → number x ≡ number y → x ≡ y
