-- For C: what a call that may change the state leaves in the words.
-- Assumes nothing.
use Rattle.std.specs.Prelude.{◌≡◌}
use Rattle.laws.specs.Basics.{List, ℕ}
use Rattle.model.specs.declared.Refusal.{Refusal}
use Rattle.whole_runs.specs.Outcomes.{Outcome}
use Rattle.words.specs.Layout.{run_of}
use Rattle.in_place.specs.Left.{Leaves}

-- They hold the state of the outcome, and after a refusal they are as they were.
pub record Changes {A : Type 0} (refused : Refusal → A) (o : Outcome A) (words words' : List ℕ) : Type 0 where
  pub run : run_of words' ≡ o.run
  pub kept : (why : Refusal) → o.answer ≡ refused why → words' ≡ words
  pub leaves : Leaves words words'
