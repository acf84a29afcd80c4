-- What a call that may change the state leaves in the words, from what the call below it does.
-- Assumes nothing.
use Rattle.std.specs.Prelude.{◌≡◌}
use Rattle.laws.specs.Basics.{refl, ◌∙◌, List, ℕ}
use Rattle.model.specs.declared.Refusal.{Refusal}
use Rattle.whole_runs.specs.Outcomes.{Outcome}
use Rattle.words.specs.Layout.{run_of}
use Rattle.in_place.specs.Left.{Leaves}
use Rattle.in_place.proofs.Leaving.{same_words}
use Rattle.lemidrosy.specs.Changes.{Changes}

module _ {A : Type 0} (refused : Refusal → A) (o : Outcome A) (words : List ℕ) where
  pub unchanged : run_of words ≡ o.run → Changes refused o words words
  unchanged run = record { run = run; kept = λ why e. refl; leaves = same_words words }

  pub changed : (words' : List ℕ) (answer : A) → answer ≡ o.answer → run_of words' ≡ o.run → ((why : Refusal) → answer ≡ refused why → words' ≡ words) → Leaves words words'
      → Changes refused o words words'
  changed words' answer same run kept leaves = record { run = run; kept = λ why e. kept why (same ∙ e); leaves = leaves }
