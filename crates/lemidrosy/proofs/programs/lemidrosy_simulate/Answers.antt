-- `lemidrosy::programs::lemidrosy_simulate` meets its contract: the list's length, then the simulation. Note 10 is a theorem of `spacing`.
-- Assumes nothing.
use Rattle.std.specs.Prelude.{◌≡◌, ◌≤◌, ◌<◌}
use Rattle.laws.specs.Basics.{refl, ◌∙◌, List, ℕ, length, rules, lt-ltb, le-ltb}
use Rattle.model.specs.Refusals.{number}
use Rattle.listing.specs.answers.Codes.{coded, value_code_of}
use Rattle.theory_recording.specs.declared.spacing.TrialResult.{TrialResult}
use Rattle.theory_recording.specs.spacing.Spacing.{simulated, TrialsAgree}
use Rattle.theory_recording.proofs.spacing.Agreement.{trials_agree}
use Rattle.lemidrosy.specs.Programs.{figures_written, simulation}
use Rattle.lemidrosy.proofs.programs.lemidrosy_simulate.Goals as goal

module _ (n k steps seed : ℕ) (lent : List ℕ) where
  short : length lent < 5 → (3 ≡ coded (simulation n k steps seed lent).report 0) × (lent ≡ (simulation n k steps seed lent).list)
  unfolding simulation coded value_code_of number
  short lt = rw (lt-ltb (length lent) 5 lt) (refl, refl)

  long : (r : TrialResult) (code : ℕ) (list : List ℕ) → 5 ≤ length lent → r ≡ simulated n k steps seed → (code ≡ coded (figures_written r lent).report 0) × (list ≡ (figures_written r lent).list)
      → (code ≡ coded (simulation n k steps seed lent).report 0) × (list ≡ (simulation n k steps seed lent).list)
  unfolding simulation
  long r code list le e h = rw (le-ltb (length lent) 5 le, ← e) h

pub returns-then-figures-lt-FIGURES : goal.returns-then-figures-lt-FIGURES
unfolding TrialsAgree
returns-then-figures-lt-FIGURES c =
    let a = c.args in let h = short a.n a.spacing a.steps a.seed a.figures.now c.if-figures-lt-FIGURES.true in record { value = h.0; figures_after = h.1; agrees_with_replay = trials_agree a.n a.spacing a.steps a.seed }

pub returns : goal.returns
unfolding TrialsAgree
returns c =
    let a = c.args in let h = long a.n a.spacing a.steps a.seed a.figures.now _ _ _ c.if-figures-lt-FIGURES.false c.simulate-result.ensures.value (c.write_figures.ensures.value, c.write_figures.ensures.figures_after) in record { value = h.0; figures_after = h.1; agrees_with_replay = trials_agree a.n a.spacing a.steps a.seed }
