-- A sound state stays sound after every call that is no recovery, and after a recovery that deletes nothing; refused or accepted. Here it is stated of the run that words
-- stand for: its arrays have their sizes.
-- Assumes nothing.
use Rattle.std.specs.Prelude.{◌≡◌}
use Rattle.laws.specs.Basics.{true, List, ℕ}
use Rattle.model.specs.Sound.{sound}
use Rattle.whole_runs.specs.Outcomes.{checkpoint_outcome, send_outcome, deliver_outcome, lose_outcome, recover_outcome, recover_report}
use Rattle.words.specs.Layout.{run_of}

pub record StaysSound (w : List ℕ) : Type 0 where
  pub checkpoint : (i : ℕ) (deleted : List ℕ) → sound (checkpoint_outcome (run_of w) i deleted).run ≡ true
  pub send : (i j : ℕ) → sound (send_outcome (run_of w) i j).run ≡ true
  pub deliver : (m : ℕ) (deleted : List ℕ) → sound (deliver_outcome (run_of w) m deleted).run ≡ true
  pub lose : (m : ℕ) → sound (lose_outcome (run_of w) m).run ≡ true
  pub recover : (F : ℕ) (deleted line : List ℕ) → (recover_report (recover_outcome (run_of w) F deleted line).answer).deletions ≡ 0
      → sound (recover_outcome (run_of w) F deleted line).run ≡ true

unfoldable pub CallsKeepSound : Type 0
CallsKeepSound = (w : List ℕ) → sound (run_of w) ≡ true → StaysSound w
