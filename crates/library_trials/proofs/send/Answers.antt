-- `library_trials::send` meets its contract.
-- Assumes nothing.
use Rattle.std.specs.Prelude.{◌≡◌}
use Rattle.laws.specs.Basics.{sym, ◌∙◌, ap, true, List, Some, None, ℕ, arith}
use Rattle.model.specs.declared.Event.TheVariants.{Send}
use Rattle.model.specs.Sound.{sound}
use Rattle.words.specs.Layout.{word, run_of}
use Rattle.words.proofs.{View.underway_is, ViewSound.sound_fits}
use Rattle.theory_recording.specs.spacing.Spacing.{sends}
use Rattle.library_trials.proofs.Actions.{nothing_so, send_so, sends_alone, sends_full, sends_one}
use Rattle.library_trials.proofs.send.Goals as goal
use Rattle.library_trials.proofs.send.Goals.{then-n-lt2-via-then-n-lt2, then-n-lt2-via-else-n-lt2+then-many-ge-MESSAGES}

many : (w : List ℕ) → sound (run_of w) ≡ true → (run_of w).underway ≡ word w 1
many w h = underway_is w (sound_fits w h)

pub returns-then-n-lt2 : goal.returns-then-n-lt2
returns-then-n-lt2 c =
    let a = c.args in
    let s = run_of a.w.now in
    let none : sends a.n s a.p a.d ≡ None = elim c.then-n-lt2.branch [
      | then-n-lt2-via-then-n-lt2 w ↦ sends_alone a.n s a.p a.d w.if-n-lt2.true
      | then-n-lt2-via-else-n-lt2+then-many-ge-MESSAGES w ↦ sends_full a.n s a.p a.d w.if-n-lt2.false (omega (arith, w.if-many-ge-MESSAGES.true, many a.w.now c.requires.0))
    ] in
    let so = nothing_so s _ none in
    record { w_after = so.0; value = so.1 }

pub returns : goal.returns
returns c =
    let a = c.args in
    let s = run_of a.w.now in
    let is = sends_one a.n s a.p a.d c.if-n-lt2.false (omega (arith, c.if-many-ge-MESSAGES.false, many a.w.now c.requires.0)) ∙ ap (λ (q : ℕ). Some (Send a.p q)) (sym c.chosen_receiver-to.ensures.0) in
    let so = send_so s a.p c.chosen_receiver-to.result _ is in
    record { w_after = c.send_on-answer.ensures.w_after ∙ so.0; value = so.1 }
