-- `library_recorder::without_room::copy_of` meets its contract.
-- Assumes nothing.
use Rattle.std.specs.Prelude.{◌≡◌}
use Rattle.laws.specs.Basics.{sym, ◌∙◌, ap, List, ℕ, arith, length, replicate, length-replicate, rules, by_bool}
use Rattle.words.specs.Layout.{state_size, fits, run_of}
use Rattle.words.proofs.View.{run_unfit, fits_size}
use Rattle.in_place.specs.Starting.{zeros}
use Rattle.in_place.proofs.Starting.{zeros_run}
use Rattle.library_readers.proofs.Copying.{copied_whole}
use Rattle.library_recorder.proofs.without_room.copy_of.Goals as goal

-- Zeros stand for what words of another number stand for.
other_size : (w : List ℕ) → (length w ≡ state_size → ⊥) → run_of (replicate 6464 0) ≡ run_of w
unfolding zeros
other_size w h = zeros_run ∙ sym (run_unfit w (by_bool (fits w) (λ e. absurd (h (fits_size w e))) (λ e. e)))

pub returns-then-w-ne-WORDS : goal.returns-then-w-ne-WORDS
returns-then-w-ne-WORDS c =
    other_size c.args.w.now c.if-w-ne-WORDS.true

pub copy_words-requires : goal.copy_words-requires
copy_words-requires c =
    (omega (arith, c.if-w-ne-WORDS.false), search rules)

pub returns : goal.returns
returns c =
    let w = c.args.w.now in ap run_of (copied_whole (replicate 6464 0) w _ (length-replicate {A = ℕ} 6464 0) c.if-w-ne-WORDS.false c.copy_words.ensures)
