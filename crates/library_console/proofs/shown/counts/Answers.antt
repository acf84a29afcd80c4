-- `library_console::shown::counts` meets its contract: it is denied, refused with 2 or 3, or how many each process keeps is written.
-- Assumes nothing.
use Rattle.laws.specs.Basics.{not, sym, ◌∙◌, ap, ℕ, arith, ltb, length, sets, rules, ltb-false}
use Rattle.words.specs.Layout.{run_of}
use Rattle.whole_runs.proofs.Unsound.{is_sound, is_unsound}
use Rattle.words.proofs.{View.count_is_lem, ViewSound.sound_words}
use Rattle.library_readers.specs.Written.{words_from}
use Rattle.library_console.proofs.Showing.{counts_denied, counts_unsound, counts_short, counts_written}
use Rattle.library_console.proofs.shown.counts.Goals as goal

pub returns-then-denied : goal.returns-then-denied
returns-then-denied c =
    let a = c.args in let z = counts_denied a.role a.owned a.w.now a.line.now (c.is_denied-denied.ensures a.owned) c.if-denied.true in record { w_value = z.0; value = z.1.0; line_after = z.1.1 }

pub returns-then-not-sound : goal.returns-then-not-sound
returns-then-not-sound c =
    let a = c.args in let z = counts_unsound a.role a.owned a.w.now a.line.now (c.is_denied-denied.ensures a.owned) c.if-denied.false (is_unsound (run_of a.w.now) c.is_sound-sound.ensures (ap not c.if-not-sound.true)) in record { w_value = z.0; value = z.1.0; line_after = z.1.1 }

pub returns-then-short : goal.returns-then-short
returns-then-short c =
    let a = c.args in let z = counts_short a.role a.owned a.w.now a.line.now (c.is_denied-denied.ensures a.owned) c.if-denied.false (is_sound (run_of a.w.now) c.is_sound-sound.ensures (ap not c.if-not-sound.false))
    (ap (λ (j : ℕ). ltb (length a.line.now) j) (sym c.count_of-n.ensures) ∙ sym c.is_line_short-short.ensures ∙ c.if-short.true) in record { w_value = z.0; value = z.1.0; line_after = z.1.1 }

pub copy_words-requires : goal.copy_words-requires
copy_words-requires c =
    let a = c.args in let known = sound_words a.w.now (is_sound (run_of a.w.now) c.is_sound-sound.ensures (ap not c.if-not-sound.false)) in (omega (arith, known.size, known.few, count_is_lem a.w.now known.fit, c.count_of-n.ensures), ltb-false _ _ (sym c.is_line_short-short.ensures ∙ c.if-short.false))

pub returns : goal.returns
returns c =
    let a = c.args in let z = counts_written a.role a.owned a.w.now a.line.now (c.is_denied-denied.ensures a.owned) c.if-denied.false (is_sound (run_of a.w.now) c.is_sound-sound.ensures (ap not c.if-not-sound.false))
    (ap (λ (j : ℕ). ltb (length a.line.now) j) (sym c.count_of-n.ensures) ∙ sym c.is_line_short-short.ensures ∙ c.if-short.false) _
    (c.copy_words.ensures ∙ ap (λ (j : ℕ). sets a.line.now 0 (words_from a.w.now 16 j)) c.count_of-n.ensures) in record { w_value = z.0; value = z.1.0; line_after = z.1.1 }
