-- `library_trials::most_kept` meets its contract.
-- Assumes nothing.
use Rattle.std.specs.Prelude.{◌≡◌}
use Rattle.laws.specs.Basics.{refl, sym, ◌∙◌, ap, ℕ, arith}
use Rattle.words.specs.Layout.{word, count_of, kept_count_at_of, run_of}
use Rattle.words.proofs.ViewSound.{sound_words}
use Rattle.theory_recording.specs.spacing.Spacing.{greatest_below, most_kept_of}
use Rattle.library_trials.proofs.{Searching.greatest_more, Searching.most_in}
use Rattle.library_trials.proofs.most_kept.Goals as goal

pub loop-p-init : goal.loop-p-init
unfolding greatest_below
loop-p-init c =
    refl

pub bounds-w-p : goal.bounds-w-p
bounds-w-p c =
    omega (arith, c.loop-p-test.true, (sound_words c.args.w.now c.requires.0).few, c.requires.1)

pub loop-p-preserved : goal.loop-p-preserved
loop-p-preserved c =
    greatest_more (λ q. word c.args.w.now (kept_count_at_of q)) c.loop-p.p c.loop-p.most c.max-most.result c.loop-p.invariant c.max-most.ensures

pub returns : goal.returns
returns c =
    let w = c.args.w.now in
    let whole : c.loop-p.p ≡ count_of w = omega (arith, c.loop-p-test.false, c.loop-p.auto.p-end, c.requires.1) in
    c.loop-p.invariant ∙ ap (λ (p : ℕ). greatest_below p (λ q. word w (kept_count_at_of q))) whole ∙ sym (most_in w c.requires.0) ∙ ap (λ (n : ℕ). most_kept_of n (run_of w)) (sym c.requires.1)
