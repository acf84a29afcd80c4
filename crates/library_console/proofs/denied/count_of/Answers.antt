-- `library_console::denied::count_of` meets its contract: words that fit have it in their first one, others stand for a state of zeros.
-- Assumes nothing.
use Rattle.std.specs.Prelude.{◌≡◌}
use Rattle.laws.specs.Basics.{sym, ◌∙◌, ap, Bool, true, false, not, List, ℕ, rules}
use Rattle.model.specs.declared.Run.{Run}
use Rattle.model.specs.Words.{blank}
use Rattle.words.specs.Layout.{fits, run_of}
use Rattle.words.proofs.View.{run_unfit, fits_size, count_is_lem}
use Rattle.library_console.proofs.denied.count_of.Goals as goal

-- By what the test answered.
unfit : (w : List ℕ) (b : Bool) → b ≡ fits w → not b ≡ true → 0 ≡ (run_of w).count
unfolding blank
unfit w true e t = search rules
unfit w false e t = sym (ap (λ (r : Run). r.count) (run_unfit w (sym e)))

fit : (w : List ℕ) (b : Bool) → b ≡ fits w → not b ≡ false → fits w ≡ true
fit w true e t = sym e
fit w false e t = search rules

pub returns-then-not-fit : goal.returns-then-not-fit
returns-then-not-fit c =
    unfit c.args.w.now _ c.is_fit-fit.ensures (ap not c.if-not-fit.true)

pub bounds-w-0 : goal.bounds-w-0
bounds-w-0 c =
    let w = c.args.w.now in let size = fits_size w (fit w _ c.is_fit-fit.ensures (ap not c.if-not-fit.false)) in search rules

pub returns : goal.returns
returns c =
    let w = c.args.w.now in c.number_of.ensures ∙ sym (count_is_lem w (fit w _ c.is_fit-fit.ensures (ap not c.if-not-fit.false)))
