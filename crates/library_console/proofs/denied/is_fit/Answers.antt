-- `library_console::denied::is_fit` meets its contract, test by test.
-- Assumes nothing.
use Rattle.std.specs.Prelude.{◌≡◌, ◌-◌, ◌≤◌, ◌<◌}
use Rattle.laws.specs.Basics.{refl, sym, ◌∙◌, Bool, true, false, List, ℕ, arith, length, rules, eq-eqb, ne_eqb, le-leb, lt-leb}
use Rattle.words.specs.Layout.{state_size, end_of, end_fits_of, fits, message_in, is_message}
use Rattle.library_console.proofs.denied.is_fit.Goals as goal

module _ (w : List ℕ) where
  another : (length w ≡ state_size → ⊥) → false ≡ fits w
  unfolding fits
  another ne = rw (ne_eqb _ _ ne)

  module _ (e : length w ≡ state_size) where
    past : 64 < end_of w → false ≡ fits w
    unfolding fits end_fits_of
    past far = rw (eq-eqb _ _ e, lt-leb _ _ far)

    empty : end_of w ≡ 0 → true ≡ fits w
    unfolding fits end_fits_of
    empty z = rw (eq-eqb _ _ e, z) refl

    used : end_of w ≤ 64 → (end_of w ≡ 0 → ⊥) → (b : Bool) → b ≡ is_message (message_in w (end_of w - 1)) → b ≡ fits w
    unfolding fits end_fits_of
    used most ne b h = h ∙ rw (eq-eqb _ _ e, le-leb _ _ most, ne_eqb _ _ ne)

pub returns-then-w-ne-WORDS : goal.returns-then-w-ne-WORDS
returns-then-w-ne-WORDS c =
    another c.args.w.now c.if-w-ne-WORDS.true

pub returns-then-end-gt-MESSAGES : goal.returns-then-end-gt-MESSAGES
returns-then-end-gt-MESSAGES c =
    let w = c.args.w.now in past w c.if-w-ne-WORDS.false (omega (arith, c.if-end-gt-MESSAGES.true, c.number_of-end.ensures))

pub returns-then-end-eq0 : goal.returns-then-end-eq0
returns-then-end-eq0 c =
    let w = c.args.w.now in empty w c.if-w-ne-WORDS.false (sym c.number_of-end.ensures ∙ c.if-end-eq0.true)

pub returns : goal.returns
returns c =
    let w = c.args.w.now in used w c.if-w-ne-WORDS.false (omega (arith, c.if-end-gt-MESSAGES.false, c.number_of-end.ensures)) (λ z. c.if-end-eq0.false (c.number_of-end.ensures ∙ z)) _ (rw c.number_of-end.ensures at c.is_used.ensures)
