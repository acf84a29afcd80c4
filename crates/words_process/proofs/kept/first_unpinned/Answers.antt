-- `words_process::kept::first_unpinned` meets its contract. Assumes nothing.
use Rattle.std.specs.Prelude.{◌≡◌, ◌+◌, ◌-◌, ◌≤◌, ◌<◌}
use Rattle.laws.specs.Basics.{sym, ◌∙◌, true, List, ℕ, arith, rules, not-false, by_eq}
use Rattle.model.specs.Shapes.{Pin}
use Rattle.model.specs.Words.{is_pinned}
use Rattle.words.specs.Layout.{word, index_at_of, checkpoint_in}
use Rattle.words_process.specs.{Kept.Used, Kept.AllPinned, Pins.pin_row}
use Rattle.words_process.proofs.{Collecting.pinned_is}
use Rattle.words_process.proofs.kept.first_unpinned.Goals as goal

used_at : (w : List ℕ) (p n : ℕ) → Used w p n → (k : ℕ) → k < n → 1 ≤ word w (index_at_of p k)
unfolding Used
used_at w p n used k lt = used k lt

one_more : (w : List ℕ) (p : ℕ) (pins : List Pin) (n : ℕ) → AllPinned w p pins n → is_pinned pins (checkpoint_in w p n) ≡ true → AllPinned w p pins (n + 1)
unfolding AllPinned
one_more w p pins n all e k lt = by_eq k n (λ q. rw q e) (λ ne. all k (omega arith))

pub loop-k-init : goal.loop-k-init
loop-k-init c =
    (search rules, search rules, c.requires.5)

pub is_pinned-pinned-requires : goal.is_pinned-pinned-requires
is_pinned-pinned-requires c =
    used_at c.args.w.now c.args.p _ c.requires.4 c.loop-k.k (omega arith)

pub returns-then-not-pinned : goal.returns-then-not-pinned
returns-then-not-pinned c =
    let l = c.loop-k in (l.invariant.0, l.invariant.1, l.invariant.2)

pub loop-k-preserved : goal.loop-k-preserved
loop-k-preserved c =
    let l = c.loop-k in (
      omega (arith, l.invariant.0),
      search rules,
      one_more c.args.w.now c.args.p (pin_row c.args.pins) l.k l.invariant.2 (pinned_is c.args.w.now c.args.p l.k (pin_row c.args.pins) ∙ sym c.is_pinned-pinned.ensures ∙ c.if-not-pinned.false),
    )

pub returns : goal.returns
returns c =
    let l = c.loop-k in (l.invariant.0, l.invariant.1, l.invariant.2)
