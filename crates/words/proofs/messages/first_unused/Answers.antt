-- `words::messages::first_unused` meets its contract. Assumes nothing.
use Rattle.std.specs.Prelude.{◌≡◌, ◌+◌, ◌-◌, ◌≤◌, ◌<◌}
use Rattle.laws.specs.Basics.{refl, sym, ◌∙◌, true, List, ℕ, arith, rules, not-false}
use native.Mathlib.Numerals.{add-one}
use Rattle.words.specs.{Layout.word, Layout.low_at, Layout.message_in, Layout.is_message, messages.Places.close_step, messages.Places.closing}
use Rattle.words.proofs.{messages.Stayed.moved_nowhere}
use Rattle.words.proofs.messages.first_unused.Goals as goal

-- A message that closes up to the place where it stands moves nowhere.
one_more : (w : List ℕ) (k : ℕ) → word w (low_at k) < 65536 → is_message (message_in w k) ≡ true
    → closing w k ≡ record { words = w; many = k } → closing w (k + 1) ≡ record { words = w; many = k + 1 }
unfolding closing close_step
one_more w k small is e = rw (add-one k, e, is, moved_nowhere w k small)

none : (w : List ℕ) → closing w 0 ≡ record { words = w; many = 0 }
unfolding closing
none w = refl

pub loop-k-init : goal.loop-k-init
loop-k-init c =
    (search rules, none _)

pub returns-then-not-used : goal.returns-then-not-used
returns-then-not-used c =
    c.loop-k.invariant

pub loop-k-preserved : goal.loop-k-preserved
loop-k-preserved c =
    let l = c.loop-k in (search rules, one_more c.args.w.now l.k (omega (arith, c.shared_slice_known-1.given (low_at l.k))) (sym c.is_used-used.ensures ∙ c.if-not-used.false) l.invariant.1)

pub returns : goal.returns
returns c =
    c.loop-k.invariant
