-- `words_line::sifted::sift_place` meets its contract: the place is not in use, or its message is lost, or it remains. Assumes nothing.
use Rattle.std.specs.Prelude.{◌≡◌}
use Rattle.laws.specs.Basics.{refl, sym, ◌∙◌, true, false, List, ℕ, rules, not-true, not-false, pick}
use Rattle.model.specs.declared.CheckpointIndex.{CheckpointIndex}
use Rattle.words.specs.{Layout.message_in, Layout.is_message, messages.Places.cleared}
use Rattle.words_line.specs.Sifted.{lost_to, remains, sifted_place}
use Rattle.words_line.proofs.sifted.sift_place.Goals as goal

module _ (indexes : List CheckpointIndex) (w : List ℕ) (k : ℕ) where
  unused : is_message (message_in w k) ≡ false → (w ≡ sifted_place indexes w k) × (◌≡◌ {A = ℕ} 0 (pick (remains indexes (message_in w k)) 1 0))
  unfolding sifted_place remains
  unused off = rw off (refl, refl)

  lost : (v : List ℕ) → is_message (message_in w k) ≡ true → lost_to indexes (message_in w k) ≡ true → v ≡ cleared w k
      → (v ≡ sifted_place indexes w k) × (◌≡◌ {A = ℕ} 0 (pick (remains indexes (message_in w k)) 1 0))
  unfolding sifted_place remains
  lost v on goes e = rw (on, goes) (e, refl)

  left : is_message (message_in w k) ≡ true → lost_to indexes (message_in w k) ≡ false → (w ≡ sifted_place indexes w k) × (◌≡◌ {A = ℕ} 1 (pick (remains indexes (message_in w k)) 1 0))
  unfolding sifted_place remains
  left on stays = rw (on, stays) (refl, refl)

pub returns-then-not-used : goal.returns-then-not-used
returns-then-not-used c =
    let a = c.args in unused a.indexes a.w.now a.k (sym c.is_used-used.ensures ∙ c.if-not-used.true)

pub is_lost-lost-requires : goal.is_lost-lost-requires
is_lost-lost-requires c =
    (c.requires.0, c.requires.1, c.requires.2 (sym c.is_used-used.ensures ∙ c.if-not-used.false))

pub returns-then-lost : goal.returns-then-lost
returns-then-lost c =
    let a = c.args in lost a.indexes a.w.now a.k _ (sym c.is_used-used.ensures ∙ c.if-not-used.false) (sym c.is_lost-lost.ensures ∙ c.if-lost.true) c.clear.ensures

pub returns : goal.returns
returns c =
    let a = c.args in left a.indexes a.w.now a.k (sym c.is_used-used.ensures ∙ c.if-not-used.false) (sym c.is_lost-lost.ensures ∙ c.if-lost.false)
