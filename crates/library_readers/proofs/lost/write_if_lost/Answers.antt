-- `library_readers::lost::write_if_lost` meets its contract: the place is not in use, or its message remains, or it is lost. Assumes nothing.
use Rattle.std.specs.Prelude.{◌≡◌, ◌&&◌, ◌+◌, ◌*◌}
use Rattle.laws.specs.Basics.{refl, sym, ◌∙◌, true, false, List, ℕ, sets, rules, not-true, not-false, pick}
use Rattle.model.specs.declared.CheckpointIndex.{CheckpointIndex}
use Rattle.words.specs.Layout.{message_in, is_message}
use Rattle.words_line.specs.Sifted.{lost_to}
use Rattle.library_readers.specs.Written.{three_of}
use Rattle.library_readers.proofs.lost.write_if_lost.Goals as goal

module _ (indexes : List CheckpointIndex) (w l : List ℕ) (k many : ℕ) where
  -- The list and the count that are left, of what is written.
  abbrev Left : List ℕ → ℕ → Type 0
  Left v after =
      (v ≡ pick (is_message (message_in w k) && lost_to indexes (message_in w k)) (sets l (3 * many) (three_of (message_in w k))) l)
      × (after ≡ pick (is_message (message_in w k) && lost_to indexes (message_in w k)) (many + 1) many)

  unused : is_message (message_in w k) ≡ false → Left l many
  unused off = rw off (refl, refl)

  remains : is_message (message_in w k) ≡ true → lost_to indexes (message_in w k) ≡ false → Left l many
  remains on stays = rw (on, stays) (refl, refl)

  written : (v : List ℕ) (after : ℕ) → is_message (message_in w k) ≡ true → lost_to indexes (message_in w k) ≡ true
      → (v ≡ pick (is_message (message_in w k)) (sets l (3 * many) (three_of (message_in w k))) l) × (after ≡ pick (is_message (message_in w k)) (many + 1) many) → Left v after
  written v after on goes e = rw (on, goes) (rw on at e.0, rw on at e.1)

pub returns-then-not-used : goal.returns-then-not-used
returns-then-not-used c =
    let a = c.args in let z = unused a.indexes a.w.now a.out.now a.k a.many (sym c.is_used-used.ensures ∙ c.if-not-used.true) in record { out_after = z.0; value = z.1 }

pub is_lost-lost-requires : goal.is_lost-lost-requires
is_lost-lost-requires c =
    (c.requires.0, c.requires.1, c.requires.4 (sym c.is_used-used.ensures ∙ c.if-not-used.false))

pub returns-then-not-lost : goal.returns-then-not-lost
returns-then-not-lost c =
    let a = c.args in let z = remains a.indexes a.w.now a.out.now a.k a.many (sym c.is_used-used.ensures ∙ c.if-not-used.false) (sym c.is_lost-lost.ensures ∙ c.if-not-lost.true) in record { out_after = z.0; value = z.1 }

pub returns : goal.returns
returns c =
    let a = c.args in let z = written a.indexes a.w.now a.out.now a.k a.many _ _ (sym c.is_used-used.ensures ∙ c.if-not-used.false) (sym c.is_lost-lost.ensures ∙ c.if-not-lost.false) (c.write_message.ensures.out_after, c.write_message.ensures.value) in record { out_after = z.0; value = z.1 }
