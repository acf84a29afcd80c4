-- `library_readers::write_message` meets its contract. Assumes nothing.
use Rattle.std.specs.Prelude.{◌≡◌, ◌∷◌, ◌+◌, ◌*◌}
use Rattle.laws.specs.Basics.{refl, sym, ◌∙◌, ap, List, [], ℕ, sets, rules, eq-eqb, ne_eqb, pick}
use Rattle.words.specs.Layout.{word, sender_at_of, receiver_at_of, message_in, is_message}
use Rattle.library_readers.specs.Written.{three_of}
use Rattle.library_readers.proofs.write_message.Goals as goal

-- Where the place has no message, and where it has one.
module _ (w l : List ℕ) (k many : ℕ) where
  none : (message_in w k).number ≡ 0 → (l ≡ pick (is_message (message_in w k)) (sets l (3 * many) (three_of (message_in w k))) l) × (many ≡ pick (is_message (message_in w k)) (many + 1) many)
  unfolding is_message
  none e = rw (eq-eqb (message_in w k).number 0 e) (refl, refl)

  one : (v : List ℕ) (number from to : ℕ) → (number ≡ 0 → ⊥) → number ≡ (message_in w k).number → from ≡ word w (sender_at_of k) → to ≡ word w (receiver_at_of k) → v ≡ sets l (3 * many) (number ∷ from ∷ to ∷ [])
      → (v ≡ pick (is_message (message_in w k)) (sets l (3 * many) (three_of (message_in w k))) l) × (many + 1 ≡ pick (is_message (message_in w k)) (many + 1) many)
  unfolding is_message message_in
  one v number from to ne a b c e = rw (ne_eqb (message_in w k).number 0 (λ z. ne (a ∙ z))) (rw (a, b, c) at e, refl)

pub returns-then-number-eq0 : goal.returns-then-number-eq0
returns-then-number-eq0 c =
    let a = c.args in let z = none a.w.now a.out.now a.k a.many (sym c.number_at-number.ensures ∙ c.if-number-eq0.true) in record { out_after = z.0; value = z.1 }

pub returns : goal.returns
returns c =
    let a = c.args in let z = one a.w.now a.out.now a.k a.many _ _ _ _ c.if-number-eq0.false c.number_at-number.ensures
    (c.wide-sender.ensures ∙ ap (word a.w.now) c.sender_at-sender_at.ensures) (c.wide-receiver.ensures ∙ ap (word a.w.now) c.receiver_at-receiver_at.ensures) c.put_three.ensures in record { out_after = z.0; value = z.1 }
