-- A message that was put into its place is read there; the messages in other places stay; a place that was cleared is unused.
-- Assumes nothing.
use Rattle.std.specs.Prelude.{◌≡◌, ◌∷◌, ◌++◌, ◌+◌, ◌-◌, ◌*◌, ◌/◌, ◌%◌, ◌≤◌, ◌<◌}
use Rattle.laws.specs.Basics.{refl, ◌∙◌, List, [], ℕ, arith, length}
use Rattle.model.specs.declared.Message.{Message}
use Rattle.words.specs.Layout.{state_size, low_at, high_at, sender_at_of, receiver_at_of, carried_at, message_in}
use Rattle.words.specs.{Puts.Put, Puts.puts, messages.Places.message_puts, messages.Places.clear_puts, messages.Places.cleared}
use Rattle.words.proofs.{Reading.Clear, Reading.puts_length, Reading.untouched, Reading.touched, Reading.wide2_back, Same.message_same, Same.vector_is}

-- The words of place j are in none of the puts.
abbrev pub ClearOf : List Put → ℕ → Type 0
ClearOf l j = Clear l (low_at j) × Clear l (high_at j) × Clear l (sender_at_of j) × Clear l (receiver_at_of j) × ((f : ℕ) → f < 16 → Clear l (carried_at j + f))

pub message_stays : (w : List ℕ) (l : List Put) (j : ℕ) → ClearOf l j → message_in (puts w l) j ≡ message_in w j
message_stays w l j c = message_same (puts w l) w j j
    (untouched w l (low_at j) c.0)
    (untouched w l (high_at j) c.1)
    (untouched w l (sender_at_of j) c.2)
    (untouched w l (receiver_at_of j) c.3)
    (λ f lt. untouched w l (carried_at j + f) (c.4 f lt))

module _ (w : List ℕ) (long : length w ≡ state_size) (k : ℕ) (lt : k < 64) where
  -- a message put there
  module _ (x : Message) (whole : length x.vector ≡ 16) where
    pub message_put : message_in (puts w (message_puts k x)) k ≡ x
    unfolding message_in
    message_put =
        rw (
          touched w (message_puts k x) 0 0 (low_at k) (omega arith, omega arith, omega (arith, long), omega arith),
          touched w (message_puts k x) 1 0 (high_at k) (omega arith, omega arith, omega (arith, long), omega arith),
          touched w (message_puts k x) 2 0 (sender_at_of k) (omega arith, omega arith, omega (arith, long), omega arith),
          touched w (message_puts k x) 3 0 (receiver_at_of k) (omega arith, omega arith, omega (arith, long), omega arith),
          vector_is (puts w (message_puts k x)) (carried_at k) x.vector whole
              (λ f less. touched w (message_puts k x) 4 f (carried_at k + f) (refl, less, omega (arith, long), tt)),
          wide2_back x.number,
        )

    pub message_elsewhere : (j : ℕ) → j < 64 → (j ≡ k → ⊥) → message_in (puts w (message_puts k x)) j ≡ message_in w j
    message_elsewhere j less ne = message_stays w (message_puts k x) j (omega arith, omega arith, omega arith, omega arith, λ f lt'. omega arith)

  -- a place cleared
  pub cleared_number : (message_in (cleared w k) k).number ≡ 0
  unfolding message_in cleared
  cleared_number = rw (
    touched w (clear_puts k) 0 0 (low_at k) (omega arith, omega arith, omega (arith, long), omega arith),
    touched w (clear_puts k) 1 0 (high_at k) (omega arith, omega arith, omega (arith, long), omega arith),
  )

  pub cleared_elsewhere : (j : ℕ) → j < 64 → (j ≡ k → ⊥) → message_in (cleared w k) j ≡ message_in w j
  unfolding cleared
  cleared_elsewhere j less ne = message_stays w (clear_puts k) j (omega arith, omega arith, omega arith, omega arith, λ f lt'. omega arith)

pub cleared_length : (w : List ℕ) (k : ℕ) → length (cleared w k) ≡ length w
unfolding cleared
cleared_length w k = puts_length w (clear_puts k)
