-- A message put after those under way.
-- Assumes nothing.
use Rattle.std.specs.Prelude.{◌≡◌, ◌&&◌, ◌||◌, ◌∷◌, ◌++◌, ◌+◌, ◌-◌, ◌*◌, ◌≤◌, ◌<◌}
use Rattle.laws.specs.Basics.{refl, ◌∙◌, ap, true, List, [], ℕ, arith, eqb, leb, length, le-leb}
use native.Mathlib.Numerals.{add-one}
use Rattle.laws.specs.{Lists.select, Lists.table, Tables.table_same, Truth.and_both, Truth.or_in_right}
use Rattle.model.specs.declared.Message.{Message}
use Rattle.words.specs.Layout.{state_size, word, end_of, message_in, is_message, messages_in, end_fits_of}
use Rattle.words.specs.{Puts.Put, Puts.puts, Puts.one, messages.Places.message_puts, messages.Places.put_last_of}
use Rattle.words.proofs.{Reading.puts_length, Reading.untouched, Reading.touched, messages.Selected.select_more}
use Rattle.words.proofs.messages.Placed.{message_stays, message_put, message_elsewhere}

module _ (w : List ℕ) (long : length w ≡ state_size) (room : end_of w < 64) (x : Message) (whole : length x.vector ≡ 16) (is : is_message x ≡ true) where
  abbrev u : List ℕ
  u = puts w (message_puts (end_of w) x)

  abbrev ends : List Put
  ends = one 1 (word w 1 + 1) ∷ one 12 (end_of w + 1) ∷ []

  abbrev v : List ℕ
  v = put_last_of w x

  long_u : length u ≡ state_size
  long_u = puts_length w (message_puts (end_of w) x) ∙ long

  -- the message first, then the ends
  in_two : v ≡ puts u ends
  unfolding put_last_of
  in_two = refl

  pub added_length : length v ≡ length w
  added_length = ap length in_two ∙ puts_length u ends ∙ puts_length w (message_puts (end_of w) x)

  pub added_end : end_of v ≡ end_of w + 1
  added_end = ap end_of in_two ∙ touched u ends 1 0 12 (omega arith, omega arith, omega (arith, long_u), tt)

  pub added_count : word v 1 ≡ word w 1 + 1
  added_count = ap (λ l. word l 1) in_two ∙ touched u ends 0 0 1 (omega arith, omega arith, omega (arith, long_u), omega arith)

  pub added_rest : (q : ℕ) → q < 5184 → (q ≡ 1 → ⊥) → (q ≡ 12 → ⊥) → word v q ≡ word w q
  added_rest q less a b = ap (λ l. word l q) in_two ∙ untouched u ends q (λ x y. a (omega arith), (λ x y. b (omega arith), tt)) ∙ untouched w (message_puts (end_of w) x) q (omega arith)

  in_place : (j : ℕ) → j < 64 → message_in v j ≡ message_in u j
  in_place j less = ap (λ l. message_in l j) in_two ∙ message_stays u ends j (omega arith, omega arith, omega arith, omega arith, λ f lt. omega arith)

  pub added_last : message_in v (end_of w) ≡ x
  added_last = in_place (end_of w) room ∙ message_put w long (end_of w) room x whole

  pub added_elsewhere : (j : ℕ) → j < 64 → (j ≡ end_of w → ⊥) → message_in v j ≡ message_in w j
  added_elsewhere j less ne = in_place j less ∙ message_elsewhere w long (end_of w) room x whole j less ne

  pub added_messages : messages_in v ≡ messages_in w ++ (x ∷ [])
  unfolding messages_in
  added_messages =
      ap (λ n. select is_message (table n (message_in v))) (added_end ∙ add-one (end_of w))
      ∙ select_more is_message (end_of w) (message_in v) (ap is_message added_last ∙ is)
      ∙ ap (λ y. select is_message (table (end_of w) (message_in v)) ++ (y ∷ [])) added_last
      ∙ ap (λ l. select is_message l ++ (x ∷ []))
      (table_same (end_of w) (message_in v) (message_in w) (λ j less. added_elsewhere j (omega arith) (λ q. omega arith)))

  pub added_fits : end_fits_of v ≡ true
  unfolding end_fits_of
  added_fits = rw added_end
      (and_both (leb (end_of w + 1) 64) _ (le-leb (end_of w + 1) 64 (omega arith))
      (or_in_right (eqb (end_of w + 1) 0) _ (ap (λ j. is_message (message_in v j)) (let e : end_of w + 1 - 1 ≡ end_of w = omega arith in e) ∙ ap is_message added_last ∙ is)))
