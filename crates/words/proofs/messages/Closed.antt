-- The used places closed up: the same messages under way, in the first places.
-- Assumes nothing.
use Rattle.std.specs.Prelude.{◌≡◌, ◌&&◌, ◌||◌, ◌∷◌, ◌++◌, ◌+◌, ◌-◌, ◌*◌, ◌≤◌, ◌<◌}
use Rattle.laws.specs.Basics.{refl, sym, ◌∙◌, ap, true, false, List, [], ℕ, zero, suc, arith, length, by_bool, by_eq}
use Rattle.laws.specs.{Elements.every_table, Lists.select, Lists.table, Select.all_chosen, Tables.table_same, Tables.length_table}
use Rattle.model.specs.declared.Message.{Message}
use Rattle.words.specs.Layout.{state_size, word, end_of, carried_at, message_in, is_message, messages_in}
use Rattle.words.specs.Puts.{puts, one}
use Rattle.words.proofs.{Reading.puts_length, Reading.untouched, Reading.touched, Same.vector_length}
use Rattle.words.specs.messages.Places.{Closing, message_puts, clear_puts, cleared, moved_to, close_step, closing, cleared_from, closed_up}
use Rattle.words.proofs.messages.Selected.{select_more, select_less}
use Rattle.words.proofs.messages.Placed.{message_stays, message_put, message_elsewhere, cleared_elsewhere, cleared_length}

carried_length : (w : List ℕ) (k : ℕ) → length (message_in w k).vector ≡ 16
unfolding message_in
carried_length w k = vector_length w (carried_at k)

none_first : (f : ℕ → Message) → table 0 f ≡ select is_message (table 0 f)
unfolding table select
none_first f = refl

as_messages : (w : List ℕ) → length (select is_message (table (end_of w) (message_in w))) ≡ length (messages_in w)
unfolding messages_in
as_messages w = refl

pub cleared_rest : (w : List ℕ) (k q : ℕ) → q < 5184 → word (cleared w k) q ≡ word w q
unfolding cleared
cleared_rest w k q less = untouched w (clear_puts k) q (omega arith)

-- What the first n iterations leave.
pub record Closed (w : List ℕ) (n : ℕ) (c : Closing) : Type 0 where
  pub long : length c.words ≡ length w
  pub many : c.many ≤ n
  pub rest : (q : ℕ) → q < 5184 → word c.words q ≡ word w q
  -- the places not yet looked at
  pub ahead : (j : ℕ) → n ≤ j → j < 64 → message_in c.words j ≡ message_in w j
  -- the used ones of those before
  pub front : table c.many (message_in c.words) ≡ select is_message (table n (message_in w))
  pub used : (j : ℕ) → j < c.many → is_message (message_in c.words j) ≡ true

module _ (w : List ℕ) (size-w : length w ≡ state_size) where
  module _ (n : ℕ) (c : Closing) (lt : n < 64) (h : Closed w n c) where
    abbrev x : Message
    x = message_in c.words n

    abbrev to : ℕ
    to = c.many

    abbrev v : List ℕ
    v = puts c.words (message_puts to x)

    long_c : length c.words ≡ state_size
    long_c = h.long ∙ size-w

    in_range : to < 64
    in_range = omega (arith, h.many)

    put_there : message_in v to ≡ x
    put_there = message_put c.words long_c to in_range x (carried_length c.words n)

    elsewhere : (j : ℕ) → j < 64 → (j ≡ to → ⊥) → message_in v j ≡ message_in c.words j
    elsewhere j less ne = message_elsewhere c.words long_c to in_range x (carried_length c.words n) j less ne

    front_then : is_message x ≡ true → table (suc to) (message_in v) ≡ select is_message (table (suc n) (message_in w))
    unfolding table
    front_then e =
        ap (λ l. l ++ (message_in v to ∷ [])) (table_same to (message_in v) (message_in c.words) (λ j less. elsewhere j (omega arith) (λ q. omega arith)) ∙ h.front)
        ∙ ap (λ y. select is_message (table n (message_in w)) ++ (y ∷ [])) (put_there ∙ h.ahead n (omega arith) lt)
        ∙ sym (select_more is_message n (message_in w) (ap is_message (sym (h.ahead n (omega arith) lt)) ∙ e))

    moved : is_message x ≡ true → Closed w (suc n) (record { words = moved_to c.words n to; many = suc to })
    unfolding moved_to
    moved e = record {
      long = puts_length c.words (message_puts to x) ∙ h.long;
      many = omega (arith, h.many);
      rest = λ q less. untouched c.words (message_puts to x) q (omega arith) ∙ h.rest q less;
      ahead = λ j le less. elsewhere j less (λ q. omega (arith, h.many)) ∙ h.ahead j (omega arith) less;
      front = front_then e;
      used = λ j less. by_eq j to (λ q. rw q (ap is_message put_there ∙ e)) (λ ne. ap is_message (elsewhere j (omega arith) ne) ∙ h.used j (omega arith));
    }

    stayed : is_message x ≡ false → Closed w (suc n) (record { words = moved_to c.words n to; many = to })
    unfolding moved_to
    stayed e = record {
      long = puts_length c.words (message_puts to x) ∙ h.long;
      many = omega (arith, h.many);
      rest = λ q less. untouched c.words (message_puts to x) q (omega arith) ∙ h.rest q less;
      ahead = λ j le less. elsewhere j less (λ q. omega (arith, h.many)) ∙ h.ahead j (omega arith) less;
      front =
          table_same to (message_in v) (message_in c.words) (λ j less. elsewhere j (omega arith) (λ q. omega arith))
          ∙ h.front
          ∙ sym (select_less is_message n (message_in w) (ap is_message (sym (h.ahead n (omega arith) lt)) ∙ e));
      used = λ j less. ap is_message (elsewhere j (omega arith) (λ q. omega arith)) ∙ h.used j less;
    }

    step_closed : Closed w (suc n) (close_step n c)
    unfolding close_step
    step_closed = by_bool (is_message x) (λ e. rw e (moved e)) (λ e. rw e (stayed e))

  pub closing_closed : (n : ℕ) → n ≤ 64 → Closed w n (closing w n)
  unfolding closing
  closing_closed zero le = record {
    long = refl;
    many = omega arith;
    rest = λ q less. refl;
    ahead = λ j le less. refl;
    front = none_first (message_in w);
    used = λ j less. absurd (omega arith);
  }
  closing_closed (suc n) le = step_closed n (closing w n) (omega arith) (closing_closed n (omega arith))

-- Places cleared from one on: those before stay, and so does all that is no message.
pub record ClearedFrom (w : List ℕ) (from : ℕ) (v : List ℕ) : Type 0 where
  pub long : length v ≡ length w
  pub rest : (q : ℕ) → q < 5184 → word v q ≡ word w q
  pub before : (j : ℕ) → j < from → message_in v j ≡ message_in w j

pub cleared_from_lem : (w : List ℕ) (from n : ℕ) → length w ≡ state_size → from + n ≤ 64 → ClearedFrom w from (cleared_from w from n)
unfolding cleared_from
cleared_from_lem w from zero long le = record { long = refl; rest = λ q less. refl; before = λ j less. refl }
cleared_from_lem w from (suc n) long le =
    let h = cleared_from_lem w from n long (omega arith) in
    let u = cleared_from w from n in
    record {
      long = cleared_length u (from + n) ∙ h.long;
      rest = λ q less. cleared_rest u (from + n) q less ∙ h.rest q less;
      before = λ j less. cleared_elsewhere u (h.long ∙ long) (from + n) (omega arith) j (omega arith) (λ q. omega arith) ∙ h.before j less;
    }

-- All 64 places closed up.
module _ (w : List ℕ) (long : length w ≡ state_size) (full : end_of w ≡ 64) where
  abbrev c : Closing
  c = closing w 64

  h : Closed w 64 c
  h = closing_closed w long 64 (omega arith)

  abbrev u : List ℕ
  u = cleared_from c.words c.many (64 - c.many)

  g : ClearedFrom c.words c.many u
  g = cleared_from_lem c.words c.many (64 - c.many) (h.long ∙ long) (omega (arith, h.many))

  abbrev then : List ℕ
  then = closed_up w

  long_u : length u ≡ state_size
  long_u = g.long ∙ h.long ∙ long

  pub closed_length : length then ≡ length w
  unfolding closed_up
  closed_length = puts_length u (one 12 c.many ∷ []) ∙ g.long ∙ h.long

  pub closed_end : end_of then ≡ c.many
  unfolding closed_up
  closed_end = touched u (one 12 c.many ∷ []) 0 0 12 (omega arith, omega arith, omega (arith, long_u), tt)

  pub closed_rest : (q : ℕ) → q < 5184 → (q ≡ 12 → ⊥) → word then q ≡ word w q
  unfolding closed_up
  closed_rest q less ne = untouched u (one 12 c.many ∷ []) q (λ a b. ne (omega arith), tt) ∙ g.rest q less ∙ h.rest q less

  in_place : (j : ℕ) → j < c.many → message_in then j ≡ message_in c.words j
  unfolding closed_up
  in_place j less = message_stays u (one 12 c.many ∷ []) j (omega (arith, h.many), omega (arith, h.many), omega (arith, h.many), omega (arith, h.many), λ f lt. omega (arith, h.many))
      ∙ g.before j less

  pub closed_used : (j : ℕ) → j < c.many → is_message (message_in then j) ≡ true
  closed_used j less = ap is_message (in_place j less) ∙ h.used j less

  pub closed_messages : messages_in then ≡ messages_in w
  unfolding messages_in
  closed_messages =
      ap (λ n. select is_message (table n (message_in then))) closed_end
      ∙ ap (select is_message) (table_same c.many (message_in then) (message_in c.words) in_place)
      ∙ all_chosen is_message (table c.many (message_in c.words)) (every_table is_message c.many (message_in c.words) h.used)
      ∙ h.front
      ∙ ap (λ n. select is_message (table n (message_in w))) (sym full)

  -- as many places are in use as messages are under way
  pub closed_many : end_of then ≡ length (messages_in w)
  closed_many = closed_end ∙ sym (length_table c.many (message_in c.words)) ∙ ap length h.front ∙ ap (λ n. length (select is_message (table n (message_in w)))) (sym full) ∙ messages_length
    where
      messages_length : length (select is_message (table (end_of w) (message_in w))) ≡ length (messages_in w)
      messages_length = as_messages w
