-- What is left of the messages under way where the lost ones leave their places.
-- Assumes nothing.
use Rattle.std.specs.Prelude.{◌≡◌, ◌&&◌, ◌||◌, ◌∷◌, ◌+◌, ◌-◌, ◌≤◌, ◌<◌}
use Rattle.laws.specs.Basics.{refl, sym, ◌∙◌, ap, true, false, not, List, [], ℕ, zero, suc, arith, eqb, leb, length, le-leb, by_bool, by_eq}
use Rattle.laws.specs.{Lists.select, Lists.table, Rows.by_lt, Select.select_select, Tables.table_same}
use Rattle.laws.specs.Truth.{never_both, and_out, and_both, or_in_right}
use Rattle.model.specs.declared.{CheckpointIndex.CheckpointIndex, Message.Message}
use Rattle.words.specs.{Layout.state_size, Layout.word, Layout.end_of, Layout.message_in, Layout.is_message, Layout.messages_in, Layout.end_fits_of, Parts.is_used_in}
use Rattle.words.specs.{Clean.CleanMessages, Puts.Put, Puts.puts, Puts.one, messages.Places.cleared, messages.Places.end_below}
use Rattle.words.proofs.{Reading.puts_length, Reading.untouched, Reading.touched, messages.Closed.cleared_rest}
use Rattle.words.proofs.messages.Selected.{select_tables, walked_back, end_under, end_used}
use Rattle.words.proofs.messages.Placed.{message_stays, cleared_number, cleared_elsewhere, cleared_length}
use Rattle.words.proofs.messages.Zeros.{Zero, zero_at, zeros_in, zero_stays, zero_cleared, zero_elsewhere, unused_out, unused_past, unused_none, none_after}
use Rattle.words_line.specs.Sifted.{lost_to, remains, sifted_place, sifted_below, Sifted}

-- A message goes or remains.
goes_not : (indexes : List CheckpointIndex) (x : Message) → (is_message x && lost_to indexes x) ≡ true → remains indexes x ≡ false
unfolding remains
goes_not indexes x e = let c = and_out (is_message x) (lost_to indexes x) e in rw (c.0, c.1)

stays_so : (indexes : List CheckpointIndex) (x : Message) → (is_message x && lost_to indexes x) ≡ false → is_message x ≡ remains indexes x
unfolding remains
stays_so indexes x e = by_bool (is_message x)
    (λ is. rw is (let h : lost_to indexes x ≡ false = rw is at e in rw h))
    (λ isnt. rw isnt)

module _ (indexes : List CheckpointIndex) (w : List ℕ) (long : length w ≡ state_size) where
  -- v is what the first n places leave.
  pub record SiftedTo (n : ℕ) (v : List ℕ) : Type 0 where
    pub same : length v ≡ length w
    pub rest : (q : ℕ) → q < 5184 → word v q ≡ word w q
    -- the places not yet looked at
    pub ahead : (j : ℕ) → n ≤ j → j < 64 → message_in v j ≡ message_in w j
    -- those before: what remains there was there, and what is gone left zeros
    pub passes : (j : ℕ) → j < n → is_message (message_in v j) ≡ remains indexes (message_in w j)
    pub stays : (j : ℕ) → j < n → is_message (message_in v j) ≡ true → message_in v j ≡ message_in w j
    pub gone : (j : ℕ) → j < n → is_message (message_in w j) ≡ true → is_message (message_in v j) ≡ false → Zero v j
    pub zeros : (j : ℕ) → j < 64 → Zero w j → Zero v j

  module _ (n : ℕ) (v : List ℕ) (lt : n < 64) (h : SiftedTo n v) where
    abbrev x : Message
    x = message_in w n

    long_v : length v ≡ state_size
    long_v = h.same ∙ long

    here : message_in v n ≡ x
    here = h.ahead n (omega arith) lt

    elsewhere : (j : ℕ) → j < 64 → (j ≡ n → ⊥) → message_in (cleared v n) j ≡ message_in v j
    elsewhere j less ne = cleared_elsewhere v long_v n lt j less ne

    unused : is_message (message_in (cleared v n) n) ≡ false
    unfolding is_message
    unused = rw (cleared_number v long_v n lt)

    dropped : (is_message x && lost_to indexes x) ≡ true → SiftedTo (suc n) (cleared v n)
    dropped e = record {
      same = cleared_length v n ∙ h.same;
      rest = λ q less. cleared_rest v n q less ∙ h.rest q less;
      ahead = λ j le less. elsewhere j less (λ q. omega arith) ∙ h.ahead j (omega arith) less;
      passes = λ j less. by_eq j n
          (λ q. rw q (unused ∙ sym (goes_not indexes x e)))
          (λ ne. ap is_message (elsewhere j (omega arith) ne) ∙ h.passes j (omega arith));
      stays = λ j less is. by_eq j n
          (λ q. absurd (never_both (is_message (message_in (cleared v n) n)) (rw q at is) unused))
          (λ ne. elsewhere j (omega arith) ne ∙ h.stays j (omega arith) (sym (ap is_message (elsewhere j (omega arith) ne)) ∙ is));
      gone = λ j less was isnt. by_eq j n
          (λ q. rw q (zero_cleared v n long_v lt))
          (λ ne. zero_elsewhere v n j lt (omega arith) ne (h.gone j (omega arith) was (sym (ap is_message (elsewhere j (omega arith) ne)) ∙ isnt)));
      zeros = λ j less z. by_eq j n
          (λ q. rw q (zero_cleared v n long_v lt))
          (λ ne. zero_elsewhere v n j lt less ne (h.zeros j less z));
    }

    kept : (is_message x && lost_to indexes x) ≡ false → SiftedTo (suc n) v
    kept e = record {
      same = h.same;
      rest = h.rest;
      ahead = λ j le less. h.ahead j (omega arith) less;
      passes = λ j less. by_eq j n
          (λ q. rw q (ap is_message here ∙ stays_so indexes x e))
          (λ ne. h.passes j (omega arith));
      stays = λ j less is. by_eq j n
          (λ q. rw q here)
          (λ ne. h.stays j (omega arith) is);
      gone = λ j less was isnt. by_eq j n
          (λ q. absurd (never_both (is_message x) (rw q at was) (sym (ap is_message here) ∙ (rw q at isnt))))
          (λ ne. h.gone j (omega arith) was isnt);
      zeros = h.zeros;
    }

    one_place : SiftedTo (suc n) (sifted_place indexes v n)
    unfolding sifted_place
    one_place = by_bool (is_message x && lost_to indexes x)
        (λ e. rw (here, e) (dropped e))
        (λ e. rw (here, e) (kept e))

  pub sifted_below_lem : (n : ℕ) → n ≤ 64 → SiftedTo n (sifted_below indexes w n)
  unfolding sifted_below
  sifted_below_lem zero le = record {
    same = refl;
    rest = λ q less. refl;
    ahead = λ j le less. refl;
    passes = λ j less. absurd (omega arith);
    stays = λ j less. absurd (omega arith);
    gone = λ j less. absurd (omega arith);
    zeros = λ j less z. z;
  }
  sifted_below_lem (suc n) le = one_place n (sifted_below indexes w n) (omega arith) (sifted_below_lem n (omega arith))

-- All places before the end, and then how many messages are left and the end.
abbrev pub sifted_words : List CheckpointIndex → List ℕ → List ℕ
sifted_words indexes w =
    let u = sifted_below indexes w (end_of w) in
    puts u (one 1 (length (select (remains indexes) (table (end_of w) (message_in w)))) ∷ one 12 (end_below u (end_of w)) ∷ [])

module _ (indexes : List CheckpointIndex) (w : List ℕ) (long : length w ≡ state_size) (few : end_of w ≤ 64) where
  abbrev u : List ℕ
  u = sifted_below indexes w (end_of w)

  abbrev left : ℕ
  left = length (select (remains indexes) (table (end_of w) (message_in w)))

  abbrev ends : List Put
  ends = one 1 left ∷ one 12 (end_below u (end_of w)) ∷ []

  abbrev v : List ℕ
  v = puts u ends

  h : SiftedTo indexes w long (end_of w) u
  h = sifted_below_lem indexes w long (end_of w) few

  long_u : length u ≡ state_size
  long_u = h.same ∙ long

  end_then : end_of v ≡ end_below u (end_of w)
  end_then = touched u ends 1 0 12 (omega arith, omega arith, omega (arith, long_u), tt)

  left_then : word v 1 ≡ left
  left_then = touched u ends 0 0 1 (omega arith, omega arith, omega (arith, long_u), omega arith)

  rest_then : (q : ℕ) → q < 5184 → (q ≡ 1 → ⊥) → (q ≡ 12 → ⊥) → word v q ≡ word w q
  rest_then q less a b = untouched u ends q (λ x y. a (omega arith), (λ x y. b (omega arith), tt)) ∙ h.rest q less

  same_places : (j : ℕ) → j < 64 → message_in v j ≡ message_in u j
  same_places j less = message_stays u ends j (omega arith, omega arith, omega arith, omega arith, λ f lt. omega arith)

  in_old_places : messages_in v ≡ select is_message (table (end_of w) (message_in u))
  unfolding messages_in
  in_old_places =
      ap (select is_message) (table_same (end_of v) (message_in v) (message_in u) (λ j less. same_places j (omega (arith, end_then, end_under u (end_of w)))))
      ∙ ap (λ n. select is_message (table n (message_in u))) end_then
      ∙ sym (walked_back u (end_of w))

  remaining : messages_in v ≡ select (remains indexes) (table (end_of w) (message_in w))
  remaining = in_old_places ∙ select_tables (end_of w) (message_in u) (message_in w) is_message (remains indexes) h.passes h.stays

  not_lost_lem : messages_in v ≡ select (λ x. not (lost_to indexes x)) (messages_in w)
  unfolding messages_in remains
  not_lost_lem = remaining ∙ sym (select_select (λ x. not (lost_to indexes x)) is_message (table (end_of w) (message_in w)))

  end_fits : end_fits_of v ≡ true
  unfolding end_fits_of
  end_fits = rw end_then (and_both (leb (end_below u (end_of w)) 64) _ (le-leb (end_below u (end_of w)) 64 (omega (arith, end_under u (end_of w)))) (last_used (end_below u (end_of w)) refl))
    where
      last_used : (e : ℕ) → end_below u (end_of w) ≡ e → (eqb e 0 || is_message (message_in v (e - 1))) ≡ true
      last_used zero q = refl
      last_used (suc e) q = or_in_right (eqb (suc e) 0) _ (ap is_message (let z : message_in v (suc e - 1) ≡ message_in u e = ap (message_in v) (let y : suc e - 1 ≡ e = omega arith in y) ∙ same_places e (omega (arith, end_under u (end_of w))) in z) ∙ end_used u (end_of w) e q)

  -- A place that is not in use then held zeros before, or its message is gone.
  zero_there : CleanMessages w → (j : ℕ) → j < 64 → is_used_in v j ≡ false → Zero u j
  zero_there c j less off = by_bool (is_message (message_in w j))
      (λ was. by_lt j (end_of w)
      (λ low. by_bool (is_message (message_in u j))
      (λ is. absurd (never_both (is_message (message_in u j)) is
      (none_after u (end_of w) j (let z = unused_out v j off (ap is_message (same_places j less) ∙ is) in omega (arith, end_then)) low)))
      (λ isnt. h.gone j low was isnt))
      (λ high. h.zeros j less (zero_at w c j less (unused_past w j high))))
      (λ wasnt. h.zeros j less (zero_at w c j less (unused_none w j wasnt)))

  clean_then : CleanMessages w → CleanMessages v
  clean_then c = zeros_in v (λ j less off. zero_stays u ends j (omega arith, omega arith, omega arith, omega arith, λ f l. omega arith) (zero_there c j less off))

  pub is_sifted : Sifted indexes w v
  is_sifted = record {
    only = record {
      size = puts_length u ends ∙ h.same;
      count = rest_then 0 (omega arith) (λ e. omega arith) (λ e. omega arith);
      disk = λ k low high. rest_then k (omega arith) (λ e. omega arith) (λ e. omega arith);
      rest = λ k low high. rest_then k high (λ e. omega arith) (λ e. omega arith);
    };
    left = not_lost_lem;
    counted = left_then ∙ ap length (sym remaining);
    fits = end_fits;
    last = rw (rest_then 2 (omega arith) (λ e. omega arith) (λ e. omega arith), rest_then 3 (omega arith) (λ e. omega arith) (λ e. omega arith));
    clean = clean_then;
  }
