-- What is left of the messages under way where one is taken out.
-- Assumes nothing.
use Rattle.std.specs.Prelude.{◌≡◌, ◌&&◌, ◌||◌, ◌∷◌, ◌++◌, ◌+◌, ◌-◌, ◌*◌, ◌≤◌, ◌<◌}
use Rattle.laws.specs.Basics.{refl, sym, ◌∙◌, ap, Bool, true, false, not, List, [], ℕ, zero, suc, arith, eqb, leb, length, length-append, eq-eqb, ne_eqb, le-leb, by_bool, by_eq}
use Rattle.laws.specs.{Lists.select, Lists.table, Select.select_select, Tables.table_same, Truth.never_both, Truth.and_both, Truth.or_in_right}
use Rattle.model.specs.declared.Message.{Message}
use Rattle.words.specs.Layout.{state_size, word, end_of, message_in, is_message, messages_in, end_fits_of}
use Rattle.words.specs.{Puts.Put, Puts.one, messages.Places.clear_puts, messages.Places.cleared, messages.Places.taken_out, messages.Places.end_below}
use Rattle.words.proofs.Reading.{puts_length, untouched, touched}
use Rattle.words.proofs.messages.Selected.{select_tables, select_more, select_less, walked_back, end_under, end_used}
use Rattle.words.proofs.messages.Placed.{message_stays, cleared_number, cleared_elsewhere, cleared_length}

-- One entry fewer passes where one that passed is made unused and the others stay.
pub one_fewer : (n k : ℕ) (f g : ℕ → Message) → k < n → is_message (f k) ≡ true → is_message (g k) ≡ false → ((j : ℕ) → j < n → (j ≡ k → ⊥) → g j ≡ f j)
    → length (select is_message (table n f)) ≡ suc (length (select is_message (table n g)))
one_fewer zero k f g lt was not-now same = absurd (omega arith)
one_fewer (suc n) k f g lt was not-now same = by_eq n k
    (λ e.
    let rest : select is_message (table n f) ≡ select is_message (table n g) = ap (select is_message) (table_same n f g (λ j less. sym (same j (omega arith) (λ q. omega arith)))) in
    ap length (select_more is_message n f (rw e was))
    ∙ length-append (select is_message (table n f)) (f n ∷ [])
    ∙ (let z : length (select is_message (table n f)) + 1 ≡ suc (length (select is_message (table n f))) = omega arith in z)
    ∙ ap (λ l. suc (length l)) (rest ∙ sym (select_less is_message n g (rw e not-now))))
    (λ ne.
    let rec = one_fewer n k f g (omega arith) was not-now (λ j less. same j (omega arith)) in
    let here : g n ≡ f n = same n (omega arith) ne in
    by_bool (is_message (f n))
    (λ e.
    ap length (select_more is_message n f e)
    ∙ length-append (select is_message (table n f)) (f n ∷ [])
    ∙ (let z : length (select is_message (table n f)) + 1 ≡ suc (length (select is_message (table n g)) + 1) = omega (arith, rec) in z)
    ∙ ap suc (sym (length-append (select is_message (table n g)) (g n ∷ [])) ∙ ap length (sym (select_more is_message n g (rw here e)))))
    (λ e. ap length (select_less is_message n f e) ∙ rec ∙ ap (λ l. suc (length l)) (sym (select_less is_message n g (rw here e)))))

module _ (w : List ℕ) (long : length w ≡ state_size) (few : end_of w ≤ 64) (k : ℕ) (lt : k < end_of w) where
  abbrev c : List ℕ
  c = cleared w k

  abbrev v : List ℕ
  v = taken_out w k

  long_c : length c ≡ state_size
  long_c = cleared_length w k ∙ long

  abbrev ends : List Put
  ends = one 1 (word w 1 - 1) ∷ one 12 (end_below c (end_of w)) ∷ []

  pub taken_length : length v ≡ length w
  unfolding taken_out
  taken_length = puts_length c ends ∙ cleared_length w k

  pub taken_end : end_of v ≡ end_below c (end_of w)
  unfolding taken_out
  taken_end = touched c ends 1 0 12 (omega arith, omega arith, omega (arith, long_c), tt)

  pub taken_count : word v 1 ≡ word w 1 - 1
  unfolding taken_out
  taken_count = touched c ends 0 0 1 (omega arith, omega arith, omega (arith, long_c), omega arith)

  pub taken_rest : (q : ℕ) → q < 5184 → (q ≡ 1 → ⊥) → (q ≡ 12 → ⊥) → word v q ≡ word w q
  unfolding taken_out cleared
  taken_rest q less a b = untouched c ends q (λ x y. a (omega arith), (λ x y. b (omega arith), tt)) ∙ untouched w (clear_puts k) q (omega arith)

  same_places : (j : ℕ) → j < 64 → message_in v j ≡ message_in c j
  unfolding taken_out
  same_places j less = message_stays c ends j (omega arith, omega arith, omega arith, omega arith, λ f lt'. omega arith)

  unused : is_message (message_in c k) ≡ false
  unfolding is_message
  unused = rw (cleared_number w long k (omega arith))

  -- those that are left, in the old places
  left : messages_in v ≡ select is_message (table (end_of w) (message_in c))
  unfolding messages_in
  left =
      ap (select is_message) (table_same (end_of v) (message_in v) (message_in c) (λ j less. same_places j (omega (arith, taken_end, end_under c (end_of w)))))
      ∙ ap (λ n. select is_message (table n (message_in c))) taken_end
      ∙ sym (walked_back c (end_of w))

  pub taken_fits : end_fits_of v ≡ true
  unfolding end_fits_of
  taken_fits = rw (taken_end) (and_both (leb (end_below c (end_of w)) 64) _ (le-leb (end_below c (end_of w)) 64 (omega (arith, end_under c (end_of w)))) (last_used (end_below c (end_of w)) refl))
    where
      last_used : (e : ℕ) → end_below c (end_of w) ≡ e → (eqb e 0 || is_message (message_in v (e - 1))) ≡ true
      last_used zero q = refl
      last_used (suc e) q = or_in_right (eqb (suc e) 0) _ (ap is_message (let z : message_in v (suc e - 1) ≡ message_in c e = ap (message_in v) (let y : suc e - 1 ≡ e = omega arith in y) ∙ same_places e (omega (arith, end_under c (end_of w))) in z) ∙ end_used c (end_of w) e q)

  module _ (m : ℕ) (Some-number : m ≡ 0 → ⊥) (is : (message_in w k).number ≡ m) (alone : (j : ℕ) → j < end_of w → (message_in w j).number ≡ m → j ≡ k) where
    abbrev other : Message → Bool
    other x = not (eqb x.number m)

    used : is_message (message_in w k) ≡ true
    unfolding is_message
    used = rw (ne_eqb (message_in w k).number 0 (λ e. Some-number (sym is ∙ e)))

    passes : (j : ℕ) → j < end_of w → is_message (message_in c j) ≡ (is_message (message_in w j) && other (message_in w j))
    passes j less = by_eq j k
        (λ e. rw e (unused ∙ sym (rw (used, eq-eqb (message_in w k).number m is))))
        (λ ne. rw (cleared_elsewhere w long k (omega arith) j (omega arith) ne, ne_eqb (message_in w j).number m (λ q. ne (alone j less q)))
        (sym (by_bool (is_message (message_in w j)) (λ e. rw e) (λ e. rw e))))

    stays : (j : ℕ) → j < end_of w → is_message (message_in c j) ≡ true → message_in c j ≡ message_in w j
    stays j less passed = by_eq j k
        (λ e. absurd (never_both (is_message (message_in c k)) (rw e at passed) unused))
        (λ ne. cleared_elsewhere w long k (omega arith) j (omega arith) ne)

    pub taken_others : messages_in v ≡ select other (messages_in w)
    unfolding messages_in
    taken_others =
        left
        ∙ select_tables (end_of w) (message_in c) (message_in w) is_message (λ x. is_message x && other x) passes stays
        ∙ sym (select_select other is_message (table (end_of w) (message_in w)))

    pub taken_many : length (messages_in w) ≡ suc (length (messages_in v))
    unfolding messages_in
    taken_many = one_fewer (end_of w) k (message_in w) (message_in c) lt used unused (λ j less ne. cleared_elsewhere w long k (omega arith) j (omega arith) ne) ∙ ap (λ l. suc (length l)) (sym left)
