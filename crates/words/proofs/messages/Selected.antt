-- The used ones of two tables of messages agree; and which of them has a number.
-- Assumes nothing.
use Rattle.std.specs.Prelude.{◌≡◌, ◌&&◌, ◌∷◌, ◌++◌, ◌+◌, ◌≤◌, ◌<◌}
use Rattle.laws.specs.Basics.{refl, sym, ◌∙◌, ap, Bool, true, false, List, [], append-nil, Option, None, Some, ℕ, zero, suc, arith, eqb, ne_eqb, eqb-true, by_bool}
use Rattle.laws.specs.{Lists.select, Lists.last_of, Lists.table, Select.select_append, Select.select_select, Select.last_of_snoc}
use Rattle.model.specs.declared.Message.{Message}
use Rattle.words.specs.{Layout.message_in, Layout.is_message, messages.Places.place_below, messages.Places.end_below}

-- Two tables of which the same entries pass, and those agree.
pub select_tables : {A : Type 0} (n : ℕ) (f g : ℕ → A) (s t : A → Bool) → ((j : ℕ) → j < n → s (f j) ≡ t (g j)) → ((j : ℕ) → j < n → s (f j) ≡ true → f j ≡ g j)
    → select s (table n f) ≡ select t (table n g)
unfolding table select
select_tables zero f g s t same agree = refl
select_tables (suc n) f g s t same agree =
    select_append s (table n f) (f n ∷ [])
    ∙ ap (λ l. l ++ select s (f n ∷ [])) (select_tables n f g s t (λ j lt. same j (omega arith)) (λ j lt. agree j (omega arith)))
    ∙ ap (λ l. select t (table n g) ++ l) (last_one)
    ∙ sym (select_append t (table n g) (g n ∷ []))
  where
    last_one : select s (f n ∷ []) ≡ select t (g n ∷ [])
    last_one = by_bool (s (f n))
        (λ e. rw (e, sym (same n (omega arith)) ∙ e, agree n (omega arith) e))
        (λ e. rw (e, sym (same n (omega arith)) ∙ e))

-- One more entry, which passes or does not.
module _ {A : Type 0} (t : A → Bool) (n : ℕ) (f : ℕ → A) where
  pub select_more : t (f n) ≡ true → select t (table (suc n) f) ≡ select t (table n f) ++ (f n ∷ [])
  unfolding table select
  select_more e = select_append t (table n f) (f n ∷ []) ∙ rw e

  pub select_less : t (f n) ≡ false → select t (table (suc n) f) ≡ select t (table n f)
  unfolding table select
  select_less e = select_append t (table n f) (f n ∷ []) ∙ rw e (append-nil _)

-- The message in a place that was found.
unfoldable pub message_at : List ℕ → ℕ → Option Message
message_at w zero = None
message_at w (suc k) = Some (message_in w k)

-- A message that has a number other than 0 is one.
pub is_one : (x : Message) (m : ℕ) → (m ≡ 0 → ⊥) → x.number ≡ m → is_message x ≡ true
unfolding is_message
is_one x m ne e = rw (ne_eqb x.number 0 (λ z. ne (sym e ∙ z)))

module _ (w : List ℕ) (m : ℕ) (Some-number : m ≡ 0 → ⊥) where
  abbrev both : Message → Bool
  both x = is_message x && eqb x.number m

  found_by_both : (n : ℕ) → last_of (select both (table n (message_in w))) ≡ message_at w (place_below w m n)
  unfolding table select last_of place_below message_at
  found_by_both zero = refl
  found_by_both (suc n) = by_bool (eqb (message_in w n).number m)
      (λ e. let yes : both (message_in w n) ≡ true = rw (is_one (message_in w n) m Some-number (eqb-true _ _ e), e) in
      rw (e, select_more both n (message_in w) yes) (last_of_snoc (select both (table n (message_in w))) (message_in w n)))
      (λ e. by_bool (is_message (message_in w n))
      (λ i. rw (e, select_less both n (message_in w) (rw (i, e))) (found_by_both n))
      (λ i. rw (e, select_less both n (message_in w) (rw i)) (found_by_both n)))

  pub found_below : (n : ℕ) → last_of (select (λ x. eqb x.number m) (select is_message (table n (message_in w)))) ≡ message_at w (place_below w m n)
  found_below n = ap last_of (select_select (λ x. eqb x.number m) is_message (table n (message_in w))) ∙ found_by_both n

-- Where a message was found: its place, and its number.
pub place_under : (w : List ℕ) (m n : ℕ) → place_below w m n ≤ n
unfolding place_below
place_under w m zero = omega arith
place_under w m (suc n) = by_bool (eqb (message_in w n).number m) (λ e. rw e (omega arith)) (λ e. rw e (omega (arith, place_under w m n)))

pub place_number : (w : List ℕ) (m n k : ℕ) → place_below w m n ≡ suc k → (message_in w k).number ≡ m
unfolding place_below
place_number w m zero k e = absurd (omega arith)
place_number w m (suc n) k e = by_bool (eqb (message_in w n).number m)
    (λ q. let z : suc n ≡ suc k = rw q at e in let y : n ≡ k = omega arith in rw (← y) (eqb-true _ _ q))
    (λ q. place_number w m n k (rw q at e))

-- Places that are not used count for nothing at the end.
pub walked_back : (w : List ℕ) (n : ℕ) → select is_message (table n (message_in w)) ≡ select is_message (table (end_below w n) (message_in w))
unfolding end_below
walked_back w zero = refl
walked_back w (suc n) = by_bool (is_message (message_in w n))
    (λ e. rw e)
    (λ e. rw e (select_less is_message n (message_in w) e ∙ walked_back w n))

pub end_under : (w : List ℕ) (n : ℕ) → end_below w n ≤ n
unfolding end_below
end_under w zero = omega arith
end_under w (suc n) = by_bool (is_message (message_in w n)) (λ e. rw e (omega arith)) (λ e. rw e (omega (arith, end_under w n)))

pub end_used : (w : List ℕ) (n k : ℕ) → end_below w n ≡ suc k → is_message (message_in w k) ≡ true
unfolding end_below
end_used w zero k e = absurd (omega arith)
end_used w (suc n) k e = by_bool (is_message (message_in w n))
    (λ q. let z : suc n ≡ suc k = rw q at e in let y : n ≡ k = omega arith in rw (← y) q)
    (λ q. end_used w n k (rw q at e))
