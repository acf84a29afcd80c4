-- The message that the run of any words has under way under a number is the one that the places of the words are searched for.
-- Assumes nothing.
use Rattle.std.specs.Prelude.{◌≡◌, ◌&&◌, ◌∷◌, ◌++◌, ◌+◌, ◌-◌, ◌≤◌, ◌<◌}
use Rattle.laws.specs.Basics.{refl, sym, ◌∙◌, ap, Bool, true, false, List, [], append-nil, Option, None, Some, ℕ, zero, suc, arith, eqb, ltb, length, take, replicate, length-append, eq-eqb, ne_eqb, lt-ltb, le-ltb, ltb-true, ltb-false, pick, by_bool, by_eq}
use native.Mathlib.Numerals.{add-one}
use lib.Seq.{take_all, take-nil, take-append-le, take-append-add}
use Rattle.laws.specs.{Lists.select, Lists.last_of, Lists.table, Lists.placed, Select.select_append, Select.select_length, Select.last_of_snoc}
use Rattle.laws.specs.{Tables.length_table, Truth.and_no_right}
use Rattle.model.specs.declared.{Message.Message}
use Rattle.model.specs.{Words.no_message, Words.most_under_way, Words.blank, Words.under_way, Steps.found}
use Rattle.words.specs.Layout.{word, end_of, fits, receiver_at_of, message_in, is_message, messages_in, run_of}
use Rattle.words.proofs.{View.run_unfit, View.underway_is, View.messages_is, messages.Selected.select_more, messages.Selected.select_less}
use Rattle.theory_roles.specs.declared.Role.TheVariants.{JobOwner}
use Rattle.theory_roles.specs.Console.{owns, entitled_message_by}
use Rattle.library_console.specs.declared.{receivers.Receiver.Receiver, receivers.Searched.Searched}
use Rattle.library_console.specs.Receivers.{used_below, has_at, found_below, zeros_under_way, found_in_of, receiver_is, SearchedTo}

-- Of that many places that all hold the same: none passes, or the last one does.
module _ {A : Type 0} (t : A → Bool) (x : A) where
  none_passes : t x ≡ false → (r k : ℕ) → select t (take k (replicate r x)) ≡ []
  unfolding select
  none_passes e r zero = refl
  none_passes e zero (suc k) = refl
  none_passes e (suc r) (suc k) = rw e (none_passes e r k)

  last_passes : t x ≡ true → (r k : ℕ) → last_of (select t (take k (replicate r x))) ≡ pick (ltb 0 k && ltb 0 r) (Some x) None
  unfolding select last_of
  last_passes e r zero = refl
  last_passes e zero (suc k) = rw (le-ltb 0 0 (omega arith)) (by_bool (ltb 0 (suc k)) (λ b. rw b refl) (λ b. rw b refl))
  last_passes e (suc r) (suc k) = rw (e, last_passes e r k, lt-ltb 0 (suc k) (omega arith), lt-ltb 0 (suc r) (omega arith)) (by_bool (ltb 0 k && ltb 0 r) (λ b. rw b refl) (λ b. rw b refl))

-- No message has number 0.
none_numbered : (m : ℕ) → m ≡ 0 → (T : List Message) → select (λ x. eqb x.number m) (select is_message T) ≡ []
unfolding select is_message
none_numbered m z [] = refl
none_numbered m z (x ∷ T) = by_bool (eqb x.number 0)
    (λ e. rw e (none_numbered m z T))
    (λ e. let other : eqb x.number m ≡ false = rw z e in rw (e, other) (none_numbered m z T))

module _ (w : List ℕ) (m : ℕ) where
  abbrev has_number : Message → Bool
  has_number x = eqb x.number m

  abbrev many : ℕ
  many = word w 1

  abbrev front : ℕ → List Message
  front k = select is_message (table k (message_in w))

  used_more : (k : ℕ) → used_below w (k + 1) ≡ pick (is_message (message_in w k)) (used_below w k + 1) (used_below w k)
  unfolding used_below
  used_more k = by_bool (is_message (message_in w k))
      (λ e. rw e (ap length (ap front (omega arith) ∙ select_more is_message k (message_in w) e) ∙ length-append (front k) (message_in w k ∷ [])))
      (λ e. rw e (ap length (ap front (omega arith) ∙ select_less is_message k (message_in w) e)))

  used_few : (k : ℕ) → used_below w k ≤ k
  unfolding used_below
  used_few k = omega (arith, select_length is_message (table k (message_in w)), length_table k (message_in w))

  -- The search, place by place: before the first, a place that is not used, one that has the message, and another message.
  pub none_searched : SearchedTo w m 0 (record { used = 0; found = false; process = 0 })
  unfolding used_below found_below receiver_is table select
  none_searched = record { used = refl; receiver = refl }

  module _ (k : ℕ) (r : Searched) (so_far : SearchedTo w m k r) where
    pub room_for_one : r.used ≤ k
    room_for_one = omega (arith, so_far.used, used_few k)

    pub one_unused : (message_in w k).number ≡ 0 → SearchedTo w m (k + 1) r
    unfolding found_below has_at is_message
    one_unused e = record {
      used = so_far.used ∙ sym (used_more k ∙ rw (eq-eqb (message_in w k).number 0 e));
      receiver = rw (add-one k, eq-eqb (message_in w k).number 0 e) so_far.receiver;
    }

    module _ (ne : (message_in w k).number ≡ 0 → ⊥) where
      one_used : r.used + 1 ≡ used_below w (k + 1)
      unfolding is_message
      one_used = rw (used_more k, ne_eqb (message_in w k).number 0 ne, so_far.used)

      pub one_has : {p : ℕ} → (ltb r.used many && eqb (message_in w k).number m) ≡ true → p ≡ (message_in w k).receiver → SearchedTo w m (k + 1) (record { used = r.used + 1; found = true; process = p })
      unfolding found_below has_at is_message receiver_is
      one_has e to = record {
        used = one_used;
        receiver = rw (add-one k, ne_eqb (message_in w k).number 0 ne, sym so_far.used, e, to);
      }

      pub one_other : (ltb r.used many && eqb (message_in w k).number m) ≡ false → SearchedTo w m (k + 1) (record { used = r.used + 1; found = r.found; process = r.process })
      unfolding found_below has_at is_message
      one_other e = record {
        used = one_used;
        receiver = rw (add-one k, ne_eqb (message_in w k).number 0 ne, sym so_far.used, e) so_far.receiver;
      }

  below_is : (k : ℕ) → last_of (select has_number (take many (front k))) ≡ found_below w m k
  unfolding found_below has_at used_below table select last_of
  below_is zero = ap (λ (l : List Message). last_of (select has_number l)) (take-nil many)
  below_is (suc k) = by_bool (is_message (message_in w k))
      (λ e. rw (e, select_more is_message k (message_in w) e) (by_bool (ltb (length (front k)) many)
      (λ room.
      let lt = ltb-true (length (front k)) many room in
      let whole : take many (front k ++ (message_in w k ∷ [])) ≡ front k ++ (message_in w k ∷ []) = take_all many _ (omega (arith, lt, length-append (front k) (message_in w k ∷ []))) in
      let part : take many (front k) ≡ front k = take_all many _ (omega (arith, lt)) in
      by_bool (has_number (message_in w k))
      (λ is. rw (room, is, whole, select_append has_number (front k) (message_in w k ∷ []), is) (last_of_snoc (select has_number (front k)) (message_in w k)))
      (λ is. rw (room, is, whole, select_append has_number (front k) (message_in w k ∷ []), is, append-nil (select has_number (front k))) (ap (λ (l : List Message). last_of (select has_number l)) (sym part) ∙ below_is k)))
      (λ full. rw (full, take-append-le many (front k) (message_in w k ∷ []) (ltb-false (length (front k)) many full)) (below_is k))))
      (λ e. rw (e, select_less is_message k (message_in w) e) (below_is k))

  -- Of all messages, and of the zeros after them.
  module _ (fit : fits w ≡ true) where
    abbrev all : List Message
    all = front (end_of w)

    abbrev zeros : List Message
    zeros = replicate (most_under_way - length all) no_message

    run_has : found (run_of w) m ≡ last_of (select has_number (take many (all ++ zeros)))
    unfolding found under_way messages_in placed
    run_has = rw (underway_is w fit, messages_is w fit) refl

    -- More are said to be under way than there are: the zeros are among them, which have the number 0.
    module _ (lt : length all < many) where
      whole : last_of (select has_number all) ≡ found_below w m (end_of w)
      whole = ap (λ (l : List Message). last_of (select has_number l)) (sym (take_all many all (omega arith))) ∙ below_is (end_of w)

      others_found : has_number no_message ≡ false → last_of (select has_number all ++ select has_number (take (many - length all) zeros)) ≡ found_below w m (end_of w)
      others_found other = ap last_of (ap (λ (l : List Message). select has_number all ++ l) (none_passes has_number no_message other (most_under_way - length all) (many - length all)) ∙ append-nil (select has_number all)) ∙ whole

      some_left : ltb 0 (many - length all) ≡ true
      some_left = lt-ltb 0 (many - length all) (omega arith)

      zero_found : m ≡ 0 → has_number no_message ≡ true
          → last_of (select has_number all ++ select has_number (take (many - length all) zeros)) ≡ pick (ltb (length all) most_under_way) (Some no_message) (found_below w m (end_of w))
      unfolding last_of
      zero_found z same =
          let nobody = none_numbered m z (table (end_of w) (message_in w)) in
          let nothing : None ≡ found_below w m (end_of w) = ap last_of (sym nobody) ∙ whole in
          ap (λ (l : List Message). last_of (l ++ select has_number (take (many - length all) zeros))) nobody
          ∙ last_passes has_number no_message same (most_under_way - length all) (many - length all)
          ∙ by_bool (ltb (length all) most_under_way)
          (λ e. rw (e, some_left, lt-ltb 0 (most_under_way - length all) (omega (arith, ltb-true (length all) most_under_way e))))
          (λ e. rw (e, some_left, le-ltb 0 (most_under_way - length all) (omega (arith, ltb-false (length all) most_under_way e))) nothing)

      more_said : found (run_of w) m ≡ pick (eqb m 0 && ltb (length all) most_under_way) (Some no_message) (found_below w m (end_of w))
      more_said =
          let past : many ≡ length all + (many - length all) = omega arith in
          run_has
          ∙ ap (λ (l : List Message). last_of (select has_number l)) (ap (λ (k : ℕ). take k (all ++ zeros)) past ∙ take-append-add all zeros (many - length all))
          ∙ ap last_of (select_append has_number all _)
          ∙ by_eq m 0
          (λ z. rw (eq-eqb m 0 z) (zero_found z (eq-eqb 0 m (sym z))))
          (λ ne. rw (ne_eqb m 0 ne) (others_found (ne_eqb 0 m (λ z. ne (sym z)))))

    pub found_in : found (run_of w) m ≡ found_in_of w m
    unfolding found_in_of zeros_under_way used_below
    found_in = by_bool (ltb (length all) many)
        (λ e. more_said (ltb-true (length all) many e) ∙ rw e)
        (λ e. run_has ∙ ap (λ (l : List Message). last_of (select has_number l)) (take-append-le many all zeros (ltb-false (length all) many e)) ∙ below_is (end_of w) ∙ rw (e, and_no_right (eqb m 0) false refl))

-- What the search brought, once all places in use were searched.
module _ (w : List ℕ) (m : ℕ) (r : Searched) (all : SearchedTo w m (end_of w) r) where
  pub zeros_said : (eqb m 0 && (ltb r.used (word w 1) && ltb r.used 64)) ≡ true → record { found = true; process = 0 } ≡ receiver_is (found_in_of w m)
  unfolding found_in_of zeros_under_way receiver_is
  zeros_said e = rw (sym all.used, e)

  pub as_searched : (eqb m 0 && (ltb r.used (word w 1) && ltb r.used 64)) ≡ false → record { found = r.found; process = r.process } ≡ receiver_is (found_in_of w m)
  unfolding found_in_of zeros_under_way
  as_searched e = rw (sym all.used, e) all.receiver

-- It is under way to one of the owner's processes.
pub reaches_own : (owned n : ℕ) (o : Option Message) (to : Receiver) (own : Bool) → to ≡ receiver_is o → own ≡ owns owned n to.process → (to.found && own) ≡ entitled_message_by JobOwner owned n o
unfolding receiver_is entitled_message_by
reaches_own owned n None to own e d = rw e
reaches_own owned n (Some x) to own e d = rw (d, e)

-- The receiver of a message is a word.
pub receiver_word : (w : List ℕ) (k : ℕ) → (message_in w k).receiver ≡ word w (receiver_at_of k)
unfolding message_in
receiver_word w k = refl

-- Words that do not fit stand for a state of zeros, which has nothing under way.
pub found_nothing : (w : List ℕ) (m : ℕ) → fits w ≡ false → found (run_of w) m ≡ None
unfolding found under_way blank select last_of
found_nothing w m e = rw (run_unfit w e)
