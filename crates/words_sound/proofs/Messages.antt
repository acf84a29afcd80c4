-- All that document 01 asks of the messages under way is what is tested of their words.
-- Assumes nothing.
use Rattle.std.specs.Prelude.{◌≡◌, ◌&&◌, ◌||◌, ◌∷◌, ◌++◌, ◌+◌, ◌-◌, ◌≤◌, ◌<◌}
use Rattle.laws.specs.Basics.{refl, sym, ◌∙◌, ap, Bool, true, false, not, List, [], map, append-nil, ℕ, zero, suc, arith, eqb, ltb, leb, length, get_or, take, drop, replicate, get_or-replicate, length-take-le, eq-eqb, ne_eqb, eqb-true, lt-ltb, ltb-true, le-leb, leb-true, not-true, pick, by_bool, by_eq}
use lib.ListN.{length-map, get_or-append, get_or-map}
use lib.Seq.{get_or-take, drop-append_seam, get_or-append-add}
use Rattle.laws.specs.Conjunctions.{none, test, ◌and◌, holds, asks, same_tests, part_fails}
use Rattle.laws.specs.{Counting.count_le, Counting.count_same, Elements.same_test, Elements.every_replicate, Lists.select, Lists.table, Lists.placed}
use Rattle.laws.specs.{Prefixes.placed_length, Ranges.all_same, Search.all_below, Search.all_in, Select.map_append, Tables.take_placed}
use Rattle.laws.specs.Rows.{every_both, all_both, and_true, and_swap, every_at, every_beyond, by_lt}
use Rattle.laws.specs.Tests.{every, all_of, count_below}
use Rattle.laws.specs.Truth.{and_left, and_right, and_no_right, or_in_right, or_right, never_both}
use Rattle.model.specs.{declared.Message.Message, declared.Run.Run, Words.most_under_way, Words.most_messages, Words.no_message, Words.under_way}
use Rattle.model.specs.Sound.{within, ascending, message_sound, zero_from, unused_message}
use Rattle.words.specs.Layout.{word, wide2, count_of, end_of, sender_at_of, receiver_at_of, carried_at, message_in, is_message, messages_in, decoded}
use Rattle.words_sound.specs.Test.{row_within_of, number_in, number_before, message_tests, message_fits, carried_fits}
use Rattle.words_sound.proofs.Laws.{not_twice, cons_same, both_false, every_chosen, length_chosen, select_more, next_of, next_snoc, ascending_snoc}
use Rattle.words_sound.proofs.Parts as parts

-- One of two tests, where the second is two.
or_both : (c a b : Bool) → (c || (a && b)) ≡ ((c || a) && (c || b))
or_both true a b = refl
or_both false a b = refl

all_or_both : (m : ℕ) (c a b : ℕ → Bool) → all_below m (λ k. c k || (a k && b k)) ≡ (all_below m (λ k. c k || a k) && all_below m (λ k. c k || b k))
all_or_both m c a b =
    all_same m (λ k. c k || (a k && b k)) (λ k. (c k || a k) && (c k || b k)) (λ k lt. or_both (c k) (a k) (b k))
    ∙ all_both m (λ k. c k || a k) (λ k. c k || b k)

-- A test is asked only where another one holds.
pub under : (h a b : Bool) → (h ≡ true → a ≡ b) → (h && a) ≡ (h && b)
under true a b e = e refl
under false a b e = refl

-- Numbers that ascend from a bound on are not below it.
ascending_least : (low : ℕ) (l : List ℕ) (k : ℕ) → ascending low l ≡ true → k < length l → low ≤ get_or l k 0
unfolding ascending
ascending_least low [] k e lt = absurd (omega arith)
ascending_least low (x ∷ l) zero e lt = leb-true low x (and_left (leb low x) (ascending (suc x) l) e)
ascending_least low (x ∷ l) (suc k) e lt =
    let first = leb-true low x (and_left (leb low x) (ascending (suc x) l) e) in
    let rest = ascending_least (suc x) l k (and_right (leb low x) (ascending (suc x) l) e) (omega arith) in
    omega arith

step : (a b : ℕ) → leb (suc a) b ≡ ltb a b
step a b = same_test (leb (suc a) b) (ltb a b) (λ e. lt-ltb a b (omega (arith, leb-true (suc a) b e))) (λ e. le-leb (suc a) b (omega (arith, ltb-true a b e)))

abbrev number : Message → ℕ
number x = x.number

module _ (w : List ℕ) where
  -- A place is in use where its number is not 0.
  used_at : (k : ℕ) → is_message (message_in w k) ≡ not (eqb (number_in w k) 0)
  unfolding is_message message_in
  used_at k = refl

  unused_at : (k : ℕ) → not (is_message (message_in w k)) ≡ eqb (number_in w k) 0
  unused_at k = rw (used_at k) (not_twice (eqb (number_in w k) 0))

  abbrev chosen : ℕ → List Message
  chosen m = select is_message (table m (message_in w))

  -- Each place in use, or each message, passes a test.
  every_used : (t : Message → Bool) (u : ℕ → Bool) (m : ℕ) → ((k : ℕ) → t (message_in w k) ≡ u k) → every t (chosen m) ≡ all_below m (λ k. eqb (number_in w k) 0 || u k)
  every_used t u m same =
      every_chosen is_message (message_in w) t m
      ∙ all_same m (λ k. not (is_message (message_in w k)) || t (message_in w k)) (λ k. eqb (number_in w k) 0 || u k) (λ k lt. rw (unused_at k, same k))

  pub count_used : (m : ℕ) → length (chosen m) ≡ count_below m (λ k. not (eqb (number_in w k) 0))
  count_used m = length_chosen is_message (message_in w) m ∙ count_same m (λ k. is_message (message_in w k)) (λ k. not (eqb (number_in w k) 0)) (λ k lt. used_at k)

  number_at : (k : ℕ) → (message_in w k).number ≡ number_in w k
  unfolding message_in
  number_at k = refl

  chosen_more : (m : ℕ) → map number (chosen (suc m)) ≡ map number (chosen m) ++ pick (eqb (number_in w m) 0) [] (number_in w m ∷ [])
  chosen_more m =
      ap (λ (l : List Message). map number l) (select_more is_message (message_in w) m)
      ∙ map_append number (chosen m) (pick (is_message (message_in w m)) (message_in w m ∷ []) [])
      ∙ ap (λ (l : List ℕ). map number (chosen m) ++ l) (one (eqb (number_in w m) 0) (used_at m))
    where
      one : (b : Bool) → is_message (message_in w m) ≡ not b → map number (pick (is_message (message_in w m)) (message_in w m ∷ []) []) ≡ pick b [] (number_in w m ∷ [])
      one true e = rw e
      one false e = rw e (ap (λ (x : ℕ). x ∷ []) (number_at m))

  next_number : (m : ℕ) → next_of 1 (map number (chosen m)) ≡ suc (number_before w m)
  unfolding number_before table select next_of
  next_number zero = refl
  next_number (suc m) = rw (chosen_more m) (by_bool (eqb (number_in w m) 0)
      (λ e. rw (e, append-nil) (next_number m))
      (λ e. rw e (next_snoc 1 (map number (chosen m)) (number_in w m))))

  -- "Messages ascend by number, from 1"
  abbrev Ascend : ℕ → Bool
  Ascend m = all_below m (λ k. eqb (number_in w k) 0 || ltb (number_before w k) (number_in w k))

  ascend_used : (m : ℕ) → ascending 1 (map number (chosen m)) ≡ Ascend m
  unfolding all_below table select ascending
  ascend_used zero = refl
  ascend_used (suc m) = rw (chosen_more m) (by_bool (eqb (number_in w m) 0)
      (λ e. rw (e, append-nil) (ascend_used m))
      (λ e. rw e (ascending_snoc 1 (map number (chosen m)) (number_in w m)
      ∙ rw (ascend_used m, next_number m, step (number_before w m) (number_in w m)) (and_swap (Ascend m) (ltb (number_before w m) (number_in w m))))))

  -- Where they ascend, each is at most the last.
  last_most : (m : ℕ) → Ascend m ≡ true → (k : ℕ) → k < m → number_in w k ≤ number_before w m
  unfolding all_below number_before
  last_most zero e k lt = absurd (omega arith)
  last_most (suc m) e k lt =
      let so_far = and_right (eqb (number_in w m) 0 || ltb (number_before w m) (number_in w m)) (Ascend m) e in
      by_bool (eqb (number_in w m) 0)
      (λ q. rw q (by_eq k m (λ c. rw c (omega (arith, eqb-true (number_in w m) 0 q))) (λ ne. last_most m so_far k (omega arith))))
      (λ q. rw q (by_eq k m (λ c. rw c (omega arith))
      (λ ne. omega (arith, last_most m so_far k (omega arith), ltb-true (number_before w m) (number_in w m) (or_right (eqb (number_in w m) 0) (ltb (number_before w m) (number_in w m)) q (and_left (eqb (number_in w m) 0 || ltb (number_before w m) (number_in w m)) (Ascend m) e))))))

  last_of_lem : (m top : ℕ) → all_below m (λ k. eqb (number_in w k) 0 || leb (number_in w k) top) ≡ true → number_before w m ≤ top
  unfolding all_below number_before
  last_of_lem zero top e = omega arith
  last_of_lem (suc m) top e =
      let rest = and_right (eqb (number_in w m) 0 || leb (number_in w m) top) (all_below m (λ k. eqb (number_in w k) 0 || leb (number_in w k) top)) e in
      by_bool (eqb (number_in w m) 0)
      (λ q. rw q (last_of_lem m top rest))
      (λ q. rw q (leb-true (number_in w m) top (or_right (eqb (number_in w m) 0) (leb (number_in w m) top) q (and_left (eqb (number_in w m) 0 || leb (number_in w m) top) (all_below m (λ k. eqb (number_in w k) 0 || leb (number_in w k) top)) e))))

  -- "to the last used"
  numbers_most : (m top : ℕ) → Ascend m ≡ true → all_below m (λ k. eqb (number_in w k) 0 || leb (number_in w k) top) ≡ leb (number_before w m) top
  numbers_most m top e = same_test (all_below m (λ k. eqb (number_in w k) 0 || leb (number_in w k) top)) (leb (number_before w m) top)
      (λ q. le-leb (number_before w m) top (last_of_lem m top q))
      (λ q. all_in m (λ k. eqb (number_in w k) 0 || leb (number_in w k) top)
      (λ k lt. or_in_right (eqb (number_in w k) 0) (leb (number_in w k) top) (le-leb (number_in w k) top (omega (arith, last_most m e k lt, leb-true (number_before w m) top q)))))

  -- The tests of all places, apart.
  abbrev Each : (ℕ → Bool) → ℕ → Bool
  Each t m = all_below m (λ k. eqb (number_in w k) 0 || t k)

  abbrev From : ℕ → Bool
  From k = ltb (word w (sender_at_of k)) (count_of w)

  abbrev To : ℕ → Bool
  To k = ltb (word w (receiver_at_of k)) (count_of w)

  abbrev Apart : ℕ → Bool
  Apart k = not (eqb (word w (sender_at_of k)) (word w (receiver_at_of k)))

  abbrev Low : ℕ → ℕ → Bool
  Low top k = leb (number_in w k) top

  abbrev Within : ℕ → Bool
  Within k = row_within_of w (carried_at k)

  ends_apart : (top m : ℕ) → Each (λ k. Low top k && From k && To k && Apart k) m ≡ (Each (Low top) m && Each From m && Each To m && Each Apart m)
  ends_apart top m =
      all_or_both m (λ k. eqb (number_in w k) 0) (λ k. Low top k && From k && To k) Apart
      ∙ ap (λ b. b && Each Apart m) (all_or_both m (λ k. eqb (number_in w k) 0) (λ k. Low top k && From k) To
      ∙ ap (λ b. b && Each To m) (all_or_both m (λ k. eqb (number_in w k) 0) (Low top) From))

  fits_apart : (m : ℕ) → all_below m (message_fits w) ≡ (Ascend m && (Each From m && (Each To m && Each Apart m)))
  unfolding message_fits message_tests every
  fits_apart m =
      let c : ℕ → Bool = λ k. eqb (number_in w k) 0 in
      let a : ℕ → Bool = λ k. ltb (number_before w k) (number_in w k) in
      let e : ℕ → Bool = λ k. Apart k && true in
      all_or_both m c a (λ k. From k && (To k && e k))
      ∙ ap (λ b. Ascend m && b) (all_or_both m c From (λ k. To k && e k)
      ∙ ap (λ b. Each From m && b) (all_or_both m c To e
      ∙ ap (λ b. Each To m && b) (all_same m (λ k. c k || e k) (λ k. c k || Apart k) (λ k lt. rw (and_true (Apart k))))))

  -- Two groupings of the tests, between which "to the last used" is asked of the last number alone.
  grouped : (a l f t d r x : Bool) → (true && (a && ((l && f && t && d) && (x && (r && (true && true)))))) ≡ ((a && l) && (f && t && d && r && x))
  unfolding holds asks all_below
  grouped a l f t d r x = same_tests (a ∷ l ∷ f ∷ t ∷ d ∷ r ∷ x ∷ [])
      (none and (test 0 and ((test 1 and test 2 and test 3 and test 4) and (test 6 and (test 5 and (none and none))))))
      ((test 0 and test 1) and (test 2 and test 3 and test 4 and test 5 and test 6))
      refl
      refl

  regrouped : (a l f t d r x : Bool) → ((a && l) && (f && t && d && r && x)) ≡ ((a && (f && (t && d))) && (r && (true && (l && x))))
  unfolding holds asks all_below
  regrouped a l f t d r x = same_tests (a ∷ l ∷ f ∷ t ∷ d ∷ r ∷ x ∷ [])
      ((test 0 and test 1) and (test 2 and test 3 and test 4 and test 5 and test 6))
      ((test 0 and (test 2 and (test 3 and test 4))) and (test 5 and (none and (test 1 and test 6))))
      refl
      refl

  -- A message that is not used has no number.
  unused_number : (x : Message) → unused_message x ≡ true → is_message x ≡ true → ⊥
  unfolding unused_message is_message
  unused_number x e q = never_both (eqb x.number 0)
      (and_left (eqb x.number 0) (eqb x.sender 0) (and_left (eqb x.number 0 && eqb x.sender 0) (eqb x.receiver 0) (and_left (eqb x.number 0 && eqb x.sender 0 && eqb x.receiver 0) (zero_from 0 x.vector) e)))
      (not-true _ q)

  chosen_used : (m : ℕ) → every is_message (chosen m) ≡ true
  chosen_used m = every_used is_message (λ k. not (eqb (number_in w k) 0)) m used_at ∙ all_in m (λ k. eqb (number_in w k) 0 || not (eqb (number_in w k) 0)) (λ k lt. either_way (eqb (number_in w k) 0))
    where
      either_way : (b : Bool) → (b || not b) ≡ true
      either_way true = refl
      either_way false = refl

  module _ (high : count_of w ≤ 16) (short : end_of w ≤ 64) where
    abbrev s : Run
    s = decoded w

    abbrev laid : List Message
    laid = placed most_under_way no_message (chosen (end_of w))

    abbrev counted : ℕ
    counted = count_below (end_of w) (λ k. not (eqb (number_in w k) 0))

    -- All that is asked of the messages.
    abbrev pub asked_tests : List Bool
    asked_tests =
        leb s.underway most_under_way
        ∷ ascending 1 (map (λ x. x.number) (under_way s))
        ∷ every (message_sound s) (under_way s)
        ∷ leb s.last most_messages
        ∷ (every (λ x. within s x.vector) (under_way s) && every (λ x. zero_from s.count x.vector) (under_way s))
        ∷ every unused_message (drop s.underway s.messages)
        ∷ []

    abbrev pub word_tests : Bool
    word_tests = all_below (end_of w) (message_fits w) && (all_below (end_of w) (carried_fits w) && (eqb counted (word w 1) && (leb (number_before w (end_of w)) (wide2 w 2) && leb (wide2 w 2) most_messages)))

    carried_apart : all_below (end_of w) (carried_fits w) ≡ Each Within (end_of w)
    unfolding carried_fits
    carried_apart = refl

    under_way_lem : under_way s ≡ take (word w 1) laid
    unfolding under_way decoded messages_in
    under_way_lem = refl

    rest_is : drop s.underway s.messages ≡ drop (word w 1) laid
    unfolding decoded messages_in
    rest_is = refl

    underway_at : s.underway ≡ word w 1
    unfolding decoded
    underway_at = refl

    last_at : s.last ≡ wide2 w 2
    unfolding decoded
    last_at = refl

    length_laid : length laid ≡ 64
    length_laid = placed_length 64 no_message (chosen (end_of w)) (omega (arith, count_used (end_of w), count_le (end_of w) (λ k. not (eqb (number_in w k) 0))))

    -- As many as are said to be under way.
    module _ (e : counted ≡ word w 1) where
      under_way_is : under_way s ≡ chosen (end_of w)
      under_way_is = under_way_lem ∙ ap (λ (x : ℕ). take x laid) (sym (count_used (end_of w) ∙ e)) ∙ take_placed most_under_way no_message (chosen (end_of w))

      none_unused : unused_message no_message ≡ true
      unfolding unused_message zero_from every
      none_unused = refl

      rest_unused : every unused_message (drop s.underway s.messages) ≡ true
      unfolding placed
      rest_unused =
          ap (λ (l : List Message). every unused_message l) (rest_is ∙ ap (λ (x : ℕ). drop x laid) (sym (count_used (end_of w) ∙ e)) ∙ drop-append_seam (chosen (end_of w)) (replicate (most_under_way - length (chosen (end_of w))) no_message))
          ∙ every_replicate unused_message (most_under_way - length (chosen (end_of w))) no_message none_unused

      ends_at : (k : ℕ) → message_sound s (message_in w k) ≡ (Low (wide2 w 2) k && From k && To k && Apart k)
      unfolding message_sound message_in decoded
      ends_at k = refl

      carried_row : (k : ℕ) → (within s (message_in w k).vector && zero_from s.count (message_in w k).vector) ≡ Within k
      unfolding message_in
      carried_row k = parts.row_within w high (carried_at k)

      carried : (every (λ x. within s x.vector) (under_way s) && every (λ x. zero_from s.count x.vector) (under_way s)) ≡ Each Within (end_of w)
      carried =
          let both : Message → Bool = λ x. within s x.vector && zero_from s.count x.vector in
          sym (every_both (λ (x : Message). within s x.vector) (λ (x : Message). zero_from s.count x.vector) (under_way s))
          ∙ ap (λ (l : List Message). every both l) under_way_is
          ∙ every_used both Within (end_of w) carried_row

      few : leb s.underway most_under_way ≡ true
      few = ap (λ (x : ℕ). leb x most_under_way) underway_at ∙ le-leb (word w 1) 64 (omega (arith, count_le (end_of w) (λ k. not (eqb (number_in w k) 0))))

      same_lists : asked_tests ≡ (true ∷ Ascend (end_of w) ∷ (Each (Low (wide2 w 2)) (end_of w) && Each From (end_of w) && Each To (end_of w) && Each Apart (end_of w)) ∷ leb (wide2 w 2) most_messages ∷ Each Within (end_of w) ∷ true ∷ [])
      same_lists =
          cons_same _ _ _ _ few
          (cons_same _ _ _ _ (ap (λ (l : List Message). ascending 1 (map number l)) under_way_is ∙ ascend_used (end_of w))
          (cons_same _ _ _ _ (ap (λ (l : List Message). every (message_sound s) l) under_way_is ∙ every_used (message_sound s) (λ k. Low (wide2 w 2) k && From k && To k && Apart k) (end_of w) ends_at ∙ ends_apart (wide2 w 2) (end_of w))
          (cons_same _ _ _ _ (ap (λ (x : ℕ). leb x most_messages) last_at)
          (cons_same _ _ _ _ carried
          (cons_same _ _ _ _ rest_unused refl)))))

      counted_same : all_of asked_tests ≡ word_tests
      unfolding every
      counted_same =
          ap (λ (l : List Bool). all_of l) same_lists
          ∙ grouped (Ascend (end_of w)) (Each (Low (wide2 w 2)) (end_of w)) (Each From (end_of w)) (Each To (end_of w)) (Each Apart (end_of w)) (Each Within (end_of w)) (leb (wide2 w 2) most_messages)
          ∙ ap (λ b. b && (Each From (end_of w) && Each To (end_of w) && Each Apart (end_of w) && Each Within (end_of w) && leb (wide2 w 2) most_messages))
          (under (Ascend (end_of w)) (Each (Low (wide2 w 2)) (end_of w)) (leb (number_before w (end_of w)) (wide2 w 2)) (numbers_most (end_of w) (wide2 w 2)))
          ∙ regrouped (Ascend (end_of w)) (leb (number_before w (end_of w)) (wide2 w 2)) (Each From (end_of w)) (Each To (end_of w)) (Each Apart (end_of w)) (Each Within (end_of w)) (leb (wide2 w 2) most_messages)
          ∙ rw (fits_apart (end_of w), carried_apart, eq-eqb counted (word w 1) e)

    at_front : (k : ℕ) → k < length (chosen (end_of w)) → get_or laid k no_message ≡ get_or (chosen (end_of w)) k no_message
    unfolding placed
    at_front k lt = get_or-append (chosen (end_of w)) (replicate (most_under_way - length (chosen (end_of w))) no_message) no_message k lt

    at_end_lem : length (chosen (end_of w)) < 64 → get_or laid (length (chosen (end_of w))) no_message ≡ no_message
    unfolding placed
    at_end_lem lt =
        let place : length (chosen (end_of w)) + 0 ≡ length (chosen (end_of w)) = omega arith in
        rw place at (get_or-append-add (chosen (end_of w)) (replicate (most_under_way - length (chosen (end_of w))) no_message) 0 no_message)
        ∙ get_or-replicate (most_under_way - length (chosen (end_of w))) 0 no_message no_message (omega arith)

    -- Another number: one of them counts as unused, or an unused place as a message.
    fewer : word w 1 < length (chosen (end_of w)) → every unused_message (drop s.underway s.messages) ≡ false
    fewer lt = by_bool (every unused_message (drop s.underway s.messages))
        (λ q. absurd (unused_number (get_or (chosen (end_of w)) (word w 1) no_message)
        (rw (at_front (word w 1) lt) at (every_beyond unused_message (word w 1) laid (word w 1) no_message (rw rest_is at q) (omega arith) (omega (arith, length_laid, count_used (end_of w), count_le (end_of w) (λ k. not (eqb (number_in w k) 0))))))
        (every_at is_message (chosen (end_of w)) (word w 1) no_message lt (chosen_used (end_of w)))))
        (λ q. q)

    more : length (chosen (end_of w)) < word w 1 → word w 1 ≤ 64 → ascending 1 (map number (under_way s)) ≡ false
    more lt most = by_bool (ascending 1 (map number (under_way s)))
        (λ q.
        let size : length (take (word w 1) laid) ≡ word w 1 = length-take-le (word w 1) laid (omega (arith, length_laid)) in
        let sizes : length (map number (take (word w 1) laid)) ≡ word w 1 = length-map (take (word w 1) laid) number ∙ size in
        let least = ascending_least 1 (map number (take (word w 1) laid)) (length (chosen (end_of w))) (rw under_way_lem at q) (omega arith) in
        let none : get_or (map number (take (word w 1) laid)) (length (chosen (end_of w))) 0 ≡ 0 =
        get_or-map number (take (word w 1) laid) (length (chosen (end_of w))) no_message
        ∙ ap number (get_or-take (word w 1) laid (length (chosen (end_of w))) no_message lt ∙ at_end_lem (omega arith)) in
        absurd (omega arith))
        (λ q. q)

    uncounted : (counted ≡ word w 1 → ⊥) → all_of asked_tests ≡ false
    unfolding holds
    uncounted ne = by_lt (word w 1) (length (chosen (end_of w)))
        (λ lt. sym (part_fails asked_tests (test 5) (fewer lt)))
        (λ ge. by_bool (leb s.underway most_under_way)
        (λ q. sym (part_fails asked_tests (test 1) (more (omega (arith, count_used (end_of w))) (leb-true (word w 1) 64 (rw underway_at at q)))))
        (λ q. sym (part_fails asked_tests (test 0) q)))

    pub messages_same : all_of asked_tests ≡ word_tests
    messages_same = by_eq counted (word w 1)
        counted_same
        (λ ne. both_false (all_of asked_tests) word_tests (uncounted ne)
        (and_no_right (all_below (end_of w) (message_fits w)) _ (and_no_right (all_below (end_of w) (carried_fits w)) (eqb counted (word w 1) && (leb (number_before w (end_of w)) (wide2 w 2) && leb (wide2 w 2) most_messages)) (rw (ne_eqb counted (word w 1) ne)))))
