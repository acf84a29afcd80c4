-- The first message to a process, and the most that a process keeps, in the words of a sound state.
-- Assumes nothing.
use Rattle.std.specs.Prelude.{◌≡◌, ◌&&◌, ◌∷◌, ◌++◌, ◌+◌, ◌<◌}
use Rattle.laws.specs.Basics.{refl, sym, ◌∙◌, ap, Bool, true, false, not, List, [], Option, None, Some, ℕ, zero, suc, max, arith, eqb, eq-eqb, ne_eqb, by_bool, by_eq}
use native.Mathlib.Numerals.{add-one}
use Rattle.laws.specs.{Lists.select, Lists.table, Select.select_append, Select.select_select}
use Rattle.model.specs.declared.Message.{Message}
use Rattle.model.specs.Sound.{sound}
use Rattle.words.specs.Layout.{word, count_of, end_of, kept_count_at_of, receiver_at_of, message_in, is_message, messages_in, run_of}
use Rattle.words.proofs.{View.process_is, View.kept_count_lem, ViewSound.sound_words}
use Rattle.theory_recording.specs.spacing.Spacing.{head_of, oldest_to, greatest_below, most_kept_of}
use Rattle.theory_recording.proofs.spacing.Agreement.{greatest_same}

and_false : (b : Bool) → (b && false) ≡ false
and_false b = by_bool b (λ e. rw e) (λ e. rw e)

not_none : {A P : Type 0} (x : A) → ◌≡◌ {A = Option A} None (Some x) → P
not_none x e = absurd (let z : ◌≡◌ {A = ℕ} 0 1 = cc in omega arith)

head_stays : {A : Type 0} (a b : List A) (x : A) → head_of a ≡ Some x → head_of (a ++ b) ≡ Some x
unfolding head_of
head_stays [] b x e = not_none x e
head_stays (y ∷ a) b x e = e

-- The first element of a table that passes a test.
module _ {A : Type 0} (t : A → Bool) (f : ℕ → A) where
  pub none_passes : (n : ℕ) → ((j : ℕ) → j < n → t (f j) ≡ false) → select t (table n f) ≡ []
  unfolding table select
  none_passes zero h = refl
  none_passes (suc n) h = select_append t (table n f) (f n ∷ []) ∙ rw (none_passes n (λ j lt. h j (omega arith)), h n (omega arith))

  pub first_passes : (n k : ℕ) → k < n → ((j : ℕ) → j < k → t (f j) ≡ false) → t (f k) ≡ true → head_of (select t (table n f)) ≡ Some (f k)
  unfolding table select head_of
  first_passes zero k lt h e = absurd (omega arith)
  first_passes (suc n) k lt h e = rw (select_append t (table n f) (f n ∷ []))
      (by_eq k n
      (λ here. rw (none_passes n (λ j less. h j (omega arith)), ← here, e) refl)
      (λ ne. head_stays (select t (table n f)) (select t (f n ∷ [])) (f k) (first_passes n k (omega arith) h e)))

-- Messages in the places in use whose receiver is p.
unfoldable pub is_to : ℕ → Message → Bool
is_to p x = is_message x && eqb x.receiver p

pub one_more : (w : List ℕ) (p k : ℕ) → ((j : ℕ) → j < k → is_to p (message_in w j) ≡ false) → is_to p (message_in w k) ≡ false → (j : ℕ) → j < k + 1 → is_to p (message_in w j) ≡ false
one_more w p k before here j lt = by_eq j k (λ e. rw e here) (λ ne. before j (omega arith))

-- As the code tests it: by the message's number, then by its receiver.
module _ (w : List ℕ) (p k : ℕ) where
  pub is_to_it : (number : ℕ) → number ≡ (message_in w k).number → (number ≡ 0 → ⊥) → word w (receiver_at_of k) ≡ p → is_to p (message_in w k) ≡ true
  unfolding is_to is_message message_in
  is_to_it number e some to = rw (← e, ne_eqb number 0 some, eq-eqb (word w (receiver_at_of k)) p to)

  pub is_no_message : (number : ℕ) → number ≡ (message_in w k).number → number ≡ 0 → is_to p (message_in w k) ≡ false
  unfolding is_to is_message message_in
  is_no_message number e none = rw (← e, eq-eqb number 0 none)

  pub is_to_other : (word w (receiver_at_of k) ≡ p → ⊥) → is_to p (message_in w k) ≡ false
  unfolding is_to message_in
  is_to_other other = rw (ne_eqb (word w (receiver_at_of k)) p other) (and_false (is_message (message_in w k)))

module _ (w : List ℕ) (h : sound (run_of w) ≡ true) (p : ℕ) where
  oldest_in : oldest_to (run_of w) p ≡ head_of (select (is_to p) (table (end_of w) (message_in w)))
  unfolding oldest_to messages_in is_to
  oldest_in = rw (sound_words w h).under_way_lem (ap head_of (select_select (λ x. eqb x.receiver p) is_message (table (end_of w) (message_in w))))

  pub oldest_none : ((j : ℕ) → j < end_of w → is_to p (message_in w j) ≡ false) → oldest_to (run_of w) p ≡ None
  unfolding head_of
  oldest_none none_to = oldest_in ∙ ap head_of (none_passes (is_to p) (message_in w) (end_of w) none_to)

  pub oldest_at : (k : ℕ) → k < end_of w → ((j : ℕ) → j < k → is_to p (message_in w j) ≡ false) → is_to p (message_in w k) ≡ true → oldest_to (run_of w) p ≡ Some (message_in w k)
  oldest_at k lt before here = oldest_in ∙ first_passes (is_to p) (message_in w) (end_of w) k lt before here

-- The most kept.
pub greatest_more : (f : ℕ → ℕ) (p most next : ℕ) → most ≡ greatest_below p f → next ≡ max most (f p) → next ≡ greatest_below (p + 1) f
unfolding greatest_below
greatest_more f p most next e n = n ∙ ap (λ (m : ℕ). max m (f p)) e ∙ ap (λ (q : ℕ). greatest_below q f) (sym (add-one p))

pub most_in : (w : List ℕ) → sound (run_of w) ≡ true → most_kept_of (count_of w) (run_of w) ≡ greatest_below (count_of w) (λ p. word w (kept_count_at_of p))
unfolding most_kept_of
most_in w h =
    let sw = sound_words w h in
    greatest_same (count_of w) _ _ (λ p lt. rw (process_is w sw.fit p lt sw.few) (kept_count_lem w p (omega (arith, (sw.parts p lt).kept_count_most, sw.few))))
