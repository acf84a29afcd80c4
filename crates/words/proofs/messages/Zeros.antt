-- Places that are not in use are zero again after a message was taken out, put, or the used places were closed up.
-- Assumes nothing.
use Rattle.std.specs.Prelude.{◌≡◌, ◌&&◌, ◌||◌, ◌∷◌, ◌++◌, ◌+◌, ◌-◌, ◌*◌, ◌≤◌, ◌<◌}
use Rattle.laws.specs.Basics.{refl, ◌∙◌, ap, true, false, List, [], ℕ, zero, suc, arith, ltb, length, lt-ltb, le-ltb, ltb-false, by_bool, by_eq}
use Rattle.laws.specs.{Rows.by_lt, Truth.never_both}
use Rattle.model.specs.declared.Message.{Message}
use Rattle.words.specs.Layout.{state_size, word, end_of, low_at, high_at, sender_at_of, receiver_at_of, carried_at, message_in, is_message}
use Rattle.words.specs.{Parts.is_used_in, Clean.CleanMessages, Puts.Put, Puts.puts, Puts.one}
use Rattle.words.proofs.{Reading.untouched, Reading.touched, messages.Taken.taken_end}
use Rattle.words.specs.messages.Places.{message_puts, clear_puts, cleared, end_below, taken_out, closing, cleared_from, closed_up, put_last_of}
use Rattle.words.proofs.messages.Placed.{ClearOf, message_stays, cleared_elsewhere}
use Rattle.words.proofs.messages.Closed.{closing_closed, cleared_from_lem, closed_end, closed_used}
use Rattle.words.proofs.messages.Added.{added_end, added_last, added_elsewhere}

-- All words of place j are zero.
pub record Zero (w : List ℕ) (j : ℕ) : Type 0 where
  pub low : word w (low_at j) ≡ 0
  pub high : word w (high_at j) ≡ 0
  pub sender : word w (sender_at_of j) ≡ 0
  pub receiver : word w (receiver_at_of j) ≡ 0
  pub vector : (f : ℕ) → f < 16 → word w (carried_at j + f) ≡ 0

pub zero_at : (w : List ℕ) → CleanMessages w → (j : ℕ) → j < 64 → is_used_in w j ≡ false → Zero w j
zero_at w c j lt e = record { low = c.low j lt e; high = c.high j lt e; sender = c.sender j lt e; receiver = c.receiver j lt e; vector = λ f less. c.vector j f lt less e }

pub zeros_in : (w : List ℕ) → ((j : ℕ) → j < 64 → is_used_in w j ≡ false → Zero w j) → CleanMessages w
zeros_in w h = record {
  low = λ k lt no. (h k lt no).low;
  high = λ k lt no. (h k lt no).high;
  sender = λ k lt no. (h k lt no).sender;
  receiver = λ k lt no. (h k lt no).receiver;
  vector = λ k f lt less no. (h k lt no).vector f less;
}

-- Puts that touch no word of place j leave it zero; a cleared place is.
pub zero_stays : (w : List ℕ) (l : List Put) (j : ℕ) → ClearOf l j → Zero w j → Zero (puts w l) j
zero_stays w l j c z = record {
  low = untouched w l (low_at j) c.0 ∙ z.low;
  high = untouched w l (high_at j) c.1 ∙ z.high;
  sender = untouched w l (sender_at_of j) c.2 ∙ z.sender;
  receiver = untouched w l (receiver_at_of j) c.3 ∙ z.receiver;
  vector = λ f lt. untouched w l (carried_at j + f) (c.4 f lt) ∙ z.vector f lt;
}

pub zero_cleared : (w : List ℕ) (k : ℕ) → length w ≡ state_size → k < 64 → Zero (cleared w k) k
unfolding cleared
zero_cleared w k long lt = record {
  low = touched w (clear_puts k) 0 0 (low_at k) (omega arith, omega arith, omega (arith, long), omega arith);
  high = touched w (clear_puts k) 1 0 (high_at k) (omega arith, omega arith, omega (arith, long), omega arith);
  sender = touched w (clear_puts k) 2 0 (sender_at_of k) (omega arith, omega arith, omega (arith, long), omega arith);
  receiver = touched w (clear_puts k) 3 0 (receiver_at_of k) (omega arith, omega arith, omega (arith, long), omega arith);
  vector = λ f less. touched w (clear_puts k) 4 f (carried_at k + f) (refl, less, omega (arith, long), tt);
}

pub zero_elsewhere : (w : List ℕ) (k j : ℕ) → k < 64 → j < 64 → (j ≡ k → ⊥) → Zero w j → Zero (cleared w k) j
unfolding cleared
zero_elsewhere w k j lt less ne z = zero_stays w (clear_puts k) j (omega arith, omega arith, omega arith, omega arith, λ f l. omega arith) z

-- A place that is not in use has no message, or is past the end.
pub unused_out : (w : List ℕ) (j : ℕ) → is_used_in w j ≡ false → is_message (message_in w j) ≡ true → end_of w ≤ j
unfolding is_used_in
unused_out w j u is = by_bool (ltb j (end_of w)) (λ e. absurd (never_both (ltb j (end_of w) && is_message (message_in w j)) (rw (e, is)) u)) (λ e. ltb-false j (end_of w) e)

pub unused_past : (w : List ℕ) (j : ℕ) → end_of w ≤ j → is_used_in w j ≡ false
unfolding is_used_in
unused_past w j le = rw (le-ltb j (end_of w) le)

pub unused_none : (w : List ℕ) (j : ℕ) → is_message (message_in w j) ≡ false → is_used_in w j ≡ false
unfolding is_used_in
unused_none w j u = by_bool (ltb j (end_of w)) (λ e. rw (e, u)) (λ e. rw e)

-- No message stands between the end that was walked back to and where the walk began.
pub none_after : (w : List ℕ) (n j : ℕ) → end_below w n ≤ j → j < n → is_message (message_in w j) ≡ false
unfolding end_below
none_after w zero j le lt = absurd (omega arith)
none_after w (suc n) j le lt = by_bool (is_message (message_in w n))
    (λ e. absurd (let z : suc n ≤ j = rw e at le in omega arith))
    (λ e. by_eq j n (λ q. rw q e) (λ ne. none_after w n j (rw e at le) (omega arith)))

-- Taken out.
module _ (w : List ℕ) (long : length w ≡ state_size) (few : end_of w ≤ 64) (k : ℕ) (lt : k < end_of w) where
  abbrev c : List ℕ
  c = cleared w k

  abbrev ends : List Put
  ends = one 1 (word w 1 - 1) ∷ one 12 (end_below c (end_of w)) ∷ []

  elsewhere : (j : ℕ) → j < 64 → (j ≡ k → ⊥) → message_in (taken_out w k) j ≡ message_in w j
  unfolding taken_out
  elsewhere j less ne = message_stays c ends j (omega arith, omega arith, omega arith, omega arith, λ f l. omega arith) ∙ cleared_elsewhere w long k (omega arith) j less ne

  was_unused : (j : ℕ) → j < 64 → (j ≡ k → ⊥) → is_used_in (taken_out w k) j ≡ false → is_used_in w j ≡ false
  was_unused j less ne u = by_bool (is_message (message_in w j))
      (λ is. by_lt j (end_of w)
      (λ low. absurd (never_both (is_message (message_in c j)) (ap is_message (cleared_elsewhere w long k (omega arith) j less ne) ∙ is)
      (none_after c (end_of w) j (let z = unused_out (taken_out w k) j u (ap is_message (elsewhere j less ne) ∙ is) in omega (arith, taken_end w long few k lt)) low)))
      (λ high. unused_past w j high))
      (λ is. unused_none w j is)

  pub clean_taken : CleanMessages w → CleanMessages (taken_out w k)
  unfolding taken_out
  clean_taken h = zeros_in (taken_out w k) (λ j less u. zero_stays c ends j (omega arith, omega arith, omega arith, omega arith, λ f l. omega arith) (by_eq j k
      (λ e. rw e (zero_cleared w k long (omega arith)))
      (λ ne. zero_elsewhere w k j (omega arith) less ne (zero_at w h j less (was_unused j less ne u)))))

-- Put after the others.
module _ (w : List ℕ) (long : length w ≡ state_size) (room : end_of w < 64) (x : Message) (whole : length x.vector ≡ 16) (is : is_message x ≡ true) where
  used : (j : ℕ) → j ≡ end_of w → is_used_in (put_last_of w x) j ≡ true
  unfolding is_used_in
  used j e = rw (e, added_end w long room x whole is, lt-ltb (end_of w) (end_of w + 1) (omega arith), added_last w long room x whole is, is)

  was_free : (j : ℕ) → j < 64 → (j ≡ end_of w → ⊥) → is_used_in (put_last_of w x) j ≡ false → is_used_in w j ≡ false
  was_free j less ne u = by_bool (is_message (message_in w j))
      (λ m. let z = unused_out (put_last_of w x) j u (ap is_message (added_elsewhere w long room x whole is j less ne) ∙ m) in unused_past w j (omega (arith, added_end w long room x whole is)))
      (λ m. unused_none w j m)

  pub clean_added : CleanMessages w → CleanMessages (put_last_of w x)
  unfolding put_last_of
  clean_added h = zeros_in (put_last_of w x) (λ j less u. by_eq j (end_of w)
      (λ e. absurd (never_both (is_used_in (put_last_of w x) j) (used j e) u))
      (λ ne. zero_stays w (message_puts (end_of w) x ++ one 1 (word w 1 + 1) ∷ one 12 (end_of w + 1) ∷ []) j (omega arith, omega arith, omega arith, omega arith, λ f l. omega arith) (zero_at w h j less (was_free j less ne u))))

-- Closed up.
zero_from : (w : List ℕ) (from n j : ℕ) → length w ≡ state_size → from + n ≤ 64 → from ≤ j → j < from + n → Zero (cleared_from w from n) j
unfolding cleared_from
zero_from w from zero j long le low high = absurd (omega arith)
zero_from w from (suc n) j long le low high =
    let u = cleared_from w from n in
    let long_u : length u ≡ state_size = (cleared_from_lem w from n long (omega arith)).long ∙ long in
    by_eq j (from + n)
    (λ e. rw e (zero_cleared u (from + n) long_u (omega arith)))
    (λ ne. zero_elsewhere u (from + n) j (omega arith) (omega arith) ne (zero_from w from n j long (omega arith) low (omega arith)))

module _ (w : List ℕ) (long : length w ≡ state_size) (full : end_of w ≡ 64) where
  past : (j : ℕ) → j < 64 → is_used_in (closed_up w) j ≡ false → (closing w 64).many ≤ j
  past j less e = by_lt j (closing w 64).many
      (λ low. let z = unused_out (closed_up w) j e (closed_used w long full j low) in omega (arith, closed_end w long full))
      (λ high. high)

  pub clean_closed : CleanMessages (closed_up w)
  unfolding closed_up
  clean_closed =
      let c = closing w 64 in
      let h = closing_closed w long 64 (omega arith) in
      let u = cleared_from c.words c.many (64 - c.many) in
      zeros_in (closed_up w) (λ j less e. zero_stays u (one 12 c.many ∷ []) j (omega arith, omega arith, omega arith, omega arith, λ f l. omega arith)
      (zero_from c.words c.many (64 - c.many) j (h.long ∙ long) (omega (arith, h.many)) (past j less e) (omega (arith, h.many))))
