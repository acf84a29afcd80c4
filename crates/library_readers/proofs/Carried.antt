-- What the reader of a carried vector does, by the place of the message in the words.
-- Assumes nothing.
use Rattle.std.specs.Prelude.{◌≡◌, ◌∷◌, ◌+◌, ◌≤◌, ◌<◌}
use Rattle.laws.specs.Basics.{refl, ◌∙◌, ap, true, List, [], Option, None, Some, ℕ, suc, arith, length, lt-ltb, le-ltb}
use Rattle.laws.specs.{Lists.table, Lists.or_else, Tables.table_same}
use Rattle.model.specs.declared.{Interval.Interval, Message.Message, Refusal.TheVariants.ListTooShort, Refusal.TheVariants.NotUnderWay, Run.Run}
use Rattle.model.specs.{Words.entry, Words.no_message, Steps.found, Sound.sound}
use Rattle.words.specs.{Layout.count_of, Layout.carried_at, Layout.vector_in, Layout.message_in, Layout.run_of, messages.Places.place_of}
use Rattle.words.proofs.{Same.vector_word, View.count_is_lem, ViewSound.SoundWords, ViewSound.sound_words, messages.Selected.message_at}
use Rattle.in_place.proofs.Losing.{found_is}
use Rattle.library_readers.specs.{Readings.carried_of, Readings.carried_reading, Written.words_from}
use Rattle.library_readers.proofs.Readings.{refused_by, read, refused_by_lem, read_by}

module _ (w : List ℕ) (h : sound (run_of w) ≡ true) (m : ℕ) (lent : List ℕ) where
  abbrev s : Run
  s = run_of w

  known : SoundWords w
  known = sound_words w h

  n_is : s.count ≡ count_of w
  n_is = count_is_lem w known.fit

  pub carried_short : length lent < count_of w → carried_reading s m lent ≡ refused_by ListTooShort lent
  unfolding carried_reading
  carried_short lt = refused_by_lem _ _ _ lent ListTooShort (1, (rw h, tt), lt-ltb (length lent) s.count (omega (arith, n_is)), refl)

  module _ (room : count_of w ≤ length lent) where
    pub carried_missing : place_of w m ≡ 0 → carried_reading s m lent ≡ refused_by NotUnderWay lent
    unfolding carried_reading message_at
    carried_missing e =
        let gone : found s m ≡ None = found_is w h m ∙ ap (message_at w) e in
        refused_by_lem _ _ _ lent NotUnderWay (2, (rw h, (le-ltb (length lent) s.count (omega (arith, n_is)), tt)), rw gone, refl)

    module _ (k : ℕ) (e : place_of w m ≡ suc k) where
      there : found s m ≡ Some (message_in w k)
      unfolding message_at
      there = found_is w h m ∙ ap (message_at w) e

      numbers : carried_of s m ≡ words_from w (carried_at k) (count_of w)
      unfolding message_in
      numbers = ap (λ (o : Option Message). table s.count (λ f. (entry (or_else o no_message).vector f).0)) there
          ∙ ap (λ (q : ℕ). table q (λ f. (entry (vector_in w (carried_at k)) f).0)) n_is
          ∙ table_same (count_of w) _ _ (λ f less. ap (λ (x : Interval). x.0) (vector_word w (carried_at k) f (omega (arith, known.few))))

      pub carried_read : carried_reading s m lent ≡ read None (words_from w (carried_at k) (count_of w)) lent
      unfolding carried_reading
      carried_read = read_by _ _ _ lent (rw h, (le-ltb (length lent) s.count (omega (arith, n_is)), (rw there, tt)))
          ∙ ap (λ (l : List ℕ). read None l lent) numbers
