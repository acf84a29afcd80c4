-- What the reader of the messages that a recovery would lose does, by the words.
-- Assumes nothing.
use Rattle.std.specs.Prelude.{◌≡◌, ◌&&◌, ◌∷◌, ◌^◌, ◌≤◌, ◌<◌}
use Rattle.laws.specs.Basics.{refl, sym, ◌∙◌, ap, true, false, List, [], Some, ℕ, arith, leb, length, lt-ltb, le-ltb}
use Rattle.laws.specs.{Lists.table, Select.select_length, Select.select_select, Tables.length_table}
use Rattle.model.specs.declared.{CheckpointIndex.CheckpointIndex, Message.Message, Run.Run}
use Rattle.model.specs.declared.Refusal.TheVariants.{UnsoundState, ListTooShort, NoSuchFailedProcess}
use Rattle.model.specs.{Sound.sound, Refusals.no_member_of}
use Rattle.words.specs.Layout.{count_of, end_of, message_in, is_message, messages_in, run_of}
use Rattle.words.proofs.{View.count_is_lem, ViewSound.SoundWords, ViewSound.sound_words}
use Rattle.words_line.specs.{Line.limits_in, Line.pasts_in, Line.indexes_in, Sifted.lost_to}
use Rattle.words_line.proofs.Lost.{line_indexes, lost_are}
use Rattle.library_readers.specs.{Readings.sent_numbers, Readings.lost_messages, Readings.lost_reading, Written.lost_below}
use Rattle.library_readers.proofs.Readings.{refused_by, read, refused_by_lem, read_by}

pub few_lost : (indexes : List CheckpointIndex) (w : List ℕ) (k : ℕ) → length (lost_below indexes w k) ≤ k
few_lost indexes w k = omega (arith, select_length (λ x. is_message x && lost_to indexes x) (table k (message_in w)), length_table k (message_in w))

-- The indexes of the members of n processes are those of the line.
pub indexes_are : (w : List ℕ) (n F : ℕ) (indexes : List CheckpointIndex) → n ≡ count_of w → indexes ≡ indexes_in w n (pasts_in w n (limits_in w n F)) → indexes ≡ line_indexes w F
indexes_are w n F indexes same e = e ∙ rw same

module _ (w : List ℕ) (h : sound (run_of w) ≡ true) (F : ℕ) (lent : List ℕ) where
  abbrev s : Run
  s = run_of w

  known : SoundWords w
  known = sound_words w h

  n_is : s.count ≡ count_of w
  n_is = count_is_lem w known.fit

  pub lost_short : length lent < 192 → lost_reading s F lent ≡ refused_by ListTooShort lent
  unfolding lost_reading
  lost_short lt = refused_by_lem _ _ _ lent ListTooShort (1, (rw h, tt), lt-ltb (length lent) 192 lt, refl)

  module _ (room : 192 ≤ length lent) where
    pub lost_outside : leb (2 ^ count_of w) F ≡ true → lost_reading s F lent ≡ refused_by NoSuchFailedProcess lent
    unfolding lost_reading
    lost_outside o = refused_by_lem _ _ _ lent NoSuchFailedProcess (2, (rw h, (le-ltb (length lent) 192 room, tt)), rw n_is o, refl)

    module _ (inside : leb (2 ^ count_of w) F ≡ false) where
      pub lost_missing : no_member_of s F ≡ true → lost_reading s F lent ≡ refused_by UnsoundState lent
      unfolding lost_reading
      lost_missing e = refused_by_lem _ _ _ lent UnsoundState (3, (rw h, (le-ltb (length lent) 192 room, (rw n_is inside, tt))), e, refl)

      module _ (there : no_member_of s F ≡ false) (indexes : List CheckpointIndex) (e : indexes ≡ line_indexes w F) where
        lost_in_places : lost_messages s F ≡ lost_below indexes w (end_of w)
        unfolding messages_in
        lost_in_places = rw e (sym (lost_are w h F there) ∙ select_select (lost_to (line_indexes w F)) is_message (table (end_of w) (message_in w)))

        pub lost_read : lost_reading s F lent ≡ read (Some (length (lost_below indexes w (end_of w)))) (sent_numbers (lost_below indexes w (end_of w))) lent
        unfolding lost_reading
        lost_read = read_by _ _ _ lent (rw h, (le-ltb (length lent) 192 room, (rw n_is inside, (there, tt))))
            ∙ ap (λ (l : List Message). read (Some (length l)) (sent_numbers l) lent) lost_in_places
