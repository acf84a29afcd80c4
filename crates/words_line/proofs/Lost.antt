-- Where the words stand for a sound state and the indexes are those of the line for a failed set, the messages that are lost are those of Steps.
-- Assumes nothing.
use Rattle.std.specs.Prelude.{◌≡◌, ◌<◌}
use Rattle.laws.specs.Basics.{sym, ◌∙◌, ap, true, false, not, List, ℕ, arith, ltb}
use Rattle.laws.specs.{Lists.select, Prefixes.select_same_on}
use Rattle.model.specs.{declared.CheckpointIndex.CheckpointIndex, declared.Message.Message, declared.Run.Run, laws.Sound.sound_state, laws.Sound.sound_message}
use Rattle.model.specs.{Words.entry, Words.under_way, Sound.message_sound, Sound.sound, Steps.lost_by, Steps.still_under_way, Refusals.no_member_of}
use Rattle.words.specs.Layout.{count_of, end_of, message_in, messages_in, run_of}
use Rattle.words.proofs.{View.count_is_lem, ViewSound.SoundWords, ViewSound.sound_words}
use Rattle.words_line.specs.{Line.limits_in, Line.pasts_in, Line.indexes_in, Sifted.lost_to, Sifted.SendersPresent}
use Rattle.words_line.proofs.LineRule.{indexes_at}

-- The indexes of the members of the line for the failed set F.
abbrev pub line_indexes : List ℕ → ℕ → List CheckpointIndex
line_indexes w F = indexes_in w (count_of w) (pasts_in w (count_of w) (limits_in w (count_of w) F))

module _ (w : List ℕ) (h : sound (run_of w) ≡ true) where
  abbrev s : Run
  s = run_of w

  known : SoundWords w
  known = sound_words w h

  pub senders_present : SendersPresent (end_of w) w
  unfolding message_in
  senders_present k lt is = let m = known.message k lt is in omega (arith, m.from, known.few)

  module _ (F : ℕ) (there : no_member_of s F ≡ false) where
    pub lost_is : (x : Message) → message_sound s x ≡ true → lost_to (line_indexes w F) x ≡ lost_by s F x
    unfolding lost_to lost_by
    lost_is x fine =
        let from : x.sender < count_of w = omega (arith, (sound_message s x fine).from, count_is_lem w known.fit) in
        ap (λ (a : CheckpointIndex). ltb a.0 (entry x.vector x.sender).0) (indexes_at w h F there x.sender from)

    -- those that are lost, and those that remain
    pub lost_are : select (lost_to (line_indexes w F)) (messages_in w) ≡ select (lost_by s F) (under_way s)
    lost_are =
        ap (select (lost_to (line_indexes w F))) (sym known.under_way_lem)
        ∙ select_same_on (message_sound s) _ _ (under_way s) (sound_state s h).messages_sound_lem lost_is

    pub still_are : select (λ x. not (lost_to (line_indexes w F) x)) (messages_in w) ≡ still_under_way s F
    unfolding still_under_way
    still_are =
        ap (select (λ x. not (lost_to (line_indexes w F) x))) (sym known.under_way_lem)
        ∙ select_same_on (message_sound s) _ _ (under_way s) (sound_state s h).messages_sound_lem (λ x fine. ap not (lost_is x fine))
