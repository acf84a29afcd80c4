-- The messages that are lost where the line has given indexes, and words without them. proofs/Lost has that they are those that Steps says are lost.
-- Assumes nothing.
use Rattle.std.specs.Prelude.{◌≡◌, ◌&&◌, ◌<◌}
use Rattle.laws.specs.Basics.{Bool, true, not, List, ℕ, zero, suc, ltb, length, get_or, pick}
use Rattle.laws.specs.Lists.{select}
use Rattle.model.specs.{declared.CheckpointIndex.CheckpointIndex, declared.Message.Message, Words.entry, Words.most_processes}
use Rattle.words.specs.{Layout.word, Layout.wide2, Layout.sender_at_of, Layout.message_in, Layout.is_message, Layout.messages_in, Layout.end_fits_of, Frames.OnlyMessages}
use Rattle.words.specs.{Clean.CleanMessages, messages.Places.cleared}

-- Note 2: "a recovery loses a message exactly if its sender's entry in the carried vector is above the sender's index in the line"
unfoldable pub lost_to : List CheckpointIndex → Message → Bool
lost_to indexes x = ltb (get_or indexes x.sender (record { 0 = 0 })).0 (entry x.vector x.sender).0

-- "the others remain under way with their numbers"
unfoldable pub remains : List CheckpointIndex → Message → Bool
remains indexes x = is_message x && not (lost_to indexes x)

-- Place k, and the first places, without the lost ones.
unfoldable pub sifted_place : List CheckpointIndex → List ℕ → ℕ → List ℕ
sifted_place indexes w k = pick (is_message (message_in w k) && lost_to indexes (message_in w k)) (cleared w k) w

unfoldable pub sifted_below : List CheckpointIndex → List ℕ → ℕ → List ℕ
sifted_below indexes w zero = w
sifted_below indexes w (suc k) = sifted_place indexes (sifted_below indexes w k) k

-- What the functions rely on: the messages in the first places have senders that a row has room for.
abbrev pub SendersPresent : ℕ → List ℕ → Type 0
SendersPresent n w = (k : ℕ) → k < n → is_message (message_in w k) ≡ true → word w (sender_at_of k) < most_processes

-- v is what is left of w where the lost messages are no longer under way.
pub record Sifted (indexes : List CheckpointIndex) (w v : List ℕ) : Type 0 where
  pub only : OnlyMessages w v
  pub left : messages_in v ≡ select (λ x. not (lost_to indexes x)) (messages_in w)
  pub counted : word v 1 ≡ length (messages_in v)
  pub fits : end_fits_of v ≡ true
  pub last : wide2 v 2 ≡ wide2 w 2
  pub clean : CleanMessages w → CleanMessages v
