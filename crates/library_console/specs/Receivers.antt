-- The message with a number that the run of any words has under way: those in the used places, in order, as many as are said to be under way. Where more are said to be
-- than there are, the run's table holds zeros there, which have the number 0.
-- Assumes nothing.
use Rattle.std.specs.Prelude.{◌≡◌, ◌&&◌}
use Rattle.laws.specs.Basics.{Bool, true, false, List, Option, None, Some, ℕ, zero, suc, eqb, ltb, length, pick}
use Rattle.laws.specs.Lists.{select, table}
use Rattle.model.specs.declared.Message.{Message}
use Rattle.model.specs.Words.{no_message, most_under_way}
use Rattle.words.specs.Layout.{word, end_of, message_in, is_message}
use Rattle.library_console.specs.declared.{receivers.Receiver.Receiver, receivers.Searched.Searched}

-- How many of the first k places are used.
unfoldable pub used_below : List ℕ → ℕ → ℕ
used_below w k = length (select is_message (table k (message_in w)))

-- Place k has the message, and it is one of those that are said to be under way.
unfoldable pub has_at : List ℕ → ℕ → ℕ → Bool
has_at w m k = (is_message (message_in w k) && ltb (used_below w k) (word w 1)) && eqb (message_in w k).number m

unfoldable pub found_below : List ℕ → ℕ → ℕ → Option Message
found_below w m zero = None
found_below w m (suc k) = pick (has_at w m k) (Some (message_in w k)) (found_below w m k)

-- Zeros are said to be under way.
unfoldable pub zeros_under_way : List ℕ → Bool
zeros_under_way w = ltb (used_below w (end_of w)) (word w 1) && ltb (used_below w (end_of w)) most_under_way

unfoldable pub found_in_of : List ℕ → ℕ → Option Message
found_in_of w m = pick (eqb m 0 && zeros_under_way w) (Some no_message) (found_below w m (end_of w))

-- The receiver of a message that was looked up; process 0 where there is none.
unfoldable pub receiver_is : Option Message → Receiver
receiver_is None = record { found = false; process = 0 }
receiver_is (Some x) = record { found = true; process = x.receiver }

-- The first k places were searched.
pub record SearchedTo (w : List ℕ) (m k : ℕ) (r : Searched) : Type 0 where
  pub used : r.used ≡ used_below w k
  pub receiver : record { found = r.found; process = r.process } ≡ receiver_is (found_below w m k)
