-- The messages under way in their places of the words: where one is, one taken out, one put after the others, the used places closed up.
-- Assumes nothing.
use Rattle.std.specs.Prelude.{◌∷◌, ◌++◌, ◌+◌, ◌-◌, ◌/◌, ◌%◌, Option, None, Some}
use Rattle.laws.specs.Basics.{List, [], ℕ, zero, suc, eqb, pick}
use Rattle.std.specs.Int.Bits.{bit_or}
use Rattle.model.specs.{declared.Message.Message, Words.most_under_way}
use Rattle.words.specs.Layout.{word, end_of, low_at, high_at, sender_at_of, receiver_at_of, carried_at, message_in, is_message}
use Rattle.words.specs.Puts.{Put, puts, one, vector_put, zero_put}

-- The place of message m among the first ones, and one more; 0 where it is in none of them.
unfoldable pub place_below : List ℕ → ℕ → ℕ → ℕ
place_below w m zero = 0
place_below w m (suc k) = pick (eqb (message_in w k).number m) (suc k) (place_below w m k)

-- Of all places in use. No message has number 0, which unused places have.
unfoldable pub place_of : List ℕ → ℕ → ℕ
place_of w m = pick (eqb m 0) 0 (place_below w m (end_of w))

-- One past each of the first places whose number has this low word, all or-ed together: no less than one past the last of them.
unfoldable pub lows_below : List ℕ → ℕ → ℕ → ℕ
lows_below w x zero = 0
lows_below w x (suc k) = bit_or (lows_below w x k) (pick (eqb (word w (low_at k)) x) (suc k) 0)

-- The place of a message that was looked up.
unfoldable pub found_at : ℕ → Option ℕ
found_at zero = None
found_at (suc k) = Some k

-- One past the last used place among the first ones.
unfoldable pub end_below : List ℕ → ℕ → ℕ
end_below w zero = 0
end_below w (suc k) = pick (is_message (message_in w k)) (suc k) (end_below w k)

-- A message put into place k.
abbrev pub message_puts : ℕ → Message → List Put
message_puts k x =
    one (low_at k) (x.number % 65_536)
    ∷ one (high_at k) (x.number / 65_536)
    ∷ one (sender_at_of k) x.sender
    ∷ one (receiver_at_of k) x.receiver
    ∷ vector_put (carried_at k) x.vector
    ∷ []

-- Place k made unused.
abbrev pub clear_puts : ℕ → List Put
clear_puts k = one (low_at k) 0 ∷ one (high_at k) 0 ∷ one (sender_at_of k) 0 ∷ one (receiver_at_of k) 0 ∷ zero_put (carried_at k) ∷ []

unfoldable pub cleared : List ℕ → ℕ → List ℕ
cleared w k = puts w (clear_puts k)

-- The message in place k is no longer under way: its place is unused, one message fewer is under way, and the end of the places in use is again one past the
-- last used place.
unfoldable pub taken_out : List ℕ → ℕ → List ℕ
taken_out w k = puts (cleared w k) (one 1 (word w 1 - 1) ∷ one 12 (end_below (cleared w k) (end_of w)) ∷ [])

-- What stands in one place goes to another one.
unfoldable pub moved_to : List ℕ → ℕ → ℕ → List ℕ
moved_to w from to = puts w (message_puts to (message_in w from))

-- The used ones among the first places moved to the front, one after the other, and how many they are.
pub record Closing : Type 0 where
  pub words : List ℕ
  pub many : ℕ

-- What stands in the next place is moved in any case. Where it was no message, the next one takes its place.
unfoldable pub close_step : ℕ → Closing → Closing
close_step k c = record { words = moved_to c.words k c.many; many = pick (is_message (message_in c.words k)) (suc c.many) c.many }

unfoldable pub closing : List ℕ → ℕ → Closing
closing w zero = record { words = w; many = 0 }
closing w (suc k) = close_step k (closing w k)

-- That many places, from one on, made unused.
unfoldable pub cleared_from : List ℕ → ℕ → ℕ → List ℕ
cleared_from w from zero = w
cleared_from w from (suc k) = cleared (cleared_from w from k) (from + k)

-- The used places of all 64 closed up.
unfoldable pub closed_up : List ℕ → List ℕ
closed_up w =
    let c = closing w most_under_way in
    puts (cleared_from c.words c.many (most_under_way - c.many)) (one 12 c.many ∷ [])

-- Words with a place left after those in use.
unfoldable pub with_room : List ℕ → List ℕ
with_room w = pick (eqb (end_of w) most_under_way) (closed_up w) w

-- A message put after those under way.
unfoldable pub put_last_of : List ℕ → Message → List ℕ
put_last_of w x = puts w (message_puts (end_of w) x ++ one 1 (word w 1 + 1) ∷ one 12 (end_of w + 1) ∷ [])
