-- An accepted send on the words: there is a place for the message, it is put there, its number is the last one used, and the sender's mark is set.
-- Assumes nothing.
use Rattle.std.specs.Prelude.{◌∷◌, ◌++◌, ◌+◌}
use Rattle.laws.specs.Basics.{List, [], ℕ}
use Rattle.model.specs.declared.Message.{Message}
use Rattle.words.specs.{Layout.wide2, Layout.mark_at, Layout.part_at, Layout.vector_in, Puts.puts, Puts.one, Puts.puts2}
use Rattle.words.specs.messages.Places.{with_room, put_last_of}

unfoldable pub sent_in : List ℕ → ℕ → ℕ → Message
sent_in w i j = record { number = wide2 w 2 + 1; sender = i; receiver = j; vector = vector_in w (part_at i) }

unfoldable pub sent_words : List ℕ → ℕ → ℕ → List ℕ
sent_words w i j =
    let v = with_room w in
    puts (put_last_of v (sent_in v i j)) (puts2 2 (wide2 v 2 + 1) ++ one (mark_at i) 1 ∷ [])
