-- What the readers write, by the words that they read.
-- Assumes nothing.
use Rattle.std.specs.Prelude.{◌&&◌, ◌∷◌, ◌+◌}
use Rattle.laws.specs.Basics.{List, [], None, ℕ}
use Rattle.laws.specs.Lists.{select, table}
use Rattle.model.specs.declared.{Checkpoint.Checkpoint, CheckpointIndex.CheckpointIndex, Message.Message}
use Rattle.words.specs.Layout.{word, wide2, wide4, count_of, part_at, message_in, is_message, run_of}
use Rattle.words_line.specs.Sifted.{lost_to}
use Rattle.library_readers.specs.Readings.{Reading, reading, of_process}

-- The numbers of the run.
abbrev pub numbers_in : List ℕ → List ℕ
numbers_in w = count_of w ∷ wide2 w 2 ∷ word w 1 ∷ wide4 w 4 ∷ wide4 w 8 ∷ []

-- The n words from a place on.
abbrev pub words_from : List ℕ → ℕ → ℕ → List ℕ
words_from w at n = table n (λ f. word w (at + f))

-- They go to a lent list, where the place is one of process p's part.
unfoldable pub row_reading : List ℕ → ℕ → ℕ → List ℕ → Reading
row_reading w p from lent = reading (of_process (run_of w) p (run_of w).count lent) None (words_from w (part_at p + from) (count_of w)) lent

-- The three numbers of a checkpoint and of a message.
abbrev pub three_stored : Checkpoint → List ℕ
three_stored c = c.index.0 ∷ c.cause ∷ c.blocks ∷ []

abbrev pub three_of : Message → List ℕ
three_of x = x.number ∷ x.sender ∷ x.receiver ∷ []

-- The messages in the first places.
abbrev pub messages_below : List ℕ → ℕ → List Message
messages_below w end = select is_message (table end (message_in w))

-- Those of them that are lost where the line has these indexes.
abbrev pub lost_below : List CheckpointIndex → List ℕ → ℕ → List Message
lost_below indexes w end = select (λ x. is_message x && lost_to indexes x) (table end (message_in w))
