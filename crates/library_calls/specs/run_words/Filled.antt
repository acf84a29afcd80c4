-- The words of a state that fits, thing by thing: what is put where, in the order in which it is put.
-- Assumes nothing.
use Rattle.std.specs.Prelude.{◌≡◌, ◌&&◌, ◌∷◌, ◌++◌, ◌+◌, ◌/◌, ◌%◌, None, Some}
use Rattle.laws.specs.Basics.{Bool, true, false, List, [], ℕ, ltb, leb, get_or, pick}
use Rattle.laws.specs.Loops.{iter}
use Rattle.model.specs.Shapes.{Pin}
use Rattle.model.specs.declared.{Interval.Interval, Checkpoint.Checkpoint, Message.Message, Disk.Disk}
use Rattle.model.specs.declared.Run.{Run}
use Rattle.model.specs.{Sound.sound, Words.most_processes, Words.past_end, Words.most_under_way, Words.kept_places}
use Rattle.words.specs.Layout.{run_of, kept_count_at_of, mark_at, blocks_at_of, part_at, pins_at_of, index_at_of, cause_at_of, stored_at, low_at, high_at, sender_at_of, receiver_at_of, carried_at}
use Rattle.words.specs.Puts.{Put, puts, one, vector_put, puts2, puts4}
use Rattle.library_calls.specs.run_words.Fits.{past_messages, index_fits, message_fits}

-- The word of a pin: one above the index that it names, 0 if it names none.
unfoldable pub pin_word : Pin → ℕ
pin_word None = 0
pin_word (Some a) = pick (index_fits a) (a.0 + 1) 0

abbrev pub pins_put : ℕ → List Pin → Put
pins_put at pins = record { at = at; size = most_processes; fill = λ f. pin_word (get_or pins f None) }

unfoldable pub mark_word_of : Bool → ℕ
mark_word_of mark = pick mark 1 0

-- A kept checkpoint in place k of process p.
abbrev pub checkpoint_puts : ℕ → ℕ → Checkpoint → List Put
checkpoint_puts p k c = one (index_at_of p k) (c.index.0 + 1) ∷ one (cause_at_of p k) c.cause ∷ vector_put (stored_at p k) c.vector ∷ []

unfoldable pub place_filled : ℕ → ℕ → ℕ → Checkpoint → List ℕ → List ℕ
place_filled p k kept_count_of_def c w = pick (ltb k kept_count_of_def && index_fits c.index) (puts w (checkpoint_puts p k c)) w

-- The block count of process p, which is its first checkpoint's.
abbrev pub blocks_put : ℕ → List (List Checkpoint) → Put
blocks_put p kept = one (blocks_at_of p) (get_or (get_or kept p []) 0 past_end).blocks

unfoldable pub kept_filled : List (List Checkpoint) → List ℕ → ℕ → List ℕ → List ℕ
kept_filled kept kept_count_of_def q w = place_filled (q / most_processes) (q % most_processes) (get_or kept_count_of_def (q / most_processes) 0) (get_or (get_or kept (q / most_processes) []) (q % most_processes) past_end) (puts w (blocks_put (q / most_processes) kept ∷ []))

-- What else process p has.
abbrev pub process_puts : ℕ → List Interval → List Pin → ℕ → Bool → List Put
process_puts p vector pins kept_count_of_def mark = vector_put (part_at p) vector ∷ pins_put (pins_at_of p) pins ∷ one (kept_count_at_of p) kept_count_of_def ∷ one (mark_at p) (mark_word_of mark) ∷ []

unfoldable pub row_filled : ℕ → ℕ → List Interval → List Pin → ℕ → Bool → List ℕ → List ℕ
row_filled p n vector pins kept_count_of_def mark w = pick (ltb p n && leb kept_count_of_def most_processes) (puts w (process_puts p vector pins kept_count_of_def mark)) w

unfoldable pub rows_filled : ℕ → List (List Interval) → List (List Pin) → List ℕ → List Bool → ℕ → List ℕ → List ℕ
rows_filled n vectors pins kept_count_of_def sent p w = row_filled p n (get_or vectors p []) (get_or pins p []) (get_or kept_count_of_def p 0) (get_or sent p false) w

-- A message in place k.
abbrev pub message_puts : ℕ → Message → List Put
message_puts k x =
    one (low_at k) (x.number % 65_536) ∷ one (high_at k) (x.number / 65_536) ∷ one (sender_at_of k) x.sender ∷ one (receiver_at_of k) x.receiver
    ∷ vector_put (carried_at k) x.vector ∷ []

unfoldable pub one_filled : ℕ → ℕ → Message → List ℕ → List ℕ
one_filled k many x w = pick (ltb k many && message_fits x) (puts w (message_puts k x)) w

unfoldable pub messages_filled : ℕ → List Message → ℕ → List ℕ → List ℕ
messages_filled many messages k w = one_filled k many (get_or messages k past_messages) w

-- The numbers that a run has once. The messages stand at the front of their places: the end of those in use is how many they are.
abbrev pub number_puts : ℕ → ℕ → ℕ → Disk → List Put
number_puts n many last disk =
    one 0 n ∷ one 1 many ∷ puts2 2 last ++ puts4 4 disk.written ++ puts4 8 disk.deleted ++ one 12 many ∷ []

unfoldable pub filled : Run → List ℕ → List ℕ
filled s w = puts
    (iter most_under_way (messages_filled s.underway s.messages)
    (iter most_processes (rows_filled s.count s.vectors.0 s.pins.0 s.kept_count s.sent)
    (iter kept_places (kept_filled s.kept.0 s.kept_count) w)))
    (number_puts s.count s.underway s.last s.disk)

-- What is asked of the words that a call by value is made on: they stand for the state if it is sound, and for none that is sound if it is not.
abbrev pub FilledFrom : Run → List ℕ → Type 0
FilledFrom s w = (sound (run_of w) ≡ sound s) × (sound s ≡ true → run_of w ≡ s)
