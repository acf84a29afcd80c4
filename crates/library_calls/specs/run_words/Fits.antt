-- "A state fits its words if, read back, it is the same `Run`; one that does not is not sound (numbers that are too wide, unequal block counts, anything in unused places)".
-- Assumes nothing.
use Rattle.std.specs.Prelude.{◌&&◌, ◌/◌, ◌%◌, None, Some}
use Rattle.laws.specs.Basics.{Bool, true, false, not, List, [], ℕ, eqb, ltb, leb, get_or, pick}
use Rattle.laws.specs.Search.{all_below}
use Rattle.model.specs.Shapes.{Pin}
use Rattle.model.specs.declared.{Interval.Interval, CheckpointIndex.CheckpointIndex, Message.Message}
use Rattle.model.specs.{declared.Checkpoint.Checkpoint, declared.Run.Run, Sound.zero_from, Sound.nothing_from, Sound.unused_checkpoint, Sound.unused_message}
use Rattle.model.specs.Words.{most_processes, most_under_way, past_end, most_interval, kept_places}

-- What a read past the end of the messages gives, in the declared types.
abbrev pub past_messages : Message
past_messages = record { number = 0; sender = 0; receiver = 0; vector = [] }

-- "numbers that are too wide": the word of a checkpoint's index is one above it, and a word is at most 65,535,
unfoldable pub index_fits : CheckpointIndex → Bool
index_fits a = not (eqb a.0 most_interval)

unfoldable pub pin_fits : Pin → Bool
pin_fits None = true
pin_fits (Some a) = index_fits a

-- and a sender and a receiver are one word each. A message in use has a number that is not 0.
unfoldable pub message_fits : Message → Bool
message_fits x = not (eqb x.number 0) && ltb x.sender 65_536 && ltb x.receiver 65_536

-- "unequal block counts": the words have one for each process.
unfoldable pub checkpoint_fits : ℕ → Checkpoint → Bool
checkpoint_fits blocks c = index_fits c.index && eqb c.blocks blocks

-- "anything in unused places": those after the kept checkpoints,
unfoldable pub place_fits : ℕ → ℕ → ℕ → Checkpoint → Bool
place_fits k kept_count_of_def blocks c = pick (ltb k kept_count_of_def) (checkpoint_fits blocks c) (unused_checkpoint c)

-- in the row of a process at n and above,
unfoldable pub row_fits_of : ℕ → ℕ → List Interval → List Pin → ℕ → Bool → Bool
row_fits_of p n vector pins kept_count_of_def mark = pick (ltb p n)
    (leb kept_count_of_def most_processes && all_below most_processes (λ f. pin_fits (get_or pins f None)))
    (zero_from 0 vector && nothing_from 0 pins && eqb kept_count_of_def 0 && not mark)

-- and after the messages under way.
unfoldable pub one_fits : ℕ → ℕ → Message → Bool
one_fits k many x = pick (ltb k many) (message_fits x) (unused_message x)

-- The same of all places of kept checkpoints, of all rows, of all places of messages: place k of process p is number 16 p + k.
unfoldable pub kept_fits : List (List Checkpoint) → List ℕ → Bool
kept_fits kept kept_count_of_def = all_below kept_places (λ q. place_fits (q % most_processes) (get_or kept_count_of_def (q / most_processes) 0) (get_or (get_or kept (q / most_processes) []) 0 past_end).blocks (get_or (get_or kept (q / most_processes) []) (q % most_processes) past_end))

unfoldable pub rows_fit_of : ℕ → List (List Interval) → List (List Pin) → List ℕ → List Bool → Bool
rows_fit_of n vectors pins kept_count_of_def sent = all_below most_processes (λ p. row_fits_of p n (get_or vectors p []) (get_or pins p []) (get_or kept_count_of_def p 0) (get_or sent p false))

unfoldable pub messages_fit_of : ℕ → List Message → Bool
messages_fit_of many messages = all_below most_under_way (λ k. one_fits k many (get_or messages k past_messages))

unfoldable pub fits_words : Run → Bool
fits_words s =
    leb s.count most_processes && leb s.underway most_under_way
    && kept_fits s.kept.0 s.kept_count
    && rows_fit_of s.count s.vectors.0 s.pins.0 s.kept_count s.sent
    && messages_fit_of s.underway s.messages
