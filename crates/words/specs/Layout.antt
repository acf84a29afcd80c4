-- Which run the words stand for that a caller lends: 6,464 words of 16 bits, each thing at a fixed place. The decoder is total: every list of words is a state.
-- What stands in a place that is not in use counts for nothing: it is read as zero. A row that is in use is read whole, all its 16 entries.
-- Assumes nothing.
use Rattle.std.specs.Prelude.{◌&&◌, ◌||◌, ◌+◌, ◌-◌, ◌*◌, None, Some}
use Rattle.laws.specs.Basics.{Bool, false, not, List, ℕ, zero, suc, eqb, ltb, leb, length, get_or, replicate, pick}
use Rattle.laws.specs.Lists.{select, table, placed}
use Rattle.model.specs.Shapes.{Pin}
use Rattle.model.specs.declared.{Interval.Interval, CheckpointIndex.CheckpointIndex, Message.Message}
use Rattle.model.specs.declared.{Checkpoint.Checkpoint, Run.Run}
use Rattle.model.specs.Words.{most_processes, most_under_way, zero_vector, no_pins_of, no_checkpoint, no_message, blank}

-- How many words a state is.
abbrev pub state_size : ℕ
state_size = 6464

-- The word at a place.
abbrev pub word : List ℕ → ℕ → ℕ
word w k = get_or w k 0

-- A number of two words and one of four, the lowest word first.
abbrev pub wide2 : List ℕ → ℕ → ℕ
wide2 w at = word w at + 65_536 * word w (at + 1)

abbrev pub wide4 : List ℕ → ℕ → ℕ
wide4 w at = word w at + 65_536 * word w (at + 1) + 4_294_967_296 * word w (at + 2) + 281_474_976_710_656 * word w (at + 3)

-- Word 0 is n, and word 1 says how many messages are under way. Words 2 and 3 are the last message number used, 4 to 7 the blocks written, 8 to 11 the blocks
-- deleted. Word 12 is the end of the places of messages in use. Words 13 to 15 are not used.
abbrev pub count_of : List ℕ → ℕ
count_of w = word w 0

abbrev pub end_of : List ℕ → ℕ
end_of w = word w 12

-- From word 16 on stands for each process how many checkpoints it keeps, from word 32 on its sent mark (0: not set), from word 48 on its block count.
abbrev pub kept_count_at_of : ℕ → ℕ
kept_count_at_of p = 16 + p

abbrev pub mark_at : ℕ → ℕ
mark_at p = 32 + p

abbrev pub blocks_at_of : ℕ → ℕ
blocks_at_of p = 48 + p

-- From word 64 on each process has a part of 320 words: 16 entries of its vector, its 16 pins, then for each of 16 places of kept checkpoints one word of its
-- index and one of its cause, and the 16 entries of its vector.
abbrev pub part_at : ℕ → ℕ
part_at p = 64 + 320 * p

abbrev pub pins_at_of : ℕ → ℕ
pins_at_of p = 80 + 320 * p

abbrev pub index_at_of : ℕ → ℕ → ℕ
index_at_of p k = 96 + 320 * p + k

abbrev pub cause_at_of : ℕ → ℕ → ℕ
cause_at_of p k = 112 + 320 * p + k

abbrev pub stored_at : ℕ → ℕ → ℕ
stored_at p k = 128 + 320 * p + 16 * k

-- From word 5,184 on there are 64 places of messages: 64 low words of the numbers, 64 high words, 64 senders, 64 receivers, and 64 vectors of 16 entries.
abbrev pub low_at : ℕ → ℕ
low_at k = 5184 + k

abbrev pub high_at : ℕ → ℕ
high_at k = 5248 + k

abbrev pub sender_at_of : ℕ → ℕ
sender_at_of k = 5312 + k

abbrev pub receiver_at_of : ℕ → ℕ
receiver_at_of k = 5376 + k

abbrev pub carried_at : ℕ → ℕ
carried_at k = 5440 + 16 * k

-- A word of a vector is an interval's number. A word of the pins, or of an index, is one above the index of a checkpoint, 0 if there is none.
abbrev pub interval_of : ℕ → Interval
interval_of x = record { 0 = x }

abbrev pub index_of_def : ℕ → CheckpointIndex
index_of_def x = record { 0 = x - 1 }

unfoldable pub pin_of_def : ℕ → Pin
pin_of_def zero = None
pin_of_def (suc k) = Some (record { 0 = k })

-- A row of words, a vector and pins, by the place of their first word.
unfoldable pub row_in : List ℕ → ℕ → List ℕ
row_in w at = table most_processes (λ f. word w (at + f))

unfoldable pub vector_in : List ℕ → ℕ → List Interval
vector_in w at = table most_processes (λ f. interval_of (word w (at + f)))

unfoldable pub pins_in : List ℕ → ℕ → List Pin
pins_in w at = table most_processes (λ f. pin_of_def (word w (at + f)))

-- The sent mark of process p: set if its word is not 0.
unfoldable pub mark_in : List ℕ → ℕ → Bool
mark_in w p = not (eqb (word w (mark_at p)) 0)

-- The kept checkpoint in place k of process p. Its process's block count stands once, for all of them.
unfoldable pub checkpoint_in : List ℕ → ℕ → ℕ → Checkpoint
checkpoint_in w p k = record {
  index = index_of_def (word w (index_at_of p k));
  vector = vector_in w (stored_at p k);
  cause = word w (cause_at_of p k);
  blocks = word w (blocks_at_of p);
}

-- A place of a kept checkpoint is in use up to how many are kept, and where its index is not 0.
unfoldable pub is_kept_in : List ℕ → ℕ → ℕ → Bool
is_kept_in w p k = ltb k (word w (kept_count_at_of p)) && not (eqb (word w (index_at_of p k)) 0)

unfoldable pub kept_in : List ℕ → ℕ → List Checkpoint
kept_in w p = table most_processes (λ k. pick (is_kept_in w p k) (checkpoint_in w p k) no_checkpoint)

-- The message in place k. A place is in use before the end of those in use, and where the number is not 0; the messages are in the order of their places.
unfoldable pub message_in : List ℕ → ℕ → Message
message_in w k = record {
  number = word w (low_at k) + 65_536 * word w (high_at k);
  sender = word w (sender_at_of k);
  receiver = word w (receiver_at_of k);
  vector = vector_in w (carried_at k);
}

unfoldable pub is_message : Message → Bool
is_message x = not (eqb x.number 0)

unfoldable pub messages_in : List ℕ → List Message
messages_in w = select is_message (table (end_of w) (message_in w))

-- A part of a process below n; what the places of the others hold counts for nothing.
abbrev pub of_processes : {A : Type 0} → List ℕ → (ℕ → A) → A → List A
of_processes w part unused = table most_processes (λ p. pick (ltb p (count_of w)) (part p) unused)

-- The run that words of the right size stand for.
unfoldable pub decoded : List ℕ → Run
decoded w = record {
  count = count_of w;
  vectors = record { 0 = of_processes w (λ p. vector_in w (part_at p)) zero_vector };
  pins = record { 0 = of_processes w (λ p. pins_in w (pins_at_of p)) no_pins_of };
  sent = of_processes w (mark_in w) false;
  kept = record { 0 = of_processes w (kept_in w) (replicate most_processes no_checkpoint) };
  kept_count = of_processes w (λ p. word w (kept_count_at_of p)) 0;
  messages = placed most_under_way no_message (messages_in w);
  underway = word w 1;
  last = wide2 w 2;
  disk = record { written = wide4 w 4; deleted = wide4 w 8 };
}

-- What the calls rely on and a run does not show: the end of the places in use is one past the last used place.
unfoldable pub end_fits_of : List ℕ → Bool
end_fits_of w = leb (end_of w) most_under_way && (eqb (end_of w) 0 || is_message (message_in w (end_of w - 1)))

unfoldable pub fits : List ℕ → Bool
fits w = eqb (length w) state_size && end_fits_of w

-- "a state of zeros with every pin none" is what all other words stand for: it is not sound.
unfoldable pub run_of : List ℕ → Run
run_of w = pick (fits w) (decoded w) (blank 0)
