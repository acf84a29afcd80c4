-- Document 01, "What the library covers" and "Words": limits, vectors, pins, kept checkpoints, the part of a state that is one process's.
-- Assumes nothing.
use Rattle.std.specs.Prelude.{◌∷◌, ◌+◌, ◌-◌, None, Some}
use Rattle.laws.specs.Basics.{Bool, false, List, [], ℕ, eqb, ltb, length, get_or, take, set, replicate}
use Rattle.laws.specs.{Bits.bit, Lists.placed, Tests.some_of}
use Rattle.model.specs.Shapes.{Pin}
use Rattle.model.specs.declared.{Interval.Interval, CheckpointIndex.CheckpointIndex, Disk.Disk}
use Rattle.model.specs.declared.{Checkpoint.Checkpoint, Message.Message, Run.Run}

-- "A run has n processes, 1 to 16, numbered from 0."
abbrev pub most_processes : ℕ
most_processes = 16

-- "At most 64 messages are under way."
abbrev pub most_under_way : ℕ
most_under_way = 64

-- "Message numbers run from 1 to 1,000,000"
abbrev pub most_messages : ℕ
most_messages = 1_000_000

-- "Vector entries are 0 to 65,535."
abbrev pub most_interval : ℕ
most_interval = 65_535

-- Note 5: "its cause (0 initial, 1 basic, 2 forced)".
abbrev pub initial : ℕ
initial = 0

abbrev pub basic : ℕ
basic = 1

abbrev pub forced : ℕ
forced = 2

-- Note 5: "block counts from 1 to 65,535"; "16 .. for a stored checkpoint that would take written past 1,000,000,000,000,000".
abbrev pub most_block_count : ℕ
most_block_count = 65_535

abbrev pub most_blocks : ℕ
most_blocks = 1_000_000_000_000_000

-- Each of n processes keeps at most n checkpoints: so many have a place, and so many can be deleted.
abbrev pub kept_places : ℕ
kept_places = 256

-- "3: deletion list below 2 × n × n entries": so many do for every run.
abbrev pub most_deletions : ℕ
most_deletions = 512

-- Note 5: "a trace run uses 1": the block counts of its start.
abbrev pub ones : List ℕ
ones = replicate most_processes 1

-- "Entry f of i's vector is the last interval of f that i knows, 0 if none"
abbrev pub entry : List Interval → ℕ → Interval
entry v f = get_or v f (record { 0 = 0 })

-- One interval number is less than another.
abbrev pub below : Interval → Interval → Bool
below a b = ltb a.0 b.0

-- "The live state counts as the checkpoint whose index is the own entry."
abbrev pub live_index_of : Interval → CheckpointIndex
live_index_of own = record { 0 = own.0 }

-- "Interval g lies between checkpoints g - 1 and g": where g is the own entry, the last stored checkpoint is g - 1.
abbrev pub last_stored_of : Interval → CheckpointIndex
last_stored_of own = record { 0 = own.0 - 1 }

-- "Checkpoint a of f comes causally before a state exactly if a is less than that state's entry f"
abbrev pub comes_before : CheckpointIndex → ℕ → List Interval → Bool
comes_before a f v = ltb a.0 (entry v f).0

-- "A pin of i for f names one kept checkpoint of i, or none."
abbrev pub names : Pin → CheckpointIndex → Bool
names None a = false
names (Some b) a = eqb b.0 a.0

-- "A checkpoint is kept exactly while a pin names it."
unfoldable pub is_pinned : List Pin → Checkpoint → Bool
is_pinned pins c = some_of (λ pin. names pin c.index) pins

-- What a state holds of one process: its current vector, its pins, its sent mark, the checkpoints that it keeps.
pub record Process : Type 0 where
  pub vector : List Interval
  pub pins : List Pin
  pub mark : Bool
  pub kept : List Checkpoint

-- The live state of process i as a checkpoint, where a line may name it. It is not stored, so it has no cause and no blocks: both are 0.
unfoldable pub live : ℕ → Process → Checkpoint
live i P = record { index = live_index_of (entry P.vector i); vector = P.vector; cause = 0; blocks = 0 }

-- The blocks of a list of checkpoints.
unfoldable pub blocks_of : List Checkpoint → ℕ
blocks_of [] = 0
blocks_of (c ∷ l) = c.blocks + blocks_of l

-- Unused places: "Unused places hold zero; unused pins .. are none."
abbrev pub zero_vector : List Interval
zero_vector = replicate most_processes (record { 0 = 0 })

abbrev pub no_pins_of : List Pin
no_pins_of = replicate most_processes None

abbrev pub no_checkpoint : Checkpoint
no_checkpoint = record { index = record { 0 = 0 }; vector = zero_vector; cause = 0; blocks = 0 }

-- Note 5: "its process's block count": it stands in the checkpoints alone, "equal within a process", and a process always keeps one. So the first has it.
unfoldable pub block_count : Process → ℕ
block_count P = (get_or P.kept 0 no_checkpoint).blocks

-- What a read past the end of a list of checkpoints gives, in the declared types: no rule of document 01 speaks of it.
abbrev pub past_end : Checkpoint
past_end = record { index = record { 0 = 0 }; vector = []; cause = 0; blocks = 0 }

abbrev pub no_message : Message
no_message = record { number = 0; sender = 0; receiver = 0; vector = zero_vector }

-- "a state of zeros with every pin none", with a count.
unfoldable pub blank : ℕ → Run
blank n = record {
  count = n;
  vectors = record { 0 = replicate most_processes zero_vector };
  pins = record { 0 = replicate most_processes no_pins_of };
  sent = replicate most_processes false;
  kept = record { 0 = replicate most_processes (replicate most_processes no_checkpoint) };
  kept_count = replicate most_processes 0;
  messages = replicate most_under_way no_message;
  underway = 0;
  last = 0;
  disk = record { written = 0; deleted = 0 };
}

-- The part of a state that is process p's.
unfoldable pub process : Run → ℕ → Process
process s p = record {
  vector = get_or s.vectors.0 p [];
  pins = get_or s.pins.0 p [];
  mark = get_or s.sent p false;
  kept = take (get_or s.kept_count p 0) (get_or s.kept.0 p []);
}

-- The state keeps checkpoint k of process p.
abbrev pub keeps_in : Run → ℕ → ℕ → Bool
keeps_in s p k = some_of (λ c. eqb c.index.0 k) (process s p).kept

-- The state with another part for process p.
unfoldable pub with_process : Run → ℕ → Process → Run
with_process s p P = record {
  count = s.count;
  vectors = record { 0 = set s.vectors.0 p P.vector };
  pins = record { 0 = set s.pins.0 p P.pins };
  sent = set s.sent p P.mark;
  kept = record { 0 = set s.kept.0 p (placed most_processes no_checkpoint P.kept) };
  kept_count = set s.kept_count p (length P.kept);
  messages = s.messages;
  underway = s.underway;
  last = s.last;
  disk = s.disk;
}

-- p's current interval: "its own entry is its current interval".
unfoldable pub own : Run → ℕ → Interval
own s p = entry (process s p).vector p

-- The messages under way, ascending by number.
unfoldable pub under_way : Run → List Message
under_way s = take s.underway s.messages

-- The state with other messages under way and another last used number.
unfoldable pub with_messages : Run → List Message → ℕ → Run
with_messages s messages last = record {
  count = s.count;
  vectors = s.vectors;
  pins = s.pins;
  sent = s.sent;
  kept = s.kept;
  kept_count = s.kept_count;
  messages = placed most_under_way no_message messages;
  underway = length messages;
  last = last;
  disk = s.disk;
}

-- The state with other blocks written and blocks deleted.
unfoldable pub with_disk : Run → Disk → Run
with_disk s disk = record {
  count = s.count;
  vectors = s.vectors;
  pins = s.pins;
  sent = s.sent;
  kept = s.kept;
  kept_count = s.kept_count;
  messages = s.messages;
  underway = s.underway;
  last = s.last;
  disk = disk;
}

-- A set of processes, or of a vector's entries, is a number: "bit p, worth 2 to the power p, stands for process p".
abbrev pub in_set : ℕ → ℕ → Bool
in_set S p = bit S p

-- "The failed set is a number of 16 bits".
abbrev pub failed : ℕ → ℕ → Bool
failed F p = in_set F p
