-- Document 01, "A sound state", clause by clause, and after it the clauses of Note 5.
-- Assumes nothing.
use Rattle.std.specs.Prelude.{◌&&◌, ◌∷◌, ◌+◌, None, Some}
use Rattle.laws.specs.Basics.{Bool, true, false, not, List, [], map, ℕ, suc, eqb, ltb, leb, get_or, drop, pick}
use Rattle.laws.specs.{Lists.or_else, Lists.last_of, Search.all_below, Sums.sum_below, Tests.every, Tests.some_of}
use Rattle.model.specs.Shapes.{Pin}
use Rattle.model.specs.declared.{Interval.Interval, Checkpoint.Checkpoint, Message.Message}
use Rattle.model.specs.declared.Run.{Run}
use Rattle.model.specs.Words.{most_processes, most_under_way, most_messages, most_block_count, most_blocks, entry, last_stored_of, names, is_pinned, Process, blocks_of, no_checkpoint, block_count, process, own, under_way}

-- "Count 1 to 16."
unfoldable pub count_sound : Run → Bool
count_sound s = leb 1 s.count && leb s.count most_processes

-- "Own entries at least 1."
unfoldable pub own_sound : Run → Bool
own_sound s = all_below s.count (λ p. leb 1 (own s p).0)

-- "No vector (current, stored or carried) has an entry for f above f's own current entry."
unfoldable pub within : Run → List Interval → Bool
within s v = all_below s.count (λ f. leb (entry v f).0 (own s f).0)

unfoldable pub vectors_sound : Run → Bool
vectors_sound s =
    all_below s.count (λ p. within s (process s p).vector && every (λ c. within s c.vector) (process s p).kept)
    && every (λ x. within s x.vector) (under_way s)

-- Numbers that ascend, from a bound on.
unfoldable pub ascending : ℕ → List ℕ → Bool
ascending low [] = true
ascending low (x ∷ l) = leb low x && ascending (suc x) l

-- "Each process keeps 1 to n checkpoints, indexes ascending, each one's own entry equal to its index;
-- the last is the own entry minus 1 and the own pin names it."
unfoldable pub kept_sound : Run → ℕ → Bool
kept_sound s p =
    leb 1 (get_or s.kept_count p 0) && leb (get_or s.kept_count p 0) s.count
    && ascending 0 (map (λ c. c.index.0) (process s p).kept)
    && every (λ c. eqb (entry c.vector p).0 c.index.0) (process s p).kept
    && eqb (or_else (last_of (process s p).kept) no_checkpoint).index.0 (last_stored_of (own s p)).0
    && names (get_or (process s p).pins p None) (last_stored_of (own s p))

-- "Every pin is none or names a kept one; every kept one is pinned."
unfoldable pub pin_sound : List Checkpoint → Pin → Bool
pin_sound kept None = true
pin_sound kept (Some a) = some_of (λ c. names (Some a) c.index) kept

unfoldable pub pins_sound : Run → ℕ → Bool
pins_sound s p = every (pin_sound (process s p).kept) (process s p).pins && every (is_pinned (process s p).pins) (process s p).kept

-- "Messages ascend by number, from 1 to the last used, at most 64; sender and receiver are in the run and differ.
-- The last used number is at most 1,000,000."
unfoldable pub message_sound : Run → Message → Bool
message_sound s x = leb x.number s.last && ltb x.sender s.count && ltb x.receiver s.count && not (eqb x.sender x.receiver)

unfoldable pub messages_sound : Run → Bool
messages_sound s =
    leb s.underway most_under_way && ascending 1 (map (λ x. x.number) (under_way s)) && every (message_sound s) (under_way s)
    && leb s.last most_messages

-- "Unused places hold zero": the entries of a vector from a place on.
unfoldable pub zero_from : ℕ → List Interval → Bool
zero_from k v = every (λ x. eqb x.0 0) (drop k v)

unfoldable pub unused_checkpoint : Checkpoint → Bool
unused_checkpoint c = eqb c.index.0 0 && zero_from 0 c.vector && eqb c.cause 0 && eqb c.blocks 0

unfoldable pub unused_message : Message → Bool
unused_message x = eqb x.number 0 && eqb x.sender 0 && eqb x.receiver 0 && zero_from 0 x.vector

unfoldable pub is_nothing_of : Pin → Bool
is_nothing_of None = true
is_nothing_of (Some a) = false

-- "unused pins, in rows or columns at n and above, are none": the pins of a row from a place on.
unfoldable pub nothing_from : ℕ → List Pin → Bool
nothing_from k pins = every is_nothing_of (drop k pins)

-- In a row of the run the places at n and above are unused, and in the kept table the places after the kept checkpoints.
unfoldable pub row_unused : Run → ℕ → Bool
row_unused s p =
    zero_from s.count (process s p).vector
    && nothing_from s.count (process s p).pins
    && every (λ c. zero_from s.count c.vector) (process s p).kept
    && every unused_checkpoint (drop (get_or s.kept_count p 0) (get_or s.kept.0 p []))

unfoldable pub unused_sound : Run → Bool
unused_sound s =
    all_below s.count (row_unused s)
    && every (zero_from 0) (drop s.count s.vectors.0)
    && every (nothing_from 0) (drop s.count s.pins.0)
    && every not (drop s.count s.sent)
    && every (every unused_checkpoint) (drop s.count s.kept.0)
    && every (eqb 0) (drop s.count s.kept_count)
    && every (λ x. zero_from s.count x.vector) (under_way s)
    && every unused_message (drop s.underway s.messages)

-- Note 5: "A sound state now has causes 0 to 2, 0 exactly at index 0"
unfoldable pub cause_sound : ℕ → ℕ → Bool
cause_sound index cause = pick (eqb index 0) (eqb cause 0) (leb 1 cause && leb cause 2)

-- ".. block counts from 1 to 65,535"
unfoldable pub is_block_count_of : ℕ → Bool
is_block_count_of count = leb 1 count && leb count most_block_count

-- ".. equal within a process"
unfoldable pub record_sound : Process → Checkpoint → Bool
record_sound P c = cause_sound c.index.0 c.cause && is_block_count_of c.blocks && eqb c.blocks (block_count P)

-- ".. and that sum, within the bound of 16." The sum: "written equals blocks of all kept checkpoints plus blocks deleted"
unfoldable pub kept_blocks : Run → ℕ
kept_blocks s = sum_below s.count (λ p. blocks_of (process s p).kept)

unfoldable pub disk_sound : Run → Bool
disk_sound s =
    all_below s.count (λ p. every (record_sound (process s p)) (process s p).kept)
    && eqb s.disk.written (kept_blocks s + s.disk.deleted)
    && leb s.disk.written most_blocks

unfoldable pub sound : Run → Bool
sound s =
    count_sound s
    && own_sound s
    && vectors_sound s
    && all_below s.count (λ p. kept_sound s p && pins_sound s p)
    && messages_sound s
    && unused_sound s
    && disk_sound s
