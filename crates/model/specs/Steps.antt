-- Document 01, "Steps": what each accepted call does. Each definition stands under the sentence that it says.
-- Assumes nothing.
use Rattle.std.specs.Prelude.{◌&&◌, ◌||◌, ◌∷◌, ◌++◌, ◌+◌}
use Rattle.laws.specs.Basics.{Bool, true, false, not, List, [], map, Option, None, Some, ℕ, zero, suc, eqb, ltb, leb, get_or, set, pick}
use Rattle.laws.specs.{Bits.bits_of, Lists.select, Lists.or_else, Lists.last_of, Lists.table, Lists.gather, Search.all_below, Search.any_below, Sums.sum_below}
use Rattle.laws.specs.Tests.{count_below}
use Rattle.model.specs.Shapes.{Pin}
use Rattle.model.specs.declared.{Interval.Interval, CheckpointIndex.CheckpointIndex, Disk.Disk}
use Rattle.model.specs.declared.{Checkpoint.Checkpoint, Message.Message, Run.Run}
use Rattle.model.specs.Words.{most_processes, initial, basic, forced, entry, below, live_index_of, is_pinned, Process, live, blocks_of, zero_vector, no_pins_of, block_count, blank, process, with_process, own, under_way, with_messages, with_disk, failed}

-- A deleted checkpoint, as "pairs process, index".
pub record Deletion : Type 0 where
  pub process : ℕ
  pub index : CheckpointIndex

-- "A checkpoint is kept exactly while a pin names it": what process p keeps of its checkpoints, and what is deleted, once its pins have moved.
unfoldable pub settled : Process → Process
settled P = record { vector = P.vector; pins = P.pins; mark = P.mark; kept = select (is_pinned P.pins) P.kept }

unfoldable pub listed : ℕ → List Checkpoint → List Deletion
listed p = map (λ c. record { process = p; index = c.index })

unfoldable pub gone : Process → List Checkpoint
gone P = select (λ c. not (is_pinned P.pins c)) P.kept

unfoldable pub deletions : ℕ → Process → List Deletion
deletions p P = listed p (gone P)

-- Note 5: "The state also carries blocks written and blocks deleted." What they are after a call that wrote and deleted that many.
unfoldable pub billed : Disk → ℕ → ℕ → Disk
billed d wrote deleted = record { written = d.written + wrote; deleted = d.deleted + deleted }

-- Each process below n takes the part that a function gives it.
unfoldable pub with_processes : ℕ → (ℕ → Process) → Run → Run
with_processes zero f s = s
with_processes (suc n) f s = with_process (with_processes n f s) n (f n)

-- Start. "Each process stores checkpoint 0 with a vector of zeros. Then own entries are 1, others 0. Each own pin names checkpoint 0, others none.
-- No process has sent." Note 5: its cause is "0 initial", and its block count is "fixed at the start for each process".
unfoldable pub checkpoint_zero : ℕ → Checkpoint
checkpoint_zero count = record { index = record { 0 = 0 }; vector = zero_vector; cause = initial; blocks = count }

unfoldable pub started : List ℕ → ℕ → Process
started block_counts p = record {
  vector = set zero_vector p (record { 0 = 1 });
  pins = set no_pins_of p (Some (record { 0 = 0 }));
  mark = false;
  kept = checkpoint_zero (get_or block_counts p 0) ∷ [];
}

-- Note 5: "each checkpoint ever stored .. counts once", and the n processes stored one each. "The start takes 16 counts, and those at n and above are neither
-- judged nor stored."
unfoldable pub opening : ℕ → List ℕ → Disk
opening n block_counts = record { written = sum_below n (λ p. get_or block_counts p 0); deleted = 0 }

unfoldable pub start_state : ℕ → List ℕ → Run
start_state n block_counts = with_disk (with_processes n (started block_counts) (blank n)) (opening n block_counts)

-- Checkpoint at i. "Store the vector under index own entry. The own pin names it. Add 1 to the own entry. Clear the sent mark."
unfoldable pub advanced : ℕ → List Interval → List Interval
advanced i v = set v i (record { 0 = (entry v i).0 + 1 })

-- Note 5: "Each kept checkpoint now records its cause (0 initial, 1 basic, 2 forced) and its process's block count". What process i then stores.
unfoldable pub storing : ℕ → ℕ → Process → Checkpoint
storing cause i P = record { index = live_index_of (entry P.vector i); vector = P.vector; cause = cause; blocks = block_count P }

unfoldable pub checkpointed : ℕ → ℕ → Process → Process
checkpointed cause i P = record {
  vector = advanced i P.vector;
  pins = set P.pins i (Some (live_index_of (entry P.vector i)));
  mark = false;
  kept = P.kept ++ (storing cause i P ∷ []);
}

unfoldable pub checkpoint_state : Run → ℕ → Run
checkpoint_state s i =
    let P = process s i in
    let Q = checkpointed basic i P in
    with_disk (with_process s i (settled Q)) (billed s.disk (block_count P) (blocks_of (gone Q)))

unfoldable pub checkpoint_deletions : Run → ℕ → List Deletion
checkpoint_deletions s i = deletions i (checkpointed basic i (process s i))

-- Send from i to j. "The message carries i's vector. Set i's sent mark." "Message numbers run from 1 .., one for each accepted send, never reused".
unfoldable pub sent_message : Run → ℕ → ℕ → Message
sent_message s i j = record { number = s.last + 1; sender = i; receiver = j; vector = (process s i).vector }

unfoldable pub marked : Process → Process
marked P = record { vector = P.vector; pins = P.pins; mark = true; kept = P.kept }

unfoldable pub send_state : Run → ℕ → ℕ → Run
send_state s i j = with_messages (with_process s i (marked (process s i))) (under_way s ++ (sent_message s i j ∷ [])) (s.last + 1)

-- The message number m under way, if there is one, and the others.
unfoldable pub found : Run → ℕ → Option Message
found s m = last_of (select (λ x. eqb x.number m) (under_way s))

unfoldable pub others : Run → ℕ → List Message
others s m = select (λ x. not (eqb x.number m)) (under_way s)

-- Deliver to i. "If the sent mark is set and some carried entry is greater than i's, first do a checkpoint at i (forced)."
-- Entries at n and above are zero in every vector, so none of them is ever greater.
unfoldable pub newer : List Interval → List Interval → Bool
newer own carried = any_below most_processes (λ f. below (entry own f) (entry carried f))

unfoldable pub forces : Process → List Interval → Bool
forces P carried = P.mark && newer P.vector carried

-- "Then each entry that is smaller than the carried one takes it, and that entry's pin becomes the own pin."
unfoldable pub taken_entry : List Interval → List Interval → ℕ → Interval
taken_entry own carried f = pick (below (entry own f) (entry carried f)) (entry carried f) (entry own f)

unfoldable pub taken_vector : List Interval → List Interval → List Interval
taken_vector own carried = table most_processes (taken_entry own carried)

unfoldable pub taken_pin : ℕ → List Interval → List Interval → List Pin → ℕ → Pin
taken_pin i own carried pins f = pick (below (entry own f) (entry carried f)) (get_or pins i None) (get_or pins f None)

unfoldable pub taken_pins : ℕ → List Interval → List Interval → List Pin → List Pin
taken_pins i own carried pins = table most_processes (taken_pin i own carried pins)

-- Note 1: "the set of entries that rose, as a number of 16 bits". Entry f rises where it is smaller than the carried one; bit f stands for it.
unfoldable pub risen : List Interval → List Interval → ℕ
risen own carried = bits_of most_processes (λ f. below (entry own f) (entry carried f))

unfoldable pub taken_in : ℕ → List Interval → Process → Process
taken_in i carried P = record {
  vector = taken_vector P.vector carried;
  pins = taken_pins i P.vector carried P.pins;
  mark = P.mark;
  kept = P.kept;
}

unfoldable pub delivered : ℕ → List Interval → Process → Process
delivered i carried P = taken_in i carried (pick (forces P carried) (checkpointed forced i P) P)

-- "The message is no longer under way."
unfoldable pub deliver_state : Run → Message → Run
deliver_state s x =
    let P = process s x.receiver in
    let Q = delivered x.receiver x.vector P in
    with_disk (with_messages (with_process s x.receiver (settled Q)) (others s x.number) s.last)
    (billed s.disk (pick (forces P x.vector) (block_count P) 0) (blocks_of (gone Q)))

-- Note 1: "Delivery passes it on." The entries that rose are those of the vector that takes the carried one in: after the forced checkpoint, if there is one.
unfoldable pub deliver_risen : Run → Message → ℕ
deliver_risen s x =
    let P = process s x.receiver in
    risen (pick (forces P x.vector) (advanced x.receiver P.vector) P.vector) x.vector

unfoldable pub deliver_deletions : Run → Message → List Deletion
deliver_deletions s x = deletions x.receiver (delivered x.receiver x.vector (process s x.receiver))

-- Lose. "The message is no longer under way; nothing else changes."
unfoldable pub lose_state : Run → ℕ → Run
lose_state s m = with_messages s (others s m) s.last

-- Line for a failed set. "At each process, the latest among kept checkpoints and the live state whose entry f is less than f's current own entry,
-- for every failed f."
unfoldable pub allowed : Run → ℕ → Checkpoint → Bool
allowed s F c = all_below s.count (λ f. not (failed F f) || below (entry c.vector f) (own s f))

unfoldable pub states : ℕ → Process → List Checkpoint
states p P = P.kept ++ (live p P ∷ [])

unfoldable pub latest_allowed : Run → ℕ → ℕ → Option Checkpoint
latest_allowed s F p = last_of (select (allowed s F) (states p (process s p)))

-- The line's member at p. Where the rule accepts no state the call is refused, and the live state stands in.
unfoldable pub member : Run → ℕ → ℕ → Checkpoint
member s F p = or_else (latest_allowed s F p) (live p (process s p))

unfoldable pub line_of : Run → ℕ → List ℕ
line_of s F = table s.count (λ p. (member s F p).index.0)

-- Recover. "Take the line. A process whose member is stored takes that vector with 1 added to its own entry, loses its sent mark and later
-- checkpoints; these count as deleted. Others stay live, mark included." A member is stored if its index is less than the live state's.
unfoldable pub rolled_back : Run → ℕ → ℕ → Bool
rolled_back s F p = ltb (member s F p).index.0 (live_index_of (own s p)).0

unfoldable pub vector_after : Run → ℕ → ℕ → List Interval
vector_after s F p = pick (rolled_back s F p) (advanced p (member s F p).vector) (process s p).vector

unfoldable pub not_lost : Run → ℕ → ℕ → List Checkpoint
not_lost s F p = select (λ c. leb c.index.0 (member s F p).index.0) (process s p).kept

-- "Then let own(f) be the own entries after this."
unfoldable pub own_after : Run → ℕ → ℕ → Interval
own_after s F f = entry (vector_after s F f) f

-- "names the latest checkpoint with entry f below own(f) among those kept before the call and not lost, none if there is none"
unfoldable pub latest_pin : Option Checkpoint → Pin
latest_pin None = None
latest_pin (Some c) = Some c.index

unfoldable pub moved_pin : Run → ℕ → ℕ → ℕ → Pin
moved_pin s F p f = latest_pin (last_of (select (λ c. below (entry c.vector f) (own_after s F f)) (not_lost s F p)))

-- "At each process, a pin for f whose vector entry is not own(f) becomes none. In a rolled-back process a pin whose entry is own(f) names .."
unfoldable pub pin_after : Run → ℕ → ℕ → ℕ → Pin
pin_after s F p f =
    pick (eqb (entry (vector_after s F p) f).0 (own_after s F f).0)
    (pick (rolled_back s F p) (moved_pin s F p f) (get_or (process s p).pins f None))
    None

unfoldable pub pins_after : Run → ℕ → ℕ → List Pin
pins_after s F p = table most_processes (pin_after s F p)

unfoldable pub recovered : Run → ℕ → ℕ → Process
recovered s F p = record {
  vector = vector_after s F p;
  pins = pins_after s F p;
  mark = (process s p).mark && not (rolled_back s F p);
  kept = select (is_pinned (pins_after s F p)) (not_lost s F p);
}

-- Note 2: "a recovery loses a message exactly if its sender's entry in the carried vector is above the sender's index in the line; the others remain
-- under way with their numbers." Which ones are lost is defined here alone.
unfoldable pub lost_by : Run → ℕ → Message → Bool
lost_by s F x = ltb (member s F x.sender).index.0 (entry x.vector x.sender).0

unfoldable pub still_under_way : Run → ℕ → List Message
still_under_way s F = select (λ x. not (lost_by s F x)) (under_way s)

-- Deleted: the lost ones, and those that no pin names any more. "by process, then index, ascending"
unfoldable pub gone_at_of : Run → ℕ → ℕ → List Checkpoint
gone_at_of s F p = select (λ c. not (leb c.index.0 (member s F p).index.0 && is_pinned (pins_after s F p) c)) (process s p).kept

unfoldable pub deleted_at : Run → ℕ → ℕ → List Deletion
deleted_at s F p = listed p (gone_at_of s F p)

-- Note 5: "each checkpoint ever stored, rolled back or not, counts once": a recovery writes none and takes none back.
unfoldable pub recover_state : Run → ℕ → Run
recover_state s F =
    with_disk (with_messages (with_processes s.count (recovered s F) s) (still_under_way s F) s.last)
    (billed s.disk 0 (sum_below s.count (λ p. blocks_of (gone_at_of s F p))))

unfoldable pub recover_deletions : Run → ℕ → List Deletion
recover_deletions s F = gather s.count (deleted_at s F)

-- "how many rolled back"
unfoldable pub rolled_back_count : Run → ℕ → ℕ
rolled_back_count s F = count_below s.count (rolled_back s F)
