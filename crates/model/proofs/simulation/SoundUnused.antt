-- The unused places of the state that stands for a run: every one holds zero, every unused pin is none. And how many checkpoints each row holds.
-- Assumes nothing.
use Rattle.std.specs.Prelude.{◌≡◌, ◌-◌, ◌≤◌, ◌<◌, None, Some}
use Rattle.laws.specs.Basics.{refl, ◌∙◌, Bool, true, false, not, List, [], ℕ, zero, suc, arith, eqb, length, get_or, drop, replicate, get_or-set_same, get_or-set_other, by_eq}
use native.Mathlib.Nat.{not-suc-le-zero}
use lib.Seq.{drop-set-lt, drop-append_seam}
use Rattle.laws.specs.{Lists.placed, Search.all_below, Search.all_in, Tests.every, Elements.every_drop, Elements.every_from, Elements.every_replicate}
use Rattle.laws.specs.Truth.{never_both}
use Rattle.model.specs.Shapes.{Pin}
use Rattle.model.specs.{declared.Checkpoint.Checkpoint, declared.Run.Run, Steps.with_processes}
use Rattle.model.specs.Words.{most_processes, most_under_way, Process, zero_vector, no_pins_of, no_checkpoint, no_message, blank, with_process, under_way, with_messages, with_disk}
use Rattle.model.specs.Sound.{zero_from, unused_checkpoint, unused_message, is_nothing_of, nothing_from, row_unused, unused_sound}
use Rattle.histories.proofs.Run.{Ideal}
use Rattle.model.proofs.simulation.View.{vector_of, pins_of, checkpoint_of, kept_of, process_of, message_of, messages_of, parts_of, state_of}
use Rattle.model.proofs.{simulation.Parts.Room, simulation.Parts.room_all, simulation.Parts.room_blank, simulation.SoundPassing.passing_every}
use Rattle.model.proofs.simulation.Reads.{entry_past, pin_past, count_is_lem, under_way_is, process_is}
use Rattle.model.proofs.simulation.Kept.{kept_every}

-- What a state holds of the checkpoints of one process: how many, and the row with its unused places.
pub record Row (s : Run) (p : ℕ) (kept : List Checkpoint) : Type 0 where
  pub many : get_or s.kept_count p 0 ≡ length kept
  pub row : get_or s.kept.0 p [] ≡ placed most_processes no_checkpoint kept

-- Right after the part of p was put in.
row_put : (s : Run) (p : ℕ) (P : Process) → Room s p → Row (with_process s p P) p P.kept
unfolding with_process
row_put s p P h = record {
  many = get_or-set_same s.kept_count p (length P.kept) 0 h.kept_count;
  row = get_or-set_same s.kept.0 p (placed most_processes no_checkpoint P.kept) [] h.kept;
}

-- The part of another process does not change it.
row_other : (s : Run) (p q : ℕ) (Q : Process) (kept : List Checkpoint) → (p ≡ q → ⊥) → Row s p kept → Row (with_process s q Q) p kept
unfolding with_process
row_other s p q Q kept ne h = record {
  many = get_or-set_other s.kept_count q p (length Q.kept) 0 ne ∙ h.many;
  row = get_or-set_other s.kept.0 q p (placed most_processes no_checkpoint Q.kept) [] ne ∙ h.row;
}

-- After the parts of all processes below n were put in.
row_all : (n : ℕ) (f : ℕ → Process) (s : Run) (p : ℕ) → p < n → Room s p → Row (with_processes n f s) p (f p).kept
unfolding with_processes
row_all zero f s p h room = absurd (not-suc-le-zero h)
row_all (suc n) f s p h room = by_eq p n
    (λ e. rw e (row_put (with_processes n f s) n (f n) (rw e at (room_all n f s p room))))
    (λ ne. row_other (with_processes n f s) p n (f n) (f p).kept ne (row_all n f s p (omega arith) room))

-- Two states with the same rows from m on.
record Beyond (m : ℕ) (s t : Run) : Type 0 where
  vectors : drop m s.vectors.0 ≡ drop m t.vectors.0
  pins : drop m s.pins.0 ≡ drop m t.pins.0
  sent : drop m s.sent ≡ drop m t.sent
  kept : drop m s.kept.0 ≡ drop m t.kept.0
  kept_count : drop m s.kept_count ≡ drop m t.kept_count

-- The parts of processes below m leave the rows from m on.
beyond_all : (m n : ℕ) (f : ℕ → Process) (s : Run) → n ≤ m → Beyond m (with_processes n f s) s
unfolding with_processes with_process
beyond_all m zero f s h = record { vectors = refl; pins = refl; sent = refl; kept = refl; kept_count = refl }
beyond_all m (suc n) f s h =
    let b = beyond_all m n f s (omega arith) in
    record {
      vectors = drop-set-lt m (with_processes n f s).vectors.0 n (f n).vector h ∙ b.vectors;
      pins = drop-set-lt m (with_processes n f s).pins.0 n (f n).pins h ∙ b.pins;
      sent = drop-set-lt m (with_processes n f s).sent n (f n).mark h ∙ b.sent;
      kept = drop-set-lt m (with_processes n f s).kept.0 n (placed most_processes no_checkpoint (f n).kept) h ∙ b.kept;
      kept_count = drop-set-lt m (with_processes n f s).kept_count n (length (f n).kept) h ∙ b.kept_count;
    }

-- A vector of zeros is zero from any place on.
zeros : (k : ℕ) → zero_from k zero_vector ≡ true
unfolding zero_from
zeros k = every_drop (λ x. eqb x.0 0) k zero_vector (every_replicate (λ x. eqb x.0 0) most_processes (record { 0 = 0 }) refl)

-- A pin that tests as none is none.
pub nothing_is : (pin : Pin) → is_nothing_of pin ≡ true → pin ≡ None
unfolding is_nothing_of
nothing_is None e = refl
nothing_is (Some k) e = never_both false e refl

-- A row of unused pins has none.
nothings : nothing_from 0 no_pins_of ≡ true
unfolding nothing_from is_nothing_of
nothings = every_replicate is_nothing_of most_processes None refl

-- An unused checkpoint holds zero.
checkpoint_unused : unused_checkpoint no_checkpoint ≡ true
unfolding unused_checkpoint
checkpoint_unused = rw (zeros 0)

-- An unused message holds zero.
message_unused : unused_message no_message ≡ true
unfolding unused_message
message_unused = zeros 0

-- After the list that was laid into a table of fixed size every place is unused.
placed_beyond : {A : Type 0} (t : A → Bool) (size : ℕ) (x : A) (l : List A) → t x ≡ true → every t (drop (length l) (placed size x l)) ≡ true
unfolding placed
placed_beyond t size x l e = rw (drop-append_seam l (replicate (size - length l) x)) (every_replicate t (size - length l) x e)

-- A vector of n entries is zero from n on.
vector_beyond : (n : ℕ) (w : ℕ → ℕ) → zero_from n (vector_of n w) ≡ true
unfolding zero_from
vector_beyond n w = every_from (λ x. eqb x.0 0) (record { 0 = 0 }) n (vector_of n w) (λ i a b. rw (entry_past n w i a))

-- Pins from n on are none.
pins_beyond : (r : Ideal) (p : ℕ) → nothing_from r.n (pins_of r p) ≡ true
unfolding nothing_from is_nothing_of
pins_beyond r p = every_from is_nothing_of None r.n (pins_of r p) (λ i a b. rw (pin_past r p i a))

-- What the state holds of the checkpoints of process p.
pub row_is : (r : Ideal) (p : ℕ) → r.n ≤ most_processes → p < r.n → Row (state_of r) p (kept_of r p)
unfolding state_of parts_of with_disk with_messages process_of
row_is r p few hp =
    let w = row_all r.n (process_of r) (blank r.n) p hp (room_blank r.n p (omega arith)) in
    record { many = w.many; row = w.row }

-- From n on every row is as in a state of zeros.
state_beyond : (r : Ideal) → Beyond r.n (state_of r) (blank r.n)
unfolding state_of parts_of with_disk with_messages
state_beyond r =
    let b = beyond_all r.n r.n (process_of r) (blank r.n) (omega arith) in
    record { vectors = b.vectors; pins = b.pins; sent = b.sent; kept = b.kept; kept_count = b.kept_count }

-- Stored vectors are zero from n on.
stored_beyond : (r : Ideal) (p : ℕ) → every (λ c. zero_from r.n c.vector) (kept_of r p) ≡ true
unfolding checkpoint_of
stored_beyond r p = kept_every r p _ (λ k lt e. vector_beyond r.n (r.vector p k))

-- So are the vectors that messages under way carry.
carried_beyond : (r : Ideal) → every (λ x. zero_from (state_of r).count x.vector) (under_way (state_of r)) ≡ true
unfolding messages_of message_of
carried_beyond r = rw (under_way_is r, count_is_lem r) (passing_every _ (suc r.last) r.transit (message_of r) (λ m lt e. vector_beyond r.n (r.carried m)))

-- A row of the run: its vector, its pins and its stored vectors from n on, and the places after its checkpoints.
row_unused_lem : (r : Ideal) (p : ℕ) → r.n ≤ most_processes → p < r.n → row_unused (state_of r) p ≡ true
unfolding row_unused process_of
row_unused_lem r p few hp = rw (
  process_is r p few hp,
  (row_is r p few hp).many,
  (row_is r p few hp).row,
  count_is_lem r,
  vector_beyond r.n (r.vector p (r.own p)),
  pins_beyond r p,
  stored_beyond r p,
  placed_beyond unused_checkpoint most_processes no_checkpoint (kept_of r p) checkpoint_unused,
)

-- And so every row of the run.
rows_unused : (r : Ideal) → r.n ≤ most_processes → all_below (state_of r).count (row_unused (state_of r)) ≡ true
rows_unused r few = all_in (state_of r).count (row_unused (state_of r)) (λ p hp. row_unused_lem r p few (rw (count_is_lem r) at hp))

-- The vectors from row n on are zero.
vectors_unused : (r : Ideal) → every (zero_from 0) (drop (state_of r).count (state_of r).vectors.0) ≡ true
unfolding blank
vectors_unused r = rw (count_is_lem r, (state_beyond r).vectors) (every_drop (zero_from 0) r.n (replicate most_processes zero_vector) (every_replicate (zero_from 0) most_processes zero_vector (zeros 0)))

-- The pins from row n on are none.
pins_unused : (r : Ideal) → every (nothing_from 0) (drop (state_of r).count (state_of r).pins.0) ≡ true
unfolding blank
pins_unused r = rw (count_is_lem r, (state_beyond r).pins) (every_drop (nothing_from 0) r.n (replicate most_processes no_pins_of) (every_replicate (nothing_from 0) most_processes no_pins_of nothings))

-- The sent marks from n on are not set.
sent_unused : (r : Ideal) → every not (drop (state_of r).count (state_of r).sent) ≡ true
unfolding blank
sent_unused r = rw (count_is_lem r, (state_beyond r).sent) (every_drop not r.n (replicate most_processes false) (every_replicate not most_processes false refl))

-- The checkpoints from row n on are unused.
kept_unused : (r : Ideal) → every (every unused_checkpoint) (drop (state_of r).count (state_of r).kept.0) ≡ true
unfolding blank
kept_unused r = rw (count_is_lem r, (state_beyond r).kept) (every_drop (every unused_checkpoint) r.n (replicate most_processes (replicate most_processes no_checkpoint))
    (every_replicate (every unused_checkpoint) most_processes (replicate most_processes no_checkpoint) (every_replicate unused_checkpoint most_processes no_checkpoint checkpoint_unused)))

-- From row n on no checkpoint is held.
kept_count_unused : (r : Ideal) → every (eqb 0) (drop (state_of r).count (state_of r).kept_count) ≡ true
unfolding blank
kept_count_unused r = rw (count_is_lem r, (state_beyond r).kept_count) (every_drop (eqb 0) r.n (replicate most_processes 0) (every_replicate (eqb 0) most_processes 0 refl))

-- The places after the messages under way are unused.
messages_unused : (r : Ideal) → every unused_message (drop (state_of r).underway (state_of r).messages) ≡ true
unfolding state_of parts_of with_disk with_messages
messages_unused r = placed_beyond unused_message most_under_way no_message (messages_of r) message_unused

-- "Unused places hold zero; unused pins, in rows or columns at n and above, are none."
pub unused_sound_lem : (r : Ideal) → r.n ≤ most_processes → unused_sound (state_of r) ≡ true
unfolding unused_sound
unused_sound_lem r few = rw (
  rows_unused r few,
  vectors_unused r,
  pins_unused r,
  sent_unused r,
  kept_unused r,
  kept_count_unused r,
  carried_beyond r,
  messages_unused r,
)
