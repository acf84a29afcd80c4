-- The state that stands for a run is sound, clause by clause: for every run with the invariant that is within the limits.
-- Assumes nothing.
use Rattle.std.specs.Prelude.{◌≡◌, ◌+◌, ◌-◌, ◌≤◌, ◌<◌}
use Rattle.laws.specs.Basics.{refl, ◌∙◌, ap, Bool, true, map, Option, None, Some, ℕ, suc, arith, eqb, ltb, length, get_or, eq-eqb, ne_eqb, lt-ltb, ltb-true, le-leb, by_bool}
use Rattle.laws.specs.{Truth.and_both, Lists.or_else, Lists.last_of, Search.all_below, Search.all_in, Search.any_in, Sums.sum_below, Sums.sum_same, Tests.every}
use Rattle.laws.specs.Elements.{every_table}
use Rattle.model.specs.declared.{Checkpoint.Checkpoint, Message.Message}
use Rattle.model.specs.Words.{most_processes, most_under_way, most_messages, most_blocks, entry, names, is_pinned, Process, blocks_of, no_checkpoint, process, own, under_way}
use Rattle.model.specs.Sound.{count_sound, own_sound, within, vectors_sound, ascending, kept_sound, pin_sound, pins_sound, message_sound, messages_sound, record_sound, kept_blocks, disk_sound, sound}
use Rattle.histories.proofs.{Run.Ideal, Run.keeps, Rule.keeps_in, Invariant.Inv, Invariant.Proper, Line.interval, Line.own_pin, Counted.kept_in}
use Rattle.model.proofs.simulation.View.{vector_of, pin_of_def, pins_of, checkpoint_of, kept_of, process_of, message_of, messages_of, disk_of, state_of, Limits}
use Rattle.model.proofs.simulation.Reads.{entry_is, pin_is, count_is_lem, last_is_lem, disk_is, underway_is, under_way_is, process_is, own_is}
use Rattle.model.proofs.{simulation.Passing.some_passing, simulation.Passing.map_passing, simulation.Rows.pinned_is}
use Rattle.model.proofs.simulation.SoundPassing.{passing_every, passing_ascends}
use Rattle.model.proofs.simulation.Kept.{kept_ascends, kept_every, kept_least, kept_most, kept_last}
use Rattle.model.proofs.{simulation.Billing.blocks_kept, simulation.Billing.count_of, simulation.SoundUnused.row_is, simulation.SoundUnused.unused_sound_lem}

module _ (r : Ideal) (v : Inv r) (fit : Limits r) where
  -- A fact of each process of the run holds of each process that the state counts.
  each : (t : ℕ → Bool) → ((p : ℕ) → p < r.n → t p ≡ true) → all_below (state_of r).count t ≡ true
  each t h = all_in (state_of r).count t (λ p hp. h p (rw (count_is_lem r) at hp))

  -- The own entries of the state are those of the run.
  own_of : (p : ℕ) → p < r.n → own (state_of r) p ≡ record { 0 = r.own p }
  own_of p hp = own_is r p fit.few_processes hp (v.self p (r.own p) (omega arith))

  -- So are the parts of its processes.
  process_of_lem : (p : ℕ) → p < r.n → process (state_of r) p ≡ process_of r p
  process_of_lem p hp = process_is r p fit.few_processes hp

  -- "Count 1 to 16."
  pub count_sound_lem : count_sound (state_of r) ≡ true
  unfolding count_sound
  count_sound_lem = rw (count_is_lem r, le-leb 1 r.n fit.some_process, le-leb r.n most_processes fit.few_processes)

  -- "Own entries at least 1."
  pub own_sound_lem : own_sound (state_of r) ≡ true
  unfolding own_sound
  own_sound_lem = each _ (λ p hp. rw (own_of p hp) (le-leb 1 (r.own p) (v.positive p)))

  -- A vector whose entries are at most the own entries is within the state.
  within_in : (w : ℕ → ℕ) → ((f : ℕ) → f < r.n → w f ≤ r.own f) → within (state_of r) (vector_of r.n w) ≡ true
  unfolding within
  within_in w h = each _ (λ f hf. rw (own_of f hf, entry_is r.n w f fit.few_processes hf) (le-leb (w f) (r.own f) (h f hf)))

  -- What a message under way carries is the vector of an interval of its sender.
  carried_le : (m f : ℕ) → r.transit m ≡ true → f < r.n → r.carried m f ≤ r.own f
  carried_le m f e hf =
      let w = v.underway m e in
      omega (arith, v.carries (r.sender m) w.0 m f w.1 hf, v.present (r.sender m) w.0 f hf (interval r v (r.sender m) w.0 w.1))

  -- A current vector has no entry above an own entry.
  current_within : (p : ℕ) → p < r.n → within (state_of r) (process (state_of r) p).vector ≡ true
  unfolding process_of
  current_within p hp = rw (process_of_lem p hp) (within_in (r.vector p (r.own p)) (λ f hf. v.present p (r.own p) f hf (omega arith)))

  -- Nor has a stored one.
  stored_within : (p : ℕ) → p < r.n → every (λ c. within (state_of r) c.vector) (process (state_of r) p).kept ≡ true
  unfolding process_of checkpoint_of
  stored_within p hp = rw (process_of_lem p hp) (kept_every r p _ (λ k lt e. within_in (r.vector p k) (λ f hf. v.present p k f hf (omega arith))))

  -- Nor has one that a message under way carries.
  carried_within : every (λ x. within (state_of r) x.vector) (under_way (state_of r)) ≡ true
  unfolding messages_of message_of
  carried_within = rw (under_way_is r) (passing_every _ (suc r.last) r.transit (message_of r) (λ m lt e. within_in (r.carried m) (λ f hf. carried_le m f e hf)))

  -- "No vector (current, stored or carried) has an entry for f above f's own current entry."
  pub vectors_sound_lem : vectors_sound (state_of r) ≡ true
  unfolding vectors_sound
  vectors_sound_lem = and_both _ _ (each _ (λ p hp. rw (current_within p hp, stored_within p hp))) carried_within

  -- A kept checkpoint's own entry is its index.
  own_entries : (p : ℕ) → p < r.n → every (λ c. eqb (entry c.vector p).0 c.index.0) (kept_of r p) ≡ true
  unfolding checkpoint_of
  own_entries p hp = kept_every r p _ (λ k lt e. rw (entry_is r.n (r.vector p k) p fit.few_processes hp) (eq-eqb (r.vector p k p) k (v.self p k (omega arith))))

  -- The last kept checkpoint is the last stored one.
  last_stored : (p : ℕ) → p < r.n → eqb (or_else (last_of (kept_of r p)) no_checkpoint).index.0 (r.own p - 1) ≡ true
  unfolding checkpoint_of
  last_stored p hp = rw (kept_last r v p (r.own p - 1) hp (omega (arith, v.positive p))) (eq-eqb (r.own p - 1) (r.own p - 1) refl)

  -- The own pin names it.
  own_pinned : (p : ℕ) → p < r.n → names (get_or (pins_of r p) p None) (record { 0 = r.own p - 1 }) ≡ true
  unfolding pin_of_def
  own_pinned p hp =
      let w = own_pin r v p hp in
      rw (pin_is r p p fit.few_processes hp, w.1) (eq-eqb w.0 (r.own p - 1) (omega (arith, w.2)))

  -- "Each process keeps 1 to n checkpoints, indexes ascending, each one's own entry equal to its index;
  -- the last is the own entry minus 1 and the own pin names it."
  pub kept_sound_lem : (p : ℕ) → p < r.n → kept_sound (state_of r) p ≡ true
  unfolding kept_sound process_of
  kept_sound_lem p hp = rw (
    own_of p hp,
    process_of_lem p hp,
    (row_is r p fit.few_processes hp).many,
    count_is_lem r,
    le-leb 1 (length (kept_of r p)) (kept_least r v p hp),
    le-leb (length (kept_of r p)) r.n (kept_most r p),
    kept_ascends r p,
    own_entries p hp,
    last_stored p hp,
    own_pinned p hp,
  )

  -- A pin names a kept checkpoint.
  pin_sound_lem : (p f : ℕ) (o : Option ℕ) → f < r.n → r.pin p f ≡ o → pin_sound (kept_of r p) (pin_of_def o) ≡ true
  unfolding pin_sound pin_of_def kept_of checkpoint_of
  pin_sound_lem p f None hf e = refl
  pin_sound_lem p f (Some k) hf e =
      some_passing (λ (c : Checkpoint). eqb k c.index.0) (r.own p) (keeps r p) (checkpoint_of r p)
      ∙ any_in (r.own p) _ k (v.pins p f k hf e).below (and_both (keeps r p k) (eqb k k) (keeps_in r p f k hf e) (eq-eqb k k refl))

  -- Every pin is none or names a kept checkpoint.
  pins_hold : (p : ℕ) → every (pin_sound (kept_of r p)) (pins_of r p) ≡ true
  unfolding pins_of pin_sound
  pins_hold p = every_table (pin_sound (kept_of r p)) most_processes _ (λ f lt. by_bool (ltb f r.n)
      (λ e. rw e (pin_sound_lem p f (r.pin p f) (ltb-true f r.n e) refl))
      (λ e. rw e))

  -- Every kept checkpoint is named by a pin.
  all_kept_pinned : (p : ℕ) → every (is_pinned (pins_of r p)) (kept_of r p) ≡ true
  unfolding checkpoint_of
  all_kept_pinned p = kept_every r p (is_pinned (pins_of r p)) (λ k lt e. pinned_is r p (checkpoint_of r p k) fit.few_processes ∙ e)

  -- "Every pin is none or names a kept one; every kept one is pinned."
  pub pins_sound_lem : (p : ℕ) → p < r.n → pins_sound (state_of r) p ≡ true
  unfolding pins_sound process_of
  pins_sound_lem p hp = rw (process_of_lem p hp, pins_hold p, all_kept_pinned p)

  -- A message under way has a number, a sender and a receiver that differ.
  proper_of : (m : ℕ) → r.transit m ≡ true → Proper r m
  proper_of m e = let w = v.underway m e in (v.proper (r.sender m) w.0 m w.1).1

  -- So its message is one that a sound state may hold.
  message_sound_lem : (m : ℕ) → r.transit m ≡ true → message_sound (state_of r) (message_of r m) ≡ true
  unfolding message_sound message_of
  message_sound_lem m e =
      let w = proper_of m e in
      rw (
        count_is_lem r,
        last_is_lem r,
        le-leb m r.last w.used,
        lt-ltb (r.sender m) r.n w.from,
        lt-ltb (r.receiver m) r.n w.to,
        ne_eqb (r.sender m) (r.receiver m) w.apart,
      )

  -- And so is every message under way.
  each_message : every (message_sound (state_of r)) (messages_of r) ≡ true
  unfolding messages_of
  each_message = passing_every _ (suc r.last) r.transit (message_of r) (λ m lt e. message_sound_lem m e)

  -- Their numbers ascend from 1.
  numbers_ascend : ascending 1 (map (λ x. x.number) (messages_of r)) ≡ true
  unfolding messages_of message_of
  numbers_ascend = rw (map_passing (λ (x : Message). x.number) (suc r.last) r.transit (message_of r)) (passing_ascends 1 (suc r.last) r.transit (λ m lt e. (proper_of m e).numbered))

  -- "Messages ascend by number, from 1 to the last used, at most 64; sender and receiver are in the run and differ.
  -- The last used number is at most 1,000,000."
  pub messages_sound_lem : messages_sound (state_of r) ≡ true
  unfolding messages_sound
  messages_sound_lem = rw (
    under_way_is r,
    numbers_ascend,
    each_message,
    underway_is r,
    last_is_lem r,
    le-leb (length (messages_of r)) most_under_way fit.few_messages,
    le-leb r.last most_messages fit.few_numbers,
  )

  -- What each kept checkpoint records is as it must be.
  record_sound_lem : (p k : ℕ) → p < r.n → k < r.own p → record_sound (process_of r p) (checkpoint_of r p k) ≡ true
  unfolding record_sound checkpoint_of
  record_sound_lem p k hp lt = rw (
    lt-ltb k (r.own p) lt,
    fit.ledger.causes p k hp lt,
    fit.ledger.block_counts p hp,
    count_of r v p hp,
    eq-eqb (r.ledger.block_counts p) (r.ledger.block_counts p) refl,
  )

  records_sound : (p : ℕ) → p < r.n → every (record_sound (process (state_of r) p)) (process (state_of r) p).kept ≡ true
  unfolding process_of
  records_sound p hp = rw (process_of_lem p hp) (kept_every r p _ (λ k lt e. record_sound_lem p k hp lt))

  kept_blocks_lem : kept_blocks (state_of r) ≡ kept_in r
  unfolding kept_blocks kept_in process_of
  kept_blocks_lem =
      ap (λ (c : ℕ). sum_below c (λ p. blocks_of (process (state_of r) p).kept)) (count_is_lem r)
      ∙ sum_same r.n _ _ (λ p hp. ap (λ (P : Process). blocks_of P.kept) (process_of_lem p hp) ∙ blocks_kept r p)

  sums : r.ledger.written ≡ kept_in r + (r.ledger.written - kept_in r)
  sums = omega (arith, fit.ledger.paid)

  -- "causes 0 to 2, 0 exactly at index 0, block counts from 1 to 65,535, equal within a process, and that sum, within the bound of 16"
  pub disk_sound_lem : disk_sound (state_of r) ≡ true
  unfolding disk_sound disk_of
  disk_sound_lem = rw (
    each _ records_sound,
    kept_blocks_lem,
    disk_is r,
    eq-eqb r.ledger.written (kept_in r + (r.ledger.written - kept_in r)) sums,
    le-leb r.ledger.written most_blocks fit.ledger.room,
  )

  -- The state that stands for a run is sound.
  pub state_sound : sound (state_of r) ≡ true
  unfolding sound
  state_sound = rw (
    count_sound_lem,
    own_sound_lem,
    vectors_sound_lem,
    each _ (λ p hp. and_both _ _ (kept_sound_lem p hp) (pins_sound_lem p hp)),
    messages_sound_lem,
    unused_sound_lem r fit.few_processes,
    disk_sound_lem,
  )
