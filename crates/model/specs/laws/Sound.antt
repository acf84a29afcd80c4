-- A sound state taken apart: what each clause of document 01's "A sound state" says, by name. Here alone `sound` is opened.
-- Assumes nothing.
use Rattle.std.specs.Prelude.{◌≡◌, ◌&&◌, ◌+◌, ◌≤◌, ◌<◌, None}
use Rattle.laws.specs.Basics.{true, not, [], map, ℕ, eqb, leb, get_or, drop, eqb-true, eqb-false, ltb-true, leb-true, not-true}
use Rattle.laws.specs.{Lists.or_else, Lists.last_of, Search.all_below, Search.all_out, Tests.every, Truth.and_out}
use Rattle.model.specs.declared.{Message.Message, Run.Run}
use Rattle.model.specs.Words.{most_processes, most_under_way, most_messages, most_blocks, entry, last_stored_of, names, is_pinned, no_checkpoint, process, own, under_way}
use Rattle.model.specs.Sound.{count_sound, own_sound, within, vectors_sound, ascending, kept_sound, pin_sound, pins_sound, message_sound, messages_sound, zero_from, unused_checkpoint, unused_message, nothing_from, row_unused, unused_sound, record_sound, kept_blocks, disk_sound, sound}

-- What a sound state holds of process p.
pub record SoundProcess (s : Run) (p : ℕ) : Type 0 where
  -- "Own entries at least 1."
  pub own_some : 1 ≤ (own s p).0
  -- "No vector (current, stored ..) has an entry for f above f's own current entry."
  pub current_within : within s (process s p).vector ≡ true
  pub stored_within : every (λ c. within s c.vector) (process s p).kept ≡ true
  -- "Each process keeps 1 to n checkpoints, indexes ascending, each one's own entry equal to its index; the last is the own entry minus 1 and the own
  -- pin names it."
  pub kept_count_some : 1 ≤ get_or s.kept_count p 0
  pub kept_count_most : get_or s.kept_count p 0 ≤ s.count
  pub kept_ascend : ascending 0 (map (λ c. c.index.0) (process s p).kept) ≡ true
  pub kept_own : every (λ c. eqb (entry c.vector p).0 c.index.0) (process s p).kept ≡ true
  pub kept_last : (or_else (last_of (process s p).kept) no_checkpoint).index.0 ≡ (last_stored_of (own s p)).0
  pub own_pin : names (get_or (process s p).pins p None) (last_stored_of (own s p)) ≡ true
  -- "Every pin is none or names a kept one; every kept one is pinned."
  pub pins_kept : every (pin_sound (process s p).kept) (process s p).pins ≡ true
  pub kept_pinned : every (is_pinned (process s p).pins) (process s p).kept ≡ true
  -- "Unused places hold zero; unused pins .. are none."
  pub vector_unused : zero_from s.count (process s p).vector ≡ true
  pub pins_unused : nothing_from s.count (process s p).pins ≡ true
  pub stored_unused : every (λ c. zero_from s.count c.vector) (process s p).kept ≡ true
  pub row_unused_lem : every unused_checkpoint (drop (get_or s.kept_count p 0) (get_or s.kept.0 p [])) ≡ true
  -- Note 5: "causes 0 to 2, 0 exactly at index 0, block counts from 1 to 65,535, equal within a process"
  pub records_sound : every (record_sound (process s p)) (process s p).kept ≡ true

-- What a sound state holds.
pub record SoundState (s : Run) : Type 0 where
  -- "Count 1 to 16."
  pub count_some : 1 ≤ s.count
  pub count_most : s.count ≤ most_processes
  pub processes : (p : ℕ) → p < s.count → SoundProcess s p
  -- "No vector (.. carried) has an entry for f above f's own current entry."
  pub carried_within : every (λ x. within s x.vector) (under_way s) ≡ true
  -- "Messages ascend by number, from 1 to the last used, at most 64; sender and receiver are in the run and differ. The last used number is at most
  -- 1,000,000."
  pub underway_most : s.underway ≤ most_under_way
  pub messages_ascend : ascending 1 (map (λ x. x.number) (under_way s)) ≡ true
  pub messages_sound_lem : every (message_sound s) (under_way s) ≡ true
  pub last_most : s.last ≤ most_messages
  -- "Unused places hold zero; unused pins, in rows .. at n and above, are none."
  pub vectors_beyond : every (zero_from 0) (drop s.count s.vectors.0) ≡ true
  pub pins_beyond : every (nothing_from 0) (drop s.count s.pins.0) ≡ true
  pub sent_beyond : every not (drop s.count s.sent) ≡ true
  pub kept_beyond : every (every unused_checkpoint) (drop s.count s.kept.0) ≡ true
  pub kept_count_beyond : every (eqb 0) (drop s.count s.kept_count) ≡ true
  pub carried_unused : every (λ x. zero_from s.count x.vector) (under_way s) ≡ true
  pub messages_unused : every unused_message (drop s.underway s.messages) ≡ true
  -- Note 5: ".. and that sum, within the bound of 16"
  pub written_sum : s.disk.written ≡ kept_blocks s + s.disk.deleted
  pub written_most : s.disk.written ≤ most_blocks

-- What a sound state holds of a message under way.
pub record SoundMessage (s : Run) (x : Message) : Type 0 where
  pub numbered : x.number ≤ s.last
  pub from : x.sender < s.count
  pub to : x.receiver < s.count
  pub apart : x.sender ≡ x.receiver → ⊥

pub sound_message : (s : Run) (x : Message) → message_sound s x ≡ true → SoundMessage s x
unfolding message_sound
sound_message s x h =
    let a = and_out _ _ h in
    let b = and_out _ _ a.0 in
    let c = and_out _ _ b.0 in
    record { numbered = leb-true _ _ c.0; from = ltb-true _ _ c.1; to = ltb-true _ _ b.1; apart = eqb-false _ _ (not-true _ a.1) }

-- The definitions taken apart, each from its last test to its first.
module _ (s : Run) (h : sound s ≡ true) where
  clauses : (count_sound s ≡ true) × (own_sound s ≡ true) × (vectors_sound s ≡ true) × (all_below s.count (λ p. kept_sound s p && pins_sound s p) ≡ true)
      × (messages_sound s ≡ true) × (unused_sound s ≡ true) × (disk_sound s ≡ true)
  unfolding sound
  clauses =
      let g = and_out _ (disk_sound s) h in
      let f = and_out _ (unused_sound s) g.0 in
      let e = and_out _ (messages_sound s) f.0 in
      let d = and_out _ (all_below s.count (λ p. kept_sound s p && pins_sound s p)) e.0 in
      let c = and_out _ (vectors_sound s) d.0 in
      let b = and_out (count_sound s) (own_sound s) c.0 in
      (b.0, b.1, c.1, d.1, e.1, f.1, g.1)

  vectors_clauses : (all_below s.count (λ p. within s (process s p).vector && every (λ c. within s c.vector) (process s p).kept) ≡ true)
      × (every (λ x. within s x.vector) (under_way s) ≡ true)
  unfolding vectors_sound
  vectors_clauses = and_out (all_below s.count (λ p. within s (process s p).vector && every (λ c. within s c.vector) (process s p).kept)) _ clauses.2

  disk_clauses : (all_below s.count (λ p. every (record_sound (process s p)) (process s p).kept) ≡ true)
      × (s.disk.written ≡ kept_blocks s + s.disk.deleted) × (s.disk.written ≤ most_blocks)
  unfolding disk_sound
  disk_clauses =
      let b = and_out _ _ clauses.6 in
      let a = and_out (all_below s.count (λ p. every (record_sound (process s p)) (process s p).kept)) _ b.0 in
      (a.0, eqb-true _ _ a.1, leb-true _ _ b.1)

  sound_process : all_below s.count (row_unused s) ≡ true → (p : ℕ) → p < s.count → SoundProcess s p
  unfolding own_sound kept_sound pins_sound row_unused
  sound_process unused p lt =
      let vectors = and_out _ _ (all_out s.count (λ p. within s (process s p).vector && every (λ c. within s c.vector) (process s p).kept) vectors_clauses.0 p lt) in
      let rows = and_out (kept_sound s p) (pins_sound s p) (all_out s.count (λ p. kept_sound s p && pins_sound s p) clauses.3 p lt) in
      let f = and_out _ _ rows.0 in
      let e = and_out _ _ f.0 in
      let d = and_out _ _ e.0 in
      let c = and_out _ _ d.0 in
      let b = and_out _ _ c.0 in
      let pins = and_out _ _ rows.1 in
      let z = and_out _ _ (all_out s.count (row_unused s) unused p lt) in
      let y = and_out _ _ z.0 in
      let x = and_out _ _ y.0 in
      record {
        own_some = leb-true _ _ (all_out s.count (λ p. leb 1 (own s p).0) clauses.1 p lt);
        current_within = vectors.0;
        stored_within = vectors.1;
        kept_count_some = leb-true _ _ b.0;
        kept_count_most = leb-true _ _ b.1;
        kept_ascend = c.1;
        kept_own = d.1;
        kept_last = eqb-true _ _ e.1;
        own_pin = f.1;
        pins_kept = pins.0;
        kept_pinned = pins.1;
        vector_unused = x.0;
        pins_unused = x.1;
        stored_unused = y.1;
        row_unused_lem = z.1;
        records_sound = all_out s.count (λ p. every (record_sound (process s p)) (process s p).kept) disk_clauses.0 p lt;
      }

  pub sound_state : SoundState s
  unfolding count_sound messages_sound unused_sound
  sound_state =
      let count = and_out _ _ clauses.0 in
      let d = and_out _ _ clauses.4 in
      let c = and_out _ _ d.0 in
      let b = and_out _ _ c.0 in
      let z = and_out _ _ clauses.5 in
      let y = and_out _ _ z.0 in
      let x = and_out _ _ y.0 in
      let w = and_out _ _ x.0 in
      let v = and_out _ _ w.0 in
      let u = and_out _ _ v.0 in
      let t = and_out (all_below s.count (row_unused s)) _ u.0 in
      record {
        count_some = leb-true _ _ count.0;
        count_most = leb-true _ _ count.1;
        processes = sound_process t.0;
        carried_within = vectors_clauses.1;
        underway_most = leb-true _ _ b.0;
        messages_ascend = b.1;
        messages_sound_lem = c.1;
        last_most = leb-true _ _ d.1;
        vectors_beyond = t.1;
        pins_beyond = u.1;
        sent_beyond = v.1;
        kept_beyond = w.1;
        kept_count_beyond = x.1;
        carried_unused = y.1;
        messages_unused = z.1;
        written_sum = disk_clauses.1;
        written_most = disk_clauses.2;
      }
