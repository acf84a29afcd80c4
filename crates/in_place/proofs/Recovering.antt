-- A recovery that deletes nothing leaves a sound state sound, whether calls led to it or not: a process that goes back keeps its last stored checkpoint, so no own entry
-- falls, and every vector stays within the own entries.
-- Assumes nothing.
use Rattle.std.specs.Prelude.{◌≡◌, ◌&&◌, ◌∷◌, ◌+◌, ◌≤◌, ◌<◌, None, Some}
use Rattle.laws.specs.Basics.{refl, sym, ◌∙◌, ap, Bool, true, false, not, List, [], ℕ, zero, suc, arith, eqb, leb, length, get_or, drop, eq-eqb, eqb-true, lt-ltb, le-ltb, ltb-true, le-leb, leb-true, by_bool, by_eq}
use lib.Dec.{leb-suc-zero}
use lib.ListN.{length-map}
use lib.Seq.{set-get_or, get_or-take, drop-set-lt}
use Rattle.laws.specs.{Elements.every_append, Elements.every_single, Elements.every_from, Elements.every_table, Lists.select, Lists.or_else, Lists.last_of}
use Rattle.laws.specs.{Prefixes.select_none, Prefixes.every_select, Prefixes.every_last, Select.all_chosen, Tables.get_d_table, Tables.length_table, Tests.every}
use Rattle.laws.specs.{Rows.every_at, Rows.every_by, Rows.every_beyond, Rows.every_both, Rows.some_at, Truth.and_out, Truth.and_both}
use Rattle.laws.specs.Sums.{sum_below, sum_none, sum_same, length_gather}
use Rattle.model.specs.declared.{Interval.Interval, CheckpointIndex.CheckpointIndex, Checkpoint.Checkpoint}
use Rattle.model.specs.{declared.Message.Message, declared.Disk.Disk, declared.Run.Run, laws.Sound.SoundProcess, laws.Sound.SoundState, laws.Sound.sound_state}
use Rattle.model.specs.Words.{most_processes, entry, below, last_stored_of, names, is_pinned, Process, live, blocks_of, no_checkpoint, block_count, process, with_process, own, under_way, with_messages, with_disk}
use Rattle.model.specs.Steps.{Deletion, listed, advanced, with_processes, allowed, states, latest_allowed, member, rolled_back, vector_after, not_lost, own_after, latest_pin, moved_pin, pin_after, pins_after, recovered, lost_by, still_under_way, gone_at_of, deleted_at, billed, recover_state, recover_deletions}
use Rattle.model.specs.Sound.{within, pin_sound, message_sound, zero_from, is_nothing_of, nothing_from, record_sound, kept_blocks, sound}
use Rattle.model.proofs.simulation.Parts.{Room, process_all, process_disk}
use Rattle.words_process.specs.receipts.Sized.{Sized}
use Rattle.words_process.proofs.{receipts.Facts.place, receipts.Filled.messages_many, receipts.Filled.row_filled, receipts.Filled.row_many}
use Rattle.in_place.proofs.{Assembling.sound_in, Keeping.every_then, Keeping.record_same}
use Rattle.in_place.proofs.Changing.{within_by, within_at, advanced_own, advanced_within, fewer_stay}

-- Where none fails a test, every one passes.
none_fails : {A : Type 0} (t : A → Bool) (l : List A) → length (select (λ x. not (t x)) l) ≡ 0 → every t l ≡ true
unfolding select every
none_fails t [] h = refl
none_fails t (x ∷ l) h = by_bool (t x)
    (λ e. rw e (none_fails t l (rw e at h)))
    (λ e. absurd (let z : suc (length (select (λ x. not (t x)) l)) ≡ 0 = rw e at h in omega arith))

-- No checkpoints have no blocks, and where none are deleted the disk stays as it is.
no_blocks : (l : List Checkpoint) → length l ≡ 0 → blocks_of l ≡ 0
unfolding blocks_of
no_blocks [] h = refl
no_blocks (x ∷ l) h = absurd (omega (arith, h))

billed_none : (d : Disk) (k : ℕ) → k ≡ 0 → billed d 0 k ≡ d
unfolding billed
billed_none d k h =
    let written : d.written + 0 ≡ d.written = omega arith in
    let deleted : d.deleted + k ≡ d.deleted = omega (arith, h) in
    λ j. record { written = written j; deleted = deleted j }

-- The disk and the messages are put in independently.
disk_first : (s : Run) (l : List Message) (k : ℕ) (d : Disk) → with_disk (with_messages s l k) d ≡ with_messages (with_disk s d) l k
unfolding with_messages with_disk
disk_first s l k d = refl

-- The pin for the last of some checkpoints: it names one of them, and it names the index of the last.
latest_sound : (kept l : List Checkpoint) → every (λ c. pin_sound kept (Some c.index)) l ≡ true → pin_sound kept (latest_pin (last_of l)) ≡ true
unfolding last_of latest_pin every pin_sound
latest_sound kept [] h = refl
latest_sound kept (x ∷ l) h =
    let q = and_out (pin_sound kept (Some x.index)) (every (λ c. pin_sound kept (Some c.index)) l) h in
    every_last (λ c. pin_sound kept (Some c.index)) l x q.1 q.0

latest_names : (l : List Checkpoint) (d : Checkpoint) (a : CheckpointIndex) → 1 ≤ length l → (or_else (last_of l) d).index.0 ≡ a.0 → names (latest_pin (last_of l)) a ≡ true
unfolding last_of latest_pin
latest_names [] d a some-there e = absurd (omega arith)
latest_names (x ∷ l) d a some-there e = eq-eqb (or_else (last_of l) x).index.0 a.0 e

self_sound : (kept : List Checkpoint) → every (λ c. pin_sound kept (Some c.index)) kept ≡ true
unfolding pin_sound
self_sound kept = every_by _ kept no_checkpoint (λ k lt. let a = (get_or kept k no_checkpoint).index in some_at _ kept k no_checkpoint lt (eq-eqb a.0 a.0 refl))

module _ (s : Run) (size : Sized s) (whole : sound s ≡ true) (F : ℕ) (still : (p : ℕ) → p < s.count → length (gone_at_of s F p) ≡ 0) where
  -- One process of the run.
  module _ (p : ℕ) (lt : p < s.count) where
    abbrev q : SoundProcess s p
    q = (sound_state s whole).processes p lt

    abbrev c : Checkpoint
    c = member s F p

    -- no checkpoint is lost, and a pin names each
    stays : every (λ x. leb x.index.0 (member s F p).index.0 && is_pinned (pins_after s F p) x) (process s p).kept ≡ true
    unfolding gone_at_of
    stays = none_fails _ (process s p).kept (still p lt)

    both : (every (λ x. leb x.index.0 (member s F p).index.0) (process s p).kept ≡ true) × (every (is_pinned (pins_after s F p)) (process s p).kept ≡ true)
    both = and_out _ _ (sym (every_both (λ x. leb x.index.0 c.index.0) (is_pinned (pins_after s F p)) (process s p).kept) ∙ stays)

    none_lost : not_lost s F p ≡ (process s p).kept
    unfolding not_lost
    none_lost = all_chosen _ (process s p).kept both.0

    kept_after : (recovered s F p).kept ≡ (process s p).kept
    unfolding recovered
    kept_after = ap (select (is_pinned (pins_after s F p))) none_lost ∙ all_chosen _ (process s p).kept both.1

    -- what holds of every state of the process, and so of its member of the line
    fits : Checkpoint → Bool
    fits x = eqb (length x.vector) most_processes && eqb (entry x.vector p).0 x.index.0 && within s x.vector && zero_from s.count x.vector

    stored_long : (k : ℕ) → k < length (process s p).kept → length (get_or (process s p).kept k no_checkpoint).vector ≡ most_processes
    unfolding process
    stored_long k less =
        let many = row_many s size whole p lt in
        let few = place s whole p lt in
        let kept_count_of_def = ((sound_state s whole).processes p lt).kept_count_most in
        rw (get_or-take (get_or s.kept_count p 0) (get_or s.kept.0 p []) k no_checkpoint (omega (arith, less, many)))
        (size.stored p k few (omega (arith, less, many, kept_count_of_def, (sound_state s whole).count_most)))

    kept_fit : every fits (process s p).kept ≡ true
    unfolding fits
    kept_fit = every_by fits (process s p).kept no_checkpoint (λ k less. and_both _ _ (and_both _ _ (and_both _ _ (eq-eqb _ _ (stored_long k less))
        (every_at (λ x. eqb (entry x.vector p).0 x.index.0) (process s p).kept k no_checkpoint less q.kept_own))
        (every_at (λ x. within s x.vector) (process s p).kept k no_checkpoint less q.stored_within))
        (every_at (λ x. zero_from s.count x.vector) (process s p).kept k no_checkpoint less q.stored_unused))

    vector_long : length (process s p).vector ≡ most_processes
    unfolding process
    vector_long = size.vector_row p (place s whole p lt)

    live_fit : fits (live p (process s p)) ≡ true
    unfolding fits live
    live_fit = and_both _ _ (and_both _ _ (and_both _ _ (eq-eqb _ _ vector_long) (eq-eqb (entry (process s p).vector p).0 (entry (process s p).vector p).0 refl)) q.current_within) q.vector_unused

    member_fit : fits (member s F p) ≡ true
    unfolding member latest_allowed states
    member_fit = every_last fits _ (live p (process s p))
        (every_select fits (allowed s F) _ (every_append fits (process s p).kept (live p (process s p) ∷ []) kept_fit (every_single fits (live p (process s p)) live_fit))) live_fit

    member_parts : (length (member s F p).vector ≡ most_processes) × ((entry (member s F p).vector p).0 ≡ (member s F p).index.0) × (within s (member s F p).vector ≡ true)
        × (zero_from s.count (member s F p).vector ≡ true)
    unfolding fits
    member_parts =
        let z = and_out _ _ member_fit in
        let y = and_out _ _ z.0 in
        let x = and_out _ _ y.0 in
        (eqb-true _ _ x.0, eqb-true _ _ x.1, y.1, z.1)

    -- the own entry after the recovery is one past the member, if the process goes back: and that is the last stored one
    back_own : rolled_back s F p ≡ true → (own_after s F p).0 ≡ (member s F p).index.0 + 1
    unfolding own_after vector_after
    back_own e = rw e (advanced_own c.vector p (omega (arith, member_parts.0, place s whole p lt)) ∙ ap (λ (k : ℕ). k + 1) member_parts.1)

    last_stays : (own s p).0 ≤ (member s F p).index.0 + 1
    last_stays =
        let last = (or_else (last_of (process s p).kept) no_checkpoint).index.0 in
        let passes = every_last (λ x. leb x.index.0 c.index.0) (process s p).kept no_checkpoint both.0 (le-leb 0 c.index.0 (omega arith)) in
        omega (arith, leb-true last c.index.0 passes, q.kept_last)

    goes_back : rolled_back s F p ≡ true → (member s F p).index.0 < (own s p).0
    unfolding rolled_back
    goes_back e = ltb-true c.index.0 (own s p).0 e

    live_own : rolled_back s F p ≡ false → (own_after s F p).0 ≡ (own s p).0
    unfolding own_after vector_after own
    live_own e = rw e

    own_stays : (own_after s F p).0 ≡ (own s p).0
    own_stays = by_bool (rolled_back s F p) (λ e. omega (arith, back_own e, last_stays, goes_back e)) live_own

    -- its vector
    current_within : within s (vector_after s F p) ≡ true
    unfolding vector_after
    current_within = by_bool (rolled_back s F p)
        (λ e. rw e (advanced_within s s p c.vector refl (own_most e) (λ f. omega arith) member_parts.2))
        (λ e. rw e q.current_within)
      where
        own_most : rolled_back s F p ≡ true → (entry (advanced p c.vector) p).0 ≤ (own s p).0
        own_most e = omega (arith, advanced_own c.vector p (omega (arith, member_parts.0, place s whole p lt)), member_parts.1, goes_back e)

    vector_unused : zero_from s.count (vector_after s F p) ≡ true
    unfolding vector_after zero_from advanced
    vector_unused = by_bool (rolled_back s F p)
        (λ e. rw (e, drop-set-lt s.count c.vector p (record { 0 = (entry c.vector p).0 + 1 }) lt) member_parts.3)
        (λ e. rw e q.vector_unused)

    -- its pins
    pin_at : (f : ℕ) → f < most_processes → get_or (pins_after s F p) f None ≡ pin_after s F p f
    unfolding pins_after
    pin_at f less = get_d_table most_processes (pin_after s F p) f None less

    all_below : rolled_back s F p ≡ true → every (λ x. below (entry x.vector p) (own_after s F p)) (process s p).kept ≡ true
    all_below e = every_by _ (process s p).kept no_checkpoint (λ k less.
        let x = get_or (process s p).kept k no_checkpoint in
        let same = eqb-true (entry x.vector p).0 x.index.0 (every_at (λ y. eqb (entry y.vector p).0 y.index.0) (process s p).kept k no_checkpoint less q.kept_own) in
        let most = leb-true x.index.0 c.index.0 (every_at (λ y. leb y.index.0 c.index.0) (process s p).kept k no_checkpoint less both.0) in
        lt-ltb (entry x.vector p).0 (own_after s F p).0 (omega (arith, same, most, back_own e)))

    kept_some : 1 ≤ length (process s p).kept
    kept_some = omega (arith, q.kept_count_some, row_many s size whole p lt)

    moved_own_lem : rolled_back s F p ≡ true → names (moved_pin s F p p) (last_stored_of (own s p)) ≡ true
    unfolding moved_pin
    moved_own_lem e = rw (none_lost, all_chosen (λ x. below (entry x.vector p) (own_after s F p)) (process s p).kept (all_below e))
        (latest_names (process s p).kept no_checkpoint (last_stored_of (own s p)) kept_some q.kept_last)

    own_pin : names (get_or (pins_after s F p) p None) (last_stored_of (own s p)) ≡ true
    unfolding pin_after own_after
    own_pin = rw (pin_at p (place s whole p lt), eq-eqb (entry (vector_after s F p) p).0 (entry (vector_after s F p) p).0 refl)
        (by_bool (rolled_back s F p) (λ e. rw e (moved_own_lem e)) (λ e. rw e q.own_pin))

    moved_sound : (f : ℕ) → pin_sound (process s p).kept (moved_pin s F p f) ≡ true
    unfolding moved_pin
    moved_sound f = rw none_lost (latest_sound (process s p).kept _ (every_select _ _ (process s p).kept (self_sound (process s p).kept)))

    pins_long : length (process s p).pins ≡ most_processes
    unfolding process
    pins_long = size.pin_row p (place s whole p lt)

    pins_kept : every (pin_sound (process s p).kept) (pins_after s F p) ≡ true
    unfolding pins_after pin_after pin_sound
    pins_kept = every_table (pin_sound (process s p).kept) most_processes (pin_after s F p) (λ f less. by_bool (eqb (entry (vector_after s F p) f).0 (own_after s F f).0)
        (λ e. rw e (by_bool (rolled_back s F p)
        (λ r. rw r (moved_sound f))
        (λ r. rw r (every_at _ (process s p).pins f None (omega (arith, less, pins_long)) q.pins_kept))))
        (λ e. rw e))

  -- Past the run every own entry is zero, and stays so.
  module _ (f : ℕ) (past : s.count ≤ f) (less : f < most_processes) where
    row_zero : zero_from 0 (process s f).vector ≡ true
    unfolding process
    row_zero = every_beyond (zero_from 0) s.count s.vectors.0 f [] (sound_state s whole).vectors_beyond past (omega (arith, less, size.vectors))

    own_zero : (own s f).0 ≡ 0
    unfolding own process zero_from
    own_zero = eqb-true _ _ (every_beyond (λ x. eqb x.0 0) 0 (process s f).vector f (record { 0 = 0 }) row_zero (omega arith) (omega (arith, less, size.vector_row f less)))

    nobody : rolled_back s F f ≡ false
    unfolding rolled_back
    nobody = le-ltb (member s F f).index.0 (own s f).0 (omega (arith, own_zero))

    own_past : (own_after s F f).0 ≡ 0
    unfolding own_after vector_after own
    own_past = rw nobody own_zero

  module _ (p : ℕ) (lt : p < s.count) where
    moved_past : (f : ℕ) → s.count ≤ f → f < most_processes → moved_pin s F p f ≡ None
    unfolding moved_pin latest_pin last_of
    moved_past f past less =
        rw (select_none (λ x. below (entry x.vector f) (own_after s F f)) (not_lost s F p) (λ x. rw (own_past f past less) (leb-suc-zero (entry x.vector f).0)))

    pin_past : (f : ℕ) → s.count ≤ f → f < most_processes → is_nothing_of (pin_after s F p f) ≡ true
    unfolding pin_after is_nothing_of nothing_from
    pin_past f past less = by_bool (eqb (entry (vector_after s F p) f).0 (own_after s F f).0)
        (λ e. rw e (by_bool (rolled_back s F p)
        (λ r. rw (r, moved_past f past less))
        (λ r. rw r old)))
        (λ e. rw e)
      where
        old : is_nothing_of (get_or (process s p).pins f None) ≡ true
        old = every_beyond is_nothing_of s.count (process s p).pins f None ((sound_state s whole).processes p lt).pins_unused past (omega (arith, less, pins_long p lt))

    pins_unused : nothing_from s.count (pins_after s F p) ≡ true
    unfolding nothing_from pins_after
    pins_unused = every_from is_nothing_of None s.count (pins_after s F p) (λ f past less.
        let inside : f < most_processes = omega (arith, less, length_table most_processes (pin_after s F p)) in
        ap is_nothing_of (pin_at p lt f inside) ∙ pin_past f past inside)

  -- The state with the parts of some processes as they are after the recovery. What is not theirs stays, and so do the kept checkpoints.
  record Apart (t : Run) : Type 0 where
    count : t.count ≡ s.count
    vectors : drop s.count t.vectors.0 ≡ drop s.count s.vectors.0
    pins : drop s.count t.pins.0 ≡ drop s.count s.pins.0
    sent : drop s.count t.sent ≡ drop s.count s.sent
    kept : t.kept.0 ≡ s.kept.0
    kept_count : t.kept_count ≡ s.kept_count
    messages : t.messages ≡ s.messages
    underway : t.underway ≡ s.underway
    last : t.last ≡ s.last

  apart : (k : ℕ) → k ≤ s.count → Apart (with_processes k (recovered s F) s)
  unfolding with_processes with_process
  apart zero le = record { count = refl; vectors = refl; pins = refl; sent = refl; kept = refl; kept_count = refl; messages = refl; underway = refl; last = refl }
  apart (suc k) le =
      let t = with_processes k (recovered s F) s in
      let b = apart k (omega arith) in
      let same = kept_after k le in
      record {
        count = b.count;
        vectors = drop-set-lt s.count t.vectors.0 k (recovered s F k).vector le ∙ b.vectors;
        pins = drop-set-lt s.count t.pins.0 k (recovered s F k).pins le ∙ b.pins;
        sent = drop-set-lt s.count t.sent k (recovered s F k).mark le ∙ b.sent;
        kept = rw (b.kept, same, ← row_filled s size whole k le) (set-get_or s.kept.0 k []);
        kept_count = rw (b.kept_count, same, row_many s size whole k le) (set-get_or s.kept_count k 0);
        messages = b.messages;
        underway = b.underway;
        last = b.last;
      }

  -- The state with the parts of all processes, and the same blocks.
  abbrev t : Run
  t = with_disk (with_processes s.count (recovered s F) s) s.disk

  same : Apart t
  unfolding with_disk
  same =
      let b = apart s.count (omega arith) in
      record {
        count = b.count;
        vectors = b.vectors;
        pins = b.pins;
        sent = b.sent;
        kept = b.kept;
        kept_count = b.kept_count;
        messages = b.messages;
        underway = b.underway;
        last = b.last;
      }

  module _ (p : ℕ) (lt : p < s.count) where
    room : Room s p
    room =
        let inside = place s whole p lt in
        record {
          vectors = omega (arith, inside, size.vectors);
          pins = omega (arith, inside, size.pins);
          sent = omega (arith, inside, size.sent);
          kept = omega (arith, inside, size.kept);
          kept_count = omega (arith, inside, size.kept_count);
        }

    part : process t p ≡ recovered s F p
    part = process_disk (with_processes s.count (recovered s F) s) s.disk p ∙ process_all s.count (recovered s F) s p lt room

    vector_then : (process t p).vector ≡ vector_after s F p
    unfolding recovered
    vector_then = ap (λ (P : Process). P.vector) part

    pins_then : (process t p).pins ≡ pins_after s F p
    unfolding recovered
    pins_then = ap (λ (P : Process). P.pins) part

    kept_then : (process t p).kept ≡ (process s p).kept
    kept_then = ap (λ (P : Process). P.kept) part ∙ kept_after p lt

    blocks_then : block_count (process t p) ≡ block_count (process s p)
    unfolding block_count
    blocks_then = rw kept_then

    own_then : own t p ≡ own s p
    unfolding own own_after
    own_then = ap (λ (v : List Interval). entry v p) vector_then ∙ ap (λ (k : ℕ). record { 0 = k }) (own_stays p lt)

  within_then : (v : List Interval) → within s v ≡ true → within t v ≡ true
  within_then v e = within_by t v (λ f less.
      let inside : f < s.count = omega (arith, less, same.count) in
      omega (arith, within_at s v e f inside, ap (λ (x : Interval). x.0) (own_then f inside)))

  sound_part : (p : ℕ) (lt : p < s.count) → SoundProcess t p
  sound_part p lt =
      let q = (sound_state s whole).processes p lt in
      let P = process s p in
      let count = same.count in
      record {
        own_some = rw (own_then p lt) q.own_some;
        current_within = rw (vector_then p lt) (within_then (vector_after s F p) (current_within p lt));
        stored_within = rw (kept_then p lt) (every_then _ _ P.kept (λ x. within_then x.vector) q.stored_within);
        kept_count_some = rw same.kept_count q.kept_count_some;
        kept_count_most = rw (count, same.kept_count) q.kept_count_most;
        kept_ascend = rw (kept_then p lt) q.kept_ascend;
        kept_own = rw (kept_then p lt) q.kept_own;
        kept_last = rw (kept_then p lt, own_then p lt) q.kept_last;
        own_pin = rw (pins_then p lt, own_then p lt) (own_pin p lt);
        pins_kept = rw (kept_then p lt, pins_then p lt) (pins_kept p lt);
        kept_pinned = rw (kept_then p lt, pins_then p lt) (both p lt).1;
        vector_unused = rw (vector_then p lt, count) (vector_unused p lt);
        pins_unused = rw (pins_then p lt, count) (pins_unused p lt);
        stored_unused = rw (kept_then p lt, count) q.stored_unused;
        row_unused_lem = rw (same.kept_count, same.kept) q.row_unused_lem;
        records_sound = ap (every (record_sound (process t p))) (kept_then p lt) ∙ every_then _ _ P.kept (λ x e. record_same (process t p) P (blocks_then p lt) x ∙ e) q.records_sound;
      }

  blocks_sum : kept_blocks t ≡ kept_blocks s
  unfolding kept_blocks
  blocks_sum =
      ap (λ (n : ℕ). sum_below n (λ p. blocks_of (process t p).kept)) same.count
      ∙ sum_same s.count (λ p. blocks_of (process t p).kept) (λ p. blocks_of (process s p).kept) (λ p lt. ap blocks_of (kept_then p lt))

  messages_same : under_way t ≡ under_way s
  unfolding under_way
  messages_same = rw (same.messages, same.underway)

  disk_then_lem : t.disk ≡ s.disk
  unfolding with_disk
  disk_then_lem = refl

  sound_parts : SoundState t
  unfolding message_sound
  sound_parts =
      let h = sound_state s whole in
      let count = same.count in
      record {
        count_some = rw count h.count_some;
        count_most = rw count h.count_most;
        processes = λ p lt. sound_part p (omega (arith, lt, count));
        carried_within = rw messages_same (every_then _ _ (under_way s) (λ x. within_then x.vector) h.carried_within);
        underway_most = rw same.underway h.underway_most;
        messages_ascend = rw messages_same h.messages_ascend;
        messages_sound_lem = rw (messages_same, same.last, count) h.messages_sound_lem;
        last_most = rw same.last h.last_most;
        vectors_beyond = rw (count, same.vectors) h.vectors_beyond;
        pins_beyond = rw (count, same.pins) h.pins_beyond;
        sent_beyond = rw (count, same.sent) h.sent_beyond;
        kept_beyond = rw (count, same.kept) h.kept_beyond;
        kept_count_beyond = rw (count, same.kept_count) h.kept_count_beyond;
        carried_unused = rw (messages_same, count) h.carried_unused;
        messages_unused = rw (same.underway, same.messages) h.messages_unused;
        written_sum = rw (blocks_sum, disk_then_lem) h.written_sum;
        written_most = rw disk_then_lem h.written_most;
      }

  -- No block is deleted, and no message is new.
  none_deleted : billed s.disk 0 (sum_below s.count (λ p. blocks_of (gone_at_of s F p))) ≡ s.disk
  none_deleted = billed_none s.disk _ (sum_none s.count (λ p. blocks_of (gone_at_of s F p)) (λ p lt. no_blocks (gone_at_of s F p) (still p lt)))

  recovered_is : recover_state s F ≡ with_messages t (select (λ x. not (lost_by s F x)) (under_way t)) t.last
  unfolding recover_state still_under_way
  recovered_is =
      disk_first (with_processes s.count (recovered s F) s) _ s.last _
      ∙ (λ j. with_messages (with_disk (with_processes s.count (recovered s F) s) (none_deleted j)) (select (λ x. not (lost_by s F x)) (sym messages_same j)) (sym same.last j))

  still_sound : sound (recover_state s F) ≡ true
  still_sound = ap sound recovered_is ∙ sound_in _ (fewer_stay t sound_parts (omega (arith, ap length messages_same, messages_many s size whole, (sound_state s whole).underway_most)) (λ x. not (lost_by s F x)))

-- Where the lists of deletions are empty together, each is.
sum_zero : (n : ℕ) (f : ℕ → ℕ) → sum_below n f ≡ 0 → (k : ℕ) → k < n → f k ≡ 0
unfolding sum_below
sum_zero zero f h k lt = absurd (omega arith)
sum_zero (suc n) f h k lt = by_eq k n (λ e. rw e (omega (arith, h))) (λ ne. sum_zero n f (omega (arith, h)) k (omega (arith, lt)))

none_at : (s : Run) (F : ℕ) → length (recover_deletions s F) ≡ 0 → (p : ℕ) → p < s.count → length (gone_at_of s F p) ≡ 0
unfolding recover_deletions deleted_at listed
none_at s F h p lt =
    sym (length-map {B = Deletion} (gone_at_of s F p) (λ c. record { process = p; index = c.index }))
    ∙ sum_zero s.count (λ p. length (deleted_at s F p)) (sym (length_gather s.count (deleted_at s F)) ∙ h) p lt

pub recover_sound : (s : Run) → Sized s → sound s ≡ true → (F : ℕ) → length (recover_deletions s F) ≡ 0 → sound (recover_state s F) ≡ true
recover_sound s size whole F h = still_sound s size whole F (none_at s F h)
