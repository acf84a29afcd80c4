-- A checkpoint, a send, a delivery, a loss and a recovery that deletes nothing leave a sound state sound, whether calls led to it or not. So a state needs no test after
-- them.
-- Assumes nothing.
use Rattle.std.specs.Prelude.{◌≡◌, ◌∷◌, ◌++◌, ◌+◌, ◌≤◌, ◌<◌}
use Rattle.laws.specs.Basics.{refl, ◌∙◌, ap, Bool, true, not, List, [], map, ℕ, suc, arith, eqb, ltb, leb, length, length-append, ne_eqb, lt-ltb, le-ltb, ltb-true, le-leb, pick, by_bool}
use Rattle.laws.specs.{Elements.every_append, Elements.every_single, Lists.select, Prefixes.every_select, Rows.every_map, Select.map_append, Tables.get_d_table}
use Rattle.laws.specs.{Tests.every, Truth.and_out, Truth.and_both}
use Rattle.model.specs.declared.{Interval.Interval, Checkpoint.Checkpoint, Message.Message, Disk.Disk, Run.Run}
use Rattle.model.specs.Words.{most_processes, most_under_way, most_messages, most_blocks, basic, forced, entry, below, is_pinned, Process, blocks_of, block_count, process, with_process, own, under_way, with_messages, with_disk}
use Rattle.model.specs.Steps.{settled, gone, billed, advanced, storing, checkpointed, checkpoint_state, sent_message, marked, send_state, found, others, forces, taken_entry, taken_vector, taken_in, delivered, deliver_state, lose_state}
use Rattle.model.specs.{Sound.within, Sound.ascending, Sound.message_sound, Sound.zero_from, Sound.record_sound, Sound.sound, laws.Refusals.by_refusal}
use Rattle.model.specs.Refusals.{checkpoint_refusal, send_refusal, deliver_refusal, lose_refusal, recover_refusal}
use Rattle.model.specs.laws.Sound.{SoundState, sound_state, sound_message}
use Rattle.model.proofs.simulation.Accepted.{checkpoint_out, send_out, deliver_out}
use Rattle.whole_runs.specs.Outcomes.{message, checkpoint_outcome, send_outcome, deliver_outcome, lose_outcome, recover_outcome, recover_report}
use Rattle.whole_runs.proofs.Sizes.{last_passes}
use Rattle.words_process.specs.receipts.Sized.{Sized}
use Rattle.words_process.proofs.receipts.Filled.{messages_many}
use Rattle.words.specs.Layout.{run_of}
use Rattle.words_sound.proofs.Clauses.{blocks_append}
use Rattle.in_place.specs.Staying.{CallsKeepSound}
use Rattle.in_place.proofs.{Assembling.sound_in, Receiving.sized, Recovering.recover_sound}
use Rattle.in_place.proofs.Changing.{within_by, within_at, advanced_own, advanced_within, part_fine, messages_stay, fewer_stay, own_then, own_rises, within_rises, process_stays}
use Rattle.in_place.proofs.Keeping.{every_then, Loose, Fine, loose_rise, stored_loose, taken_loose, settled_fine}

-- Entries of a vector after a carried one is taken in.
taken_at : (v carried : List Interval) (f : ℕ) → f < most_processes → entry (taken_vector v carried) f ≡ pick (below (entry v f) (entry carried f)) (entry carried f) (entry v f)
unfolding taken_vector taken_entry
taken_at v carried f lt = get_d_table 16 (taken_entry v carried) f (record { 0 = 0 }) lt

taken_own : (v carried : List Interval) (i : ℕ) → i < most_processes → (entry carried i).0 ≤ (entry v i).0 → entry (taken_vector v carried) i ≡ entry v i
taken_own v carried i lt low = taken_at v carried i lt ∙ rw (le-ltb (entry v i).0 (entry carried i).0 low)

-- It has no entry above an own entry.
taken_within : (t : Run) (a b : List Interval) → t.count ≤ most_processes → within t a ≡ true → within t b ≡ true → within t (taken_vector a b) ≡ true
taken_within t a b few p q = within_by t (taken_vector a b) (λ f lt. rw (taken_at a b f (omega (arith, lt, few))) (by_bool (below (entry a f) (entry b f))
    (λ e. rw e (within_at t b q f lt))
    (λ e. rw e (within_at t a p f lt))))

-- Blocks of what is kept and of what is deleted.
blocks_split : (t : Checkpoint → Bool) (l : List Checkpoint) → blocks_of (select t l) + blocks_of (select (λ c. not (t c)) l) ≡ blocks_of l
unfolding blocks_of select
blocks_split t [] = refl
blocks_split t (c ∷ l) = by_bool (t c) (λ e. rw e (omega (arith, blocks_split t l))) (λ e. rw e (omega (arith, blocks_split t l)))

stored_blocks : (cause i : ℕ) (P : Process) → blocks_of (checkpointed cause i P).kept ≡ blocks_of P.kept + block_count P
unfolding checkpointed storing
stored_blocks cause i P = blocks_append P.kept (storing cause i P)

-- Numbers that ascend, and a greater one after them.
ascending_after : (low : ℕ) (l : List ℕ) (x : ℕ) → ascending low l ≡ true → every (λ y. ltb y x) l ≡ true → low ≤ x → ascending low (l ++ (x ∷ [])) ≡ true
unfolding ascending every
ascending_after low [] x h e le = and_both (leb low x) true (le-leb low x le) refl
ascending_after low (y ∷ l) x h e le =
    let p = and_out (leb low y) (ascending (suc y) l) h in
    let q = and_out (ltb y x) (every (λ z. ltb z x) l) e in
    and_both (leb low y) (ascending (suc y) (l ++ (x ∷ []))) p.0 (ascending_after (suc y) l x p.1 q.1 (ltb-true y x q.0))

module _ (s : Run) (size : Sized s) (whole : sound s ≡ true) where
  lose_sound : (m : ℕ) → sound (lose_state s m) ≡ true
  unfolding lose_state others
  lose_sound m = sound_in _ (fewer_stay s (sound_state s whole) few (λ x. not (eqb x.number m)))
    where
      few : length (under_way s) ≤ most_under_way
      few = omega (arith, messages_many s size whole, (sound_state s whole).underway_most)

  -- one process's part changes to R, of which what no pin names is deleted, and that many blocks are written
  module _ (i : ℕ) (inside : i < s.count) (R : Process) (wrote : ℕ) where
    abbrev after : Run
    after = with_disk (with_process s i (settled R)) (billed s.disk wrote (blocks_of (gone R)))

    settled_stays : (own s i).0 ≤ (entry (settled R).vector i).0
        → Loose s.count (within (with_disk (with_process s i (settled R)) (billed s.disk wrote (blocks_of (gone R))))) i (process s i) R
        → blocks_of R.kept ≡ blocks_of (process s i).kept + wrote → s.disk.written + wrote ≤ most_blocks
        → SoundState (with_disk (with_process s i (settled R)) (billed s.disk wrote (blocks_of (gone R))))
    unfolding settled gone billed
    settled_stays rises loose blocks most =
        process_stays s size whole i inside (settled R) (billed s.disk wrote (blocks_of (gone R))) rises
        (settled_fine s.count (within after) i (process s i) R loose inside (sound_state s whole).count_most)
        (omega (arith, blocks, blocks_split (is_pinned R.pins) R.kept)) most

    count_after : (with_disk (with_process s i (settled R)) (billed s.disk wrote (blocks_of (gone R)))).count ≡ s.count
    unfolding with_process with_disk
    count_after = refl

    -- a checkpoint is stored in it first
    stored_in : (cause : ℕ) → (1 ≤ cause) × (cause ≤ 2) → (own s i).0 ≤ (entry (settled R).vector i).0 → (entry (advanced i (process s i).vector) i).0 ≤ (entry (settled R).vector i).0
        → Loose s.count (within (with_disk (with_process s i (settled R)) (billed s.disk wrote (blocks_of (gone R))))) i (process s i) (checkpointed cause i (process s i))
    stored_in cause caused rises most =
        let D = billed s.disk wrote (blocks_of (gone R)) in
        let P = process s i in
        let q = (part_fine s size whole i inside).loose in
        let own_most = ap (λ (x : Interval). x.0) (own_then s size whole i inside (settled R) D) in
        stored_loose s.count (within s) (within after) i cause P q inside (sound_state s whole).count_most (within_rises s size whole i inside (settled R) D rises)
        (advanced_within s after i P.vector count_after (omega (arith, own_most, most)) (own_rises s size whole i inside (settled R) D rises) q.current_within) caused

    -- or not
    kept_in : (own s i).0 ≤ (entry (settled R).vector i).0
        → Loose s.count (within (with_disk (with_process s i (settled R)) (billed s.disk wrote (blocks_of (gone R))))) i (process s i) (process s i)
    kept_in rises =
        loose_rise s.count (within s) (within after) i (process s i) (process s i)
        (within_rises s size whole i inside (settled R) (billed s.disk wrote (blocks_of (gone R))) rises) (part_fine s size whole i inside).loose

  vector_there : (i : ℕ) → i < s.count → i < length (process s i).vector
  vector_there i inside = omega (arith, (part_fine s size whole i inside).loose.vector_long, (sound_state s whole).count_most)

  checkpoint_sound : (i : ℕ) → i < s.count → s.disk.written + block_count (process s i) ≤ most_blocks → sound (checkpoint_state s i) ≡ true
  unfolding checkpoint_state settled checkpointed own
  checkpoint_sound i inside most =
      let P = process s i in
      let R = checkpointed basic i P in
      let next = advanced_own P.vector i (vector_there i inside) in
      let rises : (own s i).0 ≤ (entry (advanced i P.vector) i).0 = omega (arith, next) in
      sound_in _ (settled_stays i inside R (block_count P) rises (stored_in i inside R (block_count P) basic (omega arith, omega arith) rises (omega arith)) (stored_blocks basic i P) most)

  -- a vector is taken in by A, which is the part of process i or that part with a checkpoint stored
  module _ (i : ℕ) (inside : i < s.count) (carried : List Interval) (zeros : zero_from s.count carried ≡ true) (within-s : within s carried ≡ true) (A : Process) (wrote : ℕ) where
    abbrev R : Process
    R = taken_in i carried A

    abbrev D : Disk
    D = billed s.disk wrote (blocks_of (gone (taken_in i carried A)))

    low : (own s i).0 ≤ (entry A.vector i).0 → (entry carried i).0 ≤ (entry A.vector i).0
    low rise = omega (arith, rise, within_at s carried within-s i inside)

    taken_entry_lem : (own s i).0 ≤ (entry A.vector i).0 → (entry (settled (taken_in i carried A)).vector i).0 ≡ (entry A.vector i).0
    unfolding settled taken_in
    taken_entry_lem rise = ap (λ (x : Interval). x.0) (taken_own A.vector carried i (omega (arith, inside, (sound_state s whole).count_most)) (low rise))

    same_kept : blocks_of (taken_in i carried A).kept ≡ blocks_of A.kept
    unfolding taken_in
    same_kept = refl

    taken_stays : (rise : (own s i).0 ≤ (entry A.vector i).0)
        → Loose s.count (within (with_disk (with_process s i (settled (taken_in i carried A))) (billed s.disk wrote (blocks_of (gone (taken_in i carried A)))))) i (process s i) A
        → blocks_of A.kept ≡ blocks_of (process s i).kept + wrote → s.disk.written + wrote ≤ most_blocks
        → SoundState (with_disk (with_process s i (settled (taken_in i carried A))) (billed s.disk wrote (blocks_of (gone (taken_in i carried A)))))
    taken_stays rise loose blocks most =
        let few = (sound_state s whole).count_most in
        let rises : (own s i).0 ≤ (entry (settled (taken_in i carried A)).vector i).0 = omega (arith, rise, taken_entry_lem rise) in
        let t = with_disk (with_process s i (settled R)) D in
        let carried_in = within_rises s size whole i inside (settled R) D rises carried within-s in
        settled_stays i inside R wrote rises
        (taken_loose s.count (within t) i carried (process s i) A loose inside few zeros (low rise)
        (taken_within t A.vector carried (omega (arith, few, count_after i inside R wrote)) loose.current_within carried_in))
        (same_kept ∙ blocks) most

  -- a message is delivered
  module _ (x : Message) (to : x.receiver < s.count) (zeros : zero_from s.count x.vector ≡ true) (inside : within s x.vector ≡ true) where
    abbrev i : ℕ
    i = x.receiver

    abbrev P : Process
    P = process s x.receiver

    delivered_with : Process → ℕ → Run
    delivered_with A wrote =
        with_messages (with_disk (with_process s x.receiver (settled (taken_in x.receiver x.vector A))) (billed s.disk wrote (blocks_of (gone (taken_in x.receiver x.vector A)))))
        (others s x.number) s.last

    deliver_is : deliver_state s x
        ≡ delivered_with (pick (forces P x.vector) (checkpointed forced x.receiver P) P) (pick (forces P x.vector) (block_count P) 0)
    unfolding delivered_with deliver_state delivered with_messages with_disk
    deliver_is = refl

    messages_left : (A : Process) (wrote : ℕ)
        → SoundState (with_disk (with_process s x.receiver (settled (taken_in x.receiver x.vector A))) (billed s.disk wrote (blocks_of (gone (taken_in x.receiver x.vector A)))))
        → sound (delivered_with A wrote) ≡ true
    unfolding delivered_with others under_way with_process with_disk
    messages_left A wrote h = sound_in _ (fewer_stay _ h (omega (arith, messages_many s size whole, (sound_state s whole).underway_most)) (λ y. not (eqb y.number x.number)))

    with_checkpoint : s.disk.written + block_count P ≤ most_blocks
        → SoundState (with_disk (with_process s i (settled (taken_in i x.vector (checkpointed forced i P)))) (billed s.disk (block_count P) (blocks_of (gone (taken_in i x.vector (checkpointed forced i P))))))
    unfolding checkpointed own
    with_checkpoint room =
        let A = checkpointed forced i P in
        let rise : (own s i).0 ≤ (entry A.vector i).0 = omega (arith, advanced_own P.vector i (vector_there i to)) in
        let same = taken_entry_lem i to x.vector zeros inside A (block_count P) rise in
        taken_stays i to x.vector zeros inside A (block_count P) rise
        (stored_in i to (taken_in i x.vector A) (block_count P) forced (omega arith, omega arith) (omega (arith, rise, same)) (omega (arith, same))) (stored_blocks forced i P) room

    without_one : SoundState (with_disk (with_process s i (settled (taken_in i x.vector P))) (billed s.disk 0 (blocks_of (gone (taken_in i x.vector P)))))
    unfolding own
    without_one =
        let rise : (own s i).0 ≤ (entry P.vector i).0 = omega arith in
        let same = taken_entry_lem i to x.vector zeros inside P 0 rise in
        taken_stays i to x.vector zeros inside P 0 rise (kept_in i to (taken_in i x.vector P) 0 (omega (arith, rise, same))) (omega arith) (omega (arith, (sound_state s whole).written_most))

    deliver_sound : (forces P x.vector ≡ true → s.disk.written + block_count P ≤ most_blocks) → sound (deliver_state s x) ≡ true
    deliver_sound most = by_bool (forces P x.vector)
        (λ f. ap sound (deliver_is ∙ ap (λ (b : Bool). delivered_with (pick b (checkpointed forced i P) P) (pick b (block_count P) 0)) f) ∙ messages_left (checkpointed forced i P) (block_count P) (with_checkpoint (most f)))
        (λ f. ap sound (deliver_is ∙ ap (λ (b : Bool). delivered_with (pick b (checkpointed forced i P) P) (pick b (block_count P) 0)) f) ∙ messages_left P 0 without_one)

  -- a message is sent
  module _ (i j : ℕ) (from : i < s.count) (to : j < s.count) (apart : i ≡ j → ⊥) where
    abbrev part : Process
    part = process s i

    abbrev t : Run
    t = with_disk (with_process s i (marked (process s i))) s.disk

    rises : (own s i).0 ≤ (entry (marked (process s i)).vector i).0
    unfolding own marked
    rises = omega arith

    marked_fine : Fine s.count (within (with_disk (with_process s i (marked (process s i))) s.disk)) i (marked (process s i))
    unfolding marked record_sound block_count
    marked_fine =
        let fine = part_fine s size whole i from in
        let q = loose_rise s.count (within s) (within t) i part part (within_rises s size whole i from (marked part) s.disk rises) fine.loose in
        record {
          loose = record {
            vector_long = q.vector_long;
            pins_long = q.pins_long;
            own_some = q.own_some;
            current_within = q.current_within;
            stored_within = q.stored_within;
            kept_count_some = q.kept_count_some;
            kept_ascend = q.kept_ascend;
            kept_own = q.kept_own;
            kept_last = q.kept_last;
            own_pin = q.own_pin;
            pins_kept = q.pins_kept;
            vector_unused = q.vector_unused;
            pins_unused = q.pins_unused;
            stored_unused = q.stored_unused;
            records_sound = q.records_sound;
          };
          kept_count_most = fine.kept_count_most;
          kept_pinned = fine.kept_pinned;
        }

    marked_stays : SoundState (with_disk (with_process s i (marked (process s i))) s.disk)
    unfolding marked
    marked_stays = process_stays s size whole i from (marked part) s.disk rises marked_fine (omega arith) (sound_state s whole).written_most

    send_is : send_state s i j ≡ with_messages (with_disk (with_process s i (marked (process s i))) s.disk) (under_way s ++ (sent_message s i j ∷ [])) (s.last + 1)
    unfolding send_state with_messages with_disk with_process
    send_is = refl

    abbrev sent : Run
    sent = with_messages (with_disk (with_process s i (marked (process s i))) s.disk) (under_way s ++ (sent_message s i j ∷ [])) (s.last + 1)

    message_more : (y : Message) → message_sound s y ≡ true → message_sound (with_messages (with_disk (with_process s i (marked (process s i))) s.disk) (under_way s ++ (sent_message s i j ∷ [])) (s.last + 1)) y ≡ true
    unfolding message_sound with_messages with_disk with_process
    message_more y e =
        let known = sound_message s y e in
        and_both _ _ (and_both _ _ (and_both _ _ (le-leb y.number (s.last + 1) (omega (arith, known.numbered))) (lt-ltb y.sender s.count known.from)) (lt-ltb y.receiver s.count known.to))
        (ap not (ne_eqb y.sender y.receiver known.apart))

    message_new : message_sound (with_messages (with_disk (with_process s i (marked (process s i))) s.disk) (under_way s ++ (sent_message s i j ∷ [])) (s.last + 1)) (sent_message s i j) ≡ true
    unfolding message_sound with_messages with_disk with_process sent_message
    message_new =
        and_both _ _ (and_both _ _ (and_both _ _ (le-leb (s.last + 1) (s.last + 1) (omega arith)) (lt-ltb i s.count from)) (lt-ltb j s.count to)) (ap not (ne_eqb i j apart))

    number_less : (y : Message) → message_sound s y ≡ true → ltb y.number (s.last + 1) ≡ true
    number_less y e = lt-ltb y.number (s.last + 1) (omega (arith, (sound_message s y e).numbered))

    numbers_up : ascending 1 (map (λ y. y.number) (under_way s ++ (sent_message s i j ∷ []))) ≡ true
    unfolding sent_message
    numbers_up =
        let h = sound_state s whole in
        ap (ascending 1) (map_append (λ (y : Message). y.number) (under_way s) (sent_message s i j ∷ []))
        ∙ ascending_after 1 (map (λ y. y.number) (under_way s)) (s.last + 1) h.messages_ascend
        (every_map (λ y. ltb y (s.last + 1)) (λ (y : Message). y.number) (under_way s) ∙ every_then (message_sound s) _ (under_way s) number_less h.messages_sound_lem) (omega arith)

    zeros_sent : every (λ y. zero_from (with_disk (with_process s i (marked (process s i))) s.disk).count y.vector) (under_way s ++ (sent_message s i j ∷ [])) ≡ true
    unfolding sent_message with_disk with_process
    zeros_sent = every_append _ (under_way s) _ (sound_state s whole).carried_unused (every_single _ _ (part_fine s size whole i from).loose.vector_unused)

    send_sound : s.underway < most_under_way → s.last < most_messages → sound (send_state s i j) ≡ true
    unfolding sent_message
    send_sound room numbers =
        let h = sound_state s whole in
        let q = (part_fine s size whole i from).loose in
        let risen = within_rises s size whole i from (marked part) s.disk rises in
        let many = messages_many s size whole in
        let one = length-append (under_way s) (sent_message s i j ∷ []) in
        ap sound send_is
        ∙ sound_in sent (messages_stay t marked_stays (under_way s ++ (sent_message s i j ∷ [])) (s.last + 1) (omega (arith, many, one, room)) (omega (arith, numbers))
        (every_append _ (under_way s) _ (every_then _ _ (under_way s) (λ y. risen y.vector) h.carried_within) (every_single _ _ (risen part.vector q.current_within)))
        numbers_up
        (every_append _ (under_way s) _ (every_then _ _ (under_way s) message_more h.messages_sound_lem) (every_single _ _ message_new))
        zeros_sent)

module _ (w : List ℕ) (h : sound (run_of w) ≡ true) where
  abbrev s : Run
  s = run_of w

  pub checkpoint_stays : (i : ℕ) (l : List ℕ) → sound (checkpoint_outcome (run_of w) i l).run ≡ true
  unfolding checkpoint_outcome
  checkpoint_stays i l = by_refusal (checkpoint_refusal (run_of w) i l)
      (λ e. let fine = checkpoint_out (run_of w) i l e in rw e (checkpoint_sound (run_of w) (sized w) h i fine.present fine.blocks))
      (λ why e. rw e h)

  pub send_stays : (i j : ℕ) → sound (send_outcome (run_of w) i j).run ≡ true
  unfolding send_outcome
  send_stays i j = by_refusal (send_refusal (run_of w) i j)
      (λ e. let fine = send_out (run_of w) i j e in rw e (send_sound (run_of w) (sized w) h i j fine.from fine.to fine.apart fine.room fine.numbers))
      (λ why e. rw e h)

  pub deliver_stays : (m : ℕ) (l : List ℕ) → sound (deliver_outcome (run_of w) m l).run ≡ true
  unfolding deliver_outcome found
  deliver_stays m l = by_refusal (deliver_refusal (run_of w) m l)
      (λ e. let fine = deliver_out (run_of w) m l e in
      let x = fine.message in
      let k = sound_state (run_of w) h in
      let of-found : (u : Message → Bool) → every u (under_way (run_of w)) ≡ true → u x ≡ true
      = λ u all. last_passes u (select (λ y. eqb y.number m) (under_way (run_of w))) x (every_select u (λ y. eqb y.number m) (under_way (run_of w)) all) fine.here in
      rw (e, fine.here) (deliver_sound (run_of w) (sized w) h x (sound_message (run_of w) x (of-found (message_sound (run_of w)) k.messages_sound_lem)).to
      (of-found (λ y. zero_from (run_of w).count y.vector) k.carried_unused) (of-found (λ y. within (run_of w) y.vector) k.carried_within) fine.blocks))
      (λ why e. rw e h)

  pub lose_stays : (m : ℕ) → sound (lose_outcome (run_of w) m).run ≡ true
  unfolding lose_outcome
  lose_stays m = by_refusal (lose_refusal (run_of w) m)
      (λ e. rw e (lose_sound (run_of w) (sized w) h m))
      (λ why e. rw e h)

  pub recover_stays : (F : ℕ) (l line : List ℕ) → (recover_report (recover_outcome (run_of w) F l line).answer).deletions ≡ 0 → sound (recover_outcome (run_of w) F l line).run ≡ true
  unfolding recover_outcome recover_report
  recover_stays F l line = by_refusal (recover_refusal (run_of w) F l line)
      (λ e. rw e (λ none_deleted. recover_sound (run_of w) (sized w) h F none_deleted))
      (λ why e. rw e (λ none_deleted. h))

pub calls_keep_sound : CallsKeepSound
unfolding CallsKeepSound
calls_keep_sound w h = record { checkpoint = checkpoint_stays w h; send = send_stays w h; deliver = deliver_stays w h; lose = lose_stays w h; recover = recover_stays w h }
