-- A message that reaches its receiver: the receipt changes the receiver's part and the blocks, then the message is taken out of its place.
-- Assumes nothing.
use Rattle.std.specs.Prelude.{◌≡◌, ◌*◌, ◌≤◌, ◌<◌}
use Rattle.laws.specs.Basics.{sym, ◌∙◌, ap, Bool, true, false, not, List, None, Some, ℕ, suc, arith, eqb, ltb, length, pick, by_bool}
use Rattle.laws.specs.{Lists.select}
use Rattle.model.specs.{declared.Disk.Disk, declared.Message.Message, declared.Run.Run, Sound.sound}
use Rattle.model.specs.Words.{forced, Process, block_count, blocks_of, process, with_process, with_messages, with_disk}
use Rattle.model.specs.Steps.{found, others, forces, settled, gone, deletions, billed, checkpointed, taken_in, delivered, deliver_state, deliver_deletions}
use Rattle.model.specs.Refusals.{first_of, forces_past, forces_over, at_last_interval, past_blocks, deliver_refusal}
use Rattle.admissions.specs.Admissions.{refusal_of}
use Rattle.words.specs.{Frames.OnlyMessages, messages.Places.place_of, messages.Places.taken_out, Parts.process_in}
use Rattle.words.specs.Layout.{word, blocks_at_of, wide2, count_of, end_of, fits, message_in, is_message, messages_in, run_of}
use Rattle.words.proofs.{Frames.process_head, Frames.process_message_words, View.count_is_lem, View.last_is_lem, View.fits_size, ViewClean.clean_messages}
use Rattle.words.proofs.ViewChange.{with_messages_lem, process_fits, disk_fits, message_words_same, messages_same}
use Rattle.words.proofs.{ViewSound.SoundWords, ViewSound.sound_words, ViewSound.sound_process_is, messages.Selected.message_at, messages.Selected.is_one}
use Rattle.words.proofs.messages.Taken.{taken_length, taken_count, taken_rest, taken_fits, taken_others, taken_many}
use Rattle.words.proofs.messages.Zeros.{clean_taken}
use Rattle.words_process.specs.{Moves.disk_in, Moves.Moves, Steps.received}
use Rattle.words_process.proofs.Stepping.{block_count_lem}
use Rattle.in_place.specs.{Left.Leaves, Storing.storing_admission}
use Rattle.in_place.proofs.{Checkpointing.disk_is, Checkpointing.either_way, Losing.found_is, Losing.some_number, Losing.place_in, Losing.its_number, Losing.alone}
use Rattle.in_place.proofs.Moving.{moved_run, moved_leaves}

module _ (w : List ℕ) (h : sound (run_of w) ≡ true) (m k : ℕ) (e : place_of w m ≡ suc k) where
  abbrev s : Run
  s = run_of w

  known : SoundWords w
  known = sound_words w h

  -- The message in the place is the one that was looked up, and its receiver is in the run.
  pub found_there : found s m ≡ Some (message_in w k)
  unfolding message_at
  found_there = found_is w h m ∙ ap (message_at w) e

  used : is_message (message_in w k) ≡ true
  used = is_one (message_in w k) m (some_number w h m k e) (its_number w h m k e)

  pub receiver_in : (message_in w k).receiver < count_of w
  receiver_in = (known.message k (place_in w h m k e) used).to

  -- Which delivery is refused, once the lent list is long enough.
  pub delivery_judged : (l : List ℕ) → ltb (length l) (2 * count_of w * count_of w) ≡ false
      → deliver_refusal s m l ≡ pick (forces (process s (message_in w k).receiver) (message_in w k).vector) (refusal_of (storing_admission s (message_in w k).receiver)) None
  unfolding deliver_refusal first_of forces_past forces_over storing_admission refusal_of
  delivery_judged l enough = rw (h, short_none, found_there) (by_bool (forces (process s (message_in w k).receiver) (message_in w k).vector)
      (λ f. rw f (either_way (at_last_interval s (message_in w k).receiver) (past_blocks s (message_in w k).receiver)))
      (λ f. rw f))
    where
      short_none : ltb (length l) (2 * s.count * s.count) ≡ false
      short_none = ap (λ (n : ℕ). ltb (length l) (2 * n * n)) (count_is_lem w known.fit) ∙ enough

  -- The state after an accepted delivery, by whether a checkpoint is forced.
  module _ (stores : Bool) (f : forces (process s (message_in w k).receiver) (message_in w k).vector ≡ stores) where
    abbrev to : ℕ
    to = (message_in w k).receiver

    abbrev Q : Process
    Q = received to stores (message_in w k).vector (process_in w to)

    same : process s to ≡ process_in w to
    same = sound_process_is w h to receiver_in

    pub delivered_is : delivered to (message_in w k).vector (process s to) ≡ Q
    unfolding delivered received
    delivered_is = (λ j. taken_in to (message_in w k).vector (pick (f j) (checkpointed forced to (process s to)) (process s to)))
        ∙ ap (λ (P : Process). taken_in to (message_in w k).vector (pick stores (checkpointed forced to P) P)) same

    pub delivered_state : deliver_state s (message_in w k)
        ≡ with_disk (with_messages (with_process s to (settled Q)) (others s m) s.last) (billed (disk_in w) (pick stores (word w (blocks_at_of to)) 0) (blocks_of (gone Q)))
    unfolding deliver_state
    delivered_state = (λ j. with_disk (with_messages (with_process s to (settled (delivered_is j))) (others s (its_number w h m k e j)) s.last)
        (billed (disk_is w h j) (pick (f j) (block_count (same j)) 0) (blocks_of (gone (delivered_is j)))))
        ∙ ap (λ (n : ℕ). with_disk (with_messages (with_process s to (settled Q)) (others s m) s.last) (billed (disk_in w) (pick stores n 0) (blocks_of (gone Q)))) (block_count_lem w h to receiver_in)

    pub delivered_deletions : deliver_deletions s (message_in w k) ≡ deletions to Q
    unfolding deliver_deletions
    delivered_deletions = ap (deletions to) delivered_is

  -- After the receipt the message is taken out.
  module _ (P : Process) (d : Disk) (v : List ℕ) (move : Moves w (message_in w k).receiver P d v) where
    abbrev i : ℕ
    i = (message_in w k).receiver

    room : i < 16
    room = omega (arith, receiver_in, known.few)

    message_words : (q : ℕ) → 5184 ≤ q → word v q ≡ word w q
    message_words q low = move.disk.rest q (omega arith) ∙ process_message_words w move.between i move.process room q low

    head : (q : ℕ) → q < 4 → word v q ≡ word w q
    head q less = move.disk.front q less ∙ process_head w move.between i move.process q (omega arith)

    end : end_of v ≡ end_of w
    end = move.disk.rest 12 (omega arith) ∙ process_head w move.between i move.process 12 (omega arith)

    fit : fits v ≡ true
    fit = disk_fits move.between v move.disk (process_fits w move.between i known.fit receiver_in known.few move.process)

    pub move_size : length v ≡ 6464
    move_size = fits_size v fit

    pub move_end : end_of v ≤ 64
    move_end = omega (arith, end, known.end)

    pub move_place : k < end_of v
    move_place = omega (arith, end, place_in w h m k e)

    same_number : (message_in v k).number ≡ m
    same_number = ap (λ (x : Message). x.number) (message_words_same w v end message_words k) ∙ its_number w h m k e

    only_one : (j : ℕ) → j < end_of v → (message_in v j).number ≡ m → j ≡ k
    only_one j less q = alone w h m k e j (omega (arith, end)) (ap (λ (x : Message). x.number) (sym (message_words_same w v end message_words j)) ∙ q)

    abbrev y : List ℕ
    y = taken_out v k

    many : length (messages_in v) ≡ suc (length (messages_in y))
    many = taken_many v move_size move_end k move_place m (some_number w h m k e) same_number only_one

    pub move_one : 1 ≤ word v 1
    move_one = omega (arith, head 1 (omega arith), known.counted, ap length (messages_same w v end message_words), many)

    only : OnlyMessages v y
    only = record {
      size = taken_length v move_size move_end k move_place;
      count = taken_rest v move_size move_end k move_place 0 (omega arith) (λ q. omega arith) (λ q. omega arith);
      disk = λ q low high. taken_rest v move_size move_end k move_place q (omega arith) (λ z. omega arith) (λ z. omega arith);
      rest = λ q low high. taken_rest v move_size move_end k move_place q high (λ z. omega arith) (λ z. omega arith);
    }

    counted : word y 1 ≡ length (messages_in y)
    counted = omega (arith, taken_count v move_size move_end k move_place, head 1 (omega arith), known.counted, ap length (messages_same w v end message_words), many)

    left : messages_in y ≡ others s m
    unfolding others
    left = taken_others v move_size move_end k move_place m (some_number w h m k e) same_number only_one
        ∙ ap (select (λ x. not (eqb x.number m))) (messages_same w v end message_words ∙ sym known.under_way_lem)

    last_stays : wide2 y 2 ≡ s.last
    last_stays = rw (
      taken_rest v move_size move_end k move_place 2 (omega arith) (λ q. omega arith) (λ q. omega arith),
      taken_rest v move_size move_end k move_place 3 (omega arith) (λ q. omega arith) (λ q. omega arith),
      head 2 (omega arith),
      head 3 (omega arith),
    ) (sym (last_is_lem w known.fit))

    pub delivered_run : run_of y ≡ with_disk (with_messages (with_process s i P) (others s m) s.last) d
    unfolding with_messages with_disk
    delivered_run = with_messages_lem v y only fit (taken_fits v move_size move_end k move_place) counted
        ∙ (λ j. with_messages (moved_run w v i P d known.fit receiver_in known.few move j) (left j) (last_stays j))

    pub delivered_leaves : Leaves w y
    delivered_leaves =
        let a = moved_leaves w v i P d known.fit receiver_in known.few move in
        record {
          size = only.size ∙ a.size;
          clean = λ c. let b = a.clean c in clean_messages v y (omega (arith, head 0 (omega arith), known.few)) only (clean_taken v move_size move_end k move_place b.messages) b;
        }
