-- Process after process as it is after a recovery: the run that the words stand for when the first k are done, what they still hold of the others, and the list of what
-- is deleted.
-- Assumes nothing.
use Rattle.std.specs.Prelude.{◌≡◌, ◌∷◌, ◌++◌, ◌+◌, ◌*◌, ◌≤◌, ◌<◌}
use Rattle.laws.specs.Basics.{refl, sym, ◌∙◌, ap, Bool, true, not, List, [], ℕ, zero, suc, arith, length, get_or, length-append, sets, by_bool, by_eq}
use native.Mathlib.Nat.{suc-mul, mul-le-mul_right, mul_assoc}
use native.Mathlib.Numerals.{add-one}
use Rattle.laws.specs.{Lists.select, Lists.gather, Lists.table, Select.select_length, Sums.sum_below, Sums.sum_le, Sums.length_gather, Tables.length_table}
use Rattle.laws.specs.Written.{sets_after}
use Rattle.model.specs.declared.{Checkpoint.Checkpoint, Disk.Disk, Interval.Interval, Run.Run}
use Rattle.model.specs.{Words.is_pinned, Words.Process, Words.blocks_of, Words.process, Words.with_process, Words.with_disk, Sound.sound, Sound.kept_blocks}
use Rattle.model.specs.{laws.Sound.sound_state, Steps.listed, Steps.billed, Steps.with_processes}
use Rattle.whole_runs.specs.Outcomes.{pairs}
use Rattle.whole_runs.proofs.whole.{Gone.pairs_append, Pairs.length_listed, Pairs.length_pairs}
use Rattle.words.specs.{Layout.word, Layout.count_of, Layout.kept_count_at_of, Layout.blocks_at_of, Layout.checkpoint_in, Layout.run_of, Parts.process_in}
use Rattle.words.proofs.{Frames.process_head, Frames.process_message_words, View.count_is_lem, View.written_is, View.deleted_is, View.fits_size}
use Rattle.words.proofs.{ViewChange.process_fits, ViewChange.disk_fits, ViewSound.sound_words, ViewSound.sound_part, ViewSound.sound_process_is}
use Rattle.words_process.specs.{Moves.disk_in, Moves.Moves, Pins.pin_row, Steps.places_of, Steps.unpinned_in}
use Rattle.words_process.proofs.Stepping.{selected_blocks}
use Rattle.in_place_recover.specs.Restored.{restored_pins, restored_part, restored_gone, SameProcess, Restorable}
use Rattle.in_place_recover.proofs.Frame.{restored_same, gone_same, restorable_same, same_stays, same_moves}
use Rattle.in_place_recover.specs.Recovering.{part_then, gone_then, losses_then, disk_then, Restored}
use Rattle.in_place.proofs.{Checkpointing.disk_is, Moving.moved_run, Moving.moved_leaves}

-- Blocks deleted, and then more of them.
billed_none : (d : Disk) → d ≡ billed d 0 0
unfolding billed
billed_none d = λ j. record { written = nothing d.written j; deleted = nothing d.deleted j }
  where
    nothing : (x : ℕ) → x ≡ x + 0
    nothing x = omega arith

billed_more : (d : Disk) (a b : ℕ) → billed (billed d 0 a) 0 b ≡ billed d 0 (a + b)
unfolding billed
billed_more d a b = λ j. record { written = nothing d.written j; deleted = more d.deleted j }
  where
    nothing : (x : ℕ) → x + 0 + 0 ≡ x + 0
    nothing x = omega arith

    more : (x : ℕ) → x + a + b ≡ x + (a + b)
    more x = omega arith

-- A run with other blocks twice, and a process more.
disk_once : (r : Run) (d : Disk) (k : ℕ) (P : Process) (e : Disk) → with_disk (with_process (with_disk r d) k P) e ≡ with_disk (with_process r k P) e
unfolding with_disk with_process
disk_once r d k P e = refl

next_process : (k : ℕ) (f : ℕ → Process) (r : Run) → with_process (with_processes k f r) k (f k) ≡ with_processes (k + 1) f r
unfolding with_processes
next_process k f r = ap (λ (n : ℕ). with_processes n f r) (sym (add-one k))

-- No sum of smaller numbers, or of fewer, is greater.
sum_smaller : (k : ℕ) (f g : ℕ → ℕ) → ((p : ℕ) → p < k → f p ≤ g p) → sum_below k f ≤ sum_below k g
unfolding sum_below
sum_smaller zero f g h = omega arith
sum_smaller (suc k) f g h = omega (arith, h k (omega arith), sum_smaller k f g (λ p lt. h p (omega arith)))

sum_fewer : (k n : ℕ) (f : ℕ → ℕ) → k ≤ n → sum_below k f ≤ sum_below n f
unfolding sum_below
sum_fewer k zero f le = let e : k ≡ 0 = omega arith in rw e (omega arith)
sum_fewer k (suc n) f le = by_eq k (suc n)
    (λ e. rw e (omega arith))
    (λ ne. omega (arith, sum_fewer k n f (omega arith)))

blocks_fewer : (t : Checkpoint → Bool) (l : List Checkpoint) → blocks_of (select t l) ≤ blocks_of l
unfolding blocks_of select
blocks_fewer t [] = omega arith
blocks_fewer t (c ∷ l) = by_bool (t c) (λ e. rw e (omega (arith, blocks_fewer t l))) (λ e. rw e (omega (arith, blocks_fewer t l)))

-- Room for the pairs of one more process, after those of k processes of at most n pairs each.
room_more : (n k total h : ℕ) → k < n → total ≤ k * n → h ≤ n → 2 * total + 2 * h ≤ 2 * n * n
room_more n k total h lt so_far few =
    let next : suc k * n ≤ n * n = mul-le-mul_right n lt in
    let apart : suc k * n ≡ k * n + n = suc-mul k n in
    let whole : 2 * n * n ≡ 2 * (n * n) = mul_assoc 2 n n in
    rw whole (omega arith)

module _ (w : List ℕ) (h : sound (run_of w) ≡ true) (pasts : List ℕ) (owns : List Interval) where
  abbrev s : Run
  s = run_of w

  few : count_of w ≤ 16
  few = (sound_words w h).few

  -- What is deleted of a process: some of what it keeps, that many blocks for each.
  module _ (p : ℕ) (lt : p < count_of w) where
    chosen : gone_then w pasts owns p ≡ select (λ c. not (is_pinned (pin_row (restored_pins w p (get_or pasts p 0) owns)) c)) (process_in w p).kept
    unfolding restored_gone unpinned_in places_of
    chosen = ap (select (λ c. not (is_pinned (pin_row (restored_pins w p (get_or pasts p 0) owns)) c))) (sym (sound_part w h p lt).kept_is)

    pub gone_most : length (gone_then w pasts owns p) ≤ count_of w
    unfolding restored_gone unpinned_in places_of
    gone_most = omega (
      arith,
      select_length (λ c. not (is_pinned (pin_row (restored_pins w p (get_or pasts p 0) owns)) c)) (table (word w (kept_count_at_of p)) (checkpoint_in w p)),
      length_table (word w (kept_count_at_of p)) (checkpoint_in w p),
      (sound_part w h p lt).kept_count_most,
    )

    pub gone_blocks : length (gone_then w pasts owns p) * word w (blocks_at_of p) ≡ blocks_of (gone_then w pasts owns p)
    gone_blocks = rw chosen (selected_blocks w h p lt (λ c. not (is_pinned (pin_row (restored_pins w p (get_or pasts p 0) owns)) c)))

    gone_kept : blocks_of (gone_then w pasts owns p) ≤ blocks_of (process s p).kept
    gone_kept = rw (chosen, sound_process_is w h p lt) (blocks_fewer (λ c. not (is_pinned (pin_row (restored_pins w p (get_or pasts p 0) owns)) c)) (process_in w p).kept)

  -- That many for k processes.
  pub losses_count : (k : ℕ) → length (losses_then w pasts owns k) ≡ sum_below k (λ p. length (listed p (gone_then w pasts owns p)))
  unfolding losses_then
  losses_count k = length_gather k (λ p. listed p (gone_then w pasts owns p))

  listed_most : (p : ℕ) → p < count_of w → length (listed p (gone_then w pasts owns p)) ≤ count_of w
  listed_most p lt = omega (arith, length_listed p (gone_then w pasts owns p), gone_most p lt)

  pub losses_most : (k : ℕ) → k ≤ count_of w → length (losses_then w pasts owns k) ≤ k * count_of w
  losses_most k le = rw (losses_count k) (sum_le k (count_of w) (λ p. length (listed p (gone_then w pasts owns p))) (λ p lt. listed_most p (omega arith)))

  pub losses_few : (k : ℕ) → k ≤ count_of w → length (losses_then w pasts owns k) ≤ 256
  losses_few k le =
      let z : length (losses_then w pasts owns k) ≤ k * 16 = rw (losses_count k) (sum_le k 16 (λ p. length (listed p (gone_then w pasts owns p))) (λ p lt. omega (arith, listed_most p (omega arith), few))) in
      omega (arith, z, few)

  -- No more blocks are deleted than are kept: with those deleted before they are at most those written.
  pub disk_most : (k : ℕ) → k ≤ count_of w → ((disk_then w pasts owns k).written ≤ 1000000000000000) × ((disk_then w pasts owns k).deleted ≤ 1000000000000000)
  unfolding disk_then billed kept_blocks
  disk_most k le =
      let fit = (sound_words w h).fit in
      let part = sum_smaller k (λ p. blocks_of (gone_then w pasts owns p)) (λ p. blocks_of (process s p).kept) (λ p lt. gone_kept p (omega arith)) in
      let whole = sum_fewer k s.count (λ p. blocks_of (process s p).kept) (omega (arith, count_is_lem w fit)) in (
        omega (arith, (sound_words w h).written_most),
        omega (arith, part, whole, (sound_state s h).written_sum, written_is w fit, deleted_is w fit, (sound_words w h).written_most),
      )

  losses_next : (k : ℕ) → losses_then w pasts owns (k + 1) ≡ losses_then w pasts owns k ++ listed k (gone_then w pasts owns k)
  unfolding losses_then gather
  losses_next k = ap (λ (n : ℕ). gather n (λ p. listed p (gone_then w pasts owns p))) (add-one k)

  -- Nothing is done yet.
  pub none_restored : Restored w pasts owns 0 w
  unfolding with_processes with_disk disk_then sum_below
  none_restored = record {
    run = λ j. with_disk s ((disk_is w h ∙ billed_none (disk_in w)) j);
    fit = (sound_words w h).fit;
    disk = billed_none (disk_in w);
    front = λ q lt. refl;
    end = refl;
    later = λ q le lt. same_stays w q;
    message_words = λ q le. refl;
    clean = λ c. c;
  }

  pub none_listed : (l : List ℕ) → l ≡ sets l 0 (pairs (losses_then w pasts owns 0))
  unfolding losses_then gather pairs
  none_listed l = refl

  pub none_counted : 0 ≡ length (losses_then w pasts owns 0)
  unfolding losses_then gather
  none_counted = refl

  -- One process more.
  module _ (k : ℕ) (lt : k < count_of w) (v : List ℕ) (so_far : Restored w pasts owns k v) where
    abbrev past : ℕ
    past = get_or pasts k 0

    room : k < 16
    room = omega (arith, few)

    count : count_of v ≡ count_of w
    count = so_far.front 0 (omega arith)

    same : SameProcess w v k
    same = so_far.later k (omega arith) room

    most : word w (kept_count_at_of k) ≤ 16
    most = omega (arith, (sound_part w h k lt).kept_count_most, few)

    pub still_size : length v ≡ 6464
    still_size = fits_size v so_far.fit

    pub still_kept_count : word v (kept_count_at_of k) ≡ word w (kept_count_at_of k)
    still_kept_count = same.kept_count

    pub still_disk : ((disk_in v).written ≤ 1000000000000000) × ((disk_in v).deleted ≤ 1000000000000000)
    still_disk =
        let most = disk_most k (omega arith) in
        (omega (arith, ap (λ (d : Disk). d.written) so_far.disk, most.0), omega (arith, ap (λ (d : Disk). d.deleted) so_far.disk, most.1))

    pub still_restorable : Restorable w k past → Restorable v k past
    still_restorable = restorable_same w v k room same past

    pub still_room : (n lent : ℕ) → n ≡ count_of w → 2 * n * n ≤ lent → 2 * length (losses_then w pasts owns k) + 2 * word v (kept_count_at_of k) ≤ lent
    still_room n lent is enough = omega (
      arith,
      enough,
      room_more n k (length (losses_then w pasts owns k)) (word v (kept_count_at_of k)) (omega arith) (rw is (losses_most k (omega arith))) (omega (arith, still_kept_count, (sound_part w h k lt).kept_count_most)),
    )

    module _ (u : List ℕ) (r : ℕ) (many : r ≡ length (restored_gone v k past owns))
        (move : Moves v k (restored_part v k past owns) (billed (disk_in v) 0 (r * word v (blocks_at_of k))) u) where
      gone_is : restored_gone v k past owns ≡ gone_then w pasts owns k
      gone_is = gone_same w v k room same most past owns

      blocks_is : r * word v (blocks_at_of k) ≡ blocks_of (gone_then w pasts owns k)
      blocks_is = (λ j. (many ∙ ap length gone_is) j * same.blocks j) ∙ gone_blocks k lt

      bill : billed (disk_in v) 0 (r * word v (blocks_at_of k)) ≡ disk_then w pasts owns (k + 1)
      unfolding disk_then sum_below
      bill = (λ j. billed (so_far.disk j) 0 (blocks_is j))
          ∙ billed_more (disk_in w) (sum_below k (λ p. blocks_of (gone_then w pasts owns p))) (blocks_of (gone_then w pasts owns k))
          ∙ ap (λ (n : ℕ). billed (disk_in w) 0 (sum_below n (λ p. blocks_of (gone_then w pasts owns p)))) (sym (add-one k))

      below : k < count_of v
      below = omega (arith, count)

      small : count_of v ≤ 16
      small = omega (arith, count, few)

      run_is : run_of u ≡ with_disk (with_processes (k + 1) (part_then w pasts owns) s) (disk_then w pasts owns (k + 1))
      run_is = moved_run v u k (restored_part v k past owns) (billed (disk_in v) 0 (r * word v (blocks_at_of k))) so_far.fit below small move
          ∙ (λ j. with_disk (with_process (so_far.run j) k (restored_same w v k room same most past owns j)) (bill j))
          ∙ disk_once (with_processes k (part_then w pasts owns) s) (disk_then w pasts owns k) k (part_then w pasts owns k) (disk_then w pasts owns (k + 1))
          ∙ ap (λ (x : Run). with_disk x (disk_then w pasts owns (k + 1))) (next_process k (part_then w pasts owns) s)

      pub one_more : Restored w pasts owns (k + 1) u
      one_more = record {
        run = run_is;
        fit = disk_fits move.between u move.disk (process_fits v move.between k so_far.fit below small move.process);
        disk = move.blocks ∙ bill;
        front = λ q less. move.disk.front q less ∙ process_head v move.between k move.process q (omega arith) ∙ so_far.front q less;
        end = move.disk.rest 12 (omega arith) ∙ process_head v move.between k move.process 12 (omega arith) ∙ so_far.end;
        later = λ q le less. same_moves w v u q k _ _ less room (λ e. omega arith) move (so_far.later q (omega arith) less);
        message_words = λ q low. move.disk.rest q (omega arith) ∙ process_message_words v move.between k move.process room q low ∙ so_far.message_words q low;
        clean = λ c. (moved_leaves v u k (restored_part v k past owns) (billed (disk_in v) 0 (r * word v (blocks_at_of k))) so_far.fit below small move).clean (so_far.clean c);
      }

    pub more_listed : (l d e : List ℕ) (total : ℕ) → total ≡ length (losses_then w pasts owns k) → d ≡ sets l 0 (pairs (losses_then w pasts owns k))
        → e ≡ sets d (2 * total) (pairs (listed k (restored_gone v k past owns))) → e ≡ sets l 0 (pairs (losses_then w pasts owns (k + 1)))
    more_listed l d e total many before after =
        let rest_after : 2 * total ≡ 0 + length (pairs (losses_then w pasts owns k)) = omega (arith, many, length_pairs (losses_then w pasts owns k)) in
        after
        ∙ ap (λ (g : List Checkpoint). sets d (2 * total) (pairs (listed k g))) (gone_same w v k room same most past owns)
        ∙ sets_after l d 0 (2 * total) (pairs (losses_then w pasts owns k)) before rest_after (pairs (listed k (gone_then w pasts owns k)))
        ∙ ap (sets l 0) (sym (ap pairs (losses_next k) ∙ pairs_append (losses_then w pasts owns k) (listed k (gone_then w pasts owns k))))

    pub more_counted : (total r : ℕ) → total ≡ length (losses_then w pasts owns k) → r ≡ length (restored_gone v k past owns) → total + r ≡ length (losses_then w pasts owns (k + 1))
    more_counted total r before many =
        (λ j. before j + (many ∙ ap length (gone_same w v k room same most past owns) ∙ sym (length_listed k (gone_then w pasts owns k))) j)
        ∙ sym (ap length (losses_next k) ∙ length-append (losses_then w pasts owns k) (listed k (gone_then w pasts owns k)))
