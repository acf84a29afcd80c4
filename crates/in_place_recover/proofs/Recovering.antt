-- The recover call: what its outcome is, by the lengths of the lists, the failed set, and whether each process has a member; and what an accepted one leaves.
-- Assumes nothing.
use Rattle.std.specs.Prelude.{◌≡◌, ◌||◌, ◌+◌, ◌*◌, ◌^◌, ◌≤◌, ◌<◌, Err, Ok}
use Rattle.laws.specs.Basics.{refl, sym, ◌∙◌, ap, true, false, not, false≢true, List, None, Some, ℕ, zero, suc, arith, ltb, leb, length, get_or, sets, by_bool}
use Rattle.laws.specs.{Counting.count_same, Lists.select, Lists.gather, Lists.table, Sums.sum_below, Sums.sum_same, Tables.gather_same, Tests.count_below}
use Rattle.model.specs.Shapes.{RecoverAnswer}
use Rattle.model.specs.declared.{CheckpointIndex.CheckpointIndex, Disk.Disk, Interval.Interval, Message.Message, Refusal.Refusal}
use Rattle.model.specs.declared.{Refusal.TheVariants.UnsoundState, Refusal.TheVariants.ListTooShort, Refusal.TheVariants.NoSuchFailedProcess, Run.Run}
use Rattle.model.specs.{Words.Process, Words.blocks_of, Words.with_process, Words.with_messages, Words.with_disk, Sound.sound, laws.Refusals.refusal_in}
use Rattle.model.specs.Steps.{Deletion, listed, billed, with_processes, rolled_back, recovered, still_under_way, gone_at_of, deleted_at, recover_state, recover_deletions, rolled_back_count}
use Rattle.model.specs.Refusals.{outside, no_member_of, short_deletions, short_line, recover_refusal}
use Rattle.admissions.specs.Admissions.{recovery_admission_of}
use Rattle.whole_runs.specs.Outcomes.{pairs, recover_outcome}
use Rattle.words.specs.Layout.{word, wide2, count_of, end_of, sender_at_of, is_message, messages_in, run_of}
use Rattle.words.proofs.{View.count_is_lem, View.last_is_lem, View.fits_size, ViewChange.with_messages_lem, ViewChange.message_words_same, ViewChange.messages_same}
use Rattle.words.proofs.{ViewClean.clean_messages, ViewSound.sound_words}
use Rattle.words_line.specs.{Line.limits_in, Line.has_members, Line.pasts_in, Line.indexes_in, Sifted.lost_to, Sifted.SendersPresent, Sifted.Sifted}
use Rattle.words_line.proofs.{LineRule.pasts_length, LineRule.all_found, LineRule.line_is, Lost.senders_present, Lost.still_are}
use Rattle.in_place_recover.specs.Restored.{goes_back, owns_after_of, AllReturn}
use Rattle.in_place_recover.proofs.Recovery.{rolled, recovered_is, gone_is, restorable, all_return}
use Rattle.in_place.specs.Left.{Leaves}
use Rattle.in_place_recover.specs.Recovering.{part_then, gone_then, losses_then, disk_then, AllRestorable, Restored}
use Rattle.in_place.proofs.{Checkpointing.disk_is, Leaving.same_words}
use Prim.{tt}

-- What a recovery of the words w for the failed set F, with the lists `lent` and `line`, answers and leaves.
abbrev pub Left : List ℕ → ℕ → List ℕ → List ℕ → RecoverAnswer → List ℕ → List ℕ → List ℕ → Type 0
Left w F lent line r v d l =
    (run_of v ≡ (recover_outcome (run_of w) F lent line).run) × ((r ≡ (recover_outcome (run_of w) F lent line).answer) × ((d ≡ (recover_outcome (run_of w) F lent line).deleted)
    × ((l ≡ (recover_outcome (run_of w) F lent line).line) × (((why : Refusal) → r ≡ Err why → v ≡ w) × Leaves w v))))

-- What it leaves whose members, indexes and own entries these are: the processes are restored, then the messages are sifted.
abbrev Recovers : List ℕ → ℕ → List ℕ → List ℕ → ℕ → List ℕ → List CheckpointIndex → List Interval → Type 0
Recovers w F lent line n pasts indexes owns =
    (v u : List ℕ) → Restored w pasts owns n v → Sifted indexes v u → (back gone : ℕ) (d l : List ℕ) → back ≡ count_below n (λ p. goes_back w p (get_or pasts p 0))
    → gone ≡ length (losses_then w pasts owns n) → d ≡ sets lent 0 (pairs (losses_then w pasts owns n)) → l ≡ sets line 0 (table n (λ p. (get_or indexes p (record { 0 = 0 })).0))
    → Left w F lent line (Ok (record { rolled_back = back; deleted = gone })) u d l

-- Processes that take the same parts.
processes_same : (n : ℕ) (f g : ℕ → Process) (s : Run) → ((p : ℕ) → p < n → f p ≡ g p) → with_processes n f s ≡ with_processes n g s
unfolding with_processes
processes_same zero f g s h = refl
processes_same (suc n) f g s h = λ j. with_process (processes_same n f g s (λ p lt. h p (omega arith)) j) n (h n (omega arith) j)

-- The blocks and the messages of a run do not touch each other.
either_first : (s : Run) (d : Disk) (m : List Message) (n : ℕ) → with_messages (with_disk s d) m n ≡ with_disk (with_messages s m n) d
unfolding with_messages with_disk
either_first s d m n = refl

module _ (w : List ℕ) (h : sound (run_of w) ≡ true) (F : ℕ) (lent line : List ℕ) where
  abbrev s : Run
  s = run_of w

  abbrev n : ℕ
  n = count_of w

  count : s.count ≡ n
  count = count_is_lem w (sound_words w h).fit

  refused : (why : Refusal) → recover_refusal s F lent line ≡ Some why → Left w F lent line (Err why) w lent line
  unfolding recover_outcome
  refused why e = rw e (refl, (refl, (refl, (refl, (λ x q. refl, same_words w)))))

  short_is : (short_deletions s lent || short_line s line) ≡ (ltb (length lent) (2 * n * n) || ltb (length line) n)
  short_is = ap (λ (k : ℕ). ltb (length lent) (2 * k * k) || ltb (length line) k) count

  pub lists_short : (ltb (length lent) (2 * n * n) || ltb (length line) n) ≡ true → Left w F lent line (Err ListTooShort) w lent line
  unfolding recover_refusal
  lists_short e = refused ListTooShort (refusal_in _ (Some ListTooShort) (1, (rw h, tt), short_is ∙ e, refl))

  module _ (long : (ltb (length lent) (2 * n * n) || ltb (length line) n) ≡ false) where
    outside_refused : leb (2 ^ n) F ≡ true → Left w F lent line (Err NoSuchFailedProcess) w lent line
    unfolding recover_refusal
    outside_refused o = refused NoSuchFailedProcess (refusal_in _ (Some NoSuchFailedProcess) (2, (rw h, (short_is ∙ long, tt)), rw count o, refl))

    pub set_refused : (why : Refusal) → recovery_admission_of n F ≡ Err why → Left w F lent line (Err why) w lent line
    unfolding recovery_admission_of
    set_refused why e = by_bool (leb (2 ^ n) F)
        (λ o.
        let q : Err NoSuchFailedProcess ≡ Err why = rw o at e in
        let same : NoSuchFailedProcess ≡ why = cc in
        rw (← same) (outside_refused o))
        (λ o. let q : (Ok tt) ≡ Err why = rw o at e in absurd (false≢true cc))

    module _ (passed : recovery_admission_of n F ≡ Ok tt) where
      inside : outside s F ≡ false
      unfolding recovery_admission_of
      inside = by_bool (leb (2 ^ n) F)
          (λ o. let q : Err NoSuchFailedProcess ≡ Ok tt = rw o at passed in absurd (false≢true cc))
          (λ o. rw count o)

      pub no_member : no_member_of s F ≡ true → Left w F lent line (Err UnsoundState) w lent line
      unfolding recover_refusal
      no_member e = refused UnsoundState (refusal_in _ (Some UnsoundState) (3, (rw h, (short_is ∙ long, (inside, tt))), e, refl))

      -- Each process has a member: the words of an accepted recovery.
      module _ (there : no_member_of s F ≡ false) where
        abbrev pasts : List ℕ
        pasts = pasts_in w n (limits_in w n F)

        abbrev indexes : List CheckpointIndex
        indexes = indexes_in w n pasts

        abbrev owns : List Interval
        owns = owns_after_of w pasts

        accepted : recover_refusal s F lent line ≡ None
        unfolding recover_refusal
        accepted = refusal_in _ None (rw h, (short_is ∙ long, (inside, (there, tt))))

        all : has_members w n (limits_in w n F) ≡ true
        all = all_found w h F ∙ ap not there

        losses_are : losses_then w pasts owns n ≡ recover_deletions s F
        unfolding losses_then recover_deletions deleted_at
        losses_are =
            gather_same n (λ p. listed p (gone_then w pasts owns p)) (λ p. listed p (gone_at_of s F p)) (λ p lt. ap (listed p) (gone_is w h F all p lt))
            ∙ ap (λ (k : ℕ). gather k (λ p. listed p (gone_at_of s F p))) (sym count)

        back_count : count_below n (λ p. goes_back w p (get_or pasts p 0)) ≡ rolled_back_count s F
        unfolding rolled_back_count
        back_count = count_same n (λ p. goes_back w p (get_or pasts p 0)) (rolled_back s F) (rolled w h F all) ∙ ap (λ (k : ℕ). count_below k (rolled_back s F)) (sym count)

        blocks_are : sum_below n (λ p. blocks_of (gone_then w pasts owns p)) ≡ sum_below s.count (λ p. blocks_of (gone_at_of s F p))
        blocks_are =
            sum_same n (λ p. blocks_of (gone_then w pasts owns p)) (λ p. blocks_of (gone_at_of s F p)) (λ p lt. ap blocks_of (gone_is w h F all p lt))
            ∙ ap (λ (k : ℕ). sum_below k (λ p. blocks_of (gone_at_of s F p))) (sym count)

        disk_then_lem : disk_then w pasts owns n ≡ billed s.disk 0 (sum_below s.count (λ p. blocks_of (gone_at_of s F p)))
        unfolding disk_then
        disk_then_lem = λ j. billed (sym (disk_is w h) j) 0 (blocks_are j)

        processes_are : with_processes n (part_then w pasts owns) s ≡ with_processes s.count (recovered s F) s
        processes_are = processes_same n (part_then w pasts owns) (recovered s F) s (recovered_is w h F all) ∙ ap (λ (k : ℕ). with_processes k (recovered s F) s) (sym count)

        -- The processes are done, then the lost messages are no longer under way.
        module _ (v u : List ℕ) (done : Restored w pasts owns n v) (sifted : Sifted indexes v u) where
          left : messages_in u ≡ still_under_way s F
          left = sifted.left ∙ ap (select (λ x. not (lost_to indexes x))) (messages_same w v done.end done.message_words) ∙ still_are w h F there

          last : wide2 u 2 ≡ s.last
          last = sifted.last ∙ (λ j. done.front 2 (omega arith) j + 65_536 * done.front 3 (omega arith) j) ∙ sym (last_is_lem w (sound_words w h).fit)

          run_is : run_of u ≡ recover_state s F
          unfolding recover_state
          run_is = with_messages_lem v u sifted.only done.fit sifted.fits sifted.counted
              ∙ (λ j. with_messages (done.run j) (left j) (last j))
              ∙ either_first (with_processes n (part_then w pasts owns) s) (disk_then w pasts owns n) (still_under_way s F) s.last
              ∙ (λ j. with_disk (with_messages (processes_are j) (still_under_way s F) s.last) (disk_then_lem j))

          leaves : Leaves w u
          leaves = record {
            size = sifted.only.size ∙ fits_size v done.fit ∙ sym (sound_words w h).size;
            clean = λ c. let d = done.clean c in clean_messages v u (omega (arith, done.front 0 (omega arith), (sound_words w h).few)) sifted.only (sifted.clean d.messages) d;
          }

          recovered_to : (back gone : ℕ) (d l : List ℕ) → back ≡ count_below n (λ p. goes_back w p (get_or pasts p 0)) → gone ≡ length (losses_then w pasts owns n)
              → d ≡ sets lent 0 (pairs (losses_then w pasts owns n)) → l ≡ sets line 0 (table n (λ p. (get_or indexes p (record { 0 = 0 })).0))
              → Left w F lent line (Ok (record { rolled_back = back; deleted = gone })) u d l
          unfolding recover_outcome
          recovered_to back gone d l backs many list indexed = rw accepted (
            run_is,
            (
              (λ j. Ok (record { rolled_back = (backs ∙ back_count) j; deleted = (many ∙ ap length losses_are) j })),
              (
                list ∙ ap (λ (x : List Deletion). sets lent 0 (pairs x)) losses_are,
                (
                  indexed ∙ ap (sets line 0) (line_is w h F there),
                  (λ why q. absurd (let z : ◌≡◌ {A = ℕ} 0 1 = cc in omega arith), leaves),
                ),
              ),
            ),
          )

        -- The same with the count, the members and the rest as they were found.
        pub recovers : (m : ℕ) (found : List ℕ) (line-indexes : List CheckpointIndex) (own_entries : List Interval) → m ≡ n → found ≡ pasts → line-indexes ≡ indexes_in w m found
            → own_entries ≡ owns_after_of w found → Recovers w F lent line m found line-indexes own_entries
        recovers m found line-indexes own_entries a b c d = rw (d, c, b, a) recovered_to

-- What the functions on the processes and on the messages rely on.
module _ (w : List ℕ) (h : sound (run_of w) ≡ true) (F : ℕ) (there : no_member_of (run_of w) F ≡ false) (small : (k : ℕ) → word w k < 65536) where
  abbrev found_pasts : List ℕ
  found_pasts = pasts_in w (count_of w) (limits_in w (count_of w) F)

  pub all_restorable : (m : ℕ) (found : List ℕ) → m ≡ count_of w → found ≡ found_pasts → AllRestorable m found w
  all_restorable m found a b = rw (b, a) (
    omega (arith, pasts_length w (count_of w) (limits_in w (count_of w) F), (sound_words w h).few),
    λ p lt. restorable w h F (all_found w h F ∙ ap not there) p lt small,
  )

  pub all_returning : (found : List ℕ) → found ≡ found_pasts → AllReturn found w
  all_returning found b = rw b (all_return w h F (all_found w h F ∙ ap not there) small)

pub senders_still : (w v pasts : List ℕ) (owns : List Interval) (k : ℕ) → sound (run_of w) ≡ true → Restored w pasts owns k v → (length v ≡ 6464) × (end_of v ≤ 64) × SendersPresent (end_of v) v
senders_still w v pasts owns k h done = (
  fits_size v done.fit,
  omega (arith, done.end, (sound_words w h).end),
  λ j lt is.
      omega (arith, done.message_words (sender_at_of j) (omega arith), senders_present w h j (omega (arith, done.end)) (ap is_message (sym (message_words_same w v done.end done.message_words j)) ∙ is)),
)
