-- Which checkpoint is refused, test by test, and what an accepted one leaves.
-- Assumes nothing.
use Rattle.std.specs.Prelude.{◌≡◌, ◌+◌, ◌*◌, ◌≤◌, ◌<◌, Err, Ok}
use Rattle.laws.specs.Basics.{refl, sym, ◌∙◌, ap, Bool, true, false, List, None, Some, ℕ, arith, ltb, leb, length, sets, le-leb, lt-leb, leb-false, pick, by_bool}
use Rattle.model.specs.Shapes.{CheckpointAnswer}
use Rattle.model.specs.declared.{CheckpointIndex.CheckpointIndex, Refusal.Refusal, Run.Run, Interval.Interval}
use Rattle.model.specs.declared.Refusal.TheVariants.{ListTooShort, NoSuchProcess, IntervalsUsed, BlocksUsed}
use Rattle.model.specs.Words.{most_blocks, basic, entry, live_index_of, live, Process, block_count, blocks_of, process, with_process, with_disk}
use Rattle.model.specs.Steps.{settled, gone, deletions, billed, checkpointed, checkpoint_state, checkpoint_deletions}
use Rattle.model.specs.{Sound.sound, Refusals.first_of, Refusals.short_deletions, Refusals.checkpoint_refusal, Refusals.at_last_interval, Refusals.past_blocks}
use Rattle.whole_runs.specs.Outcomes.{pairs, checkpoint_outcome}
use Rattle.admissions.specs.Admissions.{refusal_of, past_most}
use Rattle.words.specs.{Layout.word, Layout.wide4, Layout.count_of, Layout.blocks_at_of, Layout.part_at, Layout.interval_of, Layout.run_of, Parts.process_in}
use Rattle.words.proofs.{View.count_is_lem, View.written_is, View.deleted_is, ViewSound.sound_words, ViewSound.sound_process_is, ViewSound.sound_own_is}
use Rattle.words_process.specs.Moves.{disk_in, Moves}
use Rattle.words_process.proofs.Stepping.{block_count_lem, own_entry}
use Rattle.in_place.specs.{Left.Leaves, Storing.storing_admission}
use Rattle.in_place.proofs.{Leaving.same_words, Moving.moved_run, Moving.moved_leaves}
use Prim.{tt}

-- The blocks of the run.
pub disk_is : (w : List ℕ) → sound (run_of w) ≡ true → (run_of w).disk ≡ disk_in w
disk_is w h = λ j. record { written = written_is w (sound_words w h).fit j; deleted = deleted_is w (sound_words w h).fit j }

-- The two tests of a checkpoint that is stored, as rules and as a verdict.
pub either_way : (a b : Bool) → pick a (Some IntervalsUsed) (pick b (Some BlocksUsed) None) ≡ refusal_of (pick a (Err IntervalsUsed) (pick b (Err BlocksUsed) (Ok tt)))
unfolding refusal_of
either_way true b = refl
either_way false true = refl
either_way false false = refl

-- The two tests by the words, and the index of what is stored.
module _ (w : List ℕ) (h : sound (run_of w) ≡ true) (i : ℕ) (lt : i < count_of w) where
  pub index_is : (live i (process (run_of w) i)).index ≡ live_index_of (interval_of (word w (part_at i + i)))
  unfolding live process_in
  index_is = ap (λ (P : Process). live_index_of (entry P.vector i)) (sound_process_is w h i lt) ∙ ap live_index_of (own_entry w h i lt)

  last_is_lem : at_last_interval (run_of w) i ≡ leb 65535 (word w (part_at i + i))
  last_is_lem = ap (λ (x : Interval). leb 65535 x.0) (sound_own_is w h i lt)

  past_is : past_blocks (run_of w) i ≡ past_most (wide4 w 4) (word w (blocks_at_of i))
  unfolding past_most
  past_is = (λ j. ltb most_blocks (written_is w (sound_words w h).fit j + block_count (sound_process_is w h i lt j))) ∙ ap (λ (n : ℕ). ltb most_blocks (wide4 w 4 + n)) (block_count_lem w h i lt)

  pub admission_last : leb 65535 (word w (part_at i + i)) ≡ true → Err IntervalsUsed ≡ storing_admission (run_of w) i
  unfolding storing_admission
  admission_last e = ap (λ (a : Bool). pick a (Err IntervalsUsed) (pick (past_blocks (run_of w) i) (Err BlocksUsed) (Ok tt))) (sym (last_is_lem ∙ e))

  pub admission_past : leb 65535 (word w (part_at i + i)) ≡ false → (b : Bool) → past_most (wide4 w 4) (word w (blocks_at_of i)) ≡ b
      → pick b (Err BlocksUsed) (Ok tt) ≡ storing_admission (run_of w) i
  unfolding storing_admission
  admission_past e b f = λ j. pick (sym (last_is_lem ∙ e) j) (Err IntervalsUsed) (pick (sym (past_is ∙ f) j) (Err BlocksUsed) (Ok tt))

  -- An accepted one has an own entry that is not the last.
  pub accepted_own : (Ok tt) ≡ storing_admission (run_of w) i → word w (part_at i + i) < 65535
  accepted_own e = by_bool (leb 65535 (word w (part_at i + i)))
      (λ f. absurd (let z : (Ok tt) ≡ Err IntervalsUsed = e ∙ sym (admission_last f) in let y : ◌≡◌ {A = ℕ} 0 1 = cc in omega arith))
      (λ f. leb-false 65535 (word w (part_at i + i)) f)

module _ (w : List ℕ) (h : sound (run_of w) ≡ true) (i : ℕ) (l : List ℕ) where
  abbrev s : Run
  s = run_of w

  count : s.count ≡ count_of w
  count = count_is_lem w (sound_words w h).fit

  abbrev Left : CheckpointAnswer → List ℕ → List ℕ → Type 0
  Left r v k = (run_of v ≡ (checkpoint_outcome s i l).run) × ((r ≡ (checkpoint_outcome s i l).answer) × ((k ≡ (checkpoint_outcome s i l).deleted)
      × (((why : Refusal) → r ≡ Err why → v ≡ w) × Leaves w v)))

  refused : (why : Refusal) → checkpoint_refusal s i l ≡ Some why → Left (Err why) w l
  unfolding checkpoint_outcome
  refused why e = rw e (refl, (refl, (refl, (λ x q. refl, same_words w))))

  pub list_short : ltb (length l) (2 * count_of w * count_of w) ≡ true → Left (Err ListTooShort) w l
  unfolding checkpoint_refusal first_of
  list_short e = refused ListTooShort (rw (h, count, e))

  module _ (enough : ltb (length l) (2 * count_of w * count_of w) ≡ false) where
    pub no_process : count_of w ≤ i → Left (Err NoSuchProcess) w l
    unfolding checkpoint_refusal first_of
    no_process le = refused NoSuchProcess (rw (h, count, enough, le-leb (count_of w) i le))

    module _ (lt : i < count_of w) where
      judged : checkpoint_refusal s i l ≡ refusal_of (storing_admission s i)
      unfolding checkpoint_refusal first_of storing_admission refusal_of
      judged = rw (h, short_none, present) (either_way (at_last_interval s i) (past_blocks s i))
        where
          short_none : short_deletions s l ≡ false
          short_none = ap (λ (n : ℕ). ltb (length l) (2 * n * n)) count ∙ enough

          present : leb s.count i ≡ false
          present = ap (λ (n : ℕ). leb n i) count ∙ lt-leb (count_of w) i lt

      pub not_stored : (why : Refusal) → Err why ≡ storing_admission s i → Left (Err why) w l
      unfolding refusal_of
      not_stored why e = refused why (judged ∙ ap refusal_of (sym e))

      abbrev Q : Process
      Q = checkpointed basic i (process_in w i)

      state : checkpoint_state s i ≡ with_disk (with_process s i (settled Q)) (billed (disk_in w) (word w (blocks_at_of i)) (blocks_of (gone Q)))
      unfolding checkpoint_state
      state = (λ j. with_disk (with_process s i (settled (checkpointed basic i (same j)))) (billed (disk_is w h j) (block_count (same j)) (blocks_of (gone (checkpointed basic i (same j))))))
          ∙ ap (λ (n : ℕ). with_disk (with_process s i (settled Q)) (billed (disk_in w) n (blocks_of (gone Q)))) (block_count_lem w h i lt)
        where
          same : process s i ≡ process_in w i
          same = sound_process_is w h i lt

      deletions_are : checkpoint_deletions s i ≡ deletions i Q
      unfolding checkpoint_deletions
      deletions_are = ap (λ (P : Process). deletions i (checkpointed basic i P)) (sound_process_is w h i lt)

      pub stored : (Ok tt) ≡ storing_admission s i → (v k : List ℕ) (g : ℕ) (index : CheckpointIndex)
          → Moves w i (settled Q) (billed (disk_in w) (word w (blocks_at_of i)) (blocks_of (gone Q))) v → k ≡ sets l 0 (pairs (deletions i Q)) → g ≡ length (deletions i Q)
          → index ≡ live_index_of (interval_of (word w (part_at i + i))) → Left (Ok (record { index = index; deleted = g })) v k
      unfolding checkpoint_outcome refusal_of
      stored e v k g index m list many is = rw (judged ∙ ap refusal_of (sym e)) (
        moved_run w v i (settled Q) (billed (disk_in w) (word w (blocks_at_of i)) (blocks_of (gone Q))) (sound_words w h).fit lt (sound_words w h).few m ∙ sym state,
        (
          (λ j. Ok (record { index = (is ∙ sym (index_is w h i lt)) j; deleted = (many ∙ ap length (sym deletions_are)) j })),
          (
            list ∙ ap (λ d. sets l 0 (pairs d)) (sym deletions_are),
            (λ why q. absurd (let z : ◌≡◌ {A = ℕ} 0 1 = cc in omega arith), moved_leaves w v i (settled Q) (billed (disk_in w) (word w (blocks_at_of i)) (blocks_of (gone Q))) (sound_words w h).fit lt (sound_words w h).few m),
          ),
        ),
      )
