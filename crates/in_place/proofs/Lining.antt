-- The line call: what its outcome is, by the list's length, the failed set, and whether each process has a member.
-- Assumes nothing.
use Rattle.std.specs.Prelude.{◌≡◌, ◌^◌, ◌≤◌, Err, Ok}
use Rattle.laws.specs.Basics.{refl, sym, ◌∙◌, ap, Bool, true, false, not, false≢true, List, [], None, Some, ℕ, arith, ltb, leb, length, get_or, sets, pick, by_bool}
use Rattle.laws.specs.{Below.not_out, Lists.table}
use Rattle.words_line.specs.Line.{limits_in, has_members, pasts_in, indexes_in, OwnSome, KeptCountMost, AllUsed, AllFound}
use Rattle.words_line.proofs.LineRule.{pasts_length, all_found, past_at, found_one, line_is}
use Prim.{tt}
use Rattle.model.specs.Shapes.{LineAnswer}
use Rattle.model.specs.declared.{Interval.Interval, CheckpointIndex.CheckpointIndex, Refusal.Refusal, Run.Run}
use Rattle.model.specs.declared.Refusal.TheVariants.{UnsoundState, ListTooShort, NoSuchFailedProcess}
use Rattle.model.specs.{Sound.sound, Steps.line_of, Refusals.outside, Refusals.no_member_of, Refusals.line_refusal, laws.Refusals.refusal_in}
use Rattle.admissions.specs.Admissions.{recovery_admission_of}
use Rattle.whole_runs.specs.Outcomes.{Outcome, line_outcome}
use Rattle.words.specs.Layout.{count_of, run_of}
use Rattle.words.proofs.{View.count_is_lem, ViewSound.sound_fits, ViewSound.sound_few, ViewSound.sound_part}

module _ (w : List ℕ) (h : sound (run_of w) ≡ true) (F : ℕ) (line : List ℕ) where
  abbrev s : Run
  s = run_of w

  count : s.count ≡ count_of w
  count = count_is_lem w (sound_fits w h)

  -- The outcome of a refusal, and of a line.
  unfoldable pub refused : Refusal → Outcome LineAnswer
  refused why = record { run = s; answer = Err why; rose = 0; deleted = []; line = line }

  by_refusal : (why : Refusal) → line_refusal s F line ≡ Some why → line_outcome s F line ≡ refused why
  unfolding line_outcome refused
  by_refusal why e = rw e

  pub line_short : ltb (length line) (count_of w) ≡ true → line_outcome s F line ≡ refused ListTooShort
  unfolding line_refusal
  line_short e = by_refusal ListTooShort (refusal_in _ (Some ListTooShort) (1, (rw h, tt), ap (ltb (length line)) count ∙ e, refl))

  module _ (long : ltb (length line) (count_of w) ≡ false) where
    long_enough : ltb (length line) s.count ≡ false
    long_enough = ap (ltb (length line)) count ∙ long

    set_refused : leb (2 ^ count_of w) F ≡ true → line_outcome s F line ≡ refused NoSuchFailedProcess
    unfolding line_refusal
    set_refused o = by_refusal NoSuchFailedProcess (refusal_in _ (Some NoSuchFailedProcess) (2, (rw h, (long_enough, tt)), rw count o, refl))

    pub line_refused : (why : Refusal) → recovery_admission_of (count_of w) F ≡ Err why → line_outcome s F line ≡ refused why
    unfolding recovery_admission_of
    line_refused why e = by_bool (leb (2 ^ count_of w) F)
        (λ o.
        let q : Err NoSuchFailedProcess ≡ Err why = rw o at e in
        let same : NoSuchFailedProcess ≡ why = cc in
        rw (← same) (set_refused o))
        (λ o. let q : (Ok tt) ≡ Err why = rw o at e in absurd (false≢true cc))

    module _ (passed : recovery_admission_of (count_of w) F ≡ Ok tt) where
      inside : outside s F ≡ false
      unfolding recovery_admission_of
      inside = by_bool (leb (2 ^ count_of w) F)
          (λ o. let q : Err NoSuchFailedProcess ≡ Ok tt = rw o at passed in absurd (false≢true cc))
          (λ o. rw count o)

      missing_outcome : no_member_of s F ≡ true → line_outcome s F line ≡ refused UnsoundState
      unfolding line_refusal
      missing_outcome e = by_refusal UnsoundState (refusal_in _ (Some UnsoundState) (3, (rw h, (long_enough, (inside, tt))), e, refl))

      written_outcome : no_member_of s F ≡ false → line_outcome s F line ≡ record { run = s; answer = Ok tt; rose = 0; deleted = []; line = sets line 0 (line_of s F) }
      unfolding line_outcome line_refusal
      written_outcome e = let judged : line_refusal s F line ≡ None = refusal_in _ None (rw h, (long_enough, (inside, (e, tt)))) in rw judged

      pub line_passed : line_outcome s F line ≡ record {
        run = s;
        answer = pick (no_member_of s F) (Err UnsoundState) (Ok tt);
        rose = 0;
        deleted = [];
        line = pick (no_member_of s F) line (sets line 0 (line_of s F));
      }
      unfolding refused
      line_passed = by_bool (no_member_of s F) (λ e. missing_outcome e ∙ rw e) (λ e. written_outcome e ∙ rw e)

-- What words_line relies on, of words that stand for a sound state with n processes; and what it finds.
module _ (w : List ℕ) (h : sound (run_of w) ≡ true) (n : ℕ) (same : n ≡ count_of w) where
  pub some_own : OwnSome n w
  some_own p lt = (sound_part w h p (omega arith)).own_some

  pub most_kept_count : KeptCountMost n w
  most_kept_count p lt = omega (arith, (sound_part w h p (omega arith)).kept_count_most, sound_few w h)

  pub all_used : AllUsed n w
  all_used p lt = (sound_part w h p (omega arith)).used

  -- The indexes of the members.
  abbrev indexes_for : ℕ → List CheckpointIndex
  indexes_for F = indexes_in w n (pasts_in w n (limits_in w n F))

  pub line_found : (F : ℕ) → no_member_of (run_of w) F ≡ false → (indexes : List CheckpointIndex) → indexes ≡ indexes_for F → table n (λ p. (get_or indexes p (record { 0 = 0 })).0) ≡ line_of (run_of w) F
  line_found F there indexes q = rw (q, same) (line_is w h F there)

  module _ (F : ℕ) (limits : List Interval) (of-set : limits ≡ limits_in w n F) where
    module _ (all : Bool) (found : all ≡ has_members w n limits) where
      all_are : all ≡ not (no_member_of (run_of w) F)
      all_are = found ∙ rw (of-set, same) (all_found w h F)

      pub members_missing : all ≡ false → no_member_of (run_of w) F ≡ true
      members_missing e = not_out (no_member_of (run_of w) F) false (sym all_are ∙ e)

      pub members_there : all ≡ true → no_member_of (run_of w) F ≡ false
      members_there e = not_out (no_member_of (run_of w) F) true (sym all_are ∙ e)

    module _ (pasts : List ℕ) (found : pasts ≡ pasts_in w n limits) where
      pub pasts_are : pasts ≡ pasts_in w (count_of w) (limits_in w (count_of w) F)
      pasts_are = found ∙ rw (of-set, same)

      pub indexes_found : (indexes : List CheckpointIndex) → indexes ≡ indexes_in w n pasts → indexes ≡ indexes_for F
      indexes_found indexes q = q ∙ rw (found, of-set)

      pub pasts_room : n ≤ length pasts
      pasts_room = omega (arith, ap length found ∙ pasts_length w n limits, sound_few w h)

      pub members_found : no_member_of (run_of w) F ≡ false → AllFound n pasts
      members_found there = (pasts_room, λ p lt. rw (pasts_are, past_at w h F p (omega arith)) (found_one w h F there p (omega arith)))
