-- The reported line of a reached state is right: both calls are accepted and write it; it is consistent by the messages of the surviving history;
-- nothing later is; its members are live and not failed, or kept.
-- Assumes nothing.
use Rattle.std.specs.Prelude.{◌≡◌, ◌||◌, ◌⊎◌, ◌*◌, ◌^◌, ◌≤◌, ◌<◌}
use Rattle.laws.specs.Basics.{refl, ◌∙◌, true, false, List, None, Some, inl, inr, ℕ, arith, ltb, length, get_or, lt-ltb, ltb-true, ltb-false, by_bool}
use Rattle.laws.specs.{Front.get_d_written, Lists.table, Tables.length_table, Tables.get_d_table, Truth.or_left, Truth.or_in_right}
use Rattle.model.specs.declared.{Run.Run, Refusal.TheVariants.ListTooShort}
use Rattle.model.specs.{Words.failed, Steps.line_of, Sound.sound, laws.Refusals.refusal_in}
use Rattle.histories.specs.History.{Line, Consistent}
use Rattle.model.specs.Refusals.{short_deletions, short_line, no_member_of, line_refusal, recover_refusal}
use Rattle.whole_runs.specs.{Outcomes.line_outcome, Outcomes.recover_outcome, Survival.Surviving, Answers.RightLine}
use Rattle.whole_runs.specs.WholeRuns.{reported, LineIsRight}
use Rattle.histories.proofs.{Run.Ideal, Run.line, Invariant.Inv, Line.line_le, Line.line_consistent, Line.failed_back, Line.below_kept, Maximal.line_maximal}
use Rattle.model.proofs.{Precedence.rule_by_precedence, simulation.Accepted.line_in, simulation.Accepted.recover_in}
use Rattle.whole_runs.proofs.whole.Agreement.{Agrees, live_is}

-- A list that is too short is the first thing that is refused of a sound state.
module _ (s : Run) (F : ℕ) (whole : sound s ≡ true) where
  line_short : (lent : List ℕ) → length lent < s.count → line_refusal s F lent ≡ Some ListTooShort
  unfolding line_refusal
  line_short lent h = refusal_in _ (Some ListTooShort) (1, (rw whole, tt), lt-ltb (length lent) s.count h, refl)

  recover_short : (deleted lent : List ℕ) → (length deleted < 2 * s.count * s.count) ⊎ (length lent < s.count) → recover_refusal s F deleted lent ≡ Some ListTooShort
  unfolding recover_refusal
  recover_short deleted lent h = refusal_in _ (Some ListTooShort) (1, (rw whole, tt), short h, refl)
    where
      short : (length deleted < 2 * s.count * s.count) ⊎ (length lent < s.count) → (short_deletions s deleted || short_line s lent) ≡ true
      short (inl d) = or_left (short_deletions s deleted) (short_line s lent) (lt-ltb (length deleted) (2 * s.count * s.count) d)
      short (inr l) = or_in_right (short_deletions s deleted) (short_line s lent) (lt-ltb (length lent) s.count l)

-- Indexes that are those of a right line are a right line.
pub same_line : (n : ℕ) (h : Surviving) (F : ℕ) (a b : Line) → RightLine n h F a → ((p : ℕ) → p < n → b p ≡ a p) → RightLine n h F b
unfolding Consistent
same_line n h F a b right e = record {
  consistent = λ q p m hq hp. rw (e q hq, e p hp) (right.consistent q p m hq hp);
  maximal = λ other possible p hp. rw (e p hp) (right.maximal other possible p hp);
  members = λ p hp. rw (e p hp) (right.members p hp);
}

-- A run as functions for which the state stands, and whose history agrees; what the state's own line rule gives is its line.
module _ (r : Ideal) (v : Inv r) (s : Run) (h : Surviving) (g : Agrees h r) (F : ℕ) (count : s.count ≡ r.n) (whole : sound s ≡ true)
    (lines : line_of s F ≡ table r.n (line r (failed F))) (members : no_member_of s F ≡ false) (inside : F < 2 ^ r.n) where
  -- The reported line is the line of the run as functions.
  pub reported_is : (p : ℕ) → p < r.n → reported s F p ≡ line r (failed F) p
  reported_is p hp = rw lines (get_d_table r.n (line r (failed F)) p 0 hp)

  line_length : length (line_of s F) ≡ r.n
  line_length = rw lines (length_table r.n (line r (failed F)))

  set_inside : F < 2 ^ s.count
  set_inside = rw count inside

  accepted_line : (lent : List ℕ) → r.n ≤ length lent → line_refusal s F lent ≡ None
  accepted_line lent room = line_in s F lent (record { whole = whole; room = omega arith; set = set_inside; members = members })

  accepted_recover : (deleted lent : List ℕ) → 2 * r.n * r.n ≤ length deleted → r.n ≤ length lent → recover_refusal s F deleted lent ≡ None
  accepted_recover deleted lent pairs room =
      recover_in s F deleted lent (record { whole = whole; room = rw count pairs; line_room = omega arith; set = set_inside; members = members })

  writes_line : (lent : List ℕ) → r.n ≤ length lent → (p : ℕ) → p < r.n → get_or (line_outcome s F lent).line p 0 ≡ reported s F p
  unfolding line_outcome
  writes_line lent room p hp = rw (accepted_line lent room) (get_d_written lent (line_of s F) (omega (arith, line_length)) p 0 (omega (arith, line_length)))

  writes_recover : (deleted lent : List ℕ) → 2 * r.n * r.n ≤ length deleted → r.n ≤ length lent → (p : ℕ) → p < r.n
      → get_or (recover_outcome s F deleted lent).line p 0 ≡ reported s F p
  unfolding recover_outcome
  writes_recover deleted lent pairs room p hp =
      rw (accepted_recover deleted lent pairs room) (get_d_written lent (line_of s F) (omega (arith, line_length)) p 0 (omega (arith, line_length)))

  -- The line of the run as functions is right by the history.
  ideal_right : RightLine r.n h F (line r (failed F))
  ideal_right = record {
    consistent = rw g.lists (line_consistent r v (failed F));
    maximal = rw g.lists (λ other possible. line_maximal r v (failed F) other possible.within possible.consistent possible.back);
    members = λ p hp. rw (live_is h r v g p) (by_bool (ltb (line r (failed F) p) (r.own p))
        (λ e. let back : line r (failed F) p < r.own p = ltb-true _ _ e in inr (back, g.kept p (line r (failed F) p) hp ∙ below_kept r v (failed F) p back))
        (λ e. let stays : r.own p ≤ line r (failed F) p = ltb-false _ _ e in
        inl (
          omega (arith, line_le r v (failed F) p),
          by_bool (failed F p) (λ b. absurd (omega (arith, failed_back r v (failed F) p hp b))) (λ b. b),
        )));
  }

  pub line_right : LineIsRight r.n s h F
  line_right = record {
    state_sound = whole;
    line_accepted = accepted_line;
    line_short = λ lent short. line_short s F whole lent (rw count short);
    recover_accepted = accepted_recover;
    recover_short = λ deleted lent short. recover_short s F whole deleted lent (rw count short);
    line_writes = writes_line;
    recover_writes = writes_recover;
    by_precedence = rw (← count) (rule_by_precedence s F whole);
    right = same_line r.n h F (line r (failed F)) (reported s F) ideal_right reported_is;
  }
