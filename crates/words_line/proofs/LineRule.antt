-- The line rule on the words says what Steps says of the run that sound words stand for.
-- Assumes nothing.
use Rattle.std.specs.Prelude.{◌≡◌, ◌||◌, ◌∷◌, ◌++◌, ◌+◌, ◌-◌, ◌≤◌, ◌<◌}
use Rattle.laws.specs.Basics.{refl, sym, ◌∙◌, ap, Bool, true, false, not, List, [], append-nil, None, Some, ℕ, zero, suc, arith, eqb, ltb, leb, length, get_or, replicate, length-replicate, get_or-replicate, eq-eqb, ne_eqb, eqb-false, lt-ltb, le-ltb, le-leb, lt-leb, pick, by_bool, by_eq}
use Rattle.laws.specs.{Lists.select, Lists.last_of, Lists.or_else, Lists.table, Loops.below_length, Loops.below_at, Loops.below_above, Rows.by_lt}
use Rattle.laws.specs.{Ranges.all_same, Below.all_not_any, Search.all_below, Search.any_below, Search.any_none, Select.select_append, Select.last_of_snoc}
use Rattle.laws.specs.Tables.{table_same}
use Rattle.model.specs.declared.{Interval.Interval, CheckpointIndex.CheckpointIndex, Checkpoint.Checkpoint, Run.Run}
use Rattle.model.specs.Words.{entry, below, failed, live, zero_vector, Process, process, own}
use Rattle.model.specs.{Sound.sound, Steps.allowed, Steps.states, Steps.latest_allowed, Steps.member, Steps.line_of, Refusals.missing, Refusals.no_member_of}
use Rattle.words.specs.Layout.{word, count_of, kept_count_at_of, part_at, stored_at, vector_in, checkpoint_in, run_of}
use Rattle.words.specs.Parts.{process_in}
use Rattle.words.proofs.{Same.vector_word, View.count_is_lem, ViewRows.vector_within, ViewRows.vector_zero, ViewRows.stored_within, ViewRows.stored_zero}
use Rattle.words.proofs.ViewSound.{sound_fits, sound_few, sound_process_is, sound_own_is, sound_part}
use Rattle.words_line.specs.Line.{limit_of, limits_in, is_within, past_kept, past_latest, state_in, state_before, has_members, pasts_in, index_in_of, indexes_in}

-- Numbers from n on that pass do not count.
pub all_wider : (n m : ℕ) (t : ℕ → Bool) → n ≤ m → ((k : ℕ) → n ≤ k → k < m → t k ≡ true) → all_below m t ≡ all_below n t
unfolding all_below
all_wider n zero t le h = let z : n ≡ 0 = omega arith in rw z
all_wider n (suc m) t le h = by_eq n (suc m)
    (λ e. rw e)
    (λ ne. rw (h m (omega arith) (omega arith)) (all_wider n m t (omega arith) (λ k a b. h k a (omega arith))))

-- Below an own entry, or at most it.
below_limit : (x g : ℕ) (f : Bool) → 1 ≤ g → x ≤ g → leb x (pick f (g - 1) g) ≡ (not f || ltb x g)
below_limit x g false one le = le-leb x g le
below_limit x g true one le = by_lt x g (λ lt. le-leb x (g - 1) (omega arith) ∙ sym (lt-ltb x g lt)) (λ ge. lt-leb x (g - 1) (omega arith) ∙ sym (le-ltb x g ge))

-- No place is past the live state's.
module _ (w : List ℕ) (limits : List Interval) (p : ℕ) where
  kept_most : (k : ℕ) → past_kept w limits p k ≤ k
  unfolding past_kept
  kept_most zero = omega arith
  kept_most (suc k) = by_bool (is_within limits (vector_in w (stored_at p k))) (λ e. rw e (omega arith)) (λ e. rw e (omega (arith, kept_most k)))

  pub past_most : past_latest w limits p ≤ word w (kept_count_at_of p) + 1
  unfolding past_latest
  past_most = by_bool (is_within limits (vector_in w (part_at p))) (λ e. rw e (omega arith)) (λ e. rw e (omega (arith, kept_most (word w (kept_count_at_of p)))))

pub pasts_length : (w : List ℕ) (n : ℕ) (limits : List Interval) → length (pasts_in w n limits) ≡ 16
unfolding pasts_in
pasts_length w n limits = below_length (past_latest w limits) (replicate 16 0) n ∙ length-replicate {A = ℕ} 16 0

-- The last of a table that passes.
pub last_more : {A : Type 0} (t : A → Bool) (n : ℕ) (g : ℕ → A) → t (g n) ≡ true → last_of (select t (table (suc n) g)) ≡ Some (g n)
unfolding table select
last_more t n g e = ap last_of (select_append t (table n g) (g n ∷ []) ∙ rw e) ∙ last_of_snoc (select t (table n g)) (g n)

pub last_less : {A : Type 0} (t : A → Bool) (n : ℕ) (g : ℕ → A) → t (g n) ≡ false → last_of (select t (table (suc n) g)) ≡ last_of (select t (table n g))
unfolding table select
last_less t n g e = ap last_of (select_append t (table n g) (g n ∷ []) ∙ rw e (append-nil _))

module _ (w : List ℕ) (h : sound (run_of w) ≡ true) (F : ℕ) where
  abbrev s : Run
  s = run_of w

  abbrev limits : List Interval
  limits = limits_in w (count_of w) F

  few : count_of w ≤ 16
  few = sound_few w h

  count : s.count ≡ count_of w
  count = count_is_lem w (sound_fits w h)

  limit_below : (f : ℕ) → f < count_of w → entry limits f ≡ limit_of w F f
  unfolding limits_in
  limit_below f lt = let zero : Interval = record { 0 = 0 } in let size : length zero_vector ≡ 16 = length-replicate 16 zero in below_at (limit_of w F) zero_vector (count_of w) f (record { 0 = 0 }) lt (omega (arith, few))

  -- A vector with no entry above the own one that it is of, and zeros at n and above, is within the limits where the rule allows its state.
  within_is : (at : ℕ) → ((f : ℕ) → f < count_of w → word w (at + f) ≤ word w (part_at f + f)) → ((f : ℕ) → count_of w ≤ f → f < 16 → word w (at + f) ≡ 0)
      → (c : Checkpoint) → c.vector ≡ vector_in w at → is_within limits (vector_in w at) ≡ allowed s F c
  unfolding is_within allowed limit_of
  within_is at low zeros c e =
      all_wider (count_of w) 16 (λ f. leb (entry (vector_in w at) f).0 (entry limits f).0) few
      (λ f le lt. le-leb (entry (vector_in w at) f).0 (entry limits f).0 (omega (arith, ap (λ (x : Interval). x.0) (vector_word w at f lt), zeros f le lt)))
      ∙ all_same (count_of w) _ (λ f. not (failed F f) || below (entry c.vector f) (own s f))
      (λ f lt. rw (vector_word w at f (omega (arith, few)), limit_below f lt, e, vector_word w at f (omega (arith, few)), sound_own_is w h f lt)
      (below_limit (word w (at + f)) (word w (part_at f + f)) (failed F f) (sound_part w h f lt).own_some (low f lt)))
      ∙ ap (λ (n : ℕ). all_below n (λ f. not (failed F f) || below (entry c.vector f) (own s f))) (sym count)

  module _ (p : ℕ) (lt : p < count_of w) where
    abbrev kept_count_of_def : ℕ
    kept_count_of_def = word w (kept_count_at_of p)

    kept_allowed : (k : ℕ) → k < kept_count_of_def → is_within limits (vector_in w (stored_at p k)) ≡ allowed s F (checkpoint_in w p k)
    unfolding checkpoint_in
    kept_allowed k less = within_is (stored_at p k) (stored_within w h p lt k less) (stored_zero w h p lt k less) (checkpoint_in w p k) refl

    live_allowed : is_within limits (vector_in w (part_at p)) ≡ allowed s F (live p (process_in w p))
    unfolding live process_in
    live_allowed = within_is (part_at p) (vector_within w h p lt) (vector_zero w h p lt) (live p (process_in w p)) refl

    -- The states of the process, by their places.
    state_kept : (k : ℕ) → k < kept_count_of_def → state_in w p k ≡ checkpoint_in w p k
    unfolding state_in
    state_kept k less = rw (lt-ltb k kept_count_of_def less)

    state_live : state_in w p kept_count_of_def ≡ live p (process_in w p)
    unfolding state_in
    state_live = rw (le-ltb kept_count_of_def kept_count_of_def (omega arith))

    states_are : states p (process s p) ≡ table (suc kept_count_of_def) (state_in w p)
    unfolding states table
    states_are =
        ap (λ (P : Process). P.kept ++ (live p P ∷ [])) (sound_process_is w h p lt)
        ∙ rw (state_live, table_same kept_count_of_def (state_in w p) (checkpoint_in w p) state_kept) (ap (λ (l : List Checkpoint). l ++ (live p (process_in w p) ∷ [])) (sound_part w h p lt).kept_is)

    none_found : last_of (select (allowed s F) (table 0 (state_in w p))) ≡ state_before w p 0
    unfolding table select last_of state_before
    none_found = refl

    one_found : (k : ℕ) → allowed s F (state_in w p k) ≡ true → last_of (select (allowed s F) (table (suc k) (state_in w p))) ≡ state_before w p (suc k)
    unfolding state_before
    one_found k e = last_more (allowed s F) k (state_in w p) e

    more : (k : ℕ) → suc k ≡ k + 1
    more k = omega arith

    none_missing : (k : ℕ) → missing (state_before w p k) ≡ eqb k 0
    unfolding state_before
    none_missing zero = sym (eq-eqb 0 0 refl)
    none_missing (suc k) = sym (ne_eqb (suc k) 0 (λ e. omega arith))

    some_state : (k : ℕ) → 1 ≤ k → (d : Checkpoint) → or_else (state_before w p k) d ≡ state_in w p (k - 1)
    unfolding state_before
    some_state zero one d = absurd (omega arith)
    some_state (suc k) one d = let e : suc k - 1 ≡ k = omega arith in rw e

    -- The latest of the first kept ones that the rule allows.
    kept_found : (k : ℕ) → k ≤ kept_count_of_def → last_of (select (allowed s F) (table k (state_in w p))) ≡ state_before w p (past_kept w limits p k)
    unfolding past_kept
    kept_found zero le = none_found
    kept_found (suc k) le = by_bool (is_within limits (vector_in w (stored_at p k)))
        (λ e. rw e (one_found k (ap (allowed s F) (state_kept k (omega arith)) ∙ sym (kept_allowed k (omega arith)) ∙ e)))
        (λ e. rw e (last_less (allowed s F) k (state_in w p) (ap (allowed s F) (state_kept k (omega arith)) ∙ sym (kept_allowed k (omega arith)) ∙ e) ∙ kept_found k (omega arith)))

    pub latest_is : latest_allowed s F p ≡ state_before w p (past_latest w limits p)
    unfolding latest_allowed past_latest
    latest_is = ap (λ (l : List Checkpoint). last_of (select (allowed s F) l)) states_are ∙ by_bool (is_within limits (vector_in w (part_at p)))
        (λ e. rw e (one_found kept_count_of_def (ap (allowed s F) state_live ∙ sym live_allowed ∙ e) ∙ ap (state_before w p) (more kept_count_of_def)))
        (λ e. rw e (last_less (allowed s F) kept_count_of_def (state_in w p) (ap (allowed s F) state_live ∙ sym live_allowed ∙ e) ∙ kept_found kept_count_of_def (omega arith)))

    pub missing_is : missing (latest_allowed s F p) ≡ eqb (past_latest w limits p) 0
    missing_is = rw latest_is (none_missing (past_latest w limits p))

    -- Where there is one, it is the line's member.
    pub member_is : 1 ≤ past_latest w limits p → member s F p ≡ state_in w p (past_latest w limits p - 1)
    unfolding member
    member_is one = rw latest_is (some_state (past_latest w limits p) one (live p (process s p)))

    pub index_is : (past : ℕ) → 1 ≤ past → past ≤ kept_count_of_def + 1 → (state_in w p (past - 1)).index ≡ index_in_of w p past
    unfolding state_in index_in_of live checkpoint_in process_in
    index_is past one most = by_lt (past - 1) kept_count_of_def
        (λ less. rw (lt-ltb (past - 1) kept_count_of_def less, le-leb past kept_count_of_def (omega arith)))
        (λ ge. rw (le-ltb (past - 1) kept_count_of_def ge, lt-leb past kept_count_of_def (omega arith), vector_word w (part_at p) p (omega (arith, few))))

  -- The line, and whether each process has a member.
  pub all_found : has_members w (count_of w) limits ≡ not (no_member_of s F)
  unfolding has_members no_member_of
  all_found =
      all_same (count_of w) _ (λ p. not (missing (latest_allowed s F p))) (λ p lt. ap not (sym (missing_is p lt)))
      ∙ all_not_any (count_of w) (λ p. missing (latest_allowed s F p)) (λ p. missing (latest_allowed s F p)) (λ k. refl)
      ∙ ap (λ (n : ℕ). not (any_below n (λ p. missing (latest_allowed s F p)))) (sym count)

  pub past_at : (p : ℕ) → p < count_of w → get_or (pasts_in w (count_of w) limits) p 0 ≡ past_latest w limits p
  unfolding pasts_in
  past_at p lt = let size = length-replicate {A = ℕ} 16 0 in below_at (past_latest w limits) (replicate 16 0) (count_of w) p 0 lt (omega (arith, few))

  pub past_beyond : (p : ℕ) → count_of w ≤ p → p < 16 → get_or (pasts_in w (count_of w) limits) p 0 ≡ 0
  unfolding pasts_in
  past_beyond p le lt = below_above (past_latest w limits) (replicate 16 0) (count_of w) p 0 le ∙ get_or-replicate {A = ℕ} 16 p 0 0 lt

  module _ (there : no_member_of s F ≡ false) where
    pub found_one : (p : ℕ) → p < count_of w → 1 ≤ past_latest w limits p
    unfolding no_member_of
    found_one p lt =
        let e = any_none s.count (λ p. missing (latest_allowed s F p)) there p (omega (arith, count)) in
        let ne = eqb-false (past_latest w limits p) 0 (sym (missing_is p lt) ∙ e) in
        by_eq (past_latest w limits p) 0 (λ z. absurd (ne z)) (λ q. omega arith)

    pub index_at_lem : (p : ℕ) → p < count_of w → (member s F p).index ≡ index_in_of w p (past_latest w limits p)
    index_at_lem p lt = ap (λ (c : Checkpoint). c.index) (member_is p lt (found_one p lt)) ∙ index_is p lt (past_latest w limits p) (found_one p lt) (past_most w limits p)

    pub indexes_at : (p : ℕ) → p < count_of w → get_or (indexes_in w (count_of w) (pasts_in w (count_of w) limits)) p (record { 0 = 0 }) ≡ (member s F p).index
    unfolding indexes_in
    indexes_at p lt =
        let no_index : CheckpointIndex = record { 0 = 0 } in
        let size : length (replicate 16 no_index) ≡ 16 = length-replicate 16 no_index in
        below_at (λ p. index_in_of w p (get_or (pasts_in w (count_of w) limits) p 0)) (replicate 16 no_index) (count_of w) p no_index lt (omega (arith, few))
        ∙ ap (index_in_of w p) (past_at p lt)
        ∙ sym (index_at_lem p lt)

    pub line_is : table (count_of w) (λ p. (get_or (indexes_in w (count_of w) (pasts_in w (count_of w) limits)) p (record { 0 = 0 })).0) ≡ line_of s F
    unfolding line_of
    line_is =
        table_same (count_of w) _ (λ p. (member s F p).index.0) (λ p lt. ap (λ (x : CheckpointIndex). x.0) (indexes_at p lt))
        ∙ ap (λ (n : ℕ). table n (λ p. (member s F p).index.0)) (sym count)
