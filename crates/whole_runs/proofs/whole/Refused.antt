-- The number that a call on a reached state is refused with, by the surviving history and the call's arguments alone.
-- Assumes nothing.
use Rattle.std.specs.Prelude.{◌≡◌, ◌&&◌, ◌||◌, ◌∷◌, ◌+◌, ◌*◌, ◌^◌, ◌<◌}
use Rattle.laws.specs.Basics.{refl, sym, ◌∙◌, ap, Bool, true, false, not, List, [], Option, None, Some, ℕ, arith, ltb, leb, length, get_or, ltb-true, ltb-false, le-leb, lt-leb, leb-false, not-false, by_bool}
use Rattle.laws.specs.{Ranges.any_same, Members.some_same, Search.any_below, Search.any_out, Tests.some_of, Truth.never_both}
use Rattle.model.specs.declared.{Named.Named, Run.Run, Refusal.Refusal}
use Rattle.model.specs.{Words.most_blocks, Steps.found, Steps.latest_allowed, Sound.is_block_count_of, Sound.sound}
use Rattle.histories.specs.History.{checkpoints}
use Rattle.model.specs.Refusals.{number, Rule, first_of, start_refusal, short_deletions, short_line, absent, at_last_interval, past_blocks, outside, checkpoint_refusal, send_refusal, missing, forces_past, forces_over, deliver_refusal, lose_refusal, no_member_of, line_refusal, recover_refusal}
use Rattle.model.specs.laws.Refusals.{refusal_in, skipped, by_refusal}
use Rattle.whole_runs.specs.{Earliest.some_absent, Earliest.unfit, Earliest.not_kept, Earliest.some_ordered, Earliest.earliest_refusal, Survival.Surviving}
use Rattle.whole_runs.specs.Calls.{Call, checkpoint, send, deliver, lose, recover, line, earliest, call}
use Rattle.whole_runs.specs.Answers.{Reason, lowest, count_under_way, too_short, past_bound, start_reasons, reasons}
use Rattle.histories.proofs.{Run.Ideal, Run.forces, Invariant.Inv, Messages.underway_proper, Messages.used_number}
use Rattle.model.proofs.{simulation.View.message_of, simulation.View.messages_of, simulation.View.state_of, simulation.View.Limits, simulation.Sound.state_sound}
use Rattle.model.proofs.simulation.Reads.{count_is_lem, last_is_lem, underway_is, own_is}
use Rattle.model.proofs.{simulation.Messages.found_is, simulation.Messages.found_none, simulation.Deliver.deliver_forces}
use Rattle.model.proofs.{simulation.Lines.latest_allowed_lem, simulation.SoundCalls.written_is, simulation.SoundCalls.count_is_of}
use Rattle.model.proofs.simulation.SoundLimits.{messages_count}
use Rattle.whole_runs.proofs.{whole.EarliestLine.all_present, whole.EarliestLine.named_kept, whole.Agreement.Agrees, whole.Agreement.live_is, whole.Accepted.accepted_report}
use Rattle.whole_runs.proofs.whole.Reached.{refusal, refused_report}

-- The number of a refusal, 0 where there is none.
unfoldable pub number_of : Option Refusal → ℕ
number_of None = 0
number_of (Some x) = number x

-- A reply reports that number.
pub reports_number : (s : Run) (c : Call) → (call s c).reply.report.refused ≡ number_of (refusal s c)
unfolding number_of
reports_number s c = by_refusal (refusal s c)
    (λ e. rw e (accepted_report s c e))
    (λ x e. rw e (refused_report s c x e))

-- A state that stands for a run has a member of the line at each process.
pub members_found : (r : Ideal) → Inv r → Limits r → (F : ℕ) → no_member_of (state_of r) F ≡ false
unfolding no_member_of
members_found r v fit F = none_missing (state_of r).count (λ p. missing (latest_allowed (state_of r) F p))
    (λ p hp. rw (latest_allowed_lem r v fit.few_processes F p (rw (count_is_lem r) at hp)))
  where
    none_missing : (n : ℕ) (t : ℕ → Bool) → ((p : ℕ) → p < n → t p ≡ false) → any_below n t ≡ false
    none_missing n t h = by_bool (any_below n t) (λ e. let w = any_out n t e in never_both (t w.0) w.2 (h w.0 w.1)) (λ e. e)

-- Whether a delivery forces a checkpoint; false of any other call.
unfoldable pub forcing_of : Ideal → Call → Bool
forcing_of r (checkpoint i deleted) = false
forcing_of r (send i j) = false
forcing_of r (deliver m deleted) = forces r m
forcing_of r (lose m) = false
forcing_of r (recover F deleted lent) = false
forcing_of r (line F lent) = false
forcing_of r (earliest l lent) = false

-- Whether one of two named checkpoints comes before the other; false of any other call.
unfoldable pub ordered_of : Ideal → Call → Bool
ordered_of r (checkpoint i deleted) = false
ordered_of r (send i j) = false
ordered_of r (deliver m deleted) = false
ordered_of r (lose m) = false
ordered_of r (recover F deleted lent) = false
ordered_of r (line F lent) = false
ordered_of r (earliest l lent) = some_ordered (state_of r) l

-- A rule that does not hold gives no number. A rule and a reason that hold alike and have the same number give the same, if those after them do.
never : (t : Rule) (l : List Rule) (k : ℕ) → t.holds ≡ false → number_of (first_of l) ≡ k → number_of (first_of (t ∷ l)) ≡ k
never t l k e rest = ap number_of (skipped t l e) ∙ rest

alike : (t : Rule) (l : List Rule) (x : Reason) (k : List Reason) → t.holds ≡ x.holds → number t.gives ≡ x.number
    → (x.holds ≡ false → number_of (first_of l) ≡ lowest k) → number_of (first_of (t ∷ l)) ≡ lowest (x ∷ k)
unfolding number_of lowest
alike t l x k e same rest = by_bool x.holds
    (λ d. rw d (ap number_of (refusal_in (t ∷ l) (Some t.gives) (0, tt, e ∙ d, refl)) ∙ same))
    (λ d. rw d (never t l (lowest k) (e ∙ d) (rest d)))

no_more : number_of (first_of []) ≡ lowest []
unfolding number_of lowest
no_more = ap number_of (refusal_in [] None tt)

-- The number of a start.
outside_range : (low high k : ℕ) → not (leb low k && leb k high) ≡ (ltb k low || ltb high k)
outside_range low high k = by_bool (ltb k low)
    (λ e. rw (e, lt-leb low k (ltb-true k low e)))
    (λ e. rw (e, le-leb low k (ltb-false k low e)) (by_bool (ltb high k)
    (λ d. rw (d, lt-leb k high (ltb-true high k d)))
    (λ d. rw (d, le-leb k high (ltb-false high k d)))))

pub start_number : (n : ℕ) (block_counts : List ℕ) → number_of (start_refusal n block_counts) ≡ lowest (start_reasons n block_counts)
unfolding start_refusal start_reasons is_block_count_of number
start_number n block_counts =
    alike _ _ _ _ (outside_range 1 16 n) refl (λ z.
    alike _ _ _ _ (any_same n _ _ (λ p lt. outside_range 1 65_535 (get_or block_counts p 0))) refl (λ z. no_more))

module _ (h : Surviving) (r : Ideal) (v : Inv r) (fit : Limits r) (g : Agrees h r) where
  self : (p : ℕ) → r.vector p (r.own p) p ≡ r.own p
  self p = v.self p (r.own p) (omega arith)

  -- The state is sound: its first rule never holds.
  whole : not (sound (state_of r)) ≡ false
  whole = rw (state_sound r v fit)

  -- The tests of lengths, of processes and of failed sets.
  short_same : (deleted : List ℕ) → short_deletions (state_of r) deleted ≡ too_short r.n deleted
  short_same deleted = ap (λ (c : ℕ). ltb (length deleted) (2 * c * c)) (count_is_lem r)

  line_same : (lent : List ℕ) → short_line (state_of r) lent ≡ ltb (length lent) r.n
  line_same lent = ap (λ (c : ℕ). ltb (length lent) c) (count_is_lem r)

  absent_same : (i : ℕ) → absent (state_of r) i ≡ leb r.n i
  absent_same i = ap (λ (c : ℕ). leb c i) (count_is_lem r)

  outside_same : (F : ℕ) → outside (state_of r) F ≡ leb (2 ^ r.n) F
  outside_same F = ap (λ (c : ℕ). leb (2 ^ c) F) (count_is_lem r)

  -- The test of the last interval, of a process of the run.
  last_same : (i : ℕ) → i < r.n → at_last_interval (state_of r) i ≡ leb 65_535 (checkpoints (h.lists i))
  last_same i hi = rw (own_is r i fit.few_processes hi (self i), live_is h r v g i)

  -- The test of the blocks, of a process of the run.
  blocks_same : (i : ℕ) → i < r.n → past_blocks (state_of r) i ≡ past_bound h i
  blocks_same i hi = λ j. ltb most_blocks ((written_is r v fit ∙ sym g.written) j + (count_is_of r v fit i hi ∙ sym (ap (λ (c : ℕ → ℕ). c i) g.block_counts)) j)

  checkpoint_number : (b o : Bool) (i : ℕ) (deleted : List ℕ) → number_of (checkpoint_refusal (state_of r) i deleted) ≡ lowest (reasons r.n h b o (checkpoint i deleted))
  unfolding checkpoint_refusal reasons number
  checkpoint_number b o i deleted =
      never _ _ _ whole
      (alike _ _ _ _ (short_same deleted) refl (λ z.
      alike _ _ _ _ (absent_same i) refl (λ present.
      alike _ _ _ _ (last_same i (leb-false r.n i present)) refl (λ z.
      alike _ _ _ _ (blocks_same i (leb-false r.n i present)) refl (λ z. no_more)))))

  under_way_lem : count_under_way h ≡ length (messages_of r)
  unfolding count_under_way
  under_way_lem = rw (g.sends, g.underway) (sym (messages_count r))

  send_number : (b o : Bool) (i j : ℕ) → number_of (send_refusal (state_of r) i j) ≡ lowest (reasons r.n h b o (send i j))
  unfolding send_refusal reasons number
  send_number b o i j =
      never _ _ _ whole
      (alike _ _ _ _ (rw (count_is_lem r)) refl (λ z.
      alike _ _ _ _ refl refl (λ z.
      alike _ _ _ _ (rw (underway_is r, under_way_lem)) refl (λ z.
      alike _ _ _ _ (rw (last_is_lem r, g.sends)) refl (λ z. no_more)))))

  -- The message is under way by the state exactly if it is by the history.
  missing_same : (m : ℕ) → missing (found (state_of r) m) ≡ not (h.underway m)
  missing_same m = rw g.underway (by_bool (r.transit m)
      (λ t. rw (t, found_is r m (used_number r v m t) t))
      (λ t. rw (t, found_none r m t)))

  forces_past_lem : (m : ℕ) → not (h.underway m) ≡ false → forces_past (state_of r) (found (state_of r) m) ≡ (forces r m && leb 65_535 (checkpoints (h.lists (h.receiver m))))
  unfolding forces_past message_of
  forces_past_lem m e =
      let t : r.transit m ≡ true = not-false _ (rw g.underway at e) in
      let hi : r.receiver m < r.n = (underway_proper r v m t).to in
      rw (found_is r m (used_number r v m t) t, g.receiver, deliver_forces r m fit.few_processes hi (self (r.receiver m)), last_same (r.receiver m) hi)

  forces_over_lem : (m : ℕ) → not (h.underway m) ≡ false → forces_over (state_of r) (found (state_of r) m) ≡ (forces r m && past_bound h (h.receiver m))
  unfolding forces_over message_of
  forces_over_lem m e =
      let t : r.transit m ≡ true = not-false _ (rw g.underway at e) in
      let hi : r.receiver m < r.n = (underway_proper r v m t).to in
      rw (found_is r m (used_number r v m t) t, g.receiver, deliver_forces r m fit.few_processes hi (self (r.receiver m)), blocks_same (r.receiver m) hi)

  deliver_number : (o : Bool) (m : ℕ) (deleted : List ℕ) → number_of (deliver_refusal (state_of r) m deleted) ≡ lowest (reasons r.n h (forces r m) o (deliver m deleted))
  unfolding deliver_refusal reasons number
  deliver_number o m deleted =
      never _ _ _ whole
      (alike _ _ _ _ (short_same deleted) refl (λ z.
      alike _ _ _ _ (missing_same m) refl (λ there.
      alike _ _ _ _ (forces_past_lem m there) refl (λ z.
      alike _ _ _ _ (forces_over_lem m there) refl (λ z. no_more)))))

  lose_number : (b o : Bool) (m : ℕ) → number_of (lose_refusal (state_of r) m) ≡ lowest (reasons r.n h b o (lose m))
  unfolding lose_refusal reasons number
  lose_number b o m = never _ _ _ whole (alike _ _ _ _ (missing_same m) refl (λ z. no_more))

  line_number : (b o : Bool) (F : ℕ) (lent : List ℕ) → number_of (line_refusal (state_of r) F lent) ≡ lowest (reasons r.n h b o (line F lent))
  unfolding line_refusal reasons number
  line_number b o F lent =
      never _ _ _ whole
      (alike _ _ _ _ (line_same lent) refl (λ z.
      alike _ _ _ _ (outside_same F) refl (λ z.
      never _ _ _ (members_found r v fit F) no_more)))

  recover_number : (b o : Bool) (F : ℕ) (deleted lent : List ℕ) → number_of (recover_refusal (state_of r) F deleted lent) ≡ lowest (reasons r.n h b o (recover F deleted lent))
  unfolding recover_refusal reasons number
  recover_number b o F deleted lent =
      never _ _ _ whole
      (alike _ _ _ _ (rw (count_is_lem r)) refl (λ z.
      alike _ _ _ _ (outside_same F) refl (λ z.
      never _ _ _ (members_found r v fit F) no_more)))

  -- Kept by the pairs handed out is kept by the state, of processes of the run.
  kept_same : (l : List Named) → some_absent r.n l ≡ false → some_of (not_kept (state_of r)) l ≡ some_of (λ c. not (h.kept c.process c.index.0)) l
  unfolding not_kept
  kept_same l e = some_same (not_kept (state_of r)) (λ c. not (h.kept c.process c.index.0)) l
      (λ c m. let hc : c.process < r.n = rw (count_is_lem r) at (all_present (state_of r) l (rw (count_is_lem r) e) c m) in
      ap not (named_kept r v fit.few_processes c hc ∙ sym (g.kept c.process c.index.0 hc)))

  pub earliest_number : (b : Bool) (l : List Named) (lent : List ℕ) → number_of (earliest_refusal (state_of r) l lent) ≡ lowest (reasons r.n h b (some_ordered (state_of r) l) (earliest l lent))
  unfolding earliest_refusal reasons number
  earliest_number b l lent =
      never _ _ _ whole
      (alike _ _ _ _ (line_same lent) refl (λ z.
      alike _ _ _ _ (ap (λ (c : ℕ). some_absent c l) (count_is_lem r)) refl (λ present.
      alike _ _ _ _ (ap (λ (c : ℕ). unfit c l) (count_is_lem r)) refl (λ z.
      alike _ _ _ _ (kept_same l present) refl (λ z.
      alike _ _ _ _ refl refl (λ z. no_more))))))

  pub number_right : (c : Call) → number_of (refusal (state_of r) c) ≡ lowest (reasons r.n h (forcing_of r c) (ordered_of r c) c)
  unfolding refusal forcing_of ordered_of
  number_right (checkpoint i deleted) = checkpoint_number false false i deleted
  number_right (send i j) = send_number false false i j
  number_right (deliver m deleted) = deliver_number false m deleted
  number_right (lose m) = lose_number false false m
  number_right (recover F deleted lent) = recover_number false false F deleted lent
  number_right (line F lent) = line_number false false F lent
  number_right (earliest l lent) = earliest_number false l lent
