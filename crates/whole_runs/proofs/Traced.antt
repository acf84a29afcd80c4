-- States of a trace run. Note 5: "a trace run uses 1". Every kept checkpoint has block count 1. And no more is written than one block for each process and each
-- record, so no record of a trace meets 16.
-- Assumes nothing.
use Rattle.std.specs.Prelude.{◌≡◌, ◌&&◌, ◌∷◌, ◌++◌, ◌+◌, ◌*◌, ◌≤◌, ◌<◌}
use Rattle.laws.specs.Basics.{refl, sym, ◌∙◌, ap, Bool, true, false, List, [], Option, None, Some, ℕ, suc, arith, eqb, leb, length, get_or, length-append, get_or-replicate, eq-eqb, le-ltb, leb-true, leb-false, by_bool}
use lib.ListN.{get_or-eq_default}
use Rattle.laws.specs.{Sums.sum_le, Tests.every, Truth.never_both}
use Rattle.model.specs.declared.{Run.Run, Event.Event}
use Rattle.model.specs.{Words.most_processes, Words.ones, Words.process, Steps.start_state, Refusals.number, Refusals.start_refusal, Trace.decoded}
use Rattle.whole_runs.specs.{Outcomes.start_outcome, Answers.Reason, Answers.lowest, Answers.past_bound, Answers.reasons}
use Rattle.whole_runs.specs.Calls.{Call, checkpoint, send, deliver, lose, recover, line, earliest, Exchange, call, state_after, transcript}
use Rattle.whole_runs.specs.Survival.{Surviving, beginning, accepted, after, surviving_from, stored_by, count_of}
use Rattle.whole_runs.specs.Listing.{call_of, perform, most_records, state_after_records}
use Rattle.whole_runs.specs.WholeRuns.{Reachable, Traced, TraceMeetsNoBound}
use Rattle.histories.proofs.Run.{Ideal, begun, open_ledger}
use Rattle.model.proofs.{simulation.View.checkpoint_of, simulation.View.process_of, simulation.Reads.count_is_lem, simulation.Reads.process_is}
use Rattle.model.proofs.{simulation.Kept.kept_every, simulation.Billing.stored_blocks, simulation.Accepted.start_out}
use Rattle.whole_runs.proofs.{whole.Reached.Reached, whole.Runs.run_after, whole.Runs.counts_after}
use Rattle.whole_runs.proofs.WholeRuns.{started_state, after_one, reachable_reached, reached_answer}

-- The start, one call more, one record more.
pub traced_start : (n : ℕ) → start_refusal n ones ≡ None → Traced (start_outcome n ones).run
unfolding Traced state_after
traced_start n ok = (n, ok, [], refl)

pub traced_reachable : (s : Run) → Traced s → Reachable s
unfolding Traced Reachable
traced_reachable s v = (v.0, ones, v.1, v.2, v.3)

pub traced_call : (s : Run) → Traced s → (c : Call) → Traced (call s c).run
unfolding Traced
traced_call s v c = (v.0, v.1, v.2 ++ (c ∷ []), ap (λ (t : Run). (call t c).run) v.3 ∙ sym (after_one (start_outcome v.0 ones).run v.2 c))

-- Counts of 1.
one_of : (p : ℕ) → p < most_processes → get_or ones p 0 ≡ 1
one_of p lt = get_or-replicate most_processes p 1 0 lt

one_most : (p : ℕ) → get_or ones p 0 ≤ 1
one_most p = by_bool (leb (suc p) most_processes)
    (λ e. omega (arith, one_of p (leb-true (suc p) most_processes e)))
    (λ e. let past : length ones ≤ p = omega (arith, leb-false (suc p) most_processes e) in omega (arith, get_or-eq_default ones 0 past))

module _ (n : ℕ) (ok : start_refusal n ones ≡ None) (calls : List Call) where
  abbrev r : Ideal
  r = run_after (begun n ones) calls

  reached : Reached n (state_after (start_outcome n ones).run calls) (surviving_from n (beginning n ones) (transcript (start_outcome n ones).run calls)) (run_after (begun n ones) calls)
  reached = reachable_reached n ones ok calls

  run_counts : (p : ℕ) → p < most_processes → (run_after (begun n ones) calls).ledger.block_counts p ≡ 1
  unfolding open_ledger
  run_counts p lt = ap (λ (c : ℕ → ℕ). c p) (counts_after (begun n ones) calls) ∙ one_of p lt

  module _ (p : ℕ) (hp : p < (state_after (start_outcome n ones).run calls).count) where
    inside : p < (run_after (begun n ones) calls).n
    inside = omega (arith, hp, ap (λ (t : Run). t.count) reached.state, count_is_lem r)

    small : p < most_processes
    small = omega (arith, inside, reached.limits.few_processes)

    ones_kept : every (λ c. eqb c.blocks 1) (process (state_after (start_outcome n ones).run calls) p).kept ≡ true
    unfolding process_of
    ones_kept = rw (reached.state, process_is r p reached.limits.few_processes inside)
        (kept_every r p _ (λ k lt e. eq-eqb (checkpoint_of r p k).blocks 1 (stored_blocks r p k lt ∙ run_counts p small)))

pub traced_kept : (s : Run) → Traced s → (p : ℕ) → p < s.count → every (λ c. eqb c.blocks 1) (process s p).kept ≡ true
unfolding Traced
traced_kept s v = rw v.3 (ones_kept v.0 v.1 v.2)

-- By the history alone: a call of a trace run writes at most one block.
module _ (n : ℕ) where
  count_most : (h : Surviving) → ((p : ℕ) → h.block_counts p ≤ 1) → (o : Option ℕ) → count_of h o ≤ 1
  unfolding count_of
  count_most h few None = omega arith
  count_most h few (Some p) = few p

  written_after : (h : Surviving) → ((p : ℕ) → h.block_counts p ≤ 1) → (e : Exchange) → ((after n h e).written ≤ h.written + 1) × ((p : ℕ) → (after n h e).block_counts p ≤ 1)
  unfolding after accepted
  written_after h few e = by_bool (eqb e.reply.report.refused 0)
      (λ q. rw q (omega (arith, count_most h few (stored_by h e.made e.reply)), few))
      (λ q. rw q (omega arith, few))

  written_most : (l : List Exchange) (h : Surviving) → ((p : ℕ) → h.block_counts p ≤ 1)
      → ((surviving_from n h l).written ≤ h.written + length l) × ((p : ℕ) → (surviving_from n h l).block_counts p ≤ 1)
  unfolding surviving_from
  written_most [] h few = (omega arith, few)
  written_most (e ∷ l) h few =
      let w = written_after h few e in
      let z = written_most l (after n h e) w.1 in
      (omega (arith, w.0, z.0), z.1)

transcript_length : (s : Run) (calls : List Call) → length (transcript s calls) ≡ length calls
unfolding transcript
transcript_length s [] = refl
transcript_length s (c ∷ l) = ap suc (transcript_length (call s c).run l)

-- Where no checkpoint would take the blocks past the bound, no reason has the number 16.
abbrev NoneIs16 : List Reason → Type 0
NoneIs16 [] = Unit {0}
NoneIs16 (x ∷ l) = (x.holds ≡ true → x.number ≡ 16 → ⊥) × NoneIs16 l

lowest_other : (l : List Reason) → NoneIs16 l → lowest l ≡ 16 → ⊥
unfolding lowest
lowest_other [] h e = omega arith
lowest_other (x ∷ l) h e = by_bool x.holds (λ q. h.0 q (rw q at e)) (λ q. lowest_other l h.1 (rw q at e))

module _ (n : ℕ) (h : Surviving) (room : (p : ℕ) → past_bound h p ≡ false) where
  forced_room : (forcing : Bool) (p : ℕ) → (forcing && past_bound h p) ≡ true → ⊥
  forced_room forcing p e = by_bool forcing
      (λ q. never_both (past_bound h p) (rw q at e) (room p))
      (λ q. never_both false (rw q at e) refl)

  none_is_16 : (forcing ordered : Bool) (c : Call) → NoneIs16 (reasons n h forcing ordered c)
  unfolding reasons
  none_is_16 b o (checkpoint i deleted) = (λ q e. omega arith, (λ q e. omega arith, (λ q e. omega arith, (λ q e. never_both (past_bound h i) q (room i), tt))))
  none_is_16 b o (send i j) = (λ q e. omega arith, (λ q e. omega arith, (λ q e. omega arith, (λ q e. omega arith, tt))))
  none_is_16 b o (deliver m deleted) = (λ q e. omega arith, (λ q e. omega arith, (λ q e. omega arith, (λ q e. forced_room b (h.receiver m) q, tt))))
  none_is_16 b o (lose m) = (λ q e. omega arith, tt)
  none_is_16 b o (recover F deleted lent) = (λ q e. omega arith, (λ q e. omega arith, tt))
  none_is_16 b o (line F lent) = (λ q e. omega arith, (λ q e. omega arith, tt))
  none_is_16 b o (earliest l lent) = (λ q e. omega arith, (λ q e. omega arith, (λ q e. omega arith, (λ q e. omega arith, (λ q e. omega arith, tt)))))

module _ (n : ℕ) (ok : start_refusal n ones ≡ None) where
  -- A state that at most that many calls from the start reach.
  abbrev Within : ℕ → Run → Type 0
  Within most s = (calls : List Call) × (length calls ≤ most) × (s ≡ state_after (start_outcome n ones).run calls)

  within_record : (most : ℕ) (s : Run) → Within most s → (e : Option Event) → Within (most + 1) (perform s e).run
  unfolding perform
  within_record most s v None = (v.0, omega (arith, v.1), v.2)
  within_record most s v (Some e) = (
    v.0 ++ (call_of e ∷ []),
    omega (arith, v.1, length-append v.0 (call_of e ∷ [])),
    ap (λ (t : Run). (call t (call_of e)).run) v.2 ∙ sym (after_one (start_outcome n ones).run v.0 (call_of e)),
  )

  within_records : (most : ℕ) (s : Run) → Within most s → (l : List ℕ) → (k : ℕ) × (4 * k ≤ length l) × Within (most + k) (state_after_records s l)
  unfolding state_after_records
  within_records most s v [] = (0, omega arith, (v.0, omega (arith, v.1), v.2))
  within_records most s v (a ∷ []) = (0, omega arith, (v.0, omega (arith, v.1), v.2))
  within_records most s v (a ∷ b ∷ []) = (0, omega arith, (v.0, omega (arith, v.1), v.2))
  within_records most s v (a ∷ b ∷ c ∷ []) = (0, omega arith, (v.0, omega (arith, v.1), v.2))
  within_records most s v (a ∷ b ∷ c ∷ d ∷ l) =
      let w = within_records (most + 1) (perform s (decoded (a ∷ b ∷ c ∷ d ∷ []))).run (within_record most s v (decoded (a ∷ b ∷ c ∷ d ∷ []))) l in
      (suc w.0, omega (arith, w.1), (w.2.0, omega (arith, w.2.1), w.2.2))

  first_written : (beginning n ones).written ≤ 16
  unfolding beginning
  first_written = omega (arith, (start_out n ones ok).1, sum_le n 1 (λ p. get_or ones p 0) (λ p lt. one_most p))

  first_counts : (p : ℕ) → (beginning n ones).block_counts p ≤ 1
  unfolding beginning
  first_counts p = one_most p

  module _ (calls : List Call) (few : length calls ≤ most_records) where
    abbrev h : Surviving
    h = surviving_from n (beginning n ones) (transcript (start_outcome n ones).run calls)

    room : (p : ℕ) → past_bound (surviving_from n (beginning n ones) (transcript (start_outcome n ones).run calls)) p ≡ false
    room p =
        let w = written_most n (transcript (start_outcome n ones).run calls) (beginning n ones) first_counts in
        le-ltb 1_000_000_000_000_000 (h.written + h.block_counts p) (omega (arith, w.0, w.1 p, transcript_length (start_outcome n ones).run calls, first_written))

    not_16 : (c : Call) → (call (state_after (start_outcome n ones).run calls) c).reply.report.refused ≡ 16 → ⊥
    not_16 c e =
        let a = reached_answer n (state_after (start_outcome n ones).run calls) h (run_after (begun n ones) calls) (reachable_reached n ones ok calls) c in
        lowest_other (reasons n h a.forcing a.ordered c) (none_is_16 n h room a.forcing a.ordered c) (sym a.number ∙ e)

  next_not_16 : (most : ℕ) (s : Run) → Within most s → most ≤ most_records → (e : Option Event) → (perform s e).reply.report.refused ≡ 16 → ⊥
  unfolding perform number
  next_not_16 most s v few None q = omega arith
  next_not_16 most s v few (Some e) q = not_16 v.0 (omega (arith, v.1)) (call_of e) (rw v.2 at q)

pub trace_meets_no_bound : TraceMeetsNoBound
unfolding TraceMeetsNoBound state_after
trace_meets_no_bound n ok bytes few next q =
    let w = within_records n ok 0 (start_state n ones) ([], omega arith, sym (started_state n ones ok)) bytes in
    next_not_16 n ok (0 + w.0) (state_after_records (start_state n ones) bytes) w.2 (omega (arith, w.1, few)) next q
