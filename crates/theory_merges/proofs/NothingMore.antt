-- Note 14, proved: for each kept checkpoint there is a run that its process cannot tell from this one, in which one process's failure needs it.
-- It is the run without checkpoint g of f and all that comes causally after it, where the process's pin for f names the checkpoint and g is the last interval of f that the
-- process knows.
-- Assumes nothing.
use Rattle.std.specs.Prelude.{◌≡◌, ◌&&◌, ◌∷◌, ◌≤◌, ◌<◌}
use Rattle.laws.specs.Basics.{refl, sym, ◌∙◌, ap, Bool, true, false, not, List, [], None, Some, inl, inr, ℕ, suc, arith, leb, eq-eqb, leb-true, leb-false, pick, by_bool}
use Rattle.laws.specs.Truth.{never_both, and_left, and_right}
use Rattle.model.specs.declared.{Run.Run, Refusal.Refusal}
use Rattle.model.specs.{Words.basic, Words.forced, laws.Refusals.by_refusal}
use Rattle.theory_merges.specs.Seen.{seen_of, is_accepted, seen, all_accepted, is_recovery, unrecovered, NothingMoreCouldGo, SafeRule, NoRuleDeletesMore}
use Rattle.whole_runs.specs.{Outcomes.start_outcome, Survival.Surviving, Survival.beginning, Survival.after, Survival.surviving_from, Survival.surviving}
use Rattle.whole_runs.specs.Calls.{Call, checkpoint, send, deliver, lose, recover, line, earliest, call, state_after, transcript}
use Rattle.histories.proofs.{Run.Ideal, Run.because, Run.begun, Run.sending, Run.lost, Invariant.Inv, Ledger.ledger_inv, Rule.keeps_out}
use Rattle.histories.proofs.Local.{Local, local_of}
use Rattle.histories.proofs.SubRun.{SubRun, known_of, own_part, subrun_begin, checkpointed_rises, delivered_rises}
use Rattle.model.proofs.{simulation.View.state_of, simulation.SoundCalls.deliver_run}
use Rattle.whole_runs.proofs.{whole.Accepted.accepted_report, whole.Runs.stepped, whole.Runs.unless_refused, whole.Runs.run_after, Best.in_best_line}
use Rattle.whole_runs.proofs.whole.Reached.{Reached, exchange, refusal, refused_reached, refused_report, refused_number}
use Rattle.theory_merges.proofs.Follow.{next}
use Rattle.whole_runs.proofs.WholeRuns.{start_reached, accepted_reached, calls_reached}

-- Whether a call is accepted, by its refusal.
pub accepted_in : (s : Run) (c : Call) → refusal s c ≡ None → is_accepted s c ≡ true
unfolding is_accepted
accepted_in s c e = eq-eqb (call s c).reply.report.refused 0 (accepted_report s c e)

pub refused_in : (s : Run) (c : Call) (x : Refusal) → refusal s c ≡ Some x → is_accepted s c ≡ false
unfolding is_accepted
refused_in s c x e = rw (refused_report s c x e) (refused_number x)

-- No recovery among the calls: what follows has none, and an accepted first call is none.
rest_unrecovered : (s : Run) (c : Call) (l : List Call) → unrecovered s (c ∷ l) ≡ true → unrecovered (call s c).run l ≡ true
unfolding unrecovered
rest_unrecovered s c l e = and_right (not (is_recovery c && is_accepted s c)) (unrecovered (call s c).run l) e

first_unrecovered : (s : Run) (c : Call) (l : List Call) → unrecovered s (c ∷ l) ≡ true → is_accepted s c ≡ true → is_recovery c ≡ false
unfolding unrecovered
first_unrecovered s c l e a =
    let d : not (is_recovery c && is_accepted s c) ≡ true = and_left (not (is_recovery c && is_accepted s c)) (unrecovered (call s c).run l) e in
    by_bool (is_recovery c) (λ q. never_both false (rw (q, a) at d) refl) (λ q. q)

-- An accepted call but a recovery: no entry of a live vector falls.
step_rises : (r : Ideal) → Inv r → (c : Call) → ((m : ℕ) (deleted : List ℕ) → c ≡ deliver m deleted → r.transit m ≡ true) → is_recovery c ≡ false → (p f : ℕ) → known_of r p f ≤ known_of (stepped r c) p f
unfolding stepped is_recovery sending lost
step_rises r v (checkpoint i deleted) under q p f = checkpointed_rises (because basic r) (ledger_inv r _ v) i p f
step_rises r v (send i j) under q p f = omega arith
step_rises r v (deliver m deleted) under q p f = delivered_rises (because forced r) (ledger_inv r _ v) m (under m deleted refl) p f
step_rises r v (lose m) under q p f = omega arith
step_rises r v (recover F deleted lent) under q p f = never_both true refl q
step_rises r v (line F lent) under q p f = omega arith
step_rises r v (earliest l lent) under q p f = omega arith

delivers : (n : ℕ) (s : Run) (h : Surviving) (r : Ideal) → Reached n s h r → (c : Call) → refusal (state_of r) c ≡ None → (m : ℕ) (deleted : List ℕ) → c ≡ deliver m deleted → r.transit m ≡ true
unfolding refusal
delivers n s h r v c e m deleted q = (deliver_run r v.inv v.limits m deleted (rw q at e)).0

-- Over a list of calls.
run_rises : (n : ℕ) (calls : List Call) (s : Run) (h : Surviving) (r : Ideal) → Reached n s h r → unrecovered s calls ≡ true → (p f : ℕ) → known_of r p f ≤ known_of (run_after r calls) p f
unfolding run_after unless_refused
run_rises n [] s h r v no_recovery p f = omega arith
run_rises n (c ∷ calls) s h r v no_recovery p f = by_refusal (refusal (state_of r) c)
    (λ e.
    let first : is_recovery c ≡ false = first_unrecovered s c calls no_recovery (accepted_in s c (rw v.state e)) in
    rw e (omega (
      arith,
      step_rises r v.inv c (delivers n s h r v c e) first p f,
      run_rises n calls (call s c).run (after n h (exchange s c)) (stepped r c) (accepted_reached n s h r v c e) (rest_unrecovered s c calls no_recovery) p f,
    )))
    (λ x e. rw e (run_rises n calls (call s c).run (after n h (exchange s c)) r (refused_reached n s h r c x (rw v.state e) v) (rest_unrecovered s c calls no_recovery) p f))

module _ (n i f g : ℕ) (hf : f < n) where
  -- The calls of the other run, and what they have in common with these.
  pub record Followed (s s' : Run) (r r' : Ideal) (calls : List Call) : Type 0 where
    pub others : List Call
    pub accepted : all_accepted s' others ≡ true
    pub no_recovery : unrecovered s' others ≡ true
    pub same : seen i s' others ≡ seen i s calls
    pub subrun : SubRun f g (run_after r calls) (run_after r' others)

  -- A first call that shows nothing to i and that the other run leaves out.
  module _ (s s' : Run) (r r' : Ideal) (c : Call) (calls : List Call) where
    skip : (x : Bool) → is_accepted s c ≡ x → pick x (seen_of i s c) [] ≡ [] → (r₁ : Ideal) → unless_refused (refusal (state_of r) c) r (stepped r c) ≡ r₁
        → Followed (call s c).run s' r₁ r' calls → Followed s s' r r' (c ∷ calls)
    unfolding seen run_after
    skip x a none_seen r₁ e w = record {
      others = w.others;
      accepted = w.accepted;
      no_recovery = w.no_recovery;
      same = w.same ∙ rw (a, none_seen);
      subrun = rw e w.subrun;
    }

    -- A first call that the other run takes over, or another in its stead.
    take_over : (c' : Call) → is_accepted s c ≡ true → is_accepted s' c' ≡ true → is_recovery c' ≡ false → seen_of i s' c' ≡ seen_of i s c
        → refusal (state_of r) c ≡ None → refusal (state_of r') c' ≡ None
        → Followed (call s c).run (call s' c').run (stepped r c) (stepped r' c') calls → Followed s s' r r' (c ∷ calls)
    unfolding seen run_after unless_refused all_accepted unrecovered
    take_over c' a a' q shown e e' w = record {
      others = c' ∷ w.others;
      accepted = rw (a', w.accepted);
      no_recovery = rw (q, w.no_recovery);
      same = rw (a, a', shown, w.same);
      subrun = rw (e, e') w.subrun;
    }

  -- No call.
  follow_none : (s s' : Run) (r r' : Ideal) → SubRun f g r r' → Followed s s' r r' []
  unfolding seen run_after all_accepted unrecovered
  follow_none s s' r r' c = record { others = []; accepted = refl; no_recovery = refl; same = refl; subrun = c }

  -- The run after a first call that is refused, and after one that is accepted.
  after_refused : (r : Ideal) (c : Call) (x : Refusal) → refusal (state_of r) c ≡ Some x → unless_refused (refusal (state_of r) c) r (stepped r c) ≡ r
  unfolding unless_refused
  after_refused r c x e = rw e

  after_accepted : (r : Ideal) (c : Call) → refusal (state_of r) c ≡ None → unless_refused (refusal (state_of r) c) r (stepped r c) ≡ stepped r c
  unfolding unless_refused
  after_accepted r c e = rw e

  bound_on : (r r₁ : Ideal) (c : Call) (calls : List Call) → unless_refused (refusal (state_of r) c) r (stepped r c) ≡ r₁ → known_of (run_after r (c ∷ calls)) i f ≤ g → known_of (run_after r₁ calls) i f ≤ g
  unfolding run_after
  bound_on r r₁ c calls e bound = rw e at bound

  follow : (calls : List Call) (s s' : Run) (h h' : Surviving) (r r' : Ideal) → Reached n s h r → Reached n s' h' r' → SubRun f g r r' → unrecovered s calls ≡ true
      → known_of (run_after r calls) i f ≤ g → Followed s s' r r' calls
  follow [] s s' h h' r r' v v' c no_recovery bound = follow_none s s' r r' c
  follow (a ∷ calls) s s' h h' r r' v v' c no_recovery bound = by_refusal (refusal (state_of r) a)
      (λ e.
      let ok : is_accepted s a ≡ true = accepted_in s a (rw v.state e) in
      let v₁ = accepted_reached n s h r v a e in
      let bound₁ = bound_on r (stepped r a) a calls (after_accepted r a e) bound in
      let no-recovery₁ = rest_unrecovered s a calls no_recovery in
      let step-bound : known_of (stepped r a) i f ≤ g = omega (arith, bound₁, run_rises n calls (call s a).run (after n h (exchange s a)) (stepped r a) v₁ no-recovery₁ i f) in
      elim (next i f g r r' v.inv v'.inv v.limits v'.limits (rw v.size hf) c a e (first_unrecovered s a calls no_recovery ok) step-bound) [
        | inl z ↦ skip s s' r r' a calls true ok (rw v.state z.1) (stepped r a) (after_accepted r a e)
            (follow calls (call s a).run s' (after n h (exchange s a)) h' (stepped r a) r' v₁ v' z.0 no-recovery₁ bound₁)
        | inr z ↦ take_over s s' r r' a calls z.instead ok (accepted_in s' z.instead (rw v'.state z.accepted)) z.no_recovery (rw (v.state, v'.state) z.same) e z.accepted
            (follow calls (call s a).run (call s' z.instead).run (after n h (exchange s a)) (after n h' (exchange s' z.instead)) (stepped r a) (stepped r' z.instead)
            v₁ (accepted_reached n s' h' r' v' z.instead z.accepted) z.subrun no-recovery₁ bound₁)
      ])
      (λ x e.
      let no : refusal s a ≡ Some x = rw v.state e in
      skip s s' r r' a calls false (refused_in s a x no) refl r (after_refused r a x e)
      (follow calls (call s a).run s' (after n h (exchange s a)) h' r r' (refused_reached n s h r a x no v) v' c (rest_unrecovered s a calls no_recovery) (bound_on r r a calls (after_refused r a x e) bound)))

-- The end of the other run: f is in interval g, and i's states are what they were.
module _ (i f k : ℕ) (R R' : Ideal) (v : Inv R) (hi : i < R.n) (hf : f < R.n) (e : R.pin i f ≡ Some k) (c : SubRun f (known_of R i f) R R') where
  part : local_of R' i ≡ local_of R i
  part = c.whole i hi (omega arith)

  states : R'.vector i ≡ R.vector i
  unfolding local_of
  states = ap (λ (P : Local). P.vector) part

  f_ends : R'.own f ≡ known_of R i f
  f_ends = by_bool (leb (R.own f) (known_of R i f))
      (λ d. let le : R.own f ≤ known_of R i f = leb-true (R.own f) (known_of R i f) d in
      omega (arith, own_part R R' f (c.whole f hf (omega (arith, v.self f (R.own f) (omega arith)))), v.present i (R.own i) f hf (omega arith)))
      (λ d. c.ended (leb-false (R.own f) (known_of R i f) d))

  pub learnt_here : (k < R'.own i) × (R'.vector i k f < R'.own f) × (R'.own f ≤ R'.vector i (suc k) f)
  learnt_here =
      let w = v.pins i f k hf e in
      rw (states, f_ends, own_part R R' i part) (w.below, w.less, omega (arith, w.next))

-- Note 14.
pub nothing_more_could_go : NothingMoreCouldGo
unfolding NothingMoreCouldGo surviving
nothing_more_could_go n block_counts ok calls no_recovery i k hi e =
    let s₀ = (start_outcome n block_counts).run in
    let h₀ = beginning n block_counts in
    let r₀ = begun n block_counts in
    let v₀ = start_reached n block_counts ok in
    let R = run_after r₀ calls in
    let v = calls_reached n s₀ h₀ r₀ v₀ calls in
    let z = keeps_out R i k (sym (v.agrees.kept i k (omega (arith, v.size))) ∙ e) in
    let f : ℕ = z.0 in
    let hf : f < n = omega (arith, z.1, v.size) in
    let g : ℕ = known_of R i f in
    let d = v.inv.pins i f k z.1 z.2 in
    let w = follow n i f g hf calls s₀ s₀ h₀ h₀ r₀ r₀ v₀ v₀ (subrun_begin f g n block_counts (omega (arith, d.less))) no_recovery (omega arith) in
    let v' = calls_reached n s₀ h₀ r₀ v₀ w.others in
    let R' = run_after r₀ w.others in
    let l = learnt_here i f k R R' v.inv (omega (arith, v.size)) z.1 z.2 w.subrun in
    record {
      others = w.others;
      accepted = w.accepted;
      no_recovery = w.no_recovery;
      same = w.same;
      failing = f;
      inside = hf;
      used = in_best_line n (state_after s₀ w.others) (surviving_from n h₀ (transcript s₀ w.others)) R' v' i f k hi hf l.0 l.1 l.2;
    }

-- A safe rule keeps the checkpoint in that other run, and goes by what the process sees.
pub no_rule_deletes_more : NoRuleDeletesMore
unfolding NoRuleDeletesMore SafeRule NothingMoreCouldGo
no_rule_deletes_more n block_counts ok rule safe calls no_recovery i k hi e =
    let w = nothing_more_could_go n block_counts ok calls no_recovery i k hi e in
    rw (← w.same) (safe w.others w.accepted w.no_recovery i k w.failing hi w.inside w.used)
