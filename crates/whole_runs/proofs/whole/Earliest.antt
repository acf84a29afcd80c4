-- Note 8 by the surviving history: which checkpoints are kept, whether one of two comes before the other, the line of an accepted call, and that 20 is given only
-- where no consistent line passes through all named ones.
-- Assumes nothing.
use Rattle.std.specs.Prelude.{◌≡◌, ◌≤◌, ◌<◌}
use Rattle.laws.specs.Basics.{refl, sym, ◌∙◌, Bool, true, false, not, List, Option, None, Some, ℕ, arith, ltb, leb, length, lt-ltb, ltb-true, leb-false, not-false, by_bool}
use Rattle.laws.specs.{Members.some_in, Members.some_out, Members.none_of, Tests.some_of}
use Rattle.model.specs.declared.{Named.Named, Refusal.Refusal, Refusal.TheVariants.CausallyOrdered}
use Rattle.model.specs.{Words.most_processes, Words.comes_before, Words.entry, Refusals.number}
use Rattle.whole_runs.specs.Earliest.{named_vector, greatest, some_absent, unfit, some_ordered, earliest_refusal}
use Rattle.whole_runs.specs.{Calls.earliest, Survival.Surviving, WholeRuns.EarliestIsRight}
use Rattle.whole_runs.specs.Answers.{lowest, reasons, AllKept, SomeOrdered, Through, RightEarliest, NoneThrough}
use Rattle.histories.proofs.{Run.Ideal, Invariant.Inv, Memory.Memory, Knowledge.stored_less, Knowledge.stored_knows}
use Rattle.histories.proofs.Earliest.{earliest_within, earliest_through, earliest_consistent, earliest_least, consistent_unordered}
use Rattle.model.proofs.{simulation.View.state_of, simulation.View.Limits, simulation.Reads.count_is_lem}
use Rattle.whole_runs.proofs.whole.EarliestLine.{Stored, earliest_out, named_kept, inside, below, entry_of, Chosen, named_topped}
use Rattle.whole_runs.proofs.{whole.Agreement.Agrees, whole.Refused.number_of, whole.Agreement.live_is, whole.Refused.earliest_number}

-- Where 20 is the lowest number, all are processes of the run and kept, and one of two comes before the other.
lowest_ordered : (n : ℕ) (h : Surviving) (b o : Bool) (l : List Named) (lent : List ℕ) → lowest (reasons n h b o (earliest l lent)) ≡ 20
    → (some_absent n l ≡ false) × (some_of (λ c. not (h.kept c.process c.index.0)) l ≡ false) × (o ≡ true)
unfolding lowest reasons
lowest_ordered n h b o l lent e =
    by_bool (ltb (length lent) n)
    (λ q. absurd (clash 3 (omega arith) (rw q at e)))
    (λ d. by_bool (some_absent n l)
    (λ q. absurd (clash 4 (omega arith) (rw (d, q) at e)))
    (λ present. by_bool (unfit n l)
    (λ q. absurd (clash 18 (omega arith) (rw (d, present, q) at e)))
    (λ fit. by_bool (some_of (λ c. not (h.kept c.process c.index.0)) l)
    (λ q. absurd (clash 19 (omega arith) (rw (d, present, fit, q) at e)))
    (λ kept. by_bool o
    (λ q. (present, kept, q))
    (λ q. absurd (clash 0 (omega arith) (rw (d, present, fit, kept, q) at e)))))))
  where
    clash : (k : ℕ) → k < 20 → k ≡ 20 → ⊥
    clash k lt e = omega arith

twenty : (o : Option Refusal) → o ≡ Some CausallyOrdered → number_of o ≡ 20
unfolding number_of number
twenty o e = rw e

module _ (h : Surviving) (r : Ideal) (v : Inv r) (fit : Limits r) (g : Agrees h r) where
  few : r.n ≤ most_processes
  few = fit.few_processes

  -- What the history says is kept, the state keeps.
  all_stored : (l : List Named) → AllKept r.n h l → Stored (state_of r) l
  unfolding AllKept
  all_stored l kept = record {
    present = λ c m. rw (count_is_lem r) (kept c m).0;
    kept = λ c m. named_kept r v few c (kept c m).0 ∙ sym (g.kept c.process c.index.0 (kept c m).0) ∙ (kept c m).1;
  }

  kept_out : (l : List Named) → some_absent r.n l ≡ false → some_of (λ c. not (h.kept c.process c.index.0)) l ≡ false → AllKept r.n h l
  unfolding AllKept some_absent
  kept_out l present kept c m =
      (leb-false r.n c.process (none_of (λ c. leb r.n c.process) l c present m), not-false _ (none_of (λ c. not (h.kept c.process c.index.0)) l c kept m))

  -- One of two named checkpoints comes before the other by the vectors exactly if it does by the messages.
  module _ (l : List Named) (kept : AllKept r.n h l) where
    stored : Stored (state_of r) l
    stored = all_stored l kept

    pub ordered_out : Memory r → some_ordered (state_of r) l ≡ true → SomeOrdered h l
    unfolding some_ordered SomeOrdered
    ordered_out memory e =
        let w = some_out (λ c. some_of (λ d. comes_before c.index c.process (named_vector (state_of r) d)) l) l e in
        let c = w.0 in
        let z = some_out (λ d. comes_before c.index c.process (named_vector (state_of r) d)) l w.2 in
        let d = z.0 in
        let hc = inside r v few l stored c w.1 in
        let less : c.index.0 < r.vector d.process d.index.0 c.process = omega (arith, ltb-true c.index.0 (entry (named_vector (state_of r) d) c.process).0 z.2, entry_of r v few l stored d c.process z.1 hc) in
        (c, d, w.1, z.1, rw g.lists (stored_knows r v c.process c.index.0 hc memory d.process d.index.0 (below r v few l stored d z.1) less))

    pub ordered_in : SomeOrdered h l → some_ordered (state_of r) l ≡ true
    unfolding some_ordered SomeOrdered
    ordered_in w =
        let c = w.0 in
        let d = w.1 in
        let hc = inside r v few l stored c w.2 in
        let less : c.index.0 < r.vector d.process d.index.0 c.process
        = stored_less r v c.process c.index.0 hc d.process d.index.0 (below r v few l stored d w.3) (rw g.lists at w.4) in
        some_in (λ c. some_of (λ d. comes_before c.index c.process (named_vector (state_of r) d)) l) l c w.2
        (some_in (λ d. comes_before c.index c.process (named_vector (state_of r) d)) l d w.3 (lt-ltb c.index.0 (entry (named_vector (state_of r) d) c.process).0 (omega (arith, less, entry_of r v few l stored d c.process w.3 hc))))

    -- Where one does, no consistent line passes through both.
    ordered_none : some_ordered (state_of r) l ≡ true → NoneThrough r.n h l
    unfolding some_ordered NoneThrough Through
    ordered_none e other is-line consistent through =
        let w = some_out (λ c. some_of (λ d. comes_before c.index c.process (named_vector (state_of r) d)) l) l e in
        let c = w.0 in
        let z = some_out (λ d. comes_before c.index c.process (named_vector (state_of r) d)) l w.2 in
        let d = z.0 in
        let hc = inside r v few l stored c w.1 in
        let known : r.vector d.process d.index.0 c.process ≤ c.index.0
        = rw (through c w.1, through d z.1) at (consistent_unordered r v other (λ p hp. rw (← live_is h r v g p) (is-line p hp)) (rw g.lists at consistent) c.process d.process hc (inside r v few l stored d z.1)) in
        omega (arith, ltb-true c.index.0 (entry (named_vector (state_of r) d) c.process).0 z.2, entry_of r v few l stored d c.process z.1 hc)

  -- The line of an accepted call.
  module _ (l : List Named) (lent : List ℕ) where
    earliest_line : earliest_refusal (state_of r) l lent ≡ None → RightEarliest r.n h l (greatest (state_of r) l)
    unfolding Through Chosen
    earliest_line e =
        let N = greatest (state_of r) l in
        let t = named_topped r v few l lent (earliest_out (state_of r) l lent e) in
        record {
          within = λ p hp. rw (live_is h r v g p) (earliest_within r v (Chosen r v few l) N t p hp);
          consistent = rw g.lists (earliest_consistent r v (Chosen r v few l) N t);
          through = λ c m. earliest_through r v (Chosen r v few l) N t c.process c.index.0 (c, m, refl, refl);
          nowhere_later = λ other is-line consistent through p hp. earliest_least r v (Chosen r v few l) N t other (λ q hq. rw (← live_is h r v g q) (is-line q hq)) (rw g.lists at consistent)
              (λ q k z. rw (← z.2, ← z.3) (through z.0 z.1)) p hp;
        }

    -- Where 20 is given, all that the list names are kept, and one of two comes before the other.
    pub refused_none : number_of (earliest_refusal (state_of r) l lent) ≡ 20 → NoneThrough r.n h l
    refused_none e =
        let d = lowest_ordered r.n h false (some_ordered (state_of r) l) l lent (sym (earliest_number h r v fit g false l lent) ∙ e) in
        ordered_none l (kept_out l d.0 d.1) d.2

    pub earliest_right : EarliestIsRight r.n (state_of r) h l lent
    earliest_right = record {
      right = earliest_line;
      none_through = λ e. refused_none (twenty (earliest_refusal (state_of r) l lent) e);
    }
