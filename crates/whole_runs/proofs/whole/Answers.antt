-- Each answer in a transcript is right, judged by the surviving history before it: the clauses of specs/Answers put together, for one call.
-- Assumes nothing.
use Rattle.std.specs.Prelude.{◌≡◌, ◌^◌, ◌<◌}
use Rattle.laws.specs.Basics.{sym, ◌∙◌, true, List, None, Some, ℕ, arith, length, get_or, eqb-false, lt-ltb, ltb-true}
use mathlib.Core.List.{Memᴰ}
use Rattle.laws.specs.{Front.get_d_written, Lists.table, Options.some_same, Options.none≢some, Tables.length_table, Tables.get_d_table}
use Rattle.model.specs.declared.{Named.Named, Refusal.Refusal}
use Rattle.histories.specs.History.{Line, Consistent}
use Rattle.model.specs.{Refusals.number, laws.Refusals.by_refusal}
use Rattle.whole_runs.specs.{Earliest.greatest, Earliest.some_ordered, Earliest.earliest_refusal, Survival.Surviving, Survival.after}
use Rattle.whole_runs.specs.Calls.{Call, checkpoint, send, deliver, lose, recover, line, earliest, answered, call}
use Rattle.whole_runs.specs.Answers.{lowest, reasons, failed_set, gone_pairs, SentSince, BringsNewsOf, BringsNews, Forces, RightRisen, RightLine, AllKept, SomeOrdered, Through, RightEarliest, NoneThrough, AnswerIsRight}
use Rattle.whole_runs.specs.WholeRuns.{reported, LineIsRight}
use Rattle.histories.proofs.{Run.Ideal, Run.forces, Invariant.Inv, Memory.Memory}
use Rattle.histories.proofs.Knowledge.{Since, NewsOf, News, newer_news, news_newer, forced_since, forced_news, news_forces}
use Rattle.model.proofs.{simulation.View.state_of, simulation.View.Limits, simulation.Reads.count_is_lem}
use Rattle.model.proofs.simulation.Risen.{rose_small, rose_is, rose_past}
use Rattle.model.proofs.simulation.SoundCalls.{deliver_run, line_run, recover_run}
use Rattle.whole_runs.proofs.{whole.EarliestLine.earliest_out, whole.Agreement.Agrees, whole.Gone.gone_all, whole.Gone.gone_agrees, whole.Runs.stepped}
use Rattle.whole_runs.proofs.{whole.Accepted.Step, whole.Accepted.accepted_report, whole.Accepted.step_agrees, whole.LineRight.same_line}
use Rattle.whole_runs.proofs.whole.Earliest.{ordered_in, ordered_out, refused_none, earliest_right}
use Rattle.whole_runs.proofs.whole.Reached.{exchange, refusal, refused_number, refused_report}
use Rattle.whole_runs.proofs.whole.Refused.{reports_number, number_of, forcing_of, ordered_of, number_right}
use Rattle.whole_runs.proofs.whole.Values.{refused_reply, value_right, deliver_rose, others_rose, line_list_right, earliest_written, earliest_room}

-- A refused call does not report the number 0.
not_accepted : (x : Refusal) (k : ℕ) → k ≡ number x → k ≡ 0 → ⊥
not_accepted x k e z = eqb-false (number x) 0 (refused_number x) (sym e ∙ z)

-- Indexes that are those of an earliest line are one.
same_earliest : (n : ℕ) (h : Surviving) (l : List Named) (a b : Line) → RightEarliest n h l a → ((c : Named) → Memᴰ c l → c.process < n) → ((p : ℕ) → p < n → b p ≡ a p)
    → RightEarliest n h l b
unfolding Consistent Through
same_earliest n h l a b right inside e = record {
  within = λ p hp. rw (e p hp) (right.within p hp);
  consistent = λ q p m hq hp. rw (e q hq, e p hp) (right.consistent q p m hq hp);
  through = λ c m. rw (e c.process (inside c m)) (right.through c m);
  nowhere_later = λ other is-line consistent through p hp. rw (e p hp) (right.nowhere_later other is-line consistent through p hp);
}

module _ (h : Surviving) (r : Ideal) (v : Inv r) (fit : Limits r) (memory : Memory r) (g : Agrees h r) where
  -- Whether a delivery forces a checkpoint is what the history says.
  forcing_is : (c : Call) (m : ℕ) (deleted : List ℕ) → c ≡ deliver m deleted → forcing_of r c ≡ forces r m
  unfolding forcing_of
  forcing_is c m deleted q = rw q

  in_transit : (m : ℕ) → h.underway m ≡ true → r.transit m ≡ true
  in_transit m under = rw g.underway at under

  in_history : (m : ℕ) → Since r (r.receiver m) × News r m → Forces r.n h m
  unfolding Forces SentSince BringsNews BringsNewsOf
  in_history m d = rw (g.lists, g.receiver) d

  from_history : (m : ℕ) → Forces r.n h m → Since r (r.receiver m) × News r m
  unfolding Forces SentSince BringsNews BringsNewsOf
  from_history m d = rw (← g.lists, ← g.receiver) d

  news_in : (m f : ℕ) → NewsOf r m f → BringsNewsOf h m f
  unfolding BringsNewsOf
  news_in m f d = rw (g.lists, g.receiver) d

  news_out : (m f : ℕ) → BringsNewsOf h m f → NewsOf r m f
  unfolding BringsNewsOf
  news_out m f d = rw (← g.lists, ← g.receiver) d

  module _ (c : Call) where
    forces_if : (m : ℕ) (deleted : List ℕ) → c ≡ deliver m deleted → h.underway m ≡ true → Forces r.n h m → forcing_of r c ≡ true
    forces_if m deleted q under d = let w = from_history m d in forcing_is c m deleted q ∙ news_forces r v memory m (in_transit m under) w.0 w.1

    only_if : (m : ℕ) (deleted : List ℕ) → c ≡ deliver m deleted → h.underway m ≡ true → forcing_of r c ≡ true → Forces r.n h m
    only_if m deleted q under d =
        let e : forces r m ≡ true = sym (forcing_is c m deleted q) ∙ d in
        in_history m (forced_since r v memory m (in_transit m under) e, forced_news r v memory m (in_transit m under) e)

    -- Whether one of two named checkpoints comes before the other is what the history says.
    ordered_is : (l : List Named) (lent : List ℕ) → c ≡ earliest l lent → ordered_of r c ≡ some_ordered (state_of r) l
    unfolding ordered_of
    ordered_is l lent q = rw q

    ordered_if : (l : List Named) (lent : List ℕ) → c ≡ earliest l lent → AllKept r.n h l → SomeOrdered h l → ordered_of r c ≡ true
    ordered_if l lent q kept d = ordered_is l lent q ∙ ordered_in h r v fit g l kept d

    ordered_only_if : (l : List Named) (lent : List ℕ) → c ≡ earliest l lent → AllKept r.n h l → ordered_of r c ≡ true → SomeOrdered h l
    ordered_only_if l lent q kept e = ordered_out h r v fit g l kept memory (sym (ordered_is l lent q) ∙ e)

    number_is : (call (state_of r) c).reply.report.refused ≡ lowest (reasons r.n h (forcing_of r c) (ordered_of r c) c)
    number_is = reports_number (state_of r) c ∙ number_right h r v fit g c

  -- The set of entries that rose at an accepted delivery: those that the message brings news of.
  risen_right : (m : ℕ) (deleted : List ℕ) → refusal (state_of r) (deliver m deleted) ≡ None → RightRisen r.n h m (call (state_of r) (deliver m deleted)).reply.rose
  unfolding refusal
  risen_right m deleted e =
      let few = fit.few_processes in
      let under = (deliver_run r v fit m deleted e).0 in
      rw (deliver_rose h r v fit memory g m deleted e) (record {
        small = rose_small r v few m under;
        if_news = λ f hf d. rose_is r v few m under f hf ∙ lt-ltb _ _ (news_newer r v memory m under f hf (news_out m f d));
        only_if_news = λ f hf q. news_in m f (newer_news r v memory m under f hf (ltb-true _ _ (sym (rose_is r v few m under f hf) ∙ q)));
        no_more = λ f le. rose_past r v few m under f le;
      })

  rose_answer : (c : Call) → refusal (state_of r) c ≡ None → (m : ℕ) (deleted : List ℕ) → c ≡ deliver m deleted → RightRisen r.n h m (call (state_of r) c).reply.rose
  rose_answer c e m deleted q = rw q (risen_right m deleted (rw q at e))

  -- The line that an accepted call wrote.
  line_answer : ((F : ℕ) → F < 2 ^ r.n → LineIsRight r.n (state_of r) h F) → (c : Call) → refusal (state_of r) c ≡ None → (F : ℕ) → failed_set c ≡ Some F
      → RightLine r.n h F (λ p. get_or (call (state_of r) c).reply.line p 0)
  unfolding refusal failed_set call answered
  line_answer lines (checkpoint i deleted) e F q = absurd (none≢some q)
  line_answer lines (send i j) e F q = absurd (none≢some q)
  line_answer lines (deliver m deleted) e F q = absurd (none≢some q)
  line_answer lines (lose m) e F q = absurd (none≢some q)
  line_answer lines (earliest l lent) e F q = absurd (none≢some q)
  line_answer lines (recover G deleted lent) e F q =
      let w = recover_run r v fit G deleted lent e in
      let right = lines G w.0 in
      rw (← some_same q) (same_line r.n h G (reported (state_of r) G) _ right.right (right.recover_writes deleted lent w.1 w.2))
  line_answer lines (line G lent) e F q =
      let w = line_run r v fit G lent e in
      let right = lines G w.0 in
      rw (← some_same q) (same_line r.n h G (reported (state_of r) G) _ right.right (right.line_writes lent w.1))

  -- The earliest line that an accepted call wrote, and where 20 is given.
  accepted_at : (c : Call) (l : List Named) (lent : List ℕ) → refusal (state_of r) c ≡ None → c ≡ earliest l lent → earliest_refusal (state_of r) l lent ≡ None
  unfolding refusal
  accepted_at c l lent e q = rw q at e

  number_at : (c : Call) (l : List Named) (lent : List ℕ) → c ≡ earliest l lent → (call (state_of r) c).reply.report.refused ≡ number_of (earliest_refusal (state_of r) l lent)
  unfolding refusal
  number_at c l lent q = rw q (reports_number (state_of r) (earliest l lent))

  earliest_accepted : (l : List Named) (lent : List ℕ) → earliest_refusal (state_of r) l lent ≡ None
      → RightEarliest r.n h l (λ p. get_or (call (state_of r) (earliest l lent)).reply.line p 0)
  earliest_accepted l lent e = same_earliest r.n h l (greatest (state_of r) l) _ ((earliest_right h r v fit g l lent).right e)
      (λ c m. rw (count_is_lem r) at ((earliest_out (state_of r) l lent e).stored.present c m))
      (λ p hp.
      let long : length (table r.n (greatest (state_of r) l)) ≡ r.n = length_table r.n (greatest (state_of r) l) in
      let room = earliest_room h r v fit memory g l lent e in
      rw (earliest_written h r v fit memory g l lent e)
      (get_d_written lent (table r.n (greatest (state_of r) l)) (omega arith) p 0 (omega arith) ∙ get_d_table r.n (greatest (state_of r) l) p 0 hp))

  earliest_answer : (c : Call) → refusal (state_of r) c ≡ None → (l : List Named) (lent : List ℕ) → c ≡ earliest l lent → RightEarliest r.n h l (λ p. get_or (call (state_of r) c).reply.line p 0)
  earliest_answer c e l lent q = rw q (earliest_accepted l lent (accepted_at c l lent e q))

  earliest_none : (c : Call) → (call (state_of r) c).reply.report.refused ≡ 20 → (l : List Named) (lent : List ℕ) → c ≡ earliest l lent → NoneThrough r.n h l
  earliest_none c e l lent q = refused_none h r v fit g l lent (sym (number_at c l lent q) ∙ e)

  pub answer_right : ((F : ℕ) → F < 2 ^ r.n → LineIsRight r.n (state_of r) h F) → (c : Call) → (refusal (state_of r) c ≡ None → Step r.n h (state_of r) r (stepped r c) c)
      → AnswerIsRight r.n h (exchange (state_of r) c)
  answer_right lines c steps = by_refusal (refusal (state_of r) c)
      (λ e.
      let t = steps e in
      let zero-reported = accepted_report (state_of r) c e in
      let handed : gone_pairs r.n h (after r.n h (exchange (state_of r) c)) ≡ gone_all r (stepped r c)
      = gone_agrees h (after r.n h (exchange (state_of r) c)) r (stepped r c) v g (step_agrees r.n r (stepped r c) h c v g e t) t.moved.size in
      record {
        forcing = forcing_of r c;
        forces_if = forces_if c;
        only_if = only_if c;
        ordered = ordered_of r c;
        ordered_if = ordered_if c;
        ordered_only_if = ordered_only_if c;
        number = number_is c;
        refused = λ no. absurd (no zero-reported);
        value = λ z. value_right h r v fit memory g c e;
        pairs = λ z. rw handed t.hands_over.deleted;
        count = λ z. rw handed t.hands_over.counted;
        line_list = λ z. line_list_right h r v fit memory g c e;
        rose_right = λ z. rose_answer c e;
        rose_none = others_rose (state_of r) c;
        line_right = λ z F q. line_answer lines c e F q;
        earliest_right = λ z. earliest_answer c e;
        none_through = earliest_none c;
      })
      (λ x e.
      let no = not_accepted x (call (state_of r) c).reply.report.refused (refused_report (state_of r) c x e) in
      record {
        forcing = forcing_of r c;
        forces_if = forces_if c;
        only_if = only_if c;
        ordered = ordered_of r c;
        ordered_if = ordered_if c;
        ordered_only_if = ordered_only_if c;
        number = number_is c;
        refused = λ not_zero. refused_reply (state_of r) c x e;
        value = λ z. absurd (no z);
        pairs = λ z. absurd (no z);
        count = λ z. absurd (no z);
        line_list = λ z. absurd (no z);
        rose_right = λ z m deleted q. absurd (no z);
        rose_none = others_rose (state_of r) c;
        line_right = λ z F q. absurd (no z);
        earliest_right = λ z l lent q. absurd (no z);
        none_through = earliest_none c;
      })
