-- A record as a call by value, whose lent lists hold zeros: the state after it, and whether it is accepted.
-- Assumes nothing.
use Rattle.std.specs.Prelude.{◌≡◌, ◌^◌, ◌≤◌, ◌<◌, Result, Ok, Err, is_ok}
use Rattle.laws.specs.Basics.{refl, sym, ◌∙◌, ap, Bool, false, List, Some, ℕ, arith, eqb, replicate, ne_eqb}
use native.Mathlib.Nat.{pow-le-pow_right}
use Rattle.model.specs.Shapes.{CheckpointAnswer, DeliverAnswer, LoseAnswer, RecoverAnswer, SendAnswer}
use Rattle.model.specs.declared.{Event.Event, Refusal.Refusal, Run.Run}
use Rattle.model.specs.declared.Event.TheVariants.{Checkpoint, Send, Deliver, Lose, Recover}
use Rattle.model.specs.{Refusals.number, Refusals.recover_refusal, laws.Refusals.by_refusal, laws.Refusals.number_range}
use Rattle.model.proofs.simulation.Accepted.{recover_out}
use Rattle.whole_runs.specs.Outcomes.{Report, refusing, Outcome, checkpoint_outcome, checkpoint_report, send_outcome, send_report, deliver_outcome, deliver_report, lose_outcome, lose_report, recover_outcome, recover_report}
use Rattle.whole_runs.specs.{Calls.answered, Calls.call, Listing.call_of, Listing.perform}
use Rattle.whole_runs.proofs.Sizes.{few_processes}
use Rattle.listing.specs.Reports.{checkpoint_refused, send_refused, deliver_refused, recover_refused}

-- What is said of a record: the state after it, and whether it is accepted.
abbrev pub Does : Run → Event → Run → Bool → Type 0
Does s e run accepted = (run ≡ (perform s (Some e)).run) × (accepted ≡ eqb (perform s (Some e)).reply.report.refused 0)

abbrev lent : List ℕ
lent = replicate 512 0

abbrev lent_line : List ℕ
lent_line = replicate 16 0

-- An answer is accepted where the number of its report is 0.
fine : {A : Type 0} (report : Result A Refusal → Report) → ((why : Refusal) → report (Err why) ≡ refusing why) → ((x : A) → (report (Ok x)).refused ≡ 0)
    → (a : Result A Refusal) → is_ok a ≡ eqb (report a).refused 0
fine report refused accepted (Err why) = rw (refused why) (sym (ne_eqb (number why) 0 (λ z. omega (arith, z, (number_range why).0))))
fine report refused accepted (Ok x) = rw (accepted x)

-- The outcome of its call.
by_outcome : {A : Type 0} (report : Result A Refusal → Report) → ((why : Refusal) → report (Err why) ≡ refusing why) → ((x : A) → (report (Ok x)).refused ≡ 0)
    → (o p : Outcome (Result A Refusal)) → o ≡ p → (run : Run) → run ≡ o.run → (a : Result A Refusal) → a ≡ o.answer
    → (run ≡ (answered report p).run) × (is_ok a ≡ eqb (answered report p).reply.report.refused 0)
unfolding answered
by_outcome report refused accepted o p same run r a e =
    (r ∙ ap (λ (y : Outcome _). y.run) same, fine report refused accepted a ∙ ap (λ (y : Result _ Refusal). eqb (report y).refused 0) (e ∙ ap (λ (y : Outcome _). y.answer) same))

module _ (s : Run) (run : Run) where
  pub checkpoint_does : (i : ℕ) (l : List ℕ) → l ≡ lent → run ≡ (checkpoint_outcome s i l).run → (a : CheckpointAnswer) → a ≡ (checkpoint_outcome s i l).answer → Does s (Checkpoint i) run (is_ok a)
  unfolding perform call call_of checkpoint_report
  checkpoint_does i l same r a e = by_outcome checkpoint_report checkpoint_refused (λ x. refl) (checkpoint_outcome s i l) (checkpoint_outcome s i lent) (ap (checkpoint_outcome s i) same) run r a e

  pub send_does : (i j : ℕ) → run ≡ (send_outcome s i j).run → (a : SendAnswer) → a ≡ (send_outcome s i j).answer → Does s (Send i j) run (is_ok a)
  unfolding perform call call_of send_report
  send_does i j r a e = by_outcome send_report send_refused (λ x. refl) (send_outcome s i j) (send_outcome s i j) refl run r a e

  pub deliver_does : (m : ℕ) (l : List ℕ) → l ≡ lent → run ≡ (deliver_outcome s m l).run → (a : DeliverAnswer) → a ≡ (deliver_outcome s m l).answer → Does s (Deliver m) run (is_ok a)
  unfolding perform call call_of deliver_report
  deliver_does m l same r a e = by_outcome deliver_report deliver_refused (λ x. refl) (deliver_outcome s m l) (deliver_outcome s m lent) (ap (deliver_outcome s m) same) run r a e

  pub lose_does : (m : ℕ) → run ≡ (lose_outcome s m).run → (a : LoseAnswer) → a ≡ (lose_outcome s m).answer → Does s (Lose m) run (is_ok a)
  unfolding perform call call_of lose_report
  lose_does m r a e = by_outcome lose_report (λ why. refl) (λ x. refl) (lose_outcome s m) (lose_outcome s m) refl run r a e

  pub recover_does : (F : ℕ) (l line : List ℕ) → l ≡ lent → line ≡ lent_line → run ≡ (recover_outcome s F l line).run → (a : RecoverAnswer) → a ≡ (recover_outcome s F l line).answer → Does s (Recover F) run (is_ok a)
  unfolding perform call call_of recover_report
  recover_does F l line same same_line r a e = by_outcome recover_report recover_refused (λ x. refl) (recover_outcome s F l line) (recover_outcome s F lent lent_line) (rw (same, same_line)) run r a e

-- "In a record, higher bits of the argument count as bits at n or above": a recovery for them is refused.
pub set_too_large : (s : Run) (F : ℕ) → 65535 < F → Does s (Recover F) s false
unfolding perform call call_of answered recover_outcome recover_report
set_too_large s F h = by_refusal (recover_refusal s F lent lent_line)
    (λ e.
    let f = recover_out s F lent lent_line e in
    let most : 2 ^ s.count ≤ 2 ^ 16 = pow-le-pow_right {n = 2} (omega arith) (few_processes s f.whole) in
    absurd (omega (arith, most, f.set)))
    (λ why e. rw e (refl, sym (ne_eqb (number why) 0 (λ z. omega (arith, (number_range why).0)))))
