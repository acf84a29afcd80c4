-- What the parts of a step leave behind, from what the calls answer.
-- Assumes nothing.
use Rattle.std.specs.Prelude.{◌≡◌, ◌&&◌, ◌∷◌, ◌+◌, ◌%◌, ◌≤◌, ◌<◌}
use Rattle.laws.specs.Basics.{refl, sym, ◌∙◌, ap, true, false, List, [], Option, None, Some, ℕ, arith, eqb, length, get_or, set, replicate, eq-eqb, ne_eqb, lt-ltb, le-ltb, le-leb, lt-leb, pick, by_bool}
use lib.Seq.{set-get_or}
use Rattle.laws.specs.Lists.{select}
use Rattle.model.specs.declared.{Run.Run, Event.Event, Event.TheVariants.Checkpoint, Event.TheVariants.Send, Event.TheVariants.Deliver}
use Rattle.model.specs.Shapes.{DeliverAnswer}
use Rattle.model.specs.Words.{most_under_way}
use Rattle.whole_runs.specs.{Outcomes.checkpoint_outcome, Outcomes.send_outcome, Outcomes.deliver_outcome, Outcomes.deliver_report, Calls.answered, Calls.call}
use Rattle.whole_runs.specs.Listing.{call_of}
use Rattle.theory_recording.specs.Replay.{state_after_events, performed}
use Rattle.theory_recording.specs.spacing.Spacing.{oldest_to, chosen_receiver_of, sends, delivers, action, is_due_of, with_checkpoint, is_delivery, has_value, deliveries_in, forced_in, counted}
use Rattle.theory_recording.proofs.spacing.Accepted.{by_option}
use Rattle.library_trials.specs.{declared.Action.Action, Steps.events_in, Steps.after, Steps.action_of, Steps.forced_by_of, Steps.number_of}

forced_one : {A : Type 0} (a : DeliverAnswer) (x : A) → forced_by_of a ≡ length (pick (has_value (deliver_report a).value) (x ∷ []) [])
unfolding forced_by_of
forced_one a x = by_bool (has_value (deliver_report a).value) (λ e. rw e) (λ e. rw e)

-- The state that an event leaves is the call's.
pub deliver_leaves : (s : Run) (m : ℕ) → (deliver_outcome s m (replicate 512 0)).run ≡ after s (Some (Deliver m))
unfolding after events_in state_after_events call answered call_of
deliver_leaves s m = refl

send_leaves : (s : Run) (p q : ℕ) → (send_outcome s p q).run ≡ after s (Some (Send p q))
unfolding after events_in state_after_events call answered call_of
send_leaves s p q = refl

nothing_leaves : (s : Run) → s ≡ after s None
unfolding after events_in state_after_events
nothing_leaves s = refl

pub rests : (s : Run) (p : ℕ) → (checkpoint_outcome s p (replicate 512 0)).run ≡ state_after_events s (Checkpoint p ∷ [])
unfolding state_after_events call answered call_of
rests s p = refl

pub rests_not : (s : Run) → s ≡ state_after_events s []
unfolding state_after_events
rests_not s = refl

-- What is counted of it.
pub deliver_is : (s : Run) (m : ℕ) (answer : DeliverAnswer) (f : ℕ) → answer ≡ (deliver_outcome s m (replicate 512 0)).answer → f ≡ forced_by_of answer
    → record { acted = 1; deliveries = 1; forced = f } ≡ action_of s (Some (Deliver m))
unfolding action_of events_in performed call answered call_of deliveries_in forced_in select is_delivery
deliver_is s m answer f promised is =
    let all : f ≡ forced_in (performed s (Deliver m ∷ [])) = is ∙ ap forced_by_of promised ∙ forced_one (deliver_outcome s m (replicate 512 0)).answer _ in
    λ j. record { acted = 1; deliveries = 1; forced = all j }

send_is : (s : Run) (p q : ℕ) → record { acted = 1; deliveries = 0; forced = 0 } ≡ action_of s (Some (Send p q))
unfolding action_of events_in performed call answered call_of deliveries_in forced_in select is_delivery
send_is s p q = refl

nothing_is : (s : Run) → record { acted = 0; deliveries = 0; forced = 0 } ≡ action_of s None
unfolding action_of events_in performed deliveries_in forced_in select
nothing_is s = refl

-- Both, of what a step does.
pub nothing_so : (s : Run) (o : Option Event) → o ≡ None → (s ≡ after s o) × (record { acted = 0; deliveries = 0; forced = 0 } ≡ action_of s o)
nothing_so s o e = rw e (nothing_leaves s, nothing_is s)

pub send_so : (s : Run) (p q : ℕ) (o : Option Event) → o ≡ Some (Send p q) → ((send_outcome s p q).run ≡ after s o) × (record { acted = 1; deliveries = 0; forced = 0 } ≡ action_of s o)
send_so s p q o e = rw e (send_leaves s p q, send_is s p q)

none_some : {P : Type 0} (m : ℕ) → ◌≡◌ {A = Option ℕ} None (Some m) → P
none_some m e = absurd (let z : ◌≡◌ {A = ℕ} 0 1 = cc in omega arith)

delivered_of : Option ℕ → Option Event
delivered_of None = None
delivered_of (Some m) = Some (Deliver m)

module _ (n : ℕ) (s : Run) (p d : ℕ) where
  pub sends_alone : n < 2 → sends n s p d ≡ None
  unfolding sends
  sends_alone h = rw (lt-leb 2 n h)

  pub sends_full : 2 ≤ n → most_under_way ≤ s.underway → sends n s p d ≡ None
  unfolding sends
  sends_full two h = rw (le-leb 2 n two, le-ltb s.underway most_under_way h)

  pub sends_one : 2 ≤ n → s.underway < most_under_way → sends n s p d ≡ Some (Send p (chosen_receiver_of n p d))
  unfolding sends
  sends_one two h = rw (le-leb 2 n two, lt-ltb s.underway most_under_way h)

  -- What the search for the oldest answers, and the action by it.
  module _ (f : Option ℕ) (is : f ≡ number_of (oldest_to s p)) where
    pub action_none : f ≡ None → action n s p d ≡ sends n s p d
    unfolding action delivers number_of delivered_of
    action_none e = by_option (oldest_to s p)
        (λ q. rw q)
        (λ x q. none_some x.number (sym e ∙ is ∙ ap number_of q))

    pub action_even : (m : ℕ) → f ≡ Some m → d % 2 ≡ 0 → action n s p d ≡ Some (Deliver m)
    unfolding action delivers number_of delivered_of
    action_even m e even = by_option (oldest_to s p)
        (λ q. none_some m (sym (is ∙ ap number_of q) ∙ e))
        (λ x q. rw (q, eq-eqb (d % 2) 0 even) (ap (λ (o : Option ℕ). delivered_of o) (sym (is ∙ ap number_of q) ∙ e)))

    pub action_odd : (d % 2 ≡ 0 → ⊥) → action n s p d ≡ sends n s p d
    unfolding action delivers number_of delivered_of
    action_odd odd = by_option (oldest_to s p)
        (λ q. rw q)
        (λ x q. rw (q, ne_eqb (d % 2) 0 odd))

-- A step by its parts.
module _ (s : Run) (k acted p : ℕ) where
  pub run_by_parts : (o : Option Event) → state_after_events (after s o) (pick (eqb (action_of s o).acted 1 && is_due_of k acted) (Checkpoint p ∷ []) []) ≡ state_after_events s (with_checkpoint k acted p o)
  unfolding after action_of events_in state_after_events with_checkpoint
  run_by_parts None = refl
  run_by_parts (Some e) = refl

  pub deliveries_by_parts : (o : Option Event) → (action_of s o).deliveries ≡ deliveries_in (performed s (with_checkpoint k acted p o))
  unfolding action_of events_in performed deliveries_in with_checkpoint select is_delivery
  deliveries_by_parts None = refl
  deliveries_by_parts (Some e) = by_bool (is_due_of k acted)
      (λ t. rw t (by_bool (is_delivery e) (λ d. rw d) (λ d. rw d)))
      (λ t. rw t)

  pub forced_by_parts : (o : Option Event) → (action_of s o).forced ≡ forced_in (performed s (with_checkpoint k acted p o))
  unfolding action_of events_in performed forced_in with_checkpoint select is_delivery
  forced_by_parts None = refl
  forced_by_parts (Some e) = by_bool (is_due_of k acted)
      (λ t. rw t (by_bool (is_delivery e && has_value (call s (call_of e)).reply.report.value) (λ d. rw d) (λ d. rw d)))
      (λ t. rw t)

pub acted_by_parts : (s : Run) (acted : List ℕ) (p : ℕ) (o : Option Event) → set acted p (get_or acted p 0 + (action_of s o).acted) ≡ counted acted p o
unfolding action_of events_in counted
acted_by_parts s acted p None = ap (set acted p) (plain (get_or acted p 0)) ∙ set-get_or acted p 0
  where
    plain : (x : ℕ) → x + 0 ≡ x
    plain x = omega arith
acted_by_parts s acted p (Some e) = refl

one_at_most : (s : Run) (o : Option Event) → ((action_of s o).acted ≤ 1) × ((action_of s o).deliveries ≤ 1) × ((action_of s o).forced ≤ 1)
unfolding action_of events_in performed deliveries_in forced_in select
one_at_most s None = (omega arith, omega arith, omega arith)
one_at_most s (Some e) = (
  omega arith,
  by_bool (is_delivery e) (λ d. rw d (omega arith)) (λ d. rw d (omega arith)),
  by_bool (is_delivery e && has_value (call s (call_of e)).reply.report.value) (λ d. rw d (omega arith)) (λ d. rw d (omega arith)),
)

pub small_action : (s : Run) (o : Option Event) (a : Action) → a ≡ action_of s o → (a.acted ≤ 1) × (a.deliveries ≤ 1) × (a.forced ≤ 1)
small_action s o a is = rw is (one_at_most s o)
