-- 10 is real: two runs of which one has used all numbers. They are too long to compute: by the run as functions.
-- Assumes nothing.
use Rattle.std.specs.Prelude.{◌≡◌, ◌∷◌, ◌++◌, ◌≤◌, ◌<◌, Ok}
use Rattle.laws.specs.Basics.{refl, sym, ◌∙◌, ap, subst, true, false, not, List, [], map, Option, None, Some, ℕ, zero, suc, arith, eqb, ltb, leb, length, le-leb, by_bool, by_eq}
use Rattle.laws.specs.{Lists.last_of, Search.any_below, Select.last_of_snoc, Truth.and_no_right, Update.upd_same, Update.upd_other}
use Prim.{tt}
use Rattle.model.specs.declared.{Refusal.Refusal, Refusal.TheVariants.MessageNumbersUsed, Run.Run}
use Rattle.model.specs.{Words.ones, Words.most_under_way, Words.most_messages, Words.in_set, Sound.is_block_count_of, laws.Refusals.refusal_in}
use Rattle.model.specs.Refusals.{number, first_of, start_refusal, send_refusal}
use Rattle.histories.proofs.{Run.Ideal, Run.begin, Run.begun, Run.sending, Run.lost, Begin.begin_transit, Invariant.Inv}
use Rattle.model.proofs.{simulation.View.messages_of, simulation.View.state_of, simulation.View.Limits, simulation.Passing.passing_none}
use Rattle.model.proofs.{simulation.Reads.count_is_lem, simulation.Reads.last_is_lem, simulation.Reads.underway_is, simulation.Sound.state_sound}
use Rattle.model.proofs.simulation.Admitted.{send_admitted, lose_admitted}
use Rattle.whole_runs.specs.{Outcomes.send_report, Outcomes.send_outcome, Outcomes.start_outcome, Calls.send, Calls.lose, Calls.call, Calls.Reply, Calls.answered}
use Rattle.whole_runs.specs.Survival.{beginning}
use Rattle.whole_runs.proofs.{whole.Reached.refusal, whole.Refused.number_of, whole.Runs.stepped, WholeRuns.start_reached}
use Rattle.theory_roles.specs.declared.Operation.TheVariants.{Send}
use Rattle.theory_roles.specs.Console.{may, owns, entitled, entitled_by, entitled_message, entitled_message_by, denied, denied_process, denied_message, console_start, console_send, console_lose}
use Rattle.theory_roles.specs.{Isolation.owner, Runs.made, Runs.ConsoleCall, Runs.console_answered, Runs.console_call, Runs.state_after_console}
use Rattle.theory_roles.specs.Table.{operator}
use Rattle.theory_roles.specs.Learned.{is_owner_by, is_owner, sees, seen, room, leak, Exposed, asked, done, exposes, exposed}
use Rattle.theory_roles.specs.Real.{used, code, hide, hidden_leak, hidden, tenant, operators, messages, pair_of, Real}
use Rattle.theory_roles.proofs.Far.{At, at, call_at, inv_at, limits_at, size_at, by_send}
use Rattle.theory_roles.proofs.Lists.{owner_itself, after_append, exposed_append, seen_append, last_seen, differing}
use Rattle.theory_roles.specs.Real as real

-- A state after c messages, none of them under way.
record Calm (s : Run) (c : ℕ) : Type 0 where
  run : Ideal
  stands : At s run
  still : (m : ℕ) → run.transit m ≡ false
  last : run.last ≡ c

nothing_under_way : (r : Ideal) → ((m : ℕ) → r.transit m ≡ false) → length (messages_of r) ≡ 0
unfolding messages_of
nothing_under_way r still = ap length (passing_none (suc r.last) r.transit _ (λ m lt. still m))

by_lose : (s : Run) (m : ℕ) → (console_call s (operators (lose m))).run ≡ (call s (lose m)).run
unfolding console_call console_answered call answered console_lose denied_message entitled_message entitled_message_by may
by_lose s m = refl

-- One more message, sent and lost.
module _ (s : Run) (r : Ideal) (a : At s r) (c : ℕ) (still : (m : ℕ) → r.transit m ≡ false) (last : r.last ≡ c) (numbers : c < most_messages) where
  abbrev sent_state : Run
  sent_state = (call s (send 2 1)).run

  send_on : At sent_state (sending r 2 1)
  unfolding stepped refusal
  send_on = call_at s r a (send 2 1) (send_admitted r (inv_at s r a) (limits_at s r a) 2 1
      (omega (arith, size_at s r a)) (omega (arith, size_at s r a)) (omega arith) (omega (arith, nothing_under_way r still)) (omega (arith, last)))

  is_under_way : (sending r 2 1).transit (suc c) ≡ true
  unfolding sending
  is_under_way = rw last (upd_same r.transit (suc c) true)

  lose_on : At (call sent_state (lose (suc c))).run (lost (sending r 2 1) (suc c))
  unfolding stepped refusal
  lose_on = call_at sent_state (sending r 2 1) send_on (lose (suc c)) (lose_admitted (sending r 2 1) (inv_at _ _ send_on) (limits_at _ _ send_on) (suc c) is_under_way)

  still_after : (m : ℕ) → (lost (sending r 2 1) (suc c)).transit m ≡ false
  unfolding sending lost
  still_after m = by_eq m (suc c)
      (λ e. rw e (upd_same _ (suc c) false))
      (λ ne. upd_other _ (suc c) false m ne ∙ rw last (upd_other r.transit (suc c) true m ne ∙ still m))

  last_after : (lost (sending r 2 1) (suc c)).last ≡ suc c
  unfolding sending lost
  last_after = ap suc last

  one_more : Calm (state_after_console s (operators (send 2 1) ∷ operators (lose (suc c)) ∷ [])) (suc c)
  unfolding state_after_console
  one_more = subst (λ (t : Run). Calm t (suc c)) (sym (by_lose _ (suc c) ∙ ap (λ (t : Run). (call t (lose (suc c))).run) (by_send s 2 1)))
      (record { run = lost (sending r 2 1) (suc c); stands = lose_on; still = still_after; last = last_after })

many : (c : ℕ) (s : Run) → c ≤ most_messages → Calm s 0 → Calm (state_after_console s (messages c)) c
unfolding messages state_after_console
many zero s numbers x = x
many (suc c) s numbers x = subst (λ (t : Run). Calm t (suc c)) (sym (after_append s (messages c) (operators (send 2 1) ∷ operators (lose (suc c)) ∷ [])))
    (let y = many c s (omega arith) x in one_more (state_after_console s (messages c)) y.run y.stands c y.still y.last (omega arith))

-- They expose and show nothing.
lost_none : (u : Run) (m : ℕ) → exposes 1 u (operators (lose m)) ≡ []
unfolding exposes is_owner is_owner_by done
lost_none u m = by_bool (eqb (console_call u (operators (lose m))).reply.report.refused 0) (λ e. rw e) (λ e. rw e)

sent_none : (u : Run) → exposes 1 u (operators (send 2 1)) ≡ []
unfolding exposes is_owner is_owner_by done owns
sent_none u = by_bool (eqb (console_call u (operators (send 2 1))).reply.report.refused 0)
    (λ e. rw (e, and_no_right (ltb 2 u.count) (in_set 1 2) refl))
    (λ e. rw e)

exposed_two : (s : Run) (m : ℕ) → exposed 1 s (operators (send 2 1) ∷ operators (lose m) ∷ []) ≡ []
unfolding exposed
exposed_two s m = rw (sent_none s, lost_none (console_call s (operators (send 2 1))).run m)

seen_two : (s : Run) (m : ℕ) → seen 1 s (operators (send 2 1) ∷ operators (lose m) ∷ []) ≡ []
unfolding seen sees is_owner is_owner_by
seen_two s m = refl

exposed_none : (c : ℕ) (s : Run) → exposed 1 s (messages c) ≡ []
unfolding messages exposed
exposed_none zero s = refl
exposed_none (suc c) s = exposed_append 1 s (messages c) _ ∙ rw (exposed_none c s) (exposed_two (state_after_console s (messages c)) (suc c))

seen_none : (c : ℕ) (s : Run) → seen 1 s (messages c) ≡ []
unfolding messages seen
seen_none zero s = refl
seen_none (suc c) s = seen_append 1 s (messages c) _ ∙ rw (seen_none c s) (seen_two (state_after_console s (messages c)) (suc c))

-- The tenant's send after them.
abbrev asks : ConsoleCall
asks = tenant (send 0 1)

last_exposed : (s : Run) → s.count ≡ 3 → leb most_under_way s.underway ≡ false → map (hidden used) (exposed 1 s (asks ∷ [])) ≡ asked 1 (made (send 0 1)) (room false 0) ∷ []
unfolding exposed exposes leak hidden hidden_leak hide code
last_exposed s size few = rw (owner_itself 1 s.count, ap (λ (n : ℕ). owns 1 n 0) size ∙ mine, few)
  where
    mine : owns 1 3 0 ≡ true
    mine = unfold owns in refl

meets_last : (r : Ideal) → Inv r → Limits r → r.n ≡ 3 → ((m : ℕ) → r.transit m ≡ false) → most_messages ≤ r.last → send_refusal (state_of r) 0 1 ≡ Some MessageNumbersUsed
unfolding send_refusal
meets_last r v fit size still numbers =
    refusal_in _ (Some MessageNumbersUsed) (
      4,
      (
        rw (state_sound r v fit),
        (rw (count_is_lem r, size), (refl, (ap (leb most_under_way) (underway_is r ∙ nothing_under_way r still), tt))),
      ),
      le-leb most_messages (state_of r).last (rw (last_is_lem r) numbers),
      refl,
    )

-- What is known of the state there.
module _ (s : Run) (c : ℕ) (x : Calm s c) where
  size : s.count ≡ 3
  size = by_at x.stands
    where
      by_at : At s x.run → s.count ≡ 3
      by_at (at h v) = ap (λ (t : Run). t.count) v.state ∙ count_is_lem x.run ∙ v.size

  few : leb most_under_way s.underway ≡ false
  few = by_at x.stands
    where
      by_at : At s x.run → leb most_under_way s.underway ≡ false
      by_at (at h v) = ap (λ (t : Run). leb most_under_way t.underway) v.state ∙ ap (leb most_under_way) (underway_is x.run ∙ nothing_under_way x.run x.still)

  refused_as : (o : Option Refusal) → send_refusal (state_of x.run) 0 1 ≡ o → send_refusal s 0 1 ≡ o
  refused_as o e = by_at x.stands
    where
      by_at : At s x.run → send_refusal s 0 1 ≡ o
      by_at (at h v) = ap (λ (t : Run). send_refusal t 0 1) v.state ∙ e

  allowed : denied_process (owner 1) s Send 0 ≡ false
  unfolding denied_process entitled entitled_by may owns
  allowed = ap (λ (n : ℕ). not (owns 1 n 0)) size

  reply_number : (o : Option Refusal) → send_refusal s 0 1 ≡ o → (console_call s asks).reply.report.refused ≡ number_of o
  unfolding console_call console_answered answered console_send send_outcome send_report number_of
  reply_number None e = rw (allowed, e)
  reply_number (Some y) e = rw (allowed, e)

  accepted_number : c < most_messages → (console_call s asks).reply.report.refused ≡ 0
  unfolding number_of
  accepted_number numbers =
      let r = x.run in
      let a = x.stands in
      reply_number None (refused_as None (send_admitted r (inv_at s r a) (limits_at s r a) 0 1 (omega (arith, size_at s r a)) (omega (arith, size_at s r a)) (omega arith)
      (omega (arith, nothing_under_way r x.still)) (omega (arith, x.last))))

  used_number : most_messages ≤ c → (console_call s asks).reply.report.refused ≡ 10
  unfolding number_of number
  used_number numbers =
      let a = x.stands in
      reply_number (Some MessageNumbersUsed) (refused_as (Some MessageNumbersUsed)
      (meets_last x.run (inv_at s x.run a) (limits_at s x.run a) (size_at s x.run a) x.still (omega (arith, numbers, x.last))))

-- After c messages.
module _ (s : Run) (x : Calm s 0) (c : ℕ) (numbers : c ≤ most_messages) where
  abbrev there : Run
  there = state_after_console s (messages c)

  come : Calm there c
  come = many c s numbers x

  exposed_after : map (hidden used) (exposed 1 s (messages c ++ (asks ∷ []))) ≡ asked 1 (made (send 0 1)) (room false 0) ∷ []
  exposed_after =
      ap (map (hidden used)) (exposed_append 1 s (messages c) (asks ∷ []) ∙ ap (λ (z : List Exposed). z ++ exposed 1 there (asks ∷ [])) (exposed_none c s))
      ∙ last_exposed there (size there c come) (few there c come)

  seen_after : last_of (seen 1 s (messages c ++ (asks ∷ []))) ≡ Some (console_call there asks).reply
  seen_after =
      ap last_of (seen_append 1 s (messages c) (asks ∷ []) ∙ ap (λ (z : List Reply). z ++ seen 1 there (asks ∷ [])) (seen_none c s) ∙ last_seen there (send 0 1))
      ∙ last_of_snoc [] (console_call there asks).reply

-- The start.
start_accepted : start_refusal 3 ones ≡ None
unfolding start_refusal first_of any_below is_block_count_of
start_accepted = refl

started_so : (console_start operator 3 ones).answer ≡ Ok tt
unfolding console_start denied may start_outcome
started_so = rw start_accepted

begun_is : (start_outcome 3 ones).run ≡ real.begun used
unfolding real.begun pair_of console_start denied may
begun_is = refl

begun_last : (begun 3 ones).last ≡ 0
unfolding begin
begun_last = refl

first : Calm (real.begun used) 0
first = subst (λ (s : Run). Calm s 0) begun_is (record { run = begun 3 ones; stands = at (beginning 3 ones) (start_reached 3 ones start_accepted); still = begin_transit 3; last = begun_last })

pub used_real : Real used
unfolding pair_of
used_real =
    let s = real.begun used in
    record {
      started = started_so;
      alike = exposed_after s first 1_000_000 (omega arith) ∙ sym (exposed_after s first 999_999 (omega arith));
      differs = differing 10 0 (console_call (state_after_console s (messages 1_000_000)) asks).reply (console_call (state_after_console s (messages 999_999)) asks).reply _ _ (omega arith)
          (seen_after s first 1_000_000 (omega arith)) (seen_after s first 999_999 (omega arith))
          (used_number _ 1_000_000 (come s first 1_000_000 (omega arith)) (omega arith)) (accepted_number _ 999_999 (come s first 999_999 (omega arith)) (omega arith));
    }
