-- Note 10: "no step meets a refusal". Each step stores two checkpoints at most and sends one message at most, so a trial of 30,000 steps meets none of the limits
-- of document 01; what else a call may be refused for, the choice of a step rules out.
-- Assumes nothing.
use Rattle.std.specs.Prelude.{◌≡◌, ◌&&◌, ◌∷◌, ◌++◌, ◌+◌, ◌-◌, ◌*◌, ◌/◌, ◌%◌, ◌≤◌, ◌<◌}
use Rattle.laws.specs.Basics.{refl, sym, ◌∙◌, ap, Bool, true, List, [], Option, None, Some, ℕ, zero, suc, arith, eqb, ltb, leb, length, get_or, replicate, length-append, length-replicate, get_or-replicate, ltb-true, ltb-false, leb-true, by_bool, by_eq}
use Rattle.std.proofs.Common.{mod-lt, mod-eq_of_lt, mul-le-mul}
use native.Mathlib.Nat.{mod-eq-sub-mod}
use lib.ListN.{get_or-eq_default}
use Rattle.laws.specs.{Lists.select, Lists.gather, Options.some_same, Options.none≢some, Select.select_append, Sums.sum_le, Tests.every, Truth.and_left, Truth.and_right, Update.upd}
use Rattle.model.specs.declared.{Message.Message, Run.Run, Event.Event, Event.TheVariants.Checkpoint, Event.TheVariants.Send, Event.TheVariants.Deliver}
use Rattle.model.specs.Words.{basic, forced, most_processes, most_under_way, most_messages, most_interval, ones, under_way}
use Rattle.model.specs.{Steps.start_state, Sound.is_block_count_of, Refusals.start_refusal, Trace.fits}
use Rattle.whole_runs.specs.{Calls.call, Survival.Surviving, Survival.beginning, Listing.call_of}
use Rattle.theory_recording.specs.{Replay.state_after_events, Replay.EventReply, Replay.performed, spacing.Trial.Trial}
use Rattle.histories.proofs.Run.{Ideal, begin, open_ledger, because, stores, checkpointed, sending, delivered, forces}
use Rattle.histories.proofs.Counted.{delivered_ledger_forced, delivered_ledger_plain, counts_delivered}
use Rattle.histories.proofs.DeliveredViews.{delivered_own_forced, delivered_own_plain, delivered_own_other, delivered_last}
use Rattle.model.proofs.{simulation.View.message_of, simulation.View.messages_of, simulation.View.state_of, simulation.SoundPassing.passing_every}
use Rattle.model.proofs.{simulation.Reads.underway_is, simulation.Reads.under_way_is, simulation.Accepted.start_in}
use Rattle.model.proofs.simulation.Admitted.{checkpoint_admitted, send_admitted, deliver_admitted}
use Rattle.whole_runs.proofs.{whole.Reached.Reached, whole.Reached.refusal, whole.Runs.stepped as step_of}
use Rattle.whole_runs.proofs.WholeRuns.{started_state, start_reached, accepted_reached}
use Rattle.theory_recording.proofs.Replay.{Accepts, none_left, one_more, fits_accepted, state_append, performed_append, accepts_append}
use Rattle.theory_recording.specs.spacing.Spacing.{draw, generated, drawn_process, drawn_number, head_of, oldest_to, chosen_receiver_of, sends, delivers, action, is_due_of, with_checkpoint, step_events, is_delivery, has_value, deliveries_in, forced_in, stepped, trial_start, trial_after, events_of}

-- A run with block counts of 1 starts.
pub one_block : (p : ℕ) → get_or ones p 0 ≤ 1
one_block p = by_bool (ltb p most_processes)
    (λ lt. omega (arith, get_or-replicate {A = ℕ} most_processes p 1 0 (ltb-true p most_processes lt)))
    (λ ge. omega (arith, get_or-eq_default ones 0 {n = p} (rw (length-replicate {A = ℕ} most_processes 1) (ltb-false p most_processes ge))))

pub ones_start : (n : ℕ) → 1 ≤ n → n ≤ most_processes → start_refusal n ones ≡ None
unfolding is_block_count_of
ones_start n pos few = start_in n ones pos few (λ p lt. rw (get_or-replicate {A = ℕ} most_processes p 1 0 (omega arith)) refl)

-- A state that calls from a start reached: own entries are at most b, the last message number is at most m, the block counts at most 1, and no more than 15 + b
-- blocks are written.
pub record Going (n b m : ℕ) (s : Run) : Type 0 where
  pub history : Surviving
  pub ideal : Ideal
  pub reached : Reached n s history ideal
  pub low : (p : ℕ) → ideal.own p ≤ b
  pub few : ideal.last ≤ m
  pub cheap : (p : ℕ) → ideal.ledger.block_counts p ≤ 1
  pub blocks : ideal.ledger.written ≤ 15 + b

-- An event that it accepts, with the bounds after it.
pub record Goes (n b m : ℕ) (s : Run) (e : Event) : Type 0 where
  pub fine : refusal s (call_of e) ≡ None
  pub fitting : fits e ≡ true
  pub next : Going n b m (call s (call_of e)).run

weaken : (n b m b' m' : ℕ) (s : Run) → Going n b m s → b ≤ b' → m ≤ m' → Going n b' m' s
weaken n b m b' m' s g hb hm = record {
  history = g.history;
  ideal = g.ideal;
  reached = g.reached;
  low = λ p. omega (arith, g.low p);
  few = omega (arith, g.few);
  cheap = g.cheap;
  blocks = omega (arith, g.blocks);
}

-- Own entries and blocks after a checkpoint and after a delivery: at most one more.
own_checkpointed : (r : Ideal) (i b : ℕ) → ((q : ℕ) → r.own q ≤ b) → (p : ℕ) → (checkpointed r i).own p ≤ suc b
unfolding checkpointed upd
own_checkpointed r i b h p = by_bool (eqb p i) (λ e. rw e (omega (arith, h i))) (λ e. rw e (omega (arith, h p)))

own_delivered : (r : Ideal) (m b : ℕ) → ((q : ℕ) → r.own q ≤ b) → (p : ℕ) → (delivered r m).own p ≤ suc b
own_delivered r m b h p = by_bool (forces r m)
    (λ f. by_eq p (r.receiver m)
    (λ e. rw (e, delivered_own_forced r m f) (omega (arith, h (r.receiver m))))
    (λ ne. rw (delivered_own_other r m p ne) (omega (arith, h p))))
    (λ f. rw (delivered_own_plain r m f p) (omega (arith, h p)))

blocks_delivered : (r : Ideal) (m b : ℕ) → ((q : ℕ) → r.ledger.block_counts q ≤ 1) → r.ledger.written ≤ 15 + b → (delivered r m).ledger.written ≤ 15 + suc b
unfolding stores
blocks_delivered r m b few h = by_bool (forces r m)
    (λ f. rw (delivered_ledger_forced r m f) (omega (arith, few (r.receiver m))))
    (λ f. rw (delivered_ledger_plain r m f) (omega arith))

-- The first element that passes one test passes another that all pass.
head_passes : {A : Type 0} (u t : A → Bool) (l : List A) (x : A) → every u l ≡ true → head_of (select t l) ≡ Some x → u x ≡ true
unfolding every select head_of
head_passes u t [] x h e = absurd (none≢some e)
head_passes u t (y ∷ l) x h e = by_bool (t y)
    (λ q. let same : y ≡ x = some_same (rw q at e) in rw (← same) (and_left (u y) (every u l) h))
    (λ q. head_passes u t l x (and_right (u y) (every u l) h) (rw q at e))

-- Where the sum goes: below n, and never to p itself.
pub chosen_fits : (n p d : ℕ) → 2 ≤ n → p < n → (chosen_receiver_of n p d < n) × (p ≡ chosen_receiver_of n p d → ⊥)
unfolding chosen_receiver_of
chosen_fits n p d two hp =
    let less : d / 2 % (n - 1) < n - 1 = mod-lt (d / 2) {m = n - 1} (omega arith) in
    go (d / 2 % (n - 1)) less
  where
    go : (q : ℕ) → q < n - 1 → ((p + 1 + q) % n < n) × (p ≡ (p + 1 + q) % n → ⊥)
    go q less = by_bool (ltb (p + 1 + q) n)
        (λ e. let lt : p + 1 + q < n = ltb-true (p + 1 + q) n e in rw (mod-eq_of_lt lt) (lt, λ c. omega arith))
        (λ e.
        let ge : n ≤ p + 1 + q = ltb-false (p + 1 + q) n e in
        let lt : p + 1 + q - n < n = omega arith in
        rw (mod-eq-sub-mod ge, mod-eq_of_lt lt) (lt, λ c. omega arith))

-- Every message of the state is under way in the run.
under_way_lem : (r : Ideal) → every (λ y. r.transit y.number) (messages_of r) ≡ true
unfolding messages_of message_of
under_way_lem r = passing_every (λ (y : Message). r.transit y.number) (suc r.last) r.transit (message_of r) (λ j lt e. e)

module _ (n b m : ℕ) (s : Run) (g : Going n b m s) where
  room : 2 * g.ideal.n * g.ideal.n ≤ length {A = ℕ} (replicate 512 0)
  room =
      let few = g.reached.limits.few_processes in
      let most = mul-le-mul {n₁ = 2 * g.ideal.n} {m₁ = g.ideal.n} {n₂ = 32} {m₂ = 16} (omega (arith, few)) few in
      rw (length-replicate {A = ℕ} 512 0) (omega (arith, most))

  goes : (e : Event) (b' m' : ℕ) → refusal (state_of g.ideal) (call_of e) ≡ None → ((p : ℕ) → (step_of g.ideal (call_of e)).own p ≤ b')
      → (step_of g.ideal (call_of e)).last ≤ m' → ((p : ℕ) → (step_of g.ideal (call_of e)).ledger.block_counts p ≤ 1) → (step_of g.ideal (call_of e)).ledger.written ≤ 15 + b'
      → Goes n b' m' s e
  goes e b' m' h low few cheap blocks = record {
    fine = rw g.reached.state h;
    fitting = fits_accepted (state_of g.ideal) e h;
    next = record {
      history = _;
      ideal = step_of g.ideal (call_of e);
      reached = accepted_reached n s g.history g.ideal g.reached (call_of e) h;
      low = low;
      few = few;
      cheap = cheap;
      blocks = blocks;
    };
  }

  goes_checkpoint : (i : ℕ) → i < n → b < most_interval → Goes n (suc b) m s (Checkpoint i)
  unfolding call_of refusal step_of checkpointed stores
  goes_checkpoint i hi early = goes (Checkpoint i) (suc b) m
      (checkpoint_admitted g.ideal g.reached.inv g.reached.limits i (replicate 512 0) (rw g.reached.size hi) (omega (arith, g.low i)) room
      (omega (arith, g.blocks, g.cheap i)))
      (own_checkpointed (because basic g.ideal) i b g.low) g.few g.cheap (omega (arith, g.blocks, g.cheap i))

  goes_send : (i j : ℕ) → i < n → j < n → (i ≡ j → ⊥) → s.underway < most_under_way → m < most_messages → Goes n b (suc m) s (Send i j)
  unfolding call_of refusal step_of sending
  goes_send i j hi hj apart some-room numbers = goes (Send i j) b (suc m)
      (send_admitted g.ideal g.reached.inv g.reached.limits i j (rw g.reached.size hi) (rw g.reached.size hj) apart
      (rw (← underway_is g.ideal) (rw g.reached.state at some-room)) (omega (arith, g.few)))
      g.low (omega (arith, g.few)) g.cheap g.blocks

  goes_deliver : (x : Message) (p : ℕ) → oldest_to s p ≡ Some x → b < most_interval → Goes n (suc b) m s (Deliver x.number)
  unfolding call_of refusal step_of oldest_to
  goes_deliver x p e early =
      let all : every (λ y. g.ideal.transit y.number) (under_way s) ≡ true = rw (g.reached.state, under_way_is g.ideal) (under_way_lem g.ideal) in
      let under : g.ideal.transit x.number ≡ true = head_passes (λ y. g.ideal.transit y.number) (λ y. eqb y.receiver p) (under_way s) x all e in
      let r : Ideal = because forced g.ideal in
      goes (Deliver x.number) (suc b) m
      (deliver_admitted g.ideal g.reached.inv g.reached.limits x.number (replicate 512 0) under room
      (λ q. omega (arith, g.low (g.ideal.receiver x.number)))
      (λ q. omega (arith, g.blocks, g.cheap (g.ideal.receiver x.number))))
      (own_delivered r x.number b g.low) (rw (delivered_last r x.number) g.few)
      (λ q. rw (counts_delivered r x.number) (g.cheap q)) (blocks_delivered r x.number b g.cheap g.blocks)

-- The action of a step is accepted.
pub by_option : {A : Type 0} {P : Type 0} (o : Option A) → (o ≡ None → P) → ((x : A) → o ≡ Some x → P) → P
by_option None a b = a refl
by_option (Some x) a b = b x refl

module _ (n i : ℕ) (s : Run) (p d : ℕ) (g : Going n (1 + 2 * i) i s) (hp : p < n) (hi : i < 30000) where
  sends_goes : (e : Event) → sends n s p d ≡ Some e → Goes n (2 + 2 * i) (suc i) s e
  unfolding sends
  sends_goes e h = by_bool (leb 2 n && ltb s.underway most_under_way)
      (λ q.
      let two : 2 ≤ n = leb-true 2 n (and_left (leb 2 n) (ltb s.underway most_under_way) q) in
      let few : s.underway < most_under_way = ltb-true s.underway most_under_way (and_right (leb 2 n) (ltb s.underway most_under_way) q) in
      let c = chosen_fits n p d two hp in
      let same : Send p (chosen_receiver_of n p d) ≡ e = some_same (rw q at h) in
      let w = goes_send n (1 + 2 * i) i s g p (chosen_receiver_of n p d) hp c.0 c.1 few (omega arith) in
      rw (← same) (record { fine = w.fine; fitting = w.fitting; next = weaken n (1 + 2 * i) (suc i) (2 + 2 * i) (suc i) _ w.next (omega arith) (omega arith) }))
      (λ q. absurd (none≢some (rw q at h)))

  deliver_goes : (x : Message) → oldest_to s p ≡ Some x → Goes n (2 + 2 * i) (suc i) s (Deliver x.number)
  deliver_goes x h =
      let w = goes_deliver n (1 + 2 * i) i s g x p h (omega arith) in
      record { fine = w.fine; fitting = w.fitting; next = weaken n (suc (1 + 2 * i)) i (2 + 2 * i) (suc i) _ w.next (omega arith) (omega arith) }

  action_goes : (e : Event) → action n s p d ≡ Some e → Goes n (2 + 2 * i) (suc i) s e
  unfolding action delivers
  action_goes e h = by_option (oldest_to s p)
      (λ q. sends_goes e (rw q at h))
      (λ x q. let z = rw q at h in
      by_bool (eqb (d % 2) 0)
      (λ c. rw (← some_same (rw c at z)) (deliver_goes x q))
      (λ c. sends_goes e (rw c at z)))

  -- A step: its events are accepted, they are at most two, and the bounds grow by two and by one.
  pub record Step (l : List Event) : Type 0 where
    pub accepts : Accepts s l
    pub short : length l ≤ 2
    pub going : Going n (1 + 2 * suc i) (suc i) (state_after_events s l)

  step_goes : (k acted : ℕ) → Step (with_checkpoint k acted p (action n s p d))
  unfolding with_checkpoint state_after_events
  step_goes k acted = by_option (action n s p d)
      (λ q. rw q (record { accepts = none_left; short = omega arith; going = weaken n (1 + 2 * i) i (1 + 2 * suc i) (suc i) s g (omega arith) (omega arith) }))
      (λ e q.
      let w = action_goes e q in
      let c = goes_checkpoint n (2 + 2 * i) (suc i) (call s (call_of e)).run w.next p hp (omega arith) in
      rw q (by_bool (is_due_of k acted)
      (λ t. rw t (record {
        accepts = one_more w.fine w.fitting (one_more c.fine c.fitting none_left);
        short = omega arith;
        going = weaken n (suc (2 + 2 * i)) (suc i) (1 + 2 * suc i) (suc i) _ c.next (omega arith) (omega arith);
      }))
      (λ t. rw t (record {
        accepts = one_more w.fine w.fitting none_left;
        short = omega arith;
        going = weaken n (2 + 2 * i) (suc i) (1 + 2 * suc i) (suc i) _ w.next (omega arith) (omega arith);
      }))))

pub drawn_in : (n value : ℕ) → 1 ≤ n → drawn_process n value < n
unfolding drawn_process
drawn_in n value pos = mod-lt (draw (generated value)) {m = n} pos

-- All steps.
pub record Tried (n i : ℕ) (l : List Event) (z : Trial) : Type 0 where
  pub accepts : Accepts (start_state n ones) l
  pub short : length l ≤ 2 * i
  pub run : state_after_events (start_state n ones) l ≡ z.run
  pub going : Going n (1 + 2 * i) i z.run
  pub deliveries : z.deliveries ≡ deliveries_in (performed (start_state n ones) l)
  pub forced : z.forced ≡ forced_in (performed (start_state n ones) l)

count_append : (t : EventReply → Bool) (a b : List EventReply) → length (select t (a ++ b)) ≡ length (select t a) + length (select t b)
count_append t a b = ap length (select_append t a b) ∙ length-append (select t a) (select t b)

-- More events after events that led to a state.
module _ (s₀ s : Run) (before es : List Event) (there : state_after_events s₀ before ≡ s) where
  accepts_more : Accepts s₀ before → Accepts s es → Accepts s₀ (before ++ es)
  accepts_more a b = accepts_append s₀ before es a (rw there b)

  state_more : state_after_events s₀ (before ++ es) ≡ state_after_events s es
  state_more = state_append s₀ before es ∙ ap (λ (u : Run). state_after_events u es) there

  count_more : (t : EventReply → Bool) → length (select t (performed s₀ (before ++ es))) ≡ length (select t (performed s₀ before)) + length (select t (performed s es))
  count_more t =
      ap (λ (l : List EventReply). length (select t l)) (performed_append s₀ before es ∙ ap (λ (u : Run). performed s₀ before ++ performed u es) there)
      ∙ count_append t (performed s₀ before) (performed s es)

begin_going : (n : ℕ) → 1 ≤ n → n ≤ 16 → Going n 1 0 (start_state n ones)
unfolding begin open_ledger
begin_going n pos few =
    let ok = ones_start n pos few in
    record {
      history = beginning n ones;
      ideal = _;
      reached = rw (started_state n ones ok) at (start_reached n ones ok);
      low = λ p. omega arith;
      few = omega arith;
      cheap = one_block;
      blocks = omega (arith, few, sum_le n 1 (λ p. get_or ones p 0) (λ p lt. one_block p));
    }

tried_none : (n k seed : ℕ) → 1 ≤ n → n ≤ 16 → Tried n 0 (events_of n k 0 seed) (trial_after n k 0 seed)
unfolding events_of gather trial_after trial_start state_after_events performed deliveries_in forced_in select
tried_none n k seed pos few = record { accepts = none_left; short = omega arith; run = refl; going = begin_going n pos few; deliveries = refl; forced = refl }

events_more : (n k i seed : ℕ) → events_of n k (suc i) seed ≡ events_of n k i seed ++ step_events n k (trial_after n k i seed)
unfolding events_of gather
events_more n k i seed = refl

tried_more : (n k i : ℕ) (before : List Event) (z : Trial) → Tried n i before z → Accepts z.run (step_events n k z) → length (step_events n k z) ≤ 2
    → Going n (1 + 2 * suc i) (suc i) (state_after_events z.run (step_events n k z)) → Tried n (suc i) (before ++ step_events n k z) (stepped n k z)
unfolding stepped deliveries_in forced_in
tried_more n k i before z w a short g =
    let es = step_events n k z in
    let s₀ = start_state n ones in
    record {
      accepts = accepts_more s₀ z.run before es w.run w.accepts a;
      short = omega (arith, length-append before es, w.short);
      run = state_more s₀ z.run before es w.run;
      going = g;
      deliveries = ap (λ (x : ℕ). x + deliveries_in (performed z.run es)) w.deliveries ∙ sym (count_more s₀ z.run before es w.run (λ x. is_delivery x.event));
      forced = ap (λ (x : ℕ). x + forced_in (performed z.run es)) w.forced ∙ sym (count_more s₀ z.run before es w.run (λ x. is_delivery x.event && has_value x.reply.report.value));
    }

trial_more : (n k i seed : ℕ) → trial_after n k (suc i) seed ≡ stepped n k (trial_after n k i seed)
unfolding trial_after
trial_more n k i seed = refl

tried_step : (n k i seed : ℕ) → 1 ≤ n → i < 30000 → Tried n i (events_of n k i seed) (trial_after n k i seed) → Tried n (suc i) (events_of n k (suc i) seed) (trial_after n k (suc i) seed)
unfolding step_events
tried_step n k i seed pos most w =
    let z = trial_after n k i seed in
    let p = drawn_process n z.value in
    let step = step_goes n i z.run p (drawn_number z.value) w.going (drawn_in n z.value pos) most k (get_or z.acted p 0) in
    rw (events_more n k i seed, trial_more n k i seed) (tried_more n k i (events_of n k i seed) z w step.accepts step.short step.going)

fewer_steps : (i : ℕ) → suc i ≤ 30000 → i ≤ 30000
fewer_steps i h = omega arith

pub tried : (n k i seed : ℕ) → 1 ≤ n → n ≤ 16 → i ≤ 30000 → Tried n i (events_of n k i seed) (trial_after n k i seed)
tried n k zero seed pos few most = tried_none n k seed pos few
tried n k (suc i) seed pos few most = tried_step n k i seed pos most (tried n k i seed pos few (fewer_steps i most))
