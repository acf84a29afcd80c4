-- Accepted events and the replay of their records: the same state, the same replies.
-- Assumes nothing.
use Rattle.std.specs.Prelude.{◌≡◌, ◌∷◌, ◌++◌, ◌+◌, ◌*◌, ◌^◌, ◌≤◌, ◌<◌}
use Rattle.laws.specs.Basics.{refl, ◌∙◌, ap, Bool, true, List, [], map, None, Some, ℕ, zero, suc, arith, eqb, ltb, length, length-append, eqb-true, lt-ltb, by_bool}
use native.Mathlib.Nat.{pow-le-pow_right}
use Rattle.laws.specs.{Lists.select, Prefixes.every_select, Tests.every, Truth.and_left, Truth.and_right, Truth.and_both, Truth.or_in_right}
use Rattle.model.specs.declared.{Message.Message, Run.Run, Event.Event}
use Rattle.model.specs.declared.Event.TheVariants.{Checkpoint, Send, Deliver, Lose, Recover}
use Rattle.model.specs.{Words.most_messages, Words.ones, Words.under_way, Steps.start_state, Steps.found, Sound.message_sound, Sound.sound, Refusals.start_refusal}
use Rattle.model.specs.{laws.Sound.sound_state, laws.Sound.sound_message, Trace.decoded, Trace.is_record, Trace.fields_of, Trace.fits}
use Rattle.whole_runs.specs.{Calls.call, WholeRuns.Traced}
use Rattle.whole_runs.specs.Listing.{most_records, call_of, perform, goes_on_of, records, state_after_records, started, listing}
use Rattle.theory_recording.specs.Replay.{record_bytes, records_of, state_after_events, EventReply, performed, replies_of, none_refused, paired, lines_of}
use Rattle.model.proofs.simulation.Accepted.{checkpoint_out, send_out, lose_out, deliver_out, recover_out}
use Rattle.model.proofs.Records.{records_are_events}
use Rattle.whole_runs.proofs.{Sizes.few_processes, Sizes.last_passes, Blocks.states_by_block, Blocks.one_state, Traced.traced_call, whole.Reached.refusal}
use Rattle.whole_runs.proofs.whole.Accepted.{accepted_report}

-- The number of a message that is found is one that was used.
all_named : (m : ℕ) (l : List Message) → every (λ y. eqb y.number m) (select (λ y. eqb y.number m) l) ≡ true
unfolding every select
all_named m [] = refl
all_named m (x ∷ l) = by_bool (eqb x.number m) (λ e. rw e (and_both (eqb x.number m) _ e (all_named m l))) (λ e. rw e (all_named m l))

number_in_lem : (s : Run) → sound s ≡ true → (m : ℕ) (x : Message) → found s m ≡ Some x → m ≤ most_messages
unfolding found
number_in_lem s h m x e =
    let all = every_select (message_sound s) (λ y. eqb y.number m) (under_way s) (sound_state s h).messages_sound_lem in
    let used = (sound_message s x (last_passes (message_sound s) (select (λ y. eqb y.number m) (under_way s)) x all e)).numbered in
    let same : x.number ≡ m = eqb-true x.number m (last_passes (λ y. eqb y.number m) (select (λ y. eqb y.number m) (under_way s)) x (all_named m (under_way s)) e) in
    omega (arith, same, used, (sound_state s h).last_most)

-- The event of an accepted call fits the fields of a record, on any state.
fits_in : (e : Event) → (fields_of e).process < 16 → (fields_of e).argument < 33554432 → fits e ≡ true
unfolding fits
fits_in e a b = and_both _ _ (lt-ltb (fields_of e).process 16 a) (lt-ltb (fields_of e).argument 33554432 b)

pub fits_accepted : (s : Run) (e : Event) → refusal s (call_of e) ≡ None → fits e ≡ true
unfolding refusal call_of fields_of
fits_accepted s (Checkpoint i) h =
    let f = checkpoint_out s i _ h in
    fits_in (Checkpoint i) (omega (arith, few_processes s f.whole, f.present)) (omega arith)
fits_accepted s (Send i j) h =
    let f = send_out s i j h in
    fits_in (Send i j) (omega (arith, few_processes s f.whole, f.from)) (omega (arith, few_processes s f.whole, f.to))
fits_accepted s (Deliver m) h =
    let f = deliver_out s m _ h in
    fits_in (Deliver m) (omega arith) (omega (arith, number_in_lem s f.whole m f.message f.here))
fits_accepted s (Lose m) h =
    let f = lose_out s m h in
    fits_in (Lose m) (omega arith) (omega (arith, number_in_lem s f.whole m f.message f.here))
fits_accepted s (Recover F) h =
    let f = recover_out s F _ _ h in
    let most : 2 ^ s.count ≤ 2 ^ 16 = pow-le-pow_right {n = 2} (omega arith) (few_processes s f.whole) in
    fits_in (Recover F) (omega arith) (omega (arith, most, f.set))

-- The record of an event that fits: four bytes that stand for it.
pub record_of : (e : Event) → fits e ≡ true → (length (record_bytes e) ≡ 4) × (decoded (record_bytes e) ≡ Some e)
unfolding record_bytes is_record
record_of e h =
    let w = records_are_events.one_record e h in
    rw w.1 (eqb-true (length w.0) 4 (and_left (eqb (length w.0) 4) (every (λ b. ltb b 256) w.0) w.2), w.4)

-- A replay by its first record.
pub first_state : (s : Run) (b l : List ℕ) → length b ≡ 4 → state_after_records s (b ++ l) ≡ state_after_records (perform s (decoded b)).run l
first_state s b l h = states_by_block 1 s b l h ∙ ap (λ (u : Run). state_after_records u l) (one_state s b h)

pub first_reply : (s : Run) (b l : List ℕ) → length b ≡ 4 → replies_of s (b ++ l) ≡ (perform s (decoded b)).reply ∷ replies_of (perform s (decoded b)).run l
unfolding replies_of
first_reply s [] l h = absurd (omega arith)
first_reply s (a ∷ []) l h = absurd (omega arith)
first_reply s (a ∷ b ∷ []) l h = absurd (omega arith)
first_reply s (a ∷ b ∷ c ∷ []) l h = absurd (omega arith)
first_reply s (a ∷ b ∷ c ∷ d ∷ []) l h = refl
first_reply s (a ∷ b ∷ c ∷ d ∷ e ∷ r) l h = absurd (omega arith)

-- Events that a state accepts, one after the other, and that have records.
pub data Accepts : Run → List Event → Type 0 where
  none_left : {s : Run} → Accepts s []
  one_more : {s : Run} {e : Event} {l : List Event} → refusal s (call_of e) ≡ None → fits e ≡ true → Accepts (call s (call_of e)).run l → Accepts s (e ∷ l)

-- Two lists of events, one after the other.
pub state_append : (s : Run) (a b : List Event) → state_after_events s (a ++ b) ≡ state_after_events (state_after_events s a) b
unfolding state_after_events
state_append s [] b = refl
state_append s (e ∷ a) b = state_append (call s (call_of e)).run a b

pub performed_append : (s : Run) (a b : List Event) → performed s (a ++ b) ≡ performed s a ++ performed (state_after_events s a) b
unfolding performed state_after_events
performed_append s [] b = refl
performed_append s (e ∷ a) b = ap (λ (l : List EventReply). record { event = e; reply = (call s (call_of e)).reply } ∷ l) (performed_append (call s (call_of e)).run a b)

pub accepts_append : (s : Run) (a b : List Event) → Accepts s a → Accepts (state_after_events s a) b → Accepts s (a ++ b)
unfolding state_after_events
accepts_append s a b none_left w = w
accepts_append s a b (one_more {e = e} {l = l} h f v) w = one_more h f (accepts_append (call s (call_of e)).run l b v w)

-- The replay of accepted events.
pub record Replays (s : Run) (l : List Event) : Type 0 where
  pub state : state_after_records s (records_of l) ≡ state_after_events s l
  pub replies : replies_of s (records_of l) ≡ map (λ x. x.reply) (performed s l)
  pub size : length (records_of l) ≡ 4 * length l
  pub fitting : every fits l ≡ true
  pub accepted : none_refused (replies_of s (records_of l)) ≡ true
  pub same : paired l (replies_of s (records_of l)) ≡ performed s l
  pub one_each : length (replies_of s (records_of l)) ≡ length l

performs : (s : Run) (e : Event) → decoded (record_bytes e) ≡ Some e → perform s (decoded (record_bytes e)) ≡ call s (call_of e)
unfolding perform
performs s e h = rw h

pub replays : (s : Run) (l : List Event) → Accepts s l → Replays s l
unfolding records_of state_after_records state_after_events replies_of performed every paired none_refused
replays s l none_left = record { state = refl; replies = refl; size = refl; fitting = refl; accepted = refl; same = refl; one_each = refl }
replays s l (one_more {e = e} {l = m} h f v) =
    let w = replays (call s (call_of e)).run m v in
    let b = record_of e f in
    let does = performs s e b.1 in
    let first = first_reply s (record_bytes e) (records_of m) b.0 in
    record {
      state = first_state s (record_bytes e) (records_of m) b.0 ∙ rw does w.state;
      replies = first ∙ rw does (λ j. (call s (call_of e)).reply ∷ w.replies j);
      size = omega (arith, length-append (record_bytes e) (records_of m), b.0, w.size);
      fitting = rw f w.fitting;
      accepted = rw (first, does, accepted_report s (call_of e) h) w.accepted;
      same = rw (first, does) (λ j. record { event = e; reply = (call s (call_of e)).reply } ∷ w.same j);
      one_each = rw (first, does) (omega (arith, w.one_each));
    }

-- What the replay program prints, with or without `all`, where no record is refused.
pub lines_replayed : (all : Bool) (k done : ℕ) (s : Run) (trace : List ℕ) → length trace ≡ 4 * k → done + k ≤ most_records → none_refused (replies_of s trace) ≡ true
    → records all done s trace ≡ lines_of done (replies_of s trace)
unfolding records replies_of lines_of goes_on_of none_refused every
lines_replayed all k done s [] h m a = refl
lines_replayed all k done s (w ∷ []) h m a = absurd (omega arith)
lines_replayed all k done s (w ∷ x ∷ []) h m a = absurd (omega arith)
lines_replayed all k done s (w ∷ x ∷ y ∷ []) h m a = absurd (omega arith)
lines_replayed all zero done s (w ∷ x ∷ y ∷ z ∷ l) h m a = absurd (omega arith)
lines_replayed all (suc k) done s (w ∷ x ∷ y ∷ z ∷ l) h m a =
    let o = perform s (decoded (w ∷ x ∷ y ∷ z ∷ [])) in
    let first = and_left (eqb o.reply.report.refused 0) (every (λ r. eqb r.report.refused 0) (replies_of o.run l)) a in
    let rest = and_right (eqb o.reply.report.refused 0) (every (λ r. eqb r.report.refused 0) (replies_of o.run l)) a in
    rw (lt-ltb done most_records (omega arith), or_in_right all (eqb o.reply.report.refused 0) first, lines_replayed all k (done + 1) o.run l (omega arith) (omega arith) rest)

pub listing_started : (all : Bool) (n : ℕ) (l : List ℕ) → start_refusal n ones ≡ None → listing all (n ∷ l) ≡ records all 0 (start_state n ones) l
unfolding listing started
listing_started all n l e = rw e

-- Events take a state of a trace run to another.
pub traced_events : (s : Run) → Traced s → (l : List Event) → Traced (state_after_events s l)
unfolding state_after_events
traced_events s v [] = v
traced_events s v (e ∷ l) = traced_events (call s (call_of e)).run (traced_call s v (call_of e)) l
