-- How large the numbers of a reply can be, whatever the state: a call that is refused reports no value and no deletion, and one that is accepted
-- found the state sound and the limits kept. The length of a printed line rests on this.
-- Assumes nothing.
use Rattle.std.specs.Prelude.{◌≡◌, ◌&&◌, ◌∷◌, ◌+◌, ◌≤◌, ◌<◌}
use Rattle.laws.specs.Basics.{Bool, true, not, List, [], Option, None, Some, ℕ, arith, eqb, leb, length, get_or, length-append, by_bool}
use lib.ListN.{length-take}
use Rattle.laws.specs.{Counting.count_le, Lists.select, Lists.last_of, Options.some_same, Options.none≢some, Prefixes.every_select, Prefixes.every_last, Select.select_length}
use Rattle.laws.specs.{Tests.every, Truth.and_left, Truth.and_right}
use Rattle.model.specs.declared.{Interval.Interval, Checkpoint.Checkpoint, Message.Message, Named.Named, Run.Run, Event.Event, Refusal.Refusal}
use Rattle.model.specs.declared.Refusal.TheVariants.{MalformedRecord}
use Rattle.model.specs.Words.{basic, forced, is_pinned, Process, process, own, under_way, live}
use Rattle.model.specs.Steps.{listed, gone, deletions, storing, checkpointed, checkpoint_deletions, found, forces, taken_in, delivered, deliver_deletions, member, pins_after, gone_at_of, deleted_at, recover_deletions, rolled_back, rolled_back_count}
use Rattle.model.specs.{Sound.message_sound, Sound.sound, laws.Refusals.by_refusal, laws.Refusals.number_range, laws.Sound.sound_state, laws.Sound.sound_message}
use Rattle.model.specs.Refusals.{checkpoint_refusal, send_refusal, deliver_refusal, lose_refusal, line_refusal, recover_refusal}
use Rattle.whole_runs.specs.Outcomes.{Report, refusing, accepting, deliver_answer, checkpoint_outcome, checkpoint_report, send_outcome, send_report, deliver_outcome, deliver_report, lose_outcome, lose_report, line_outcome, line_report, recover_outcome, recover_report}
use Rattle.whole_runs.specs.{Earliest.earliest_refusal, Earliest.earliest_outcome, Listing.call_of, Listing.perform}
use Rattle.whole_runs.specs.Calls.{Call, checkpoint, send, deliver, lose, recover, line, earliest, answered, call}
use Rattle.model.proofs.simulation.Accepted.{checkpoint_out, send_out, deliver_out, recover_out}
use Rattle.whole_runs.proofs.whole.{Handed.gather_length, Pairs.length_listed}

-- A sound state has at most 16 processes, and each keeps at most 16 checkpoints.
pub few_processes : (s : Run) → sound s ≡ true → s.count ≤ 16
few_processes s h = (sound_state s h).count_most

pub few_kept : (s : Run) → sound s ≡ true → (p : ℕ) → p < s.count → length (process s p).kept ≤ 16
unfolding process
few_kept s h p lt = rw (length-take (get_or s.kept_count p 0) (get_or s.kept.0 p [])) (omega (arith, few_processes s h, ((sound_state s h).processes p lt).kept_count_most))

-- The last element of a list passes a test that every element passes.
pub last_passes : {A : Type 0} (u : A → Bool) (l : List A) (x : A) → every u l ≡ true → last_of l ≡ Some x → u x ≡ true
unfolding every last_of
last_passes u [] x h e = absurd (none≢some e)
last_passes u (y ∷ l) x h e =
    rw (← some_same e) (every_last u l y (and_right (u y) (every u l) h) (and_left (u y) (every u l) h))

-- A message under way goes to a process of the run.
receiver_in : (s : Run) → sound s ≡ true → (m : ℕ) (x : Message) → found s m ≡ Some x → x.receiver < s.count
unfolding found
receiver_in s h m x e =
    let all = every_select (message_sound s) (λ y. eqb y.number m) (under_way s) (sound_state s h).messages_sound_lem in
    (sound_message s x (last_passes (message_sound s) (select (λ y. eqb y.number m) (under_way s)) x all e)).to

-- Deletions of one process are among the checkpoints that it keeps.
pub listed_few : (p : ℕ) (t : Checkpoint → Bool) (l : List Checkpoint) → length (listed p (select t l)) ≤ length l
listed_few p t l = rw (length_listed p (select t l)) (select_length t l)

pub deletions_few : (p : ℕ) (P : Process) → length (deletions p P) ≤ length P.kept
unfolding deletions gone
deletions_few p P = listed_few p (λ c. not (is_pinned P.pins c)) P.kept

-- A checkpoint keeps one more before it deletes.
pub stored_few : (cause i : ℕ) (P : Process) → length P.kept ≤ 16 → length (checkpointed cause i P).kept ≤ 17
unfolding checkpointed
stored_few cause i P h = omega (arith, length-append P.kept (storing cause i P ∷ []))

checkpoint_few : (s : Run) (i : ℕ) → length (process s i).kept ≤ 16 → length (checkpoint_deletions s i) ≤ 17
unfolding checkpoint_deletions
checkpoint_few s i h = omega (arith, deletions_few i (checkpointed basic i (process s i)), stored_few basic i (process s i) h)

pub taken_few : (i : ℕ) (carried : List Interval) (P : Process) → length P.kept ≤ 16 → length (delivered i carried P).kept ≤ 17
unfolding delivered taken_in
taken_few i carried P h = by_bool (forces P carried) (λ e. rw e (stored_few forced i P h)) (λ e. rw e (omega arith))

deliver_few : (s : Run) (x : Message) → length (process s x.receiver).kept ≤ 16 → length (deliver_deletions s x) ≤ 17
unfolding deliver_deletions
deliver_few s x h =
    let P = process s x.receiver in
    omega (arith, deletions_few x.receiver (delivered x.receiver x.vector P), taken_few x.receiver x.vector P h)

deleted_few : (s : Run) (F p : ℕ) → length (deleted_at s F p) ≤ length (process s p).kept
unfolding deleted_at gone_at_of
deleted_few s F p = listed_few p (λ c. not (leb c.index.0 (member s F p).index.0 && is_pinned (pins_after s F p) c)) (process s p).kept

recover_few : (s : Run) (F : ℕ) → sound s ≡ true → length (recover_deletions s F) ≤ 256
unfolding recover_deletions
recover_few s F h =
    omega (arith, few_processes s h, gather_length s.count 16 (deleted_at s F) (λ p lt. omega (arith, deleted_few s F p, few_kept s h p lt)))

-- A report whose numbers are small: its refusal, its count of deletions, its value.
pub record Small (r : Report) : Type 0 where
  pub refused : r.refused ≤ 99
  pub deletions : r.deletions ≤ 256
  pub value : (v : ℕ) → r.value ≡ Some v → v < 10000000000

pub small_refused : (x : Refusal) → Small (refusing x)
small_refused x = record { refused = (number_range x).1; deletions = omega arith; value = λ v e. absurd (none≢some e) }

small_accepted : (v k : ℕ) → v < 10000000000 → k ≤ 256 → Small (accepting (Some v) k)
small_accepted v k a b = record { refused = omega arith; deletions = b; value = λ w e. omega (arith, some_same e) }

small_none : (k : ℕ) → k ≤ 256 → Small (accepting None k)
small_none k b = record { refused = omega arith; deletions = b; value = λ v e. absurd (none≢some e) }

checkpoint_small : (s : Run) (i : ℕ) (deleted : List ℕ) → Small (checkpoint_report (checkpoint_outcome s i deleted).answer)
unfolding checkpoint_report checkpoint_outcome live own
checkpoint_small s i deleted = by_refusal (checkpoint_refusal s i deleted)
    (λ e. let fine = checkpoint_out s i deleted e in
    rw e (small_accepted (own s i).0 (length (checkpoint_deletions s i)) (omega (arith, fine.early)) (omega (arith, checkpoint_few s i (few_kept s fine.whole i fine.present)))))
    (λ x e. rw e (small_refused x))

send_small : (s : Run) (i j : ℕ) → Small (send_report (send_outcome s i j).answer)
unfolding send_report send_outcome
send_small s i j = by_refusal (send_refusal s i j)
    (λ e. rw e (small_accepted (s.last + 1) 0 (omega (arith, (send_out s i j e).numbers)) (omega arith)))
    (λ x e. rw e (small_refused x))

lose_small : (s : Run) (m : ℕ) → Small (lose_report (lose_outcome s m).answer)
unfolding lose_report lose_outcome
lose_small s m = by_refusal (lose_refusal s m) (λ e. rw e (small_none 0 (omega arith))) (λ x e. rw e (small_refused x))

line_small : (s : Run) (F : ℕ) (lent : List ℕ) → Small (line_report (line_outcome s F lent).answer)
unfolding line_report line_outcome
line_small s F lent = by_refusal (line_refusal s F lent) (λ e. rw e (small_none 0 (omega arith))) (λ x e. rw e (small_refused x))

earliest_small : (s : Run) (l : List Named) (lent : List ℕ) → Small (line_report (earliest_outcome s l lent).answer)
unfolding earliest_outcome line_report
earliest_small s l lent = by_refusal (earliest_refusal s l lent) (λ e. rw e (small_none 0 (omega arith))) (λ x e. rw e (small_refused x))

deliver_small : (s : Run) (m : ℕ) (deleted : List ℕ) → Small (deliver_report (deliver_outcome s m deleted).answer)
unfolding deliver_report deliver_outcome deliver_answer live own
deliver_small s m deleted = by_refusal (deliver_refusal s m deleted)
    (λ e. let fine = deliver_out s m deleted e in
    let x = fine.message in
    let few = deliver_few s x (few_kept s fine.whole x.receiver (receiver_in s fine.whole m x fine.here)) in
    rw (e, fine.here) (by_bool (forces (process s x.receiver) x.vector)
    (λ f. rw f (small_accepted (own s x.receiver).0 (length (deliver_deletions s x)) (omega (arith, fine.early f)) (omega arith)))
    (λ f. rw f (small_none (length (deliver_deletions s x)) (omega arith)))))
    (λ x e. rw e (small_refused x))

recover_small : (s : Run) (F : ℕ) (deleted lent : List ℕ) → Small (recover_report (recover_outcome s F deleted lent).answer)
unfolding recover_report recover_outcome rolled_back_count
recover_small s F deleted lent = by_refusal (recover_refusal s F deleted lent)
    (λ e. let fine = recover_out s F deleted lent e in
    rw e (small_accepted (rolled_back_count s F) (length (recover_deletions s F)) (omega (arith, few_processes s fine.whole, count_le s.count (rolled_back s F))) (recover_few s F fine.whole)))
    (λ x e. rw e (small_refused x))

-- The report of every call is small, and so is that of every record.
call_small : (s : Run) (c : Call) → Small (call s c).reply.report
unfolding call answered
call_small s (checkpoint i deleted) = checkpoint_small s i deleted
call_small s (send i j) = send_small s i j
call_small s (deliver m deleted) = deliver_small s m deleted
call_small s (lose m) = lose_small s m
call_small s (recover F deleted lent) = recover_small s F deleted lent
call_small s (line F lent) = line_small s F lent
call_small s (earliest l lent) = earliest_small s l lent

pub record_small : (s : Run) (e : Option Event) → Small (perform s e).reply.report
unfolding perform
record_small s None = small_refused MalformedRecord
record_small s (Some e) = call_small s (call_of e)
