-- What an owner's list, checkpoints, deliveries, losses, sends and lines depend on.
-- Assumes nothing.
use Rattle.std.specs.Prelude.{◌≡◌, ◌&&◌, ◌||◌, ◌∷◌, ◌*◌, Err, Ok}
use Rattle.laws.specs.Basics.{refl, sym, ◌∙◌, ap, Bool, true, false, not, List, [], Option, None, Some, ℕ, eqb, ltb, leb, length, not-false, pick, by_bool}
use Rattle.laws.specs.{Lists.gather, Tables.gather_same, Truth.never_both}
use Rattle.model.specs.declared.{Run.Run, Interval.Interval, Message.Message, Refusal.Refusal}
use Rattle.model.specs.declared.Refusal.TheVariants.{UnsoundState, ListTooShort, NoSuchProcess, SenderIsReceiver, NotUnderWay, TooManyUnderWay, MessageNumbersUsed, IntervalsUsed, BlocksUsed}
use Rattle.model.specs.Words.{basic, most_under_way, most_messages, most_interval, entry, live_index_of, Process, block_count, process, own, live}
use Rattle.model.specs.Steps.{Deletion, listed, found, advanced, storing, checkpointed, checkpoint_deletions, deletions, forces, risen, delivered, deliver_risen, deliver_deletions}
use Rattle.model.specs.{Sound.sound, laws.Refusals.by_refusal}
use Rattle.model.specs.Refusals.{first_of, short_deletions, absent, at_last_interval, past_blocks, short_line, outside, no_member_of, forces_past, forces_over, checkpoint_refusal, deliver_refusal, lose_refusal, send_refusal, line_refusal}
use Rattle.whole_runs.specs.Outcomes.{Outcome, pairs, written, judged, checkpoint_outcome, deliver_answer, deliver_outcome, lose_outcome, send_outcome, send_report, line_outcome}
use Rattle.whole_runs.specs.WholeRuns.{Reachable}
use Rattle.whole_runs.proofs.{WholeRuns.reachable_sound, WholeRuns.reachable_reached, whole.Refused.members_found, whole.Runs.run_after}
use Rattle.histories.proofs.Run.{begun}
use Rattle.theory_roles.specs.Console.{ListAnswer}
use Rattle.theory_roles.specs.declared.{Role.TheVariants.JobOwner, Operation.Operation}
use Rattle.theory_roles.specs.declared.Operation.TheVariants.{Checkpoint as Checkpointing, Send, Deliver, Lose}
use Rattle.theory_roles.specs.Console.{may, owns, entitled_by, entitled, entitled_message_by, entitled_message, denied, denied_process, denied_message, listed_to, list_refusal, console_list, console_checkpoint, console_send, console_deliver, console_lose, console_line}
use Rattle.theory_roles.specs.Runs.{ConsoleReached, ConsoleIsReachable}
use Rattle.theory_roles.specs.Isolation.{owner, SameToOwner, ListIsOwn, CheckpointIsOwn, DeliveryIsOwn, LossIsOwn, SendIsOwn, line_answer_by, LineAnswerIsOwn}
use Rattle.theory_roles.proofs.Runs.{console_reachable}

console_sound : (s : Run) → ConsoleReached s → sound s ≡ true
unfolding ConsoleIsReachable
console_sound s v = reachable_sound s (console_reachable s v)

-- What is denied to an owner is the same in both states.
process_denied : (owned : ℕ) (s t : Run) (o : Operation) (i : ℕ) → s.count ≡ t.count → denied_process (owner owned) s o i ≡ denied_process (owner owned) t o i
unfolding denied_process entitled entitled_by
process_denied owned s t o i e = ap (λ (n : ℕ). not (may JobOwner o && owns owned n i)) e

message_denied : (owned : ℕ) (s t : Run) (o : Operation) (m : ℕ) → s.count ≡ t.count → found s m ≡ found t m → denied_message (owner owned) s o m ≡ denied_message (owner owned) t o m
unfolding denied_message entitled_message
message_denied owned s t o m e d =
    ap (λ (n : ℕ). not (may JobOwner o && entitled_message_by JobOwner owned n (found s m))) e
    ∙ ap (λ (x : Option Message). not (may JobOwner o && entitled_message_by JobOwner owned t.count x)) d

-- The list.
module _ (owned : ℕ) (s t : Run) (same : SameToOwner owned s t) where
  abbrev pairs_of : ℕ → Run → List Deletion
  pairs_of n u = gather n (λ p. pick (owns owned n p) (listed p (process u p).kept) [])

  listed_same : listed_to (owner owned) s ≡ listed_to (owner owned) t
  unfolding listed_to entitled entitled_by
  listed_same =
      gather_same s.count (λ p. pick (owns owned s.count p) (listed p (process s p).kept) []) (λ p. pick (owns owned s.count p) (listed p (process t p).kept) [])
      (λ p lt. by_bool (owns owned s.count p) (λ e. rw (e, same.kept p e)) (λ e. rw e))
      ∙ ap (λ (n : ℕ). pairs_of n t) same.count

  refusal_same : sound s ≡ true → sound t ≡ true → (lent : List ℕ) → list_refusal s lent ≡ list_refusal t lent
  unfolding list_refusal first_of
  refusal_same hs ht lent = rw (hs, ht, same.count)

abbrev listing : Option Refusal → Run → List ℕ → List Deletion → Outcome ListAnswer
listing o s lent l = judged o
    (λ r. record { run = s; answer = Err r; rose = 0; deleted = lent; line = [] })
    (record { run = s; answer = Ok (length l); rose = 0; deleted = written lent (pairs l); line = [] })

same_listing : (o : Option Refusal) (s t : Run) (lent : List ℕ) (l : List Deletion)
    → ((listing o s lent l).answer ≡ (listing o t lent l).answer) × ((listing o s lent l).deleted ≡ (listing o t lent l).deleted)
same_listing None s t lent l = (refl, refl)
same_listing (Some r) s t lent l = (refl, refl)

pub list_is_own : ListIsOwn
unfolding ListIsOwn console_list denied may
list_is_own owned s t hs ht same lent =
    rw (refusal_same owned s t same (console_sound s hs) (console_sound t ht) lent, listed_same owned s t same)
    (same_listing (list_refusal t lent) s t lent (listed_to (owner owned) t))

-- Four tests and that of 16 after them, as a checkpoint is judged (here) and as a delivery is.
module _ (third fourth : Refusal) where
  abbrev five : Bool → Bool → Bool → Bool → Bool → Option Refusal
  five a b c d e = first_of (
      record { holds = a; gives = UnsoundState }
      ∷ record { holds = b; gives = ListTooShort }
      ∷ record { holds = c; gives = third }
      ∷ record { holds = d; gives = fourth }
      ∷ record { holds = e; gives = BlocksUsed }
      ∷ [])

  -- Where 16 is not met, the others decide.
  five_same : (a b c d e f : Bool) → (five a b c d e ≡ Some BlocksUsed → ⊥) → (five a b c d f ≡ Some BlocksUsed → ⊥) → five a b c d e ≡ five a b c d f
  unfolding first_of
  five_same true b c d e f x y = refl
  five_same false true c d e f x y = refl
  five_same false false true d e f x y = refl
  five_same false false false true e f x y = refl
  five_same false false false false true f x y = absurd (x refl)
  five_same false false false false false true x y = absurd (y refl)
  five_same false false false false false false x y = refl

  five_equal : (a b c d e a' b' c' d' : Bool) → a ≡ a' → b ≡ b' → c ≡ c' → d ≡ d' → five a b c d e ≡ five a' b' c' d' e
  five_equal a b c d e a' b' c' d' p q r s = rw (p, q, r, s)

both_sound : (s t : Run) → sound s ≡ true → sound t ≡ true → not (sound s) ≡ not (sound t)
both_sound s t hs ht = rw (hs, ht)

both_short : (s t : Run) (lent : List ℕ) → s.count ≡ t.count → short_deletions s lent ≡ short_deletions t lent
both_short s t lent e = ap (λ (n : ℕ). ltb (length lent) (2 * n * n)) e

-- What is not denied an owner is its own.
owned_process : (owned : ℕ) (s : Run) (i : ℕ) → denied_process (owner owned) s Checkpointing i ≡ false → owns owned s.count i ≡ true
unfolding denied_process entitled entitled_by may
owned_process owned s i e = not-false (owns owned s.count i) e

-- A checkpoint goes by the vector, the pins and what is kept.
abbrev unmarked : Process → Process
unmarked P = record { vector = P.vector; pins = P.pins; mark = false; kept = P.kept }

module _ (owned : ℕ) (s t : Run) (hs : sound s ≡ true) (ht : sound t ≡ true) (same : SameToOwner owned s t) (i : ℕ) (mine : owns owned s.count i ≡ true) (lent : List ℕ) where
  abbrev checks : Run → Bool → Option Refusal
  checks u e = five NoSuchProcess IntervalsUsed (not (sound u)) (short_deletions u lent) (absent u i) (at_last_interval u i) e

  checks_same : (e : Bool) → checks s e ≡ checks t e
  unfolding own
  checks_same e = five_equal NoSuchProcess IntervalsUsed (not (sound s)) (short_deletions s lent) (absent s i) (at_last_interval s i) e
      (not (sound t)) (short_deletions t lent) (absent t i) (at_last_interval t i)
      (both_sound s t hs ht) (both_short s t lent same.count) (ap (λ (n : ℕ). leb n i) same.count)
      (ap (λ (v : List Interval). leb most_interval (entry v i).0) (same.vectors i mine))

  checkpoint_refusal_lem : (checkpoint_refusal s i lent ≡ Some BlocksUsed → ⊥) → (checkpoint_refusal t i lent ≡ Some BlocksUsed → ⊥) → checkpoint_refusal s i lent ≡ checkpoint_refusal t i lent
  unfolding checkpoint_refusal
  checkpoint_refusal_lem x y =
      five_same NoSuchProcess IntervalsUsed (not (sound s)) (short_deletions s lent) (absent s i) (at_last_interval s i) (past_blocks s i) (past_blocks t i)
      x (λ e. y (sym (checks_same (past_blocks t i)) ∙ e))
      ∙ checks_same (past_blocks t i)

  unmarked_same : unmarked (process s i) ≡ unmarked (process t i)
  unmarked_same = λ j. record { vector = same.vectors i mine j; pins = same.pins i mine j; mark = false; kept = same.kept i mine j }

  checkpoint_deletions_lem : checkpoint_deletions s i ≡ checkpoint_deletions t i
  unfolding checkpoint_deletions checkpointed storing block_count
  checkpoint_deletions_lem = ap (λ (P : Process). deletions i (checkpointed basic i P)) unmarked_same

  stored_index : (live i (process s i)).index ≡ (live i (process t i)).index
  unfolding live
  stored_index = ap (λ (v : List Interval). live_index_of (entry v i)) (same.vectors i mine)

  checkpoint_outcome_lem : checkpoint_refusal s i lent ≡ checkpoint_refusal t i lent
      → ((checkpoint_outcome s i lent).answer ≡ (checkpoint_outcome t i lent).answer) × ((checkpoint_outcome s i lent).deleted ≡ (checkpoint_outcome t i lent).deleted)
  unfolding checkpoint_outcome
  checkpoint_outcome_lem e = by_refusal (checkpoint_refusal t i lent)
      (λ o. rw (e, o, stored_index, checkpoint_deletions_lem) (refl, refl))
      (λ x o. rw (e, o) (refl, refl))

checkpoint_meets : (s : Run) (i : ℕ) (lent : List ℕ) (x : Refusal) → checkpoint_refusal s i lent ≡ Some x → (checkpoint_outcome s i lent).answer ≡ Err x
unfolding checkpoint_outcome
checkpoint_meets s i lent x e = rw e

pub checkpoint_is_own : CheckpointIsOwn
unfolding CheckpointIsOwn console_checkpoint
checkpoint_is_own owned s t hs ht same i lent =
    rw (← process_denied owned s t Checkpointing i same.count) (by_bool (denied_process (owner owned) s Checkpointing i)
    (λ d. rw d (λ x y. (refl, refl)))
    (λ d. rw d (λ x y.
    let mine = owned_process owned s i d in
    checkpoint_outcome_lem owned s t (console_sound s hs) (console_sound t ht) same i mine lent
    (checkpoint_refusal_lem owned s t (console_sound s hs) (console_sound t ht) same i mine lent
    (λ e. x (checkpoint_meets s i lent BlocksUsed e)) (λ e. y (checkpoint_meets t i lent BlocksUsed e))))))

-- A delivery goes by the message and all that its receiver holds.
module _ (s t : Run) (hs : sound s ≡ true) (ht : sound t ≡ true) (size : s.count ≡ t.count) (m : ℕ) (lent : List ℕ) (x : Message)
    (here : found s m ≡ Some x) (there : found t m ≡ Some x) (alike : process s x.receiver ≡ process t x.receiver) where
  abbrev forcing : Run → Bool
  forcing u = forces (process u x.receiver) x.vector

  abbrev judgements : Run → Bool → Option Refusal
  judgements u e = five NotUnderWay IntervalsUsed (not (sound u)) (short_deletions u lent) false (forcing u && at_last_interval u x.receiver) e

  judgements_same : (e : Bool) → judgements s e ≡ judgements t e
  unfolding own
  judgements_same e = five_equal NotUnderWay IntervalsUsed (not (sound s)) (short_deletions s lent) false (forcing s && at_last_interval s x.receiver) e
      (not (sound t)) (short_deletions t lent) false (forcing t && at_last_interval t x.receiver)
      (both_sound s t hs ht) (both_short s t lent size) refl
      (ap (λ (P : Process). forces P x.vector && leb most_interval (entry P.vector x.receiver).0) alike)

  judged_as : (u : Run) → found u m ≡ Some x → deliver_refusal u m lent ≡ judgements u (forcing u && past_blocks u x.receiver)
  unfolding deliver_refusal forces_past forces_over
  judged_as u e = rw e

  deliver_refusal_lem : (deliver_refusal s m lent ≡ Some BlocksUsed → ⊥) → (deliver_refusal t m lent ≡ Some BlocksUsed → ⊥) → deliver_refusal s m lent ≡ deliver_refusal t m lent
  deliver_refusal_lem p q =
      let late = forcing t && past_blocks t x.receiver in
      judged_as s here
      ∙ five_same NotUnderWay IntervalsUsed (not (sound s)) (short_deletions s lent) false (forcing s && at_last_interval s x.receiver) (forcing s && past_blocks s x.receiver) late
      (λ e. p (judged_as s here ∙ e)) (λ e. q (judged_as t there ∙ sym (judgements_same late) ∙ e))
      ∙ judgements_same late
      ∙ sym (judged_as t there)

  delivered_answer : deliver_answer s x ≡ deliver_answer t x
  unfolding deliver_answer deliver_deletions
  delivered_answer = ap (λ (P : Process). pick (forces P x.vector)
      (Ok (record { forced = Some (live x.receiver P).index; deleted = length (deletions x.receiver (delivered x.receiver x.vector P)) }))
      (Ok (record { forced = None; deleted = length (deletions x.receiver (delivered x.receiver x.vector P)) }))) alike

  delivered_rose : deliver_risen s x ≡ deliver_risen t x
  unfolding deliver_risen
  delivered_rose = ap (λ (P : Process). risen (pick (forces P x.vector) (advanced x.receiver P.vector) P.vector) x.vector) alike

  delivered_deletions : deliver_deletions s x ≡ deliver_deletions t x
  unfolding deliver_deletions
  delivered_deletions = ap (λ (P : Process). deletions x.receiver (delivered x.receiver x.vector P)) alike

  deliver_outcome_lem : deliver_refusal s m lent ≡ deliver_refusal t m lent
      → ((deliver_outcome s m lent).answer ≡ (deliver_outcome t m lent).answer) × ((deliver_outcome s m lent).rose ≡ (deliver_outcome t m lent).rose)
      × ((deliver_outcome s m lent).deleted ≡ (deliver_outcome t m lent).deleted)
  unfolding deliver_outcome
  deliver_outcome_lem e = by_refusal (deliver_refusal t m lent)
      (λ o. rw (e, o, here, there, delivered_answer, delivered_rose, delivered_deletions) (refl, refl, refl))
      (λ r o. rw (e, o) (refl, refl, refl))

deliver_meets : (s : Run) (m : ℕ) (lent : List ℕ) (x : Refusal) → deliver_refusal s m lent ≡ Some x → (deliver_outcome s m lent).answer ≡ Err x
unfolding deliver_outcome
deliver_meets s m lent x e = rw e

-- A message that is not denied an owner is under way to one of its own processes.
owned_message : (owned : ℕ) (s : Run) (m : ℕ) → denied_message (owner owned) s Deliver m ≡ false → (x : Message) × (found s m ≡ Some x) × (owns owned s.count x.receiver ≡ true)
unfolding denied_message entitled_message may
owned_message owned s m e = by_message (found s m) refl (not-false (entitled_message_by JobOwner owned s.count (found s m)) e)
  where
    by_message : (o : Option Message) → found s m ≡ o → entitled_message_by JobOwner owned s.count o ≡ true → (x : Message) × (found s m ≡ Some x) × (owns owned s.count x.receiver ≡ true)
    by_message None d e = unfold entitled_message_by in never_both false e refl
    by_message (Some x) d e = unfold entitled_message_by in (x, d, e)

pub delivery_is_own : DeliveryIsOwn
unfolding DeliveryIsOwn console_deliver
delivery_is_own owned s t hs ht same marks m lent found_same =
    rw (← message_denied owned s t Deliver m same.count found_same) (by_bool (denied_message (owner owned) s Deliver m)
    (λ d. rw d (λ p q. (refl, refl, refl)))
    (λ d. rw d (λ p q.
    let w = owned_message owned s m d in
    let i = w.0.receiver in
    let alike : process s i ≡ process t i = λ j. record { vector = same.vectors i w.2 j; pins = same.pins i w.2 j; mark = marks i w.2 j; kept = same.kept i w.2 j } in
    deliver_outcome_lem s t (console_sound s hs) (console_sound t ht) same.count m lent w.0 w.1 (sym found_same ∙ w.1) alike
    (deliver_refusal_lem s t (console_sound s hs) (console_sound t ht) same.count m lent w.0 w.1 (sym found_same ∙ w.1) alike
    (λ e. p (deliver_meets s m lent BlocksUsed e)) (λ e. q (deliver_meets t m lent BlocksUsed e))))))

-- A loss goes by the message.
lose_refusal_lem : (s t : Run) → sound s ≡ true → sound t ≡ true → (m : ℕ) → found s m ≡ found t m → lose_refusal s m ≡ lose_refusal t m
unfolding lose_refusal first_of
lose_refusal_lem s t hs ht m e = rw (hs, ht, e)

pub loss_is_own : LossIsOwn
unfolding LossIsOwn console_lose lose_outcome
loss_is_own owned s t hs ht same m e =
    rw (← message_denied owned s t Lose m same.count e, lose_refusal_lem s t (console_sound s hs) (console_sound t ht) m e) (by_bool (denied_message (owner owned) s Lose m)
    (λ d. rw d)
    (λ d. rw d (by_refusal (lose_refusal t m) (λ o. rw o) (λ x o. rw o))))

-- A send goes by n and its arguments, but for 9, 10 and the number.
abbrev send_tests : Bool → Bool → Bool → Bool → Bool → Option Refusal
send_tests a b c d e = first_of (
    record { holds = a; gives = UnsoundState }
    ∷ record { holds = b; gives = NoSuchProcess }
    ∷ record { holds = c; gives = SenderIsReceiver }
    ∷ record { holds = d; gives = TooManyUnderWay }
    ∷ record { holds = e; gives = MessageNumbersUsed }
    ∷ [])

send_tests_same : (a b c d e f g : Bool) → (send_tests a b c d e ≡ Some TooManyUnderWay → ⊥) → (send_tests a b c f g ≡ Some TooManyUnderWay → ⊥)
    → (send_tests a b c d e ≡ Some MessageNumbersUsed → ⊥) → (send_tests a b c f g ≡ Some MessageNumbersUsed → ⊥) → send_tests a b c d e ≡ send_tests a b c f g
unfolding first_of
send_tests_same true b c d e f g p q x y = refl
send_tests_same false true c d e f g p q x y = refl
send_tests_same false false true d e f g p q x y = refl
send_tests_same false false false true e f g p q x y = absurd (p refl)
send_tests_same false false false false e true g p q x y = absurd (q refl)
send_tests_same false false false false true false g p q x y = absurd (x refl)
send_tests_same false false false false false false true p q x y = absurd (y refl)
send_tests_same false false false false false false false p q x y = refl

send_meets : (s : Run) (i j : ℕ) (x : Refusal) → send_refusal s i j ≡ Some x → (send_outcome s i j).answer ≡ Err x
unfolding send_outcome
send_meets s i j x e = rw e

module _ (s t : Run) (hs : sound s ≡ true) (ht : sound t ≡ true) (size : s.count ≡ t.count) (i j : ℕ) where
  abbrev tests : Run → Bool → Bool → Option Refusal
  tests u d e = send_tests (not (sound u)) (absent u i || absent u j) (eqb i j) d e

  tests_same : (d e : Bool) → tests s d e ≡ tests t d e
  tests_same d e =
      ap (λ (b : Bool). send_tests b (absent s i || absent s j) (eqb i j) d e) (both_sound s t hs ht)
      ∙ ap (λ (n : ℕ). send_tests (not (sound t)) (leb n i || leb n j) (eqb i j) d e) size

  send_refusal_lem : (send_refusal s i j ≡ Some TooManyUnderWay → ⊥) → (send_refusal t i j ≡ Some TooManyUnderWay → ⊥)
      → (send_refusal s i j ≡ Some MessageNumbersUsed → ⊥) → (send_refusal t i j ≡ Some MessageNumbersUsed → ⊥) → send_refusal s i j ≡ send_refusal t i j
  unfolding send_refusal
  send_refusal_lem p q x y =
      let full = leb most_under_way t.underway in
      let used = leb most_messages t.last in
      send_tests_same (not (sound s)) (absent s i || absent s j) (eqb i j) (leb most_under_way s.underway) (leb most_messages s.last) full used
      p (λ e. q (sym (tests_same full used) ∙ e)) x (λ e. y (sym (tests_same full used) ∙ e))
      ∙ tests_same full used

  send_outcome_lem : send_refusal s i j ≡ send_refusal t i j → (send_report (send_outcome s i j).answer).refused ≡ (send_report (send_outcome t i j).answer).refused
  unfolding send_outcome send_report
  send_outcome_lem e = by_refusal (send_refusal t i j) (λ o. rw (e, o)) (λ x o. rw (e, o))

pub send_is_own : SendIsOwn
unfolding SendIsOwn console_send
send_is_own owned s t hs ht same i j =
    rw (← process_denied owned s t Send i same.count) (by_bool (denied_process (owner owned) s Send i)
    (λ d. rw d (λ p q x y. refl))
    (λ d. rw d (λ p q x y.
    send_outcome_lem s t (console_sound s hs) (console_sound t ht) same.count i j
    (send_refusal_lem s t (console_sound s hs) (console_sound t ht) same.count i j
    (λ e. p (send_meets s i j TooManyUnderWay e)) (λ e. q (send_meets t i j TooManyUnderWay e))
    (λ e. x (send_meets s i j MessageNumbersUsed e)) (λ e. y (send_meets t i j MessageNumbersUsed e))))))

-- A line is answered by n and its arguments, where 2 for a process without a member is not met.
line_by : (s : Run) (F : ℕ) (lent : List ℕ) → sound s ≡ true → (short_line s lent ≡ false → outside s F ≡ false → no_member_of s F ≡ false)
    → (line_outcome s F lent).answer ≡ line_answer_by s.count F (length lent)
unfolding line_outcome line_refusal first_of line_answer_by
line_by s F lent whole members = by_bool (short_line s lent)
    (λ short. rw (whole, short))
    (λ long. by_bool (outside s F)
    (λ out. rw (whole, long, out))
    (λ inside. rw (whole, long, inside, members long inside)))

-- A state that calls reached has a member at each process.
pub reachable_members : (s : Run) → Reachable s → (F : ℕ) → no_member_of s F ≡ false
unfolding Reachable
reachable_members s v F =
    let reached = reachable_reached v.0 v.1 v.2 v.3 in
    ap (λ (t : Run). no_member_of t F) (v.4 ∙ reached.state) ∙ members_found (run_after (begun v.0 v.1) v.3) reached.inv reached.limits F

pub line_answer_is_own : LineAnswerIsOwn
unfolding LineAnswerIsOwn ConsoleIsReachable console_line denied may
line_answer_is_own owned s v F lent = line_by s F lent (console_sound s v) (λ long inside. reachable_members s (console_reachable s v) F)
