-- A delivery on the words: which one is refused, what one leaves that brings nothing new, and what one leaves that does.
-- Assumes nothing.
use Rattle.std.specs.Prelude.{◌≡◌, ◌&&◌, ◌+◌, ◌*◌, ◌≤◌, ◌<◌, Err, Ok}
use Rattle.laws.specs.Basics.{refl, sym, ◌∙◌, ap, subst, Bool, true, false, not, List, [], None, Some, ℕ, suc, arith, ltb, length, sets, eqb-true, le-ltb, pick}
use Rattle.laws.specs.{Rows.and_true, Truth.and_no_right}
use Rattle.model.specs.declared.{CheckpointIndex.CheckpointIndex, Disk.Disk, Interval.Interval, Message.Message, Refusal.Refusal, Run.Run}
use Rattle.model.specs.Shapes.{DeliverAnswer}
use Rattle.model.specs.declared.{Refusal.TheVariants.ListTooShort, Refusal.TheVariants.NotUnderWay}
use Rattle.model.specs.Words.{forced, live_index_of, live, Process, block_count, blocks_of, process, with_process, with_messages, with_disk}
use Rattle.model.specs.Steps.{found, others, newer, forces, settled, listed, gone, deletions, billed, advanced, checkpointed, taken_in, risen, delivered, deliver_state, deliver_risen, deliver_deletions}
use Rattle.model.specs.{Sound.sound, Refusals.first_of, Refusals.deliver_refusal}
use Rattle.model.proofs.Risen.{risen_is_exact}
use Rattle.whole_runs.specs.Outcomes.{pairs, deliver_answer, deliver_outcome}
use Rattle.words_process.specs.{receipts.Receipt.vector_first, receipts.Sized.Sized, Moves.disk_in, Moves.Moves, Steps.received}
use Prim.{tt}
use Rattle.admissions.specs.Admissions.{Admission}
use Rattle.admissions.specs.Admissions.{refusal_of}
use Rattle.words_process.proofs.{receipts.Billing.billed_none, receipts.Parts.part_back}
use Rattle.words_process.proofs.receipts.Still.{none_newer, taken_still, settled_still, gone_still}
use Rattle.words.specs.Layout.{word, count_of, end_of, blocks_at_of, part_at, pins_at_of, receiver_at_of, interval_of, vector_in, mark_in, message_in, run_of}
use Rattle.words.specs.{Parts.process_in, messages.Places.place_of, messages.Places.taken_out}
use Rattle.words.proofs.{Same.vector_length, Same.pins_length, View.count_is_lem, ViewSound.sound_words, ViewSound.sound_process_is, messages.Selected.message_at}
use Rattle.words.proofs.ViewSizes.{vectors_size, pins_size, sent_size, kept_size, kept_count_size, messages_size, vector_row_size, pin_row_size, kept_row_size, stored_size, carried_size}
use Rattle.in_place.specs.{Left.Leaves, Storing.storing_admission}
use Rattle.in_place.proofs.{Checkpointing.index_is, Checkpointing.accepted_own, Leaving.same_words}
use Rattle.in_place.proofs.Delivering.{found_there, receiver_in, delivery_judged, delivered_state, delivered_deletions, delivered_run, delivered_leaves, move_size, move_end, move_one, move_place}
use Rattle.in_place.proofs.Losing.{found_is, place_in, taken_run, taken_leaves}

-- What a delivery of message m to words w, with the list l, answers and leaves.
abbrev pub Left : List ℕ → List ℕ → ℕ → DeliverAnswer → ℕ → List ℕ → List ℕ → Type 0
Left w l m a rose v d =
    (run_of v ≡ (deliver_outcome (run_of w) m l).run) × ((a ≡ (deliver_outcome (run_of w) m l).answer) × ((rose ≡ (deliver_outcome (run_of w) m l).rose) × ((d ≡ (deliver_outcome (run_of w) m l).deleted)
    × (((why : Refusal) → a ≡ Err why → v ≡ w) × Leaves w v))))

pub renumbered : (w l : List ℕ) (m n : ℕ) → n ≡ m → (a : DeliverAnswer) (rose : ℕ) (v d : List ℕ) → Left w l n a rose v d → Left w l m a rose v d
renumbered w l m n e a rose v d g = subst (λ (k : ℕ). Left w l k a rose v d) e g

-- What it leaves that reaches process i, takes the vector c in and stores a checkpoint first where `stores` says so.
abbrev Takes : List ℕ → List ℕ → ℕ → ℕ → List Interval → Type 0
Takes w l k i c =
    (stores : Bool) → forces (process (run_of w) i) c ≡ stores → Ok tt ≡ pick stores (storing_admission (run_of w) i) (Ok tt)
    → (a : DeliverAnswer) (rose : ℕ) (v y g : List ℕ)
    → Moves w i (settled (received i stores c (process_in w i))) (billed (disk_in w) (pick stores (word w (blocks_at_of i)) 0) (blocks_of (gone (received i stores c (process_in w i))))) v
    → y ≡ taken_out v k
    → a ≡ pick stores (Ok (record { forced = Some (live_index_of (interval_of (word w (part_at i + i)))); deleted = length (deletions i (received i stores c (process_in w i))) })) (Ok (record { forced = None; deleted = length (deletions i (received i stores c (process_in w i))) }))
    → rose ≡ risen (vector_first stores i (vector_in w (part_at i))) c
    → g ≡ sets l 0 (pairs (deletions i (received i stores c (process_in w i))))
    → Left w l (message_in w k).number a rose y g

-- A verdict that is asked for only where a checkpoint is forced.
pushed : (b : Bool) (v : Admission) → pick b (refusal_of v) None ≡ refusal_of (pick b v (Ok tt))
unfolding refusal_of
pushed true v = refl
pushed false v = refl

-- An accepted delivery is not refused.
not_refused : (b : Bool) (index : CheckpointIndex) (n : ℕ) (why : Refusal) → pick {A = DeliverAnswer} b (Ok (record { forced = Some index; deleted = n })) (Ok (record { forced = None; deleted = n })) ≡ Err why → ⊥
not_refused true index n why q = let z : ◌≡◌ {A = ℕ} 0 1 = cc in omega arith
not_refused false index n why q = let z : ◌≡◌ {A = ℕ} 0 1 = cc in omega arith

-- Nothing is written of no deletions.
none_written : (i : ℕ) (l : List ℕ) → sets l 0 (pairs (listed i [])) ≡ l
unfolding listed pairs
none_written i l = refl

-- The sizes of the run of any words.
pub sized : (w : List ℕ) → Sized (run_of w)
sized w = record {
  vectors = vectors_size w;
  vector_row = vector_row_size w;
  pins = pins_size w;
  pin_row = pin_row_size w;
  sent = sent_size w;
  kept = kept_size w;
  kept_row = kept_row_size w;
  stored = λ p k lp lk. stored_size w p lp k lk;
  kept_count = kept_count_size w;
  messages = messages_size w;
  carried = carried_size w;
}

module _ (w : List ℕ) (h : sound (run_of w) ≡ true) (l : List ℕ) (m : ℕ) where
  refused : (why : Refusal) → deliver_refusal (run_of w) m l ≡ Some why → Left w l m (Err why) 0 w l
  unfolding deliver_outcome
  refused why e = rw e (refl, (refl, (refl, (refl, (λ x q. refl, same_words w)))))

  count : (run_of w).count ≡ count_of w
  count = count_is_lem w (sound_words w h).fit

  pub list_short : ltb (length l) (2 * count_of w * count_of w) ≡ true → Left w l m (Err ListTooShort) 0 w l
  unfolding deliver_refusal first_of
  list_short e = refused ListTooShort (rw (h, count, e))

  pub not_under_way : ltb (length l) (2 * count_of w * count_of w) ≡ false → place_of w m ≡ 0 → Left w l m (Err NotUnderWay) 0 w l
  unfolding deliver_refusal first_of message_at
  not_under_way enough e =
      let missing : found (run_of w) m ≡ None = found_is w h m ∙ ap (message_at w) e in
      let long : ltb (length l) (2 * (run_of w).count * (run_of w).count) ≡ false = ap (λ (n : ℕ). ltb (length l) (2 * n * n)) count ∙ enough in
      refused NotUnderWay (rw (h, long, missing))

module _ (w : List ℕ) (h : sound (run_of w) ≡ true) (l : List ℕ) (k : ℕ) (e : place_of w (message_in w k).number ≡ suc k) (enough : 2 * count_of w * count_of w ≤ length l) where
  abbrev s : Run
  s = run_of w

  abbrev x : Message
  x = message_in w k

  abbrev m : ℕ
  m = (message_in w k).number

  abbrev i : ℕ
  i = (message_in w k).receiver

  abbrev c : List Interval
  c = (message_in w k).vector

  inside : i < count_of w
  inside = receiver_in w h m k e

  present : i < s.count
  present = omega (arith, inside, count_is_lem w (sound_words w h).fit)

  same : process s i ≡ process_in w i
  same = sound_process_is w h i inside

  -- What is refused, by whether a checkpoint is forced.
  judged : (stores : Bool) → forces (process s i) c ≡ stores → deliver_refusal s m l ≡ refusal_of (pick stores (storing_admission s i) (Ok tt))
  judged stores f =
      delivery_judged w h m k e l (le-ltb (length l) (2 * count_of w * count_of w) enough)
      ∙ ap (λ (b : Bool). pick b (refusal_of (storing_admission s i)) None) f
      ∙ pushed stores (storing_admission s i)

  pub not_taken : (stores : Bool) → forces (process s i) c ≡ stores → (why : Refusal) → Err why ≡ pick stores (storing_admission s i) (Ok tt) → Left w l m (Err why) 0 w l
  unfolding refusal_of
  not_taken stores f why q = refused w h l m why (judged stores f ∙ ap refusal_of (sym q))

  accepted : deliver_refusal s m l ≡ None
      → deliver_outcome s m l ≡ record { run = deliver_state s x; answer = deliver_answer s x; rose = deliver_risen s x; deleted = sets l 0 (pairs (deliver_deletions s x)); line = [] }
  unfolding deliver_outcome
  accepted fine = rw (fine, found_there w h m k e)

  -- It brings nothing new: it is taken out, and nothing else changes.
  module _ (still : newer (vector_in w (part_at i)) c ≡ false) where
    forces_none : forces (process s i) c ≡ false
    unfolding forces process_in
    forces_none = ap (λ (P : Process). forces P c) same ∙ and_no_right (mark_in w i) (newer (vector_in w (part_at i)) c) still

    delivered_still : delivered i c (process s i) ≡ process s i
    unfolding delivered process_in
    delivered_still =
        ap (λ (b : Bool). taken_in i c (pick b (checkpointed forced i (process s i)) (process s i))) forces_none
        ∙ ap (taken_in i c) same
        ∙ taken_still i c (process_in w i) (vector_length w (part_at i)) (pins_length w (pins_at_of i)) (none_newer (vector_in w (part_at i)) c still)
        ∙ sym same

    gone_none : gone (delivered i c (process s i)) ≡ []
    gone_none = ap gone delivered_still ∙ gone_still s h i present

    still_disk : billed s.disk (pick (forces (process s i) c) (block_count (process s i)) 0) (blocks_of (gone (delivered i c (process s i)))) ≡ s.disk
    unfolding blocks_of
    still_disk =
        (λ j. billed s.disk (pick (forces_none j) (block_count (process s i)) 0) (blocks_of (gone_none j)))
        ∙ billed_none s.disk

    still_state : deliver_state s x ≡ with_messages s (others s m) s.last
    unfolding deliver_state with_disk with_messages
    still_state =
        ap (with_disk (with_messages (with_process s i (settled (delivered i c (process s i)))) (others s m) s.last)) still_disk
        ∙ ap (λ (r : Run). with_disk r s.disk)
        (ap (λ (P : Process). with_messages (with_process s i (settled P)) (others s m) s.last) delivered_still
        ∙ ap (λ (P : Process). with_messages (with_process s i P) (others s m) s.last) (settled_still s h i present)
        ∙ ap (λ (r : Run). with_messages r (others s m) s.last) (part_back s h (sized w) i present))

    still_deletes : deliver_deletions s x ≡ listed i []
    unfolding deliver_deletions deletions
    still_deletes = ap (listed i) gone_none

    still_answer : deliver_answer s x ≡ Ok (record { forced = None; deleted = 0 })
    unfolding deliver_answer listed
    still_answer = (λ j. pick (forces_none j) (Ok (record { forced = Some (live i (process s i)).index; deleted = length (still_deletes j) })) (Ok (record { forced = None; deleted = length (still_deletes j) })))

    still_rose : deliver_risen s x ≡ 0
    unfolding deliver_risen process_in
    still_rose =
        (λ j. risen (pick (forces_none j) (advanced i (process s i).vector) (process s i).vector) c)
        ∙ ap (λ (P : Process). risen P.vector c) same
        ∙ eqb-true (risen (vector_in w (part_at i)) c) 0 ((risen_is_exact (vector_in w (part_at i)) c).nothing ∙ ap not still)

    fine_still : deliver_refusal s m l ≡ None
    unfolding refusal_of
    fine_still = judged false forces_none

    pub still_out : (v : List ℕ) → v ≡ taken_out w k → Left w l m (Ok (record { forced = None; deleted = 0 })) 0 v l
    still_out v out = rw (accepted fine_still, out) (
      taken_run w h m k e ∙ sym still_state,
      (
        sym still_answer,
        (
          sym still_rose,
          (
            sym (ap (λ d. sets l 0 (pairs d)) still_deletes ∙ none_written i l),
            (λ why q. absurd (let z : ◌≡◌ {A = ℕ} 0 1 = cc in omega arith), taken_leaves w h m k e),
          ),
        ),
      ),
    )

  -- It brings something new, and forces a checkpoint exactly if the receiver has sent.
  pub forces_marked : newer (vector_in w (part_at i)) c ≡ true → forces (process s i) c ≡ mark_in w i
  unfolding forces process_in
  forces_marked brings = ap (λ (P : Process). forces P c) same ∙ ap (λ (b : Bool). mark_in w i && b) brings ∙ and_true (mark_in w i)

  module _ (stores : Bool) (f : forces (process s i) c ≡ stores) (passed : (Ok tt) ≡ pick stores (storing_admission s i) (Ok tt)) where
    fine : deliver_refusal s m l ≡ None
    unfolding refusal_of
    fine = judged stores f ∙ ap refusal_of (sym passed)

    abbrev Q : Process
    Q = received i stores c (process_in w i)

    abbrev d : Disk
    d = billed (disk_in w) (pick stores (word w (blocks_at_of i)) 0) (blocks_of (gone Q))

    answer_is : deliver_answer s x ≡ pick stores (Ok (record { forced = Some (live_index_of (interval_of (word w (part_at i + i)))); deleted = length (deletions i Q) })) (Ok (record { forced = None; deleted = length (deletions i Q) }))
    unfolding deliver_answer
    answer_is = λ j. pick (f j) (Ok (record { forced = Some (index_is w h i inside j); deleted = length (delivered_deletions w h m k e stores f j) })) (Ok (record { forced = None; deleted = length (delivered_deletions w h m k e stores f j) }))

    rose_is : deliver_risen s x ≡ risen (vector_first stores i (vector_in w (part_at i))) c
    unfolding deliver_risen vector_first process_in
    rose_is = λ j. risen (pick (f j) (advanced i (same j).vector) (same j).vector) c

    taken : (a : DeliverAnswer) (rose : ℕ) (v y g : List ℕ) → Moves w i (settled Q) d v → y ≡ taken_out v k
        → a ≡ pick stores (Ok (record { forced = Some (live_index_of (interval_of (word w (part_at i + i)))); deleted = length (deletions i Q) })) (Ok (record { forced = None; deleted = length (deletions i Q) }))
        → rose ≡ risen (vector_first stores i (vector_in w (part_at i))) c → g ≡ sets l 0 (pairs (deletions i Q)) → Left w l m a rose y g
    taken a rose v y g move out answer rises list = rw (accepted fine, out) (
      delivered_run w h m k e (settled Q) d v move ∙ sym (delivered_state w h m k e stores f),
      (
        answer ∙ sym answer_is,
        (
          rises ∙ sym rose_is,
          (
            list ∙ ap (λ t. sets l 0 (pairs t)) (sym (delivered_deletions w h m k e stores f)),
            (λ why q. absurd (not_refused stores (live_index_of (interval_of (word w (part_at i + i)))) (length (deletions i Q)) why (sym answer ∙ q)), delivered_leaves w h m k e (settled Q) d v move),
          ),
        ),
      ),
    )

  -- The same with the receiver and the carried vector as they were read.
  pub taken_at : (p : ℕ) → p ≡ (message_in w k).receiver → (u : List Interval) → u ≡ (message_in w k).vector → Takes w l k p u
  taken_at p q u r = subst (λ (n : ℕ). Takes w l k n u) (sym q) (subst (λ (z : List Interval). Takes w l k (message_in w k).receiver z) (sym r) taken)

  -- The receiver is in the run, and the place is one; an own entry to which 1 is added is not the last; the message can be taken out after the receipt.
  pub place_there : (k < 64) × (word w (receiver_at_of k) < count_of w)
  unfolding message_in
  place_there = (omega (arith, place_in w h m k e, (sound_words w h).end), receiver_in w h m k e)

  pub own_early : (p : ℕ) → p < count_of w → (stores : Bool) → Ok tt ≡ pick stores (storing_admission s p) (Ok tt) → stores ≡ true → word w (part_at p + p) < 65535
  own_early p lt stores passed q = accepted_own w h p lt (passed ∙ ap (λ (b : Bool). pick b (storing_admission s p) (Ok tt)) q)

  pub out_there : (p : ℕ) → p ≡ (message_in w k).receiver → (P : Process) (t : Disk) (v : List ℕ) → Moves w p P t v → (length v ≡ 6464) × (end_of v ≤ 64) × (k < 64) × (1 ≤ word v 1)
  out_there p q P t v move =
      let there = subst (λ (n : ℕ). Moves w n P t v) q move in
      let end = move_end w h m k e P t v there in
      (move_size w h m k e P t v there, end, omega (arith, end, move_place w h m k e P t v there), move_one w h m k e P t v there)
