-- Note 12, proved: any two orders of two halves in which every record is accepted end with the same vectors, pins and kept checkpoints.
-- Assumes nothing.
use Rattle.std.specs.Prelude.{◌≡◌, ◌∷◌, ◌++◌, ◌+◌}
use Rattle.laws.specs.Basics.{refl, sym, ◌∙◌, ap, subst, Bool, true, false, not, List, [], None, ℕ, suc, arith, eqb, length, eqb-true, by_bool}
use Rattle.laws.specs.{Lists.select, Tests.every, Truth.never_both, Truth.and_left, Truth.and_right, Truth.and_both}
use Rattle.model.specs.declared.Run.{Run}
use Rattle.model.specs.{Words.in_set, Words.with_messages, Words.with_disk, Words.blank, Steps.with_processes, laws.Refusals.by_refusal}
use Rattle.whole_runs.specs.{Outcomes.start_outcome, Calls.Call, Calls.call, Listing.call_of}
use Rattle.whole_runs.specs.Survival.{Surviving, beginning, after}
use Rattle.theory_merges.specs.Seen.{is_accepted, all_accepted}
use Rattle.theory_merges.specs.Halves.{HalfEvent, checkpoint_at, send_to, deliver_of, lose_of, send_by, how_many, message_number, receiver_of, receiver_in, plain_event, calls_from, newest_first, happens_at, SplitBy, KeepsBoth, SameProcesses, OrdersAgree}
use Rattle.histories.proofs.{Run.Ideal, Run.begun, Messages.underway_proper, Local.local_of}
use Rattle.theory_merges.proofs.Lists.{own, own_append, reversed_append, reversed_select, keeps_first, keeps_second, receiver_of_sends, receiver_still, receiver_new, one_more, keeps_append}
use Rattle.theory_merges.proofs.Parts.{Part, part_of, part_after, carried_by, Follows, follows_begin, follows_checkpoint, follows_lose, follows_deliver, follows_send}
use Rattle.model.proofs.{simulation.View.process_of, simulation.View.parts_of, simulation.View.state_of, simulation.Rows.process_same, simulation.Parts.all_agree}
use Rattle.model.proofs.simulation.SoundCalls.{deliver_run}
use Rattle.whole_runs.proofs.whole.Reached.{Reached, exchange, refusal}
use Rattle.whole_runs.proofs.whole.Runs.{stepped, run_after, run_accepted}
use Rattle.theory_merges.proofs.NothingMore.{refused_in}
use Rattle.whole_runs.proofs.WholeRuns.{start_reached, accepted_reached, calls_reached}

module _ (n : ℕ) (block_counts : List ℕ) (to : ℕ → ℕ → ℕ) (records : ℕ → List HalfEvent) where
  -- One accepted record.
  one_record : (taken l : List HalfEvent) (x : HalfEvent) (s : Run) (h : Surviving) (r : Ideal) → Reached n s h r → Follows n block_counts to records taken r
      → ((p : ℕ) → records p ≡ own to p (newest_first (x ∷ taken) l)) → ((s c : ℕ) → to s c ≡ receiver_of (newest_first (x ∷ taken) l) s c)
      → refusal (state_of r) (call_of (plain_event taken x)) ≡ None → Follows n block_counts to records (x ∷ taken) (stepped r (call_of (plain_event taken x)))
  unfolding plain_event call_of stepped refusal
  one_record taken l (checkpoint_at p) s h r v w rec rcv e = follows_checkpoint n block_counts to records taken r w p
  one_record taken l (lose_of q c) s h r v w rec rcv e = follows_lose n block_counts to records taken r w q c (message_number taken q c)
  one_record taken l (deliver_of q c) s h r v w rec rcv e =
      let under = (deliver_run r v.inv v.limits (message_number taken q c) _ e).0 in
      follows_deliver n block_counts to records taken r w q c (underway_proper r v.inv (message_number taken q c) under).numbered
  one_record taken l (send_to i j) s h r v w rec rcv e =
      let all : newest_first (send_to i j ∷ taken) l ≡ newest_first [] l ++ (send_to i j ∷ taken) = reversed_append (send_to i j ∷ taken) l in
      follows_send n block_counts to records taken r w i j (newest_first [] l)
      (rec i ∙ ap (own to i) all ∙ own_append to i (newest_first [] l) (send_to i j ∷ taken))
      (rcv i (suc (how_many (send_by i) taken)) ∙ ap (λ (t : List HalfEvent). receiver_of t i (suc (how_many (send_by i) taken))) all
      ∙ receiver_still (newest_first [] l) (send_to i j ∷ taken) i (suc (how_many (send_by i) taken)) (omega (arith, one_more i j taken)) ∙ receiver_new i j taken)

  -- All of them.
  all_records : (l taken : List HalfEvent) (s : Run) (h : Surviving) (r : Ideal) → Reached n s h r → Follows n block_counts to records taken r
      → ((p : ℕ) → records p ≡ own to p (newest_first taken l)) → ((s c : ℕ) → to s c ≡ receiver_of (newest_first taken l) s c)
      → all_accepted s (calls_from taken l) ≡ true → Follows n block_counts to records (newest_first taken l) (run_after r (calls_from taken l))
  unfolding newest_first calls_from run_after all_accepted
  all_records [] taken s h r v w rec rcv e = w
  all_records (x ∷ l) taken s h r v w rec rcv e =
      let c : Call = call_of (plain_event taken x) in
      let ok : is_accepted s c ≡ true = and_left (is_accepted s c) (all_accepted (call s c).run (calls_from (x ∷ taken) l)) e in
      let rest : all_accepted (call s c).run (calls_from (x ∷ taken) l) ≡ true = and_right (is_accepted s c) (all_accepted (call s c).run (calls_from (x ∷ taken) l)) e in
      by_refusal (refusal (state_of r) c)
      (λ d. subst (Follows n block_counts to records (newest_first (x ∷ taken) l)) (sym (run_accepted r c (calls_from (x ∷ taken) l) d)) (all_records l (x ∷ taken) (call s c).run (after n h (exchange s c)) (stepped r c) (accepted_reached n s h r v c d) (one_record taken l x s h r v w rec rcv d) rec rcv rest))
      (λ y d. never_both (is_accepted s c) ok (refused_in s c y (rw v.state d)))

-- A test that holds of one process's records alone fails on all records of the half that is not its own.
every_so : (u t : HalfEvent → Bool) (l : List HalfEvent) → ((x : HalfEvent) → u x ≡ true → t x ≡ true) → every u l ≡ true → every t l ≡ true
unfolding every
every_so u t [] h e = refl
every_so u t (x ∷ l) h e = and_both (t x) (every t l) (h x (and_left (u x) (every u l) e)) (every_so u t l h (and_right (u x) (every u l) e))

module _ (set : ℕ) (first second : List HalfEvent) (to : ℕ → ℕ → ℕ)
    (apart : (every (λ x. in_set set (happens_at to x)) first ≡ true) × (every (λ x. not (in_set set (happens_at to x))) second ≡ true)) where
  -- So any two orders have the same records that pass.
  same_records : (t : HalfEvent → Bool) (p : ℕ) → ((x : HalfEvent) → t x ≡ true → happens_at to x ≡ p) → (one other : List HalfEvent) → KeepsBoth first second one → KeepsBoth first second other
      → select t (newest_first [] one) ≡ select t (newest_first [] other)
  unfolding select
  same_records t p belongs one other k k' = reversed_select t [] one ∙ ap (newest_first []) chosen ∙ sym (reversed_select t [] other)
    where
      chosen : select t one ≡ select t other
      chosen = by_bool (in_set set p)
          (λ e. let none_there : every (λ x. not (t x)) second ≡ true = every_so (λ x. not (in_set set (happens_at to x))) (λ x. not (t x)) second
          (λ x d. by_bool (t x) (λ q. never_both false (rw (belongs x q, e) at d) refl) (λ q. rw q)) apart.1 in
          keeps_first t first second one k none_there ∙ sym (keeps_first t first second other k' none_there))
          (λ e. let none_there : every (λ x. not (t x)) first ≡ true = every_so (λ x. in_set set (happens_at to x)) (λ x. not (t x)) first
          (λ x d. by_bool (t x) (λ q. never_both (in_set set p) (rw (belongs x q) at d) e) (λ q. rw q)) apart.0 in
          keeps_second t first second one k none_there ∙ sym (keeps_second t first second other k' none_there))

  -- The records of a process, and the receiver of each message, in any two orders.
  same_own : (p : ℕ) (one other : List HalfEvent) → KeepsBoth first second one → KeepsBoth first second other → own to p (newest_first [] one) ≡ own to p (newest_first [] other)
  unfolding own
  same_own p one other k k' = same_records (λ x. eqb (happens_at to x) p) p (λ x e. eqb-true (happens_at to x) p e) one other k k'

  sender_home : (s : ℕ) (x : HalfEvent) → send_by s x ≡ true → happens_at to x ≡ s
  unfolding send_by happens_at
  sender_home s (checkpoint_at p) e = never_both false e refl
  sender_home s (send_to i j) e = eqb-true i s e
  sender_home s (deliver_of q c) e = never_both false e refl
  sender_home s (lose_of q c) e = never_both false e refl

  pub same_receiver : (l : List HalfEvent) → KeepsBoth first second l → (s c : ℕ) → receiver_in first second s c ≡ receiver_of (newest_first [] l) s c
  unfolding receiver_in
  same_receiver l k s c =
      receiver_of_sends (newest_first [] (first ++ second)) s c
      ∙ ap (λ (t : List HalfEvent). receiver_of t s c) (same_records (send_by s) s (sender_home s) (first ++ second) l (keeps_append first second) k)
      ∙ sym (receiver_of_sends (newest_first [] l) s c)

same_part : (r r' : Ideal) (p : ℕ) → r'.n ≡ r.n → r'.ledger.block_counts ≡ r.ledger.block_counts → part_of r' p ≡ part_of r p → process_of r' p ≡ process_of r p
unfolding part_of local_of
same_part r r' p n b e = process_same r r' p n (ap (λ (P : Part). P.local.own) e) (λ k f le hf. ap (λ (P : Part). P.local.vector k f) e) (ap (λ (P : Part). P.local.mark) e)
    (λ f hf. ap (λ (P : Part). P.local.pin f) e) (ap (λ (P : Part). P.cause) e) (ap (λ (c : ℕ → ℕ). c p) b)

-- Two runs with the same parts of processes stand for states with the same parts.
same_states : (r r' : Ideal) → r'.n ≡ r.n → r'.ledger.block_counts ≡ r.ledger.block_counts → ((p : ℕ) → part_of r' p ≡ part_of r p) → SameProcesses (state_of r') (state_of r)
unfolding state_of parts_of with_messages with_disk
same_states r r' n b same =
    let parts : with_processes r'.n (process_of r') (blank r'.n) ≡ with_processes r.n (process_of r) (blank r.n)
    = ap (λ (k : ℕ). with_processes k (process_of r') (blank k)) n ∙ all_agree r.n (process_of r') (process_of r) (blank r.n) (λ p hp. same_part r r' p n b (same p)) in
    record {
      vectors = ap (λ (s : Run). s.vectors) parts;
      pins = ap (λ (s : Run). s.pins) parts;
      kept = ap (λ (s : Run). s.kept) parts;
      kept_count = ap (λ (s : Run). s.kept_count) parts;
      sent = ap (λ (s : Run). s.sent) parts;
    }

-- Note 12.
pub orders_agree : OrdersAgree
unfolding OrdersAgree SplitBy
orders_agree n block_counts ok set first second one other apart k k' e e' =
    let s₀ = (start_outcome n block_counts).run in
    let r₀ = begun n block_counts in
    let h₀ = beginning n block_counts in
    let v₀ = start_reached n block_counts ok in
    let to = receiver_in first second in
    let records : ℕ → List HalfEvent = λ p. own to p (newest_first [] one) in
    let v = calls_reached n s₀ h₀ r₀ v₀ (calls_from [] one) in
    let v' = calls_reached n s₀ h₀ r₀ v₀ (calls_from [] other) in
    let w = all_records n block_counts to records one [] s₀ h₀ r₀ v₀ (follows_begin n block_counts to records) (λ p. refl) (same_receiver set first second (receiver_in first second) apart one k) e in
    let w' = all_records n block_counts to records other [] s₀ h₀ r₀ v₀ (follows_begin n block_counts to records) (λ p. same_own set first second (receiver_in first second) apart p one other k k') (same_receiver set first second (receiver_in first second) apart other k') e' in
    let R = run_after r₀ (calls_from [] one) in
    let R' = run_after r₀ (calls_from [] other) in
    let far : ℕ = length (newest_first [] one) + length (newest_first [] other) in
    let parts : (p : ℕ) → part_of R p ≡ part_of R' p = λ p.
    w.part p far (omega arith)
    ∙ ap (part_after n block_counts to records p (carried_by n block_counts to records far)) (same_own set first second (receiver_in first second) apart p one other k k')
    ∙ sym (w'.part p far (omega arith)) in
    rw (v.state, v'.state) (same_states R' R (w.size ∙ sym w'.size) (w.paid ∙ sym w'.paid) parts)
