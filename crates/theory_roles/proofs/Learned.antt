-- An owner learns nothing but the leaks: by unwinding. A call either exposes nothing, and then leaves the owner's part as it was; or it exposes one thing, and then
-- two calls that expose the same, on states that are alike, return the same to the owner and leave states that are alike.
-- Assumes nothing.
use Rattle.std.specs.Prelude.{◌≡◌, ◌&&◌, ◌||◌, ◌∷◌, ◌⊎◌, ◌≤◌, ◌<◌, Ok}
use Rattle.laws.specs.Basics.{refl, sym, ◌∙◌, ap, subst, Bool, true, false, not, List, [], Option, None, Some, inl, inr, ℕ, arith, eqb, ltb, get_or, set, ltb-true, by_bool}
use Rattle.laws.specs.{Lists.or_else, Loops.either, Search.all_out, Truth.never_both, Truth.and_left, Truth.and_right, Truth.and_both}
use Prim.{tt}
use Rattle.model.specs.declared.{Message.Message, Named.Named, Refusal.TheVariants.Denied, Run.Run}
use Rattle.model.specs.Words.{most_processes, zero_vector, no_pins_of, no_message, blank, in_set, process, with_disk}
use Rattle.model.specs.Steps.{checkpoint_zero, started, start_state, found, forces, checkpoint_state, send_state, deliver_state, lose_state, recover_state}
use Rattle.model.specs.Refusals.{start_refusal, missing, checkpoint_refusal, send_refusal, deliver_refusal, lose_refusal, recover_refusal}
use Rattle.model.specs.laws.Refusals.{by_refusal, no_rule}
use Rattle.model.proofs.simulation.Accepted.{start_out}
use Rattle.model.proofs.simulation.Parts.{count_all, process_all, process_disk, room_blank}
use Rattle.whole_runs.specs.Outcomes.{start_outcome, message, checkpoint_report, checkpoint_outcome, send_report, send_outcome, deliver_report, deliver_answer, deliver_outcome, lose_outcome, recover_report, recover_outcome}
use Rattle.whole_runs.specs.Earliest.{earliest_refusal, earliest_outcome}
use Rattle.whole_runs.specs.Calls.{checkpoint, send, deliver, lose, recover, line, earliest, Reply, Answered, answered}
use Rattle.whole_runs.proofs.whole.Reached.{refused_number}
use Rattle.theory_roles.specs.declared.{Role.Role, Role.TheVariants.Operator, Role.TheVariants.JobOwner, Role.TheVariants.Viewer, Caller.Caller}
use Rattle.theory_roles.specs.declared.Operation.TheVariants.{Start, Checkpoint, Send, Deliver, Lose, Recover, Line, Earliest}
use Rattle.theory_roles.specs.Console.{owns, denied, denied_process, denied_message, console_start, console_checkpoint, console_send, console_deliver, console_lose, console_recover, console_line, console_earliest}
use Rattle.theory_roles.specs.Runs.{Asked, made, list, counts, ConsoleCall, ConsoleReached, console_answered, console_call, state_after_console}
use Rattle.theory_roles.specs.Isolation.{owner}
use Rattle.theory_roles.specs.Learned.{is_owner_by, is_owner, sees, seen, arrival_of, arrives, leak, restarts, Exposed, asked, stored, sent, took, restarted, done, exposes, exposed, LearnsNoMore}
use Rattle.theory_roles.proofs.Alike.{Alike, owned_below, alike_then, alike_back, reached_fit, reached_on}
use Rattle.theory_roles.proofs.Steps.{checkpoint_alike, send_alike, deliver_alike, checkpoint_other, send_other, deliver_other, lose_other}
use Rattle.theory_roles.proofs.{Restarts.recover_alike, Own.own_same, Runs.list_unchanged, Runs.counts_unchanged, Runs.not_started}

-- What a call did that exposed something: what the owner sees of it, and the state after it.
abbrev Did : ℕ → Run → Exposed → List Reply → Run → Type 0
Did owned s (asked set k x) l u = (l ≡ (console_answered (owner set) s k).reply ∷ []) × (leak set s k ≡ x) × ((p : ℕ) → owns set s.count p ≡ true → owns owned s.count p ≡ true) × (u ≡ (console_answered (owner set) s k).run)
Did owned s (stored i) l u = (l ≡ []) × (owns owned s.count i ≡ true) × (u ≡ checkpoint_state s i)
Did owned s (sent i) l u = (l ≡ []) × (owns owned s.count i ≡ true) × (j : ℕ) × (u ≡ send_state s i j)
Did owned s (took x) l u = (l ≡ []) × (y : Message) × (owns owned s.count y.receiver ≡ true) × (y.receiver ≡ x.receiver) × (y.vector ≡ x.vector) × (u ≡ deliver_state s y)
Did owned s (restarted r) l u = (l ≡ []) × (F : ℕ) × (restarts owned s F ≡ r) × (u ≡ recover_state s F)

data Kind (owned : ℕ) (s : Run) (k : ConsoleCall) : Type 0 where
  unexposed : exposes owned s k ≡ [] → sees owned s k ≡ [] → Alike owned s (console_call s k).run → Kind owned s k
  exposing : (x : Exposed) → exposes owned s k ≡ x ∷ [] → Did owned s x (sees owned s k) (console_call s k).run → Kind owned s k

-- Two calls that did the same.
did_same : (owned : ℕ) (s t : Run) → ConsoleReached s → ConsoleReached t → Alike owned s t → (x : Exposed) (l m : List Reply) (u w : Run)
    → Did owned s x l u → Did owned t x m w → (l ≡ m) × Alike owned u w
did_same owned s t vs vt a (asked set k x) l m u w d e =
    let z = own_same owned set s t (reached_fit s vs) (reached_fit t vt) a d.2 vs vt k (d.1 ∙ sym e.1) in
    rw (d.0, e.0, d.3, e.3) (rw z.0, z.1)
did_same owned s t vs vt a (stored i) l m u w d e =
    rw (d.0, e.0, d.2, e.2) (refl, checkpoint_alike owned s t (reached_fit s vs) (reached_fit t vt) a i d.1)
did_same owned s t vs vt a (sent i) l m u w d e =
    rw (d.0, e.0, d.3, e.3) (refl, send_alike owned s t (reached_fit s vs) (reached_fit t vt) a i d.2 e.2 d.1)
did_same owned s t vs vt a (took x) l m u w d e =
    rw (d.0, e.0, d.5, e.5) (refl, deliver_alike owned s t (reached_fit s vs) (reached_fit t vt) a d.1 e.1 (d.3 ∙ sym e.3) (d.4 ∙ sym e.4) d.2)
did_same owned s t vs vt a (restarted r) l m u w d e =
    rw (d.0, e.0, d.3, e.3) (refl, recover_alike owned s t (reached_fit s vs) (reached_fit t vt) a d.1 e.1 (d.2 ∙ sym e.2))

-- Who passes for the owner is a job owner, and its processes are among the owner's.
is_owner_lem : (owned n : ℕ) (c : Caller) → is_owner owned n c ≡ true → (c ≡ owner c.owned) × ((p : ℕ) → owns c.owned n p ≡ true → owns owned n p ≡ true)
unfolding is_owner owns
is_owner_lem owned n c e = by_role c.role refl e
  where
    among : (a b : Bool) → (not a || b) ≡ true → a ≡ true → b ≡ true
    among true b e d = e
    among false b e d = never_both false d refl

    by_role : (r : Role) → c.role ≡ r → is_owner_by r c.owned n owned ≡ true → (c ≡ owner c.owned) × ((p : ℕ) → (ltb p n && in_set c.owned p) ≡ true → (ltb p n && in_set owned p) ≡ true)
    by_role Operator d e = unfold is_owner_by in never_both false e refl
    by_role JobOwner d e = unfold is_owner_by in (
      λ i. record { role = d i; owned = c.owned },
      λ p o. let lt = and_left (ltb p n) (in_set c.owned p) o in
          and_both (ltb p n) (in_set owned p) lt (among (in_set c.owned p) (in_set owned p) (all_out n _ e p (ltb-true p n lt)) (and_right (ltb p n) (in_set c.owned p) o)),
    )
    by_role Viewer d e = unfold is_owner_by in never_both false e refl

-- A call of another's that was refused, or one that was accepted: the state after it.
abbrev Passed : Run → Run → Answered → Type 0
Passed s u x = ((eqb x.reply.report.refused 0 ≡ false) × (x.run ≡ s)) ⊎ ((eqb x.reply.report.refused 0 ≡ true) × (x.run ≡ u))

module _ (c : Caller) (s : Run) where
  passed_checkpoint : (i : ℕ) (lent : List ℕ) → Passed s (checkpoint_state s i) (console_answered c s (made (checkpoint i lent)))
  unfolding console_answered answered console_checkpoint checkpoint_outcome checkpoint_report
  passed_checkpoint i lent = by_bool (denied_process c s Checkpoint i)
      (λ d. rw d (inl (refused_number Denied, refl)))
      (λ d. rw d (by_refusal (checkpoint_refusal s i lent) (λ n. rw n (inr (refl, refl))) (λ x n. rw n (inl (refused_number x, refl)))))

  passed_send : (i j : ℕ) → Passed s (send_state s i j) (console_answered c s (made (send i j)))
  unfolding console_answered answered console_send send_outcome send_report
  passed_send i j = by_bool (denied_process c s Send i)
      (λ d. rw d (inl (refused_number Denied, refl)))
      (λ d. rw d (by_refusal (send_refusal s i j) (λ n. rw n (inr (refl, refl))) (λ x n. rw n (inl (refused_number x, refl)))))

  delivered_number : (x : Message) → eqb (deliver_report (deliver_answer s x)).refused 0 ≡ true
  unfolding deliver_report deliver_answer
  delivered_number x = by_bool (forces (process s x.receiver) x.vector) (λ e. rw e) (λ e. rw e)

  -- An accepted delivery has a message.
  passed_deliver : (m : ℕ) (lent : List ℕ) →
      ((eqb (console_answered c s (made (deliver m lent))).reply.report.refused 0 ≡ false) × ((console_answered c s (made (deliver m lent))).run ≡ s))
      ⊎ ((eqb (console_answered c s (made (deliver m lent))).reply.report.refused 0 ≡ true) × (x : Message) × (found s m ≡ Some x) × ((console_answered c s (made (deliver m lent))).run ≡ deliver_state s x))
  unfolding console_answered answered console_deliver deliver_outcome deliver_report
  passed_deliver m lent = by_bool (denied_message c s Deliver m)
      (λ d. rw d (inl (refused_number Denied, refl)))
      (λ d. rw d (by_refusal (deliver_refusal s m lent)
      (λ n. let w = there_is (found s m) refl (missing_not n) in rw n (inr (delivered_number (message s m), w.0, w.1, ap (λ (o : Option Message). deliver_state s (or_else o no_message)) w.1)))
      (λ x n. rw n (inl (refused_number x, refl)))))
    where
      missing_not : deliver_refusal s m lent ≡ None → missing (found s m) ≡ false
      missing_not n = unfold deliver_refusal in no_rule _ n 2

      there_is : (o : Option Message) → found s m ≡ o → missing o ≡ false → (x : Message) × (found s m ≡ Some x)
      there_is None e d = never_both true refl d
      there_is (Some x) e d = (x, e)

  passed_recover : (F : ℕ) (deleted lent : List ℕ) → Passed s (recover_state s F) (console_answered c s (made (recover F deleted lent)))
  unfolding console_answered answered console_recover recover_outcome recover_report
  passed_recover F deleted lent = by_bool (denied c Recover)
      (λ d. rw d (inl (refused_number Denied, refl)))
      (λ d. rw d (by_refusal (recover_refusal s F deleted lent) (λ n. rw n (inr (refl, refl))) (λ x n. rw n (inl (refused_number x, refl)))))

  -- Calls that leave every process as it was.
  run_lose : (m : ℕ) → ((console_answered c s (made (lose m))).run ≡ s) ⊎ ((console_answered c s (made (lose m))).run ≡ lose_state s m)
  unfolding console_answered answered console_lose lose_outcome
  run_lose m = by_bool (denied_message c s Lose m)
      (λ d. rw d (inl refl))
      (λ d. rw d (by_refusal (lose_refusal s m) (λ n. rw n (inr refl)) (λ x n. rw n (inl refl))))

  run_line : (F : ℕ) (lent : List ℕ) → (console_answered c s (made (line F lent))).run ≡ s
  unfolding console_answered answered console_line
  run_line F lent = by_bool (denied c Line) (λ d. rw d) (λ d. rw d)

  run_earliest : (l : List Named) (lent : List ℕ) → (console_answered c s (made (earliest l lent))).run ≡ s
  unfolding console_answered answered console_earliest earliest_outcome
  run_earliest l lent = by_bool (denied c Earliest) (λ d. rw d) (λ d. rw d (by_refusal (earliest_refusal s l lent) (λ n. rw n) (λ x n. rw n)))

-- What a call of another's exposes, once it is known whether it is accepted.
module _ (owned : ℕ) (c : Caller) (s : Run) (other : is_owner owned s.count c ≡ false) where
  abbrev by : Asked → ConsoleCall
  by k = record { caller = c; asked = k }

  unseen : (k : Asked) → sees owned s (by k) ≡ []
  unfolding sees
  unseen k = rw other

  exposes_refused : (k : Asked) → eqb (console_answered c s k).reply.report.refused 0 ≡ false → exposes owned s (by k) ≡ []
  unfolding exposes console_call
  exposes_refused k e = rw (other, e)

  exposes_accepted : (k : Asked) → eqb (console_answered c s k).reply.report.refused 0 ≡ true → exposes owned s (by k) ≡ done owned s k
  unfolding exposes console_call
  exposes_accepted k e = rw (other, e)

  exposes_nothing : (k : Asked) → done owned s k ≡ [] → exposes owned s (by k) ≡ []
  exposes_nothing k e = by_bool (eqb (console_answered c s k).reply.report.refused 0) (λ d. exposes_accepted k d ∙ e) (λ d. exposes_refused k d)

  stays : (u : Run) → u ≡ s → Alike owned s u
  stays u e = rw e (record { count = refl; parts = λ p o. refl })

  -- A refused call, and one that leaves every process as it was.
  refused_kind : (k : Asked) → (eqb (console_answered c s k).reply.report.refused 0 ≡ false) × ((console_answered c s k).run ≡ s) → Kind owned s (by k)
  unfolding console_call
  refused_kind k w = unexposed (exposes_refused k w.0) (unseen k) (stays (console_answered c s k).run w.1)

  unchanged_kind : (k : Asked) → done owned s k ≡ [] → (console_answered c s k).run ≡ s → Kind owned s (by k)
  unfolding console_call
  unchanged_kind k d e = unexposed (exposes_nothing k d) (unseen k) (stays (console_answered c s k).run e)

  checkpoint_kind : (i : ℕ) (lent : List ℕ) → Kind owned s (by (made (checkpoint i lent)))
  unfolding done console_call
  checkpoint_kind i lent = either (passed_checkpoint c s i lent)
      (λ w. refused_kind (made (checkpoint i lent)) w)
      (λ w. by_bool (owns owned s.count i)
      (λ o. exposing (stored i) (exposes_accepted (made (checkpoint i lent)) w.0 ∙ rw o) (unseen (made (checkpoint i lent)), o, w.1))
      (λ o. unexposed (exposes_accepted (made (checkpoint i lent)) w.0 ∙ rw o) (unseen (made (checkpoint i lent))) (rw w.1 (checkpoint_other owned s i o))))

  send_kind : (i j : ℕ) → Kind owned s (by (made (send i j)))
  unfolding done console_call
  send_kind i j = either (passed_send c s i j)
      (λ w. refused_kind (made (send i j)) w)
      (λ w. by_bool (owns owned s.count i)
      (λ o. exposing (sent i) (exposes_accepted (made (send i j)) w.0 ∙ rw o) (unseen (made (send i j)), o, j, w.1))
      (λ o. unexposed (exposes_accepted (made (send i j)) w.0 ∙ rw o) (unseen (made (send i j))) (rw w.1 (send_other owned s i j o))))

  deliver_kind : (m : ℕ) (lent : List ℕ) → Kind owned s (by (made (deliver m lent)))
  unfolding done console_call arrives arrival_of
  deliver_kind m lent = either (passed_deliver c s m lent)
      (λ w. refused_kind (made (deliver m lent)) w)
      (λ w. by_bool (owns owned s.count w.1.receiver)
      (λ o. exposing (took (record { receiver = w.1.receiver; vector = w.1.vector })) (exposes_accepted (made (deliver m lent)) w.0 ∙ rw (w.2, o))
      (unseen (made (deliver m lent)), w.1, o, refl, refl, w.3))
      (λ o. unexposed (exposes_accepted (made (deliver m lent)) w.0 ∙ rw (w.2, o)) (unseen (made (deliver m lent))) (rw w.3 (deliver_other owned s w.1 o))))

  recover_kind : (F : ℕ) (deleted lent : List ℕ) → Kind owned s (by (made (recover F deleted lent)))
  unfolding done console_call
  recover_kind F deleted lent = either (passed_recover c s F deleted lent)
      (λ w. refused_kind (made (recover F deleted lent)) w)
      (λ w. exposing (restarted (restarts owned s F)) (exposes_accepted (made (recover F deleted lent)) w.0) (unseen (made (recover F deleted lent)), F, refl, w.1))

  lose_kind : (m : ℕ) → Kind owned s (by (made (lose m)))
  unfolding done console_call
  lose_kind m = unexposed (exposes_nothing (made (lose m)) refl) (unseen (made (lose m))) (either (run_lose c s m)
      (λ e. stays (console_answered c s (made (lose m))).run e)
      (λ e. rw e (lose_other owned s m)))

  other_kind : (k : Asked) → Kind owned s (by k)
  unfolding done
  other_kind (made (checkpoint i lent)) = checkpoint_kind i lent
  other_kind (made (send i j)) = send_kind i j
  other_kind (made (deliver m lent)) = deliver_kind m lent
  other_kind (made (lose m)) = lose_kind m
  other_kind (made (recover F deleted lent)) = recover_kind F deleted lent
  other_kind (made (line F lent)) = unchanged_kind (made (line F lent)) refl (run_line c s F lent)
  other_kind (made (earliest l lent)) = unchanged_kind (made (earliest l lent)) refl (run_earliest c s l lent)
  other_kind (list lent) = unchanged_kind (list lent) refl (list_unchanged c s lent)
  other_kind (counts lent) = unchanged_kind (counts lent) refl (counts_unchanged c s lent)

kind_of : (owned : ℕ) (s : Run) (k : ConsoleCall) → Kind owned s k
unfolding exposes sees console_call
kind_of owned s k = by_bool (is_owner owned s.count k.caller)
    (λ e.
    let w = is_owner_lem owned s.count k.caller e in
    exposing (asked k.caller.owned k.asked (leak k.caller.owned s k.asked)) (rw e)
    (rw e (ap (λ (c : Caller). (console_answered c s k.asked).reply ∷ []) w.0), refl, w.1, ap (λ (c : Caller). (console_answered c s k.asked).run) w.0))
    (λ e. other_kind owned k.caller s e k.asked)

-- Two lists that are one have the same first element and the same rest.
same_first : {A : Type 0} (x y : A) (l m : List A) → ◌≡◌ {A = List A} (x ∷ l) (y ∷ m) → (x ≡ y) × (l ≡ m)
same_first x y l m e = (cc, cc)

not_empty : {A : Type 0} (x : A) (l : List A) → ◌≡◌ {A = List A} (x ∷ l) [] → ⊥
not_empty x l e = let z : ◌≡◌ {A = ℕ} 0 1 = cc in omega arith

-- A fact by the two kinds of a call.
by_kind : {P : Type 0} (owned : ℕ) (s : Run) (k : ConsoleCall)
    → (exposes owned s k ≡ [] → sees owned s k ≡ [] → Alike owned s (console_call s k).run → P)
    → ((x : Exposed) → exposes owned s k ≡ x ∷ [] → Did owned s x (sees owned s k) (console_call s k).run → P) → P
by_kind {P} owned s k f g = of (kind_of owned s k)
  where
    of : Kind owned s k → P
    of (unexposed x y z) = f x y z
    of (exposing x y z) = g x y z

-- Calls that expose nothing show nothing.
nothing_seen : (owned : ℕ) (s : Run) (l : List ConsoleCall) → exposed owned s l ≡ [] → seen owned s l ≡ []
unfolding exposed seen
nothing_seen owned s [] e = refl
nothing_seen owned s (k ∷ l) e = by_kind owned s k
    (λ x y z. rw y (nothing_seen owned (console_call s k).run l (rw x at e)))
    (λ x y z. absurd (not_empty x _ (rw y at e)))

-- A call that exposes x, and a list that exposes x and then what the rest of the first one does: the list's calls that expose nothing are skipped.
abbrev Learned : ℕ → Run → Run → List ConsoleCall → List ConsoleCall → Type 0
Learned owned s t l m = exposed owned s l ≡ exposed owned t m → seen owned s l ≡ seen owned t m

module _ (owned : ℕ) (s : Run) (vs : ConsoleReached s) (k : ConsoleCall) (l : List ConsoleCall)
    (rest : (t : Run) → ConsoleReached t → Alike owned (console_call s k).run t → (m : List ConsoleCall) → Learned owned (console_call s k).run t l m)
    (x : Exposed) (first_exposes : exposes owned s k ≡ x ∷ []) (did : Did owned s x (sees owned s k) (console_call s k).run) where
  after_exposing : (t : Run) → ConsoleReached t → Alike owned s t → (m : List ConsoleCall) → Learned owned s t (k ∷ l) m
  unfolding exposed seen
  after_exposing t vt a [] e = absurd (not_empty x _ (rw first_exposes at e))
  after_exposing t vt a (j ∷ m) e = by_kind owned t j
      (λ y z w. rw z (after_exposing (console_call t j).run (reached_on t vt j) (alike_then owned s t (console_call t j).run a w) m (rw y at e)))
      (λ y z w.
      let first = same_first x y _ _ (rw (first_exposes, z) at e) in
      let same = did_same owned s t vs vt a x _ _ _ _ did (subst (λ (y : Exposed). Did owned t y (sees owned t j) (console_call t j).run) (sym first.0) w) in
      rw (same.0, rest (console_call t j).run (reached_on t vt j) same.1 m first.1))

learned : (owned : ℕ) (l : List ConsoleCall) (s t : Run) → ConsoleReached s → ConsoleReached t → Alike owned s t → (m : List ConsoleCall) → Learned owned s t l m
unfolding exposed seen
learned owned [] s t vs vt a m e = sym (nothing_seen owned t m (sym e))
learned owned (k ∷ l) s t vs vt a m e = by_kind owned s k
    (λ x y z. rw y (learned owned l (console_call s k).run t (reached_on s vs k) vt (alike_then owned (console_call s k).run s t (alike_back owned s (console_call s k).run z) a) m (rw x at e)))
    (λ x y z. after_exposing owned s vs k l (λ u vu b n. learned owned l (console_call s k).run u (reached_on s vs k) vu b n) x y z t vt a m e)

-- Two starts with the same block counts for the owner's processes.
started_as : (c : Caller) (n : ℕ) (sizes : List ℕ) → (console_start c n sizes).answer ≡ Ok tt → (start_refusal n sizes ≡ None) × ((console_start c n sizes).run ≡ start_state n sizes)
unfolding console_start start_outcome
started_as c n sizes e = by_bool (denied c Start)
    (λ d. absurd (not_started (rw d at e)))
    (λ d. by_refusal (start_refusal n sizes)
    (λ o. (o, rw (d, o)))
    (λ x o. absurd (not_started (rw (d, o) at e))))

start_count : (n : ℕ) (sizes : List ℕ) → (start_state n sizes).count ≡ n
unfolding start_state with_disk blank
start_count n sizes = count_all n (started sizes) (blank n)

start_part : (n : ℕ) (sizes : List ℕ) (p : ℕ) → n ≤ most_processes → p < n → process (start_state n sizes) p ≡ started sizes p
unfolding start_state
start_part n sizes p few lt = process_disk _ _ p ∙ process_all n (started sizes) (blank n) p lt (room_blank n p (omega arith))

start_alike : (owned n : ℕ) (sizes others : List ℕ) → n ≤ most_processes → ((p : ℕ) → owns owned n p ≡ true → get_or sizes p 0 ≡ get_or others p 0) → Alike owned (start_state n sizes) (start_state n others)
unfolding started
start_alike owned n sizes others few same = record {
  count = start_count n sizes ∙ sym (start_count n others);
  parts = λ p o.
      let mine : owns owned n p ≡ true = sym (ap (λ (k : ℕ). owns owned k p) (start_count n sizes)) ∙ o in
      let lt = owned_below owned n p mine in
      start_part n sizes p few lt
      ∙ ap (λ (k : ℕ). record { vector = set zero_vector p (record { 0 = 1 }); pins = set no_pins_of p (Some (record { 0 = 0 })); mark = false; kept = checkpoint_zero k ∷ [] }) (same p mine)
      ∙ sym (start_part n others p few lt);
}

start_reached : (c : Caller) (n : ℕ) (sizes : List ℕ) → (console_start c n sizes).answer ≡ Ok tt → ConsoleReached (console_start c n sizes).run
unfolding ConsoleReached state_after_console
start_reached c n sizes e = (c, n, sizes, e, [], refl)

pub learns_no_more : LearnsNoMore
unfolding LearnsNoMore
learns_no_more owned n b c sizes others d e same l m =
    let w = started_as b n sizes d in
    let z = started_as c n others e in
    learned owned l (console_start b n sizes).run (console_start c n others).run (start_reached b n sizes d) (start_reached c n others e)
    (rw (w.1, z.1) (start_alike owned n sizes others (start_out n sizes w.0).1 same)) m
