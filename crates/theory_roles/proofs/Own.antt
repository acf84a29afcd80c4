-- An owner's call on two states that are alike to it, where it shows the same of others: it returns the same, and leaves two states that are alike.
-- Assumes nothing.
use Rattle.std.specs.Prelude.{◌≡◌, ◌&&◌, ◌||◌, ◌∷◌, ◌+◌, ◌*◌, ◌^◌, ◌≤◌, Err, Ok}
use Rattle.laws.specs.Basics.{refl, sym, ◌∙◌, ap, Bool, true, false, not, List, [], Option, None, Some, ℕ, arith, eqb, ltb, leb, length, get_or, ltb-false, pick, by_bool}
use Rattle.laws.specs.{Front.get_d_written, Lists.table, Tables.length_table, Tables.get_d_table, Tables.table_same, Truth.never_both}
use Prim.{tt}
use Rattle.model.specs.declared.{Interval.Interval, Message.Message, Run.Run}
use Rattle.model.specs.declared.Refusal.TheVariants.{UnsoundState, ListTooShort, NoSuchProcess, SenderIsReceiver, NoSuchFailedProcess, NotUnderWay, TooManyUnderWay, MessageNumbersUsed, IntervalsUsed, BlocksUsed}
use Rattle.model.specs.Words.{basic, most_under_way, most_messages, most_interval, entry, Process, process, own, live}
use Rattle.model.specs.Steps.{found, advanced, checkpointed, checkpoint_deletions, deletions, forces, risen, delivered, deliver_risen, deliver_deletions, member, line_of}
use Rattle.model.specs.{Sound.sound, laws.Refusals.by_refusal, laws.Refusals.no_rule}
use Rattle.model.specs.Refusals.{first_of, past_blocks, checkpoint_refusal, send_refusal, forces_past, forces_over, deliver_refusal, lose_refusal, line_refusal}
use Rattle.whole_runs.specs.Outcomes.{pairs, written, checkpoint_report, checkpoint_outcome, send_report, send_outcome, deliver_report, deliver_answer, deliver_outcome, lose_report, lose_outcome, line_report, line_outcome}
use Rattle.whole_runs.specs.Calls.{checkpoint, send, deliver, lose, recover, line, earliest, Reply, Answered, answered}
use Rattle.theory_roles.specs.declared.{Operation.TheVariants.List as Listing}
use Rattle.theory_roles.specs.Console.{may, owns, entitled_by, entitled, entitled_message_by, entitled_message, denied, denied_process, denied_message, shown, list_refusal, list_report, console_checkpoint, console_send, console_deliver, console_lose, console_recover, console_line, console_earliest, console_list, console_counts}
use Rattle.theory_roles.specs.Runs.{Asked, made, list, counts, ConsoleReached, console_answered}
use Rattle.theory_roles.specs.Isolation.{owner, SameToOwner, ListIsOwn}
use Rattle.theory_roles.proofs.{Isolation.list_is_own, Alike.Alike, Alike.Fit, Alike.owned_below, Alike.owned_too, Alike.alike_then, Alike.alike_back}
use Rattle.theory_roles.specs.Learned.{Arrival, arrival_of, arrives, is_there, room, bound, arrival, there, members, leak}
use Rattle.theory_roles.proofs.Runs.{list_unchanged}
use Rattle.theory_roles.proofs.Steps.{checkpoint_alike, send_alike, deliver_alike, lose_other}

-- Two calls return the same and leave states that are alike.
abbrev pub Same : ℕ → Answered → Answered → Type 0
Same owned x y = (x.reply ≡ y.reply) × Alike owned x.run y.run

-- What arrives with a message, if anything does.
pub data Arrived (owned : ℕ) (u : Run) (m : ℕ) : Type 0 where
  absent : arrives owned u m ≡ [] → is_there owned u m ≡ false → Arrived owned u m
  present : (x : Message) → found u m ≡ Some x → owns owned u.count x.receiver ≡ true
      → arrives owned u m ≡ record { receiver = x.receiver; vector = x.vector } ∷ [] → is_there owned u m ≡ true → Arrived owned u m

arrived_by : (owned : ℕ) (u : Run) (m : ℕ) (o : Option Message) → found u m ≡ o → Arrived owned u m
unfolding arrives arrival_of is_there entitled_message entitled_message_by
arrived_by owned u m None e = absent (rw e) (rw e)
arrived_by owned u m (Some x) e = by_bool (owns owned u.count x.receiver)
    (λ o. present x e o (rw (e, o)) (rw (e, o)))
    (λ o. absent (rw (e, o)) (rw (e, o)))

pub arrived : (owned : ℕ) (u : Run) (m : ℕ) → Arrived owned u m
arrived owned u m = arrived_by owned u m (found u m) refl

module _ (owned set : ℕ) (s t : Run) (fs : Fit s) (ft : Fit t) (a : Alike owned s t) (inside : (p : ℕ) → owns set s.count p ≡ true → owns owned s.count p ≡ true) where
  whole : not (sound s) ≡ not (sound t)
  whole = rw (fs.whole, ft.whole)

  too : (p : ℕ) → owns set s.count p ≡ true → owns set t.count p ≡ true
  too p o = sym (owned_too set s t a.count p) ∙ o

  -- A checkpoint.
  module _ (i : ℕ) (lent : List ℕ) (o : owns set s.count i ≡ true) (over : past_blocks s i ≡ past_blocks t i) where
    checkpoint_refusal_lem : checkpoint_refusal s i lent ≡ checkpoint_refusal t i lent
    unfolding checkpoint_refusal own
    checkpoint_refusal_lem = λ j. first_of (
        record { holds = whole j; gives = UnsoundState }
        ∷ record { holds = ltb (length lent) (2 * a.count j * a.count j); gives = ListTooShort }
        ∷ record { holds = leb (a.count j) i; gives = NoSuchProcess }
        ∷ record { holds = leb most_interval (entry (a.parts i (inside i o) j).vector i).0; gives = IntervalsUsed }
        ∷ record { holds = over j; gives = BlocksUsed }
        ∷ [])

    abbrev stored_reply : Process → Reply
    stored_reply P = record {
      report = checkpoint_report (Ok (record { index = (live i P).index; deleted = length (deletions i (checkpointed basic i P)) }));
      rose = 0;
      deleted = written lent (pairs (deletions i (checkpointed basic i P)));
      line = [];
    }

    checkpoint_same : Same owned (answered checkpoint_report (checkpoint_outcome s i lent)) (answered checkpoint_report (checkpoint_outcome t i lent))
    unfolding answered checkpoint_outcome checkpoint_deletions
    checkpoint_same = by_refusal (checkpoint_refusal t i lent)
        (λ n. rw (checkpoint_refusal_lem, n) (ap stored_reply (a.parts i (inside i o)), checkpoint_alike owned s t fs ft a i (inside i o)))
        (λ x n. rw (checkpoint_refusal_lem, n) (refl, a))

  -- A send.
  module _ (i k : ℕ) (o : owns set s.count i ≡ true) (full : leb most_under_way s.underway ≡ leb most_under_way t.underway) (last : s.last ≡ t.last) where
    send_refusal_lem : send_refusal s i k ≡ send_refusal t i k
    unfolding send_refusal
    send_refusal_lem = λ j. first_of (
        record { holds = whole j; gives = UnsoundState }
        ∷ record { holds = leb (a.count j) i || leb (a.count j) k; gives = NoSuchProcess }
        ∷ record { holds = eqb i k; gives = SenderIsReceiver }
        ∷ record { holds = full j; gives = TooManyUnderWay }
        ∷ record { holds = leb most_messages (last j); gives = MessageNumbersUsed }
        ∷ [])

    abbrev sent_reply : ℕ → Reply
    sent_reply m = record { report = send_report (Ok (m + 1)); rose = 0; deleted = []; line = [] }

    send_same : Same owned (answered send_report (send_outcome s i k)) (answered send_report (send_outcome t i k))
    unfolding answered send_outcome
    send_same = by_refusal (send_refusal t i k)
        (λ n. rw (send_refusal_lem, n) (ap sent_reply last, send_alike owned s t fs ft a i k k (inside i o)))
        (λ x n. rw (send_refusal_lem, n) (refl, a))

  -- A delivery of what arrives in both.
  module _ (m : ℕ) (lent : List ℕ) (x y : Message) (here : found s m ≡ Some x) (there : found t m ≡ Some y) (at : x.receiver ≡ y.receiver) (carried : x.vector ≡ y.vector)
      (o : owns set s.count x.receiver ≡ true) (over : forces_over s (Some x) ≡ forces_over t (Some y)) where
    part : process s x.receiver ≡ process t y.receiver
    part = a.parts x.receiver (inside x.receiver o) ∙ ap (process t) at

    abbrev forced_past : ℕ → List Interval → Process → Bool
    forced_past i v P = forces P v && leb most_interval (entry P.vector i).0

    deliver_refusal_lem : deliver_refusal s m lent ≡ deliver_refusal t m lent
    unfolding deliver_refusal forces_past own
    deliver_refusal_lem = rw (here, there) (λ j. first_of (
        record { holds = whole j; gives = UnsoundState }
        ∷ record { holds = ltb (length lent) (2 * a.count j * a.count j); gives = ListTooShort }
        ∷ record { holds = false; gives = NotUnderWay }
        ∷ record { holds = forced_past (at j) (carried j) (part j); gives = IntervalsUsed }
        ∷ record { holds = over j; gives = BlocksUsed }
        ∷ []))

    abbrev taken_reply : ℕ → List Interval → Process → Reply
    taken_reply i v P = record {
      report = deliver_report (pick (forces P v)
          (Ok (record { forced = Some (live i P).index; deleted = length (deletions i (delivered i v P)) }))
          (Ok (record { forced = None; deleted = length (deletions i (delivered i v P)) })));
      rose = risen (pick (forces P v) (advanced i P.vector) P.vector) v;
      deleted = written lent (pairs (deletions i (delivered i v P)));
      line = [];
    }

    deliver_same : Same owned (answered deliver_report (deliver_outcome s m lent)) (answered deliver_report (deliver_outcome t m lent))
    unfolding answered deliver_outcome deliver_answer deliver_risen deliver_deletions
    deliver_same = by_refusal (deliver_refusal t m lent)
        (λ n. rw (deliver_refusal_lem, n, here, there) (λ j. taken_reply (at j) (carried j) (part j), deliver_alike owned s t fs ft a x y at carried (inside x.receiver o)))
        (λ r n. rw (deliver_refusal_lem, n) (refl, a))

  -- A loss of what is there.
  lose_accepted : (u : Run) → sound u ≡ true → (m : ℕ) (x : Message) → found u m ≡ Some x → lose_refusal u m ≡ None
  unfolding lose_refusal first_of
  lose_accepted u e m x here = rw (e, here)

  lose_same : (m : ℕ) (x y : Message) → found s m ≡ Some x → found t m ≡ Some y → Same owned (answered lose_report (lose_outcome s m)) (answered lose_report (lose_outcome t m))
  unfolding answered lose_outcome
  lose_same m x y here there-too = rw (lose_accepted s fs.whole m x here, lose_accepted t ft.whole m y there-too)
      (refl, alike_then owned _ s _ (alike_back owned s _ (lose_other owned s m)) (alike_then owned s t _ a (lose_other owned t m)))

  -- A line: n and the arguments decide the answer, and the members at the owner's places are the same.
  abbrev own_members : Run → ℕ → List ℕ
  own_members u F = table u.count (λ p. pick (owns set u.count p) (member u F p).index.0 0)

  module _ (F : ℕ) (lent : List ℕ) (e : own_members s F ≡ own_members t F) where
    line_refusal_lem : line_refusal s F lent ≡ line_refusal t F lent
    unfolding line_refusal
    line_refusal_lem = λ j. first_of (
        record { holds = whole j; gives = UnsoundState }
        ∷ record { holds = ltb (length lent) (a.count j); gives = ListTooShort }
        ∷ record { holds = leb (2 ^ a.count j) F; gives = NoSuchFailedProcess }
        ∷ record { holds = (fs.members F ∙ sym (ft.members F)) j; gives = UnsoundState }
        ∷ [])

    member_of : (u : Run) → line_refusal u F lent ≡ None → (p : ℕ) → owns set u.count p ≡ true → get_or (written lent (line_of u F)) p 0 ≡ get_or (own_members u F) p 0
    unfolding line_refusal line_of
    member_of u n p o =
        let lt = owned_below set u.count p o in
        let long : u.count ≤ length lent = ltb-false (length lent) u.count (no_rule _ n 1) in
        let size = length_table u.count (λ q. (member u F q).index.0) in
        get_d_written lent (line_of u F) (omega (arith, long, size)) p 0 (omega (arith, lt, size))
        ∙ get_d_table u.count (λ q. (member u F q).index.0) p 0 lt
        ∙ sym (get_d_table u.count (λ q. pick (owns set u.count q) (member u F q).index.0 0) p 0 lt ∙ rw o)

    shown_same : line_refusal s F lent ≡ None → line_refusal t F lent ≡ None
        → shown (owner set) s.count lent (written lent (line_of s F)) ≡ shown (owner set) t.count lent (written lent (line_of t F))
    unfolding shown entitled entitled_by
    shown_same n m = table_same (length lent) _ _ (λ p lt. by_bool (owns set s.count p)
        (λ o. rw (o, too p o) (member_of s n p o ∙ ap (λ (l : List ℕ). get_or l p 0) e ∙ sym (member_of t m p (too p o))))
        (λ o. rw (o, sym (owned_too set s t a.count p) ∙ o)))

    unshown_same : shown (owner set) s.count lent lent ≡ shown (owner set) t.count lent lent
    unshown_same = ap (λ (n : ℕ). shown (owner set) n lent lent) a.count

    line_same : Same owned (console_answered (owner set) s (made (line F lent))) (console_answered (owner set) t (made (line F lent)))
    unfolding console_answered answered console_line line_outcome denied may
    line_same = by_refusal (line_refusal t F lent)
        (λ n. rw (line_refusal_lem, n) (λ j. record { report = line_report (Ok tt); rose = 0; deleted = []; line = shown_same (line_refusal_lem ∙ n) n j }, a))
        (λ x n. rw (line_refusal_lem, n) (λ j. record { report = line_report (Err x); rose = 0; deleted = []; line = unshown_same j }, a))

  -- A list: Note 13's own sentence.
  list_bare : (u : Run) (lent : List ℕ) → ((console_list (owner set) u lent).rose ≡ 0) × ((console_list (owner set) u lent).line ≡ [])
  unfolding console_list
  list_bare u lent = by_bool (denied (owner set) Listing) (λ d. rw d (refl, refl)) (λ d. rw d (by_refusal (list_refusal u lent) (λ n. rw n (refl, refl)) (λ x n. rw n (refl, refl))))

  same_to_owner : SameToOwner set s t
  same_to_owner = record {
    count = a.count;
    vectors = λ p o. ap (λ (P : Process). P.vector) (a.parts p (inside p o));
    pins = λ p o. ap (λ (P : Process). P.pins) (a.parts p (inside p o));
    kept = λ p o. ap (λ (P : Process). P.kept) (a.parts p (inside p o));
  }

  list_same : ConsoleReached s → ConsoleReached t → (lent : List ℕ) → Same owned (console_answered (owner set) s (list lent)) (console_answered (owner set) t (list lent))
  unfolding console_answered answered ListIsOwn
  list_same vs vt lent =
      let w = list_is_own set s t vs vt same_to_owner lent in (
        λ j. record {
          report = list_report (w.0 j);
          rose = ((list_bare s lent).0 ∙ sym (list_bare t lent).0) j;
          deleted = w.1 j;
          line = ((list_bare s lent).1 ∙ sym (list_bare t lent).1) j;
        },
        rw (list_unchanged (owner set) s lent, list_unchanged (owner set) t lent) a,
      )

  -- What two values of a leak that are one say.
  same_bound : (b c : Bool) → bound b ≡ bound c → b ≡ c
  same_bound b c e = cc

  same_room : (b c : Bool) (k l : ℕ) → room b k ≡ room c l → (b ≡ c) × (k ≡ l)
  same_room b c k l e = (cc, cc)

  same_arrival : (k l : List Arrival) (b c : Bool) → arrival k b ≡ arrival l c → (k ≡ l) × (b ≡ c)
  same_arrival k l b c e = (cc, cc)

  same_there : (b c : Bool) → there b ≡ there c → b ≡ c
  same_there b c e = cc

  same_members : (k l : List ℕ) → members k ≡ members l → k ≡ l
  same_members k l e = cc

  nothing_arrives : (x : Arrival) → ◌≡◌ {A = List Arrival} [] (x ∷ []) → ⊥
  nothing_arrives x e = let z : ◌≡◌ {A = ℕ} 0 1 = cc in omega arith

  own_checkpoint : (i : ℕ) (lent : List ℕ) → leak set s (made (checkpoint i lent)) ≡ leak set t (made (checkpoint i lent))
      → Same owned (console_answered (owner set) s (made (checkpoint i lent))) (console_answered (owner set) t (made (checkpoint i lent)))
  unfolding leak console_answered console_checkpoint denied_process entitled entitled_by may answered
  own_checkpoint i lent e = by_bool (owns set s.count i)
      (λ o. rw (o, too i o) (checkpoint_same i lent o (rw (o, too i o) at (same_bound _ _ e))))
      (λ o. rw (o, sym (owned_too set s t a.count i) ∙ o) (refl, a))

  own_send : (i k : ℕ) → leak set s (made (send i k)) ≡ leak set t (made (send i k))
      → Same owned (console_answered (owner set) s (made (send i k))) (console_answered (owner set) t (made (send i k)))
  unfolding leak console_answered console_send denied_process entitled entitled_by may answered
  own_send i k e = by_bool (owns set s.count i)
      (λ o. let w = same_room _ _ _ _ (rw (o, too i o) at e) in rw (o, too i o) (send_same i k o w.0 w.1))
      (λ o. rw (o, sym (owned_too set s t a.count i) ∙ o) (refl, a))

  own_deliver : (m : ℕ) (lent : List ℕ) → leak set s (made (deliver m lent)) ≡ leak set t (made (deliver m lent))
      → Same owned (console_answered (owner set) s (made (deliver m lent))) (console_answered (owner set) t (made (deliver m lent)))
  unfolding leak is_there console_answered console_deliver denied_message may answered
  own_deliver m lent e = by_arrivals (arrived set s m) (arrived set t m)
    where
      w : (arrives set s m ≡ arrives set t m) × ((is_there set s m && forces_over s (found s m)) ≡ (is_there set t m && forces_over t (found t m)))
      w = same_arrival _ _ _ _ e

      by_arrivals : Arrived set s m → Arrived set t m
          → Same owned (console_answered (owner set) s (made (deliver m lent))) (console_answered (owner set) t (made (deliver m lent)))
      by_arrivals (absent x away) (absent y gone) = rw (away, gone) (refl, a)
      by_arrivals (absent x away) (present y found-y o arriving is_there_lem) = absurd (nothing_arrives _ (sym x ∙ w.0 ∙ arriving))
      by_arrivals (present x found-x o arriving is_there_lem) (absent y gone) = absurd (nothing_arrives _ (sym y ∙ sym w.0 ∙ arriving))
      by_arrivals (present x found-x o arriving is_there_lem) (present y found-y o' arriving' is-there') =
          let f : (l : List Arrival) → Arrival = λ l. get_or l 0 (record { receiver = 0; vector = [] }) in
          let same = sym arriving ∙ w.0 ∙ arriving' in
          rw (is_there_lem, is-there')
          (deliver_same m lent x y found-x found-y (ap (λ (l : List Arrival). (f l).receiver) same) (ap (λ (l : List Arrival). (f l).vector) same) o (rw (is_there_lem, is-there', found-x, found-y) at w.1))

  own_lose : (m : ℕ) → leak set s (made (lose m)) ≡ leak set t (made (lose m)) → Same owned (console_answered (owner set) s (made (lose m))) (console_answered (owner set) t (made (lose m)))
  unfolding leak is_there console_answered console_lose denied_message may answered
  own_lose m e = by_arrivals (arrived set s m) (arrived set t m)
    where
      same : is_there set s m ≡ is_there set t m
      same = same_there _ _ e

      by_arrivals : Arrived set s m → Arrived set t m → Same owned (console_answered (owner set) s (made (lose m))) (console_answered (owner set) t (made (lose m)))
      by_arrivals (absent x away) (absent y gone) = rw (away, gone) (refl, a)
      by_arrivals (absent x away) (present y found-y o arriving is_there_lem) = never_both (is_there set s m) (same ∙ is_there_lem) away
      by_arrivals (present x found-x o arriving is_there_lem) (absent y gone) = never_both (is_there set t m) (sym same ∙ is_there_lem) gone
      by_arrivals (present x found-x o arriving is_there_lem) (present y found-y o' arriving' is-there') = rw (is_there_lem, is-there') (lose_same m x y found-x found-y)

  -- Any call of the owner's. A recovery, the earliest line and the counts are denied it.
  pub own_same : ConsoleReached s → ConsoleReached t → (k : Asked) → leak set s k ≡ leak set t k → Same owned (console_answered (owner set) s k) (console_answered (owner set) t k)
  unfolding leak console_answered answered console_recover console_earliest console_counts denied may
  own_same vs vt (made (checkpoint i lent)) e = own_checkpoint i lent e
  own_same vs vt (made (send i k)) e = own_send i k e
  own_same vs vt (made (deliver m lent)) e = own_deliver m lent e
  own_same vs vt (made (lose m)) e = own_lose m e
  own_same vs vt (made (recover F deleted lent)) e = (refl, a)
  own_same vs vt (made (line F lent)) e = line_same F lent (same_members _ _ e)
  own_same vs vt (made (earliest l lent)) e = (refl, a)
  own_same vs vt (list lent) e = list_same vs vt lent
  own_same vs vt (counts lent) e = (refl, a)
