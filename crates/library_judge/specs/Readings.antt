-- What a record does to what is read.
-- Assumes nothing.
use Prim.{tt}
use Rattle.std.specs.Prelude.{◌≡◌, ◌&&◌, ◌∷◌, ◌+◌, ◌-◌, ◌≤◌, ◌<◌, Result, Ok, Err}
use Rattle.laws.specs.Basics.{refl, sym, ◌∙◌, ap, Bool, false, not, List, [], Option, None, Some, ℕ, zero, suc, arith, eqb, ltb, leb, length, get_or, set, replicate, length-set, length-replicate, get_or-replicate, get_or-set_same, get_or-set_other, eq-eqb, ne_eqb, lt-ltb, ltb-true, le-leb, lt-leb, pick, by_bool, by_eq}
use Rattle.laws.specs.Options.{some_same, none≢some}
use Rattle.theory_patterns.specs.Patterns.{most_judged}
use Rattle.model.specs.{declared.Interval.Interval, declared.Refusal.Refusal, Steps.advanced, Steps.taken_vector, Steps.started}
use Rattle.model.specs.declared.Refusal.TheVariants.{NoSuchProcess, NotUnderWay, IntervalsUsed}
use Rattle.model.specs.{Words.entry, Words.most_interval, Words.most_processes, Words.most_under_way, Words.most_messages, Words.ones, Refusals.first_of}
use Rattle.whole_runs.specs.Outcomes.{judged}
use Rattle.admissions.specs.Admissions.{Admission, refusal_of, send_admission_of}
use Rattle.admissions.proofs.Cases.{accepted_send}
use Rattle.library_judge.specs.decision.Rows.{no_state, owner_at, vector_at, entry_at, from_at, carried_at, mark_at, most_rows, put_length, put_same, put_other}
use Rattle.library_judge.specs.declared.{pattern.State.State, pattern.Sent.Sent, pattern.Fate.Fate, reading.Reading.Reading, reading.Found.Found}
use Rattle.library_judge.specs.declared.pattern.Fate.TheVariants.{Lost, UnderWay, Received}

-- The answer to a record with this refusal, or with none; and what is read after it: a record that is refused changes nothing.
abbrev pub answer_by : Option Refusal → Result (Unit {0}) Refusal
answer_by None = Ok tt
answer_by (Some why) = Err why

abbrev pub read_by : Option Refusal → Reading → Reading → Reading
read_by o old new = judged o (λ why. old) new

-- A new live state of process i.
unfoldable pub with_state : Reading → ℕ → List Interval → Reading
with_state R i v = record {
  states = set R.states R.rows (record { process = i; vector = v });
  rows = R.rows + 1;
  current = set R.current i R.rows;
  messages = R.messages;
  last = R.last;
  underway = R.underway;
}

-- The row and the vector of the live state of a process.
abbrev pub live_row : Reading → ℕ → ℕ
live_row R i = get_or R.current i 0

abbrev pub live_vector : Reading → ℕ → List Interval
live_vector R i = vector_at R.states (live_row R i)

-- A checkpoint. There is room for one more row.
pub record EnoughRoom (n : ℕ) (R : Reading) : Type 0 where
  pub few : n ≤ most_processes
  pub rows : R.rows < most_rows
  pub current : (p : ℕ) → p < n → live_row R p < most_rows

unfoldable pub checkpoint_refusal : ℕ → Reading → ℕ → Option Refusal
checkpoint_refusal n R i = first_of (
    record { holds = leb n i; gives = NoSuchProcess }
    ∷ record { holds = leb most_interval (entry (live_vector R i) i).0; gives = IntervalsUsed }
    ∷ [])

abbrev pub with_checkpoint : Reading → ℕ → Reading
with_checkpoint R i = with_state R i (advanced i (live_vector R i))

-- The three ends of a checkpoint.
pub checkpoint_absent : (n : ℕ) (R : Reading) (i : ℕ) → n ≤ i → checkpoint_refusal n R i ≡ Some NoSuchProcess
unfolding checkpoint_refusal first_of
checkpoint_absent n R i h = rw (le-leb n i h)

module _ (n : ℕ) (R : Reading) (i : ℕ) (v : List Interval) (is : v ≡ live_vector R i) (h : i < n) where
  pub checkpoint_full : most_interval ≤ (entry v i).0 → checkpoint_refusal n R i ≡ Some IntervalsUsed
  unfolding checkpoint_refusal first_of
  checkpoint_full e = rw (lt-leb n i h, le-leb most_interval (entry (live_vector R i) i).0 (omega (arith, e, ap (λ (w : List Interval). (entry w i).0) is)))

  pub checkpoint_free : (entry v i).0 < most_interval → checkpoint_refusal n R i ≡ None
  unfolding checkpoint_refusal first_of
  checkpoint_free e = rw (lt-leb n i h, lt-leb most_interval (entry (live_vector R i) i).0 (omega (arith, e, ap (λ (w : List Interval). (entry w i).0) is)))

module _ (n : ℕ) (R : Reading) (i : ℕ) where
  pub checkpoint_refused : (why : Refusal) → checkpoint_refusal n R i ≡ Some why
      → (Err why ≡ answer_by (checkpoint_refusal n R i)) × (R ≡ read_by (checkpoint_refusal n R i) R (with_checkpoint R i))
  checkpoint_refused why e = (rw e refl, rw e refl)

  pub checkpoint_taken : checkpoint_refusal n R i ≡ None → (v : List Interval) → v ≡ live_vector R i
      → (Ok tt ≡ answer_by (checkpoint_refusal n R i)) × (with_state R i (advanced i v) ≡ read_by (checkpoint_refusal n R i) R (with_checkpoint R i))
      × (set R.states R.rows (record { process = i; vector = advanced i v }) ≡ (read_by (checkpoint_refusal n R i) R (with_checkpoint R i)).states)
  unfolding with_state
  checkpoint_taken e v is = (rw e refl, rw (e, is) refl, rw (e, is) refl)

-- A send. There is room for one more message.
pub record SendRoom (n : ℕ) (R : Reading) : Type 0 where
  pub few : n ≤ most_processes
  pub underway : R.underway ≤ most_under_way
  pub last : R.last < most_judged
  pub current : (p : ℕ) → p < n → live_row R p < most_rows

unfoldable pub send_refusal : ℕ → Reading → ℕ → ℕ → Option Refusal
send_refusal n R i j = refusal_of (send_admission_of i j n R.underway R.last)

unfoldable pub with_message : Reading → ℕ → ℕ → Reading
with_message R i j = record {
  states = R.states;
  rows = R.rows;
  current = R.current;
  messages = set R.messages R.last (record { from = live_row R i; carried = live_vector R i; fate = UnderWay j });
  last = R.last + 1;
  underway = R.underway + 1;
}

-- A send that is not refused; and the two ends of a send, by the answer of `send_refusal`.
pub send_free : (n : ℕ) (R : Reading) (i j : ℕ) → send_refusal n R i j ≡ None → (i < n) × (j < n) × (R.underway < most_under_way) × (R.last < most_messages)
unfolding send_refusal
send_free n R i j e = accepted_send i j n R.underway R.last (accepted _ e)
  where
    accepted : (v : Admission) → refusal_of v ≡ None → v ≡ Ok tt
    accepted (Ok tt) d = refl
    accepted (Err why) d = unfold refusal_of in absurd (let z : ◌≡◌ {A = ℕ} 0 1 = cc in omega arith)

-- What its admission says of it.
module _ (n : ℕ) (R : Reading) (i j : ℕ) (r : Admission) (is : r ≡ send_admission_of i j n R.underway R.last) where
  pub refused_is : (why : Refusal) → r ≡ Err why → send_refusal n R i j ≡ Some why
  unfolding send_refusal refusal_of
  refused_is why e = ap refusal_of (sym is ∙ e)

  pub taken_is : r ≡ Ok tt → send_refusal n R i j ≡ None
  unfolding send_refusal refusal_of
  taken_is e = ap refusal_of (sym is ∙ e)

module _ (n : ℕ) (R : Reading) (i j : ℕ) where
  pub send_refused : (why : Refusal) → send_refusal n R i j ≡ Some why
      → (Err why ≡ answer_by (send_refusal n R i j)) × (R ≡ read_by (send_refusal n R i j) R (with_message R i j))
  send_refused why e = (rw e refl, rw e refl)

  pub send_taken : send_refusal n R i j ≡ None
      → (Ok tt ≡ answer_by (send_refusal n R i j)) × (with_message R i j ≡ read_by (send_refusal n R i j) R (with_message R i j))
      × (set R.messages R.last (record { from = live_row R i; carried = live_vector R i; fate = UnderWay j }) ≡ (read_by (send_refusal n R i j) R (with_message R i j)).messages)
  unfolding with_message
  send_taken e = (rw e refl, rw e refl, rw e refl)

-- A message that a record names. None has number 0.
unfoldable pub is_under_way : List Sent → ℕ → ℕ → Bool
is_under_way messages last zero = false
is_under_way messages last (suc place) = ltb place last && not (eqb (mark_at messages place) 0)

unfoldable pub found_in_of : Reading → ℕ → Option Found
found_in_of R zero = None
found_in_of R (suc place) = pick (is_under_way R.messages R.last (suc place)) (Some (record { place = place; receiver = mark_at R.messages place - 1 })) None

module _ (R : Reading) where
  pub found_there : (m q : ℕ) → 1 ≤ m → m - 1 < R.last → (mark_at R.messages (m - 1) ≡ 0 → ⊥) → q ≡ mark_at R.messages (m - 1)
      → Some (record { place = m - 1; receiver = q - 1 }) ≡ found_in_of R m
  unfolding found_in_of is_under_way
  found_there zero q h lt ne e = absurd (omega arith)
  found_there (suc y) q h lt ne e =
      let same : suc y - 1 ≡ y = omega arith in
      rw same (let low : y < R.last = rw same at lt in
      let mark : mark_at R.messages y ≡ 0 → ⊥ = rw same at ne in
      let value : q ≡ mark_at R.messages y = rw same at e in
      rw (lt-ltb y R.last low, ne_eqb (mark_at R.messages y) 0 mark, value) refl)

  pub found_none : (m : ℕ) → (1 ≤ m → m - 1 < R.last → mark_at R.messages (m - 1) ≡ 0) → None ≡ found_in_of R m
  unfolding found_in_of is_under_way
  found_none zero h = refl
  found_none (suc y) h = by_bool (ltb y R.last)
      (λ e. let same : suc y - 1 ≡ y = omega arith in
      let mark : mark_at R.messages y ≡ 0 = rw same at (h (omega arith) (omega (arith, ltb-true y R.last e))) in
      rw (e, eq-eqb (mark_at R.messages y) 0 mark) refl)
      (λ e. rw e refl)

  -- What is found has a place below the messages' number.
  pub found_low : (m : ℕ) (f : Found) → found_in_of R m ≡ Some f → f.place < R.last
  unfolding found_in_of is_under_way
  found_low zero f = λ e. absurd (none≢some e)
  found_low (suc y) f = by_bool (ltb y R.last)
      (λ a. by_bool (eqb (mark_at R.messages y) 0)
      (λ b. rw (a, b) (λ e. absurd (none≢some e)))
      (λ b. rw (a, b) (λ e. omega (arith, ltb-true y R.last a, ap (λ (x : Found). x.place) (some_same e)))))
      (λ a. rw a (λ e. absurd (none≢some e)))

-- The same of an option equal to what is found.
pub is_found : (f g : Option Found) (x : Found) → f ≡ g → f ≡ Some x → g ≡ Some x
is_found f g x e t = sym e ∙ t

pub place_low : (f : Option Found) (R : Reading) (m : ℕ) (x : Found) → f ≡ found_in_of R m → f ≡ Some x → x.place < R.last
place_low f R m x e t = found_low R m x (is_found f _ x e t)

-- It is no longer under way: it is lost, or it is received.
unfoldable pub settled : Reading → ℕ → Fate → Reading
settled R place fate = record {
  states = R.states;
  rows = R.rows;
  current = R.current;
  messages = set R.messages place (record { from = from_at R.messages place; carried = carried_at R.messages place; fate = fate });
  last = R.last;
  underway = R.underway - 1;
}

-- What the number of messages becomes where none is under way.
pub one_less : (R : Reading) (place : ℕ) (fate : Fate) → R.underway ≡ 0
    → record { states = R.states; rows = R.rows; current = R.current; messages = (settled R place fate).messages; last = R.last; underway = R.underway } ≡ settled R place fate
unfolding settled
one_less R place fate e = ap (λ (u : ℕ). record { states = R.states; rows = R.rows; current = R.current; messages = (settled R place fate).messages; last = R.last; underway = u }) (omega (arith, e))

abbrev pub drop_refusal : Option Found → Option Refusal
drop_refusal None = Some NotUnderWay
drop_refusal (Some f) = None

abbrev pub lost_of : Reading → Option Found → Reading
lost_of R None = R
lost_of R (Some f) = settled R f.place Lost

-- The two ends of a loss.
module _ (R : Reading) (f g : Option Found) (is : f ≡ g) where
  pub drop_none : f ≡ None → (Err NotUnderWay ≡ answer_by (drop_refusal g)) × (R ≡ lost_of R g)
  drop_none t = let e : g ≡ None = sym is ∙ t in (rw e refl, rw e refl)

  pub drop_one : (x : Found) → f ≡ Some x
      → (Ok tt ≡ answer_by (drop_refusal g)) × (settled R x.place Lost ≡ lost_of R g)
      × (set R.messages x.place (record { from = from_at R.messages x.place; carried = carried_at R.messages x.place; fate = Lost }) ≡ (lost_of R g).messages)
  unfolding settled
  drop_one x t = let e = is_found f g x is t in (rw e refl, rw e refl, rw e refl)

-- A delivery: the state of a row has taken in what a message carries.
unfoldable pub with_receipt : Reading → ℕ → List Interval → Reading
with_receipt R row news = record {
  states = set R.states row (record { process = owner_at R.states row; vector = taken_vector (vector_at R.states row) news });
  rows = R.rows;
  current = R.current;
  messages = R.messages;
  last = R.last;
  underway = R.underway;
}

-- What the two vectors that are read come to.
pub receipt_is : (R : Reading) (row place : ℕ) (own news most : List Interval) → own ≡ vector_at R.states row → news ≡ carried_at R.messages place → most ≡ taken_vector own news
    → set R.states row (record { process = owner_at R.states row; vector = most }) ≡ (with_receipt R row (carried_at R.messages place)).states
unfolding with_receipt
receipt_is R row place own news most e d b = rw (b, e, d) refl

abbrev pub received_of : Reading → Option Found → Reading
received_of R None = R
received_of R (Some f) = settled (with_receipt R (live_row R f.receiver) (carried_at R.messages f.place)) f.place (Received (live_row R f.receiver))

-- The two ends of a delivery.
module _ (R : Reading) (f g : Option Found) (is : f ≡ g) where
  pub deliver_none : f ≡ None → (Err NotUnderWay ≡ answer_by (drop_refusal g)) × (R ≡ received_of R g)
  deliver_none t = let e : g ≡ None = sym is ∙ t in (rw e refl, rw e refl)

  pub deliver_one : (x : Found) → f ≡ Some x
      → (Ok tt ≡ answer_by (drop_refusal g))
      × (settled (with_receipt R (live_row R x.receiver) (carried_at R.messages x.place)) x.place (Received (live_row R x.receiver)) ≡ received_of R g)
      × ((with_receipt R (live_row R x.receiver) (carried_at R.messages x.place)).states ≡ (received_of R g).states)
      × (set R.messages x.place (record { from = from_at R.messages x.place; carried = carried_at R.messages x.place; fate = Received (live_row R x.receiver) }) ≡ (received_of R g).messages)
  unfolding settled with_receipt
  deliver_one x t = let e = is_found f g x is t in (rw e refl, rw e refl, rw e refl, rw e refl)

-- There are the rows that it names.
pub record DeliverRoom (R : Reading) (m : ℕ) : Type 0 where
  pub last : R.last ≤ most_judged
  pub receiver : (f : Found) → found_in_of R m ≡ Some f → f.receiver < most_processes
  pub current : (f : Found) → found_in_of R m ≡ Some f → live_row R f.receiver < most_rows

-- The start.
-- Below n, row p is the first state of process p, and its live row.
pub record FirstStates (n : ℕ) (states : List State) (current : List ℕ) : Type 0 where
  pub vector : (p f : ℕ) → p < n → f < most_processes → entry_at states p f ≡ pick (eqb p f) 1 0
  pub wide : (p : ℕ) → p < n → length (vector_at states p) ≡ most_processes
  pub owner : (p : ℕ) → p < n → owner_at states p ≡ p
  pub live : (p : ℕ) → p < n → get_or current p 0 ≡ p

pub record FirstRows (n : ℕ) (R : Reading) : Type 0 where
  pub first : FirstStates n R.states R.current
  pub rows : R.rows ≡ n
  pub last : R.last ≡ 0
  pub underway : R.underway ≡ 0
  pub room : length R.states ≡ most_rows
  pub sent_room : length R.messages ≡ most_judged
  pub places : length R.current ≡ most_processes

-- Entry f of the first vector of p, and how many entries it has.
pub first_entry : (p f : ℕ) → p < most_processes → f < most_processes → (entry (started ones p).vector f).0 ≡ pick (eqb p f) 1 0
unfolding started
first_entry p f lp lf = by_eq f p
    (λ e. rw (e, eq-eqb p p refl) (ap (λ (x : Interval). x.0) (get_or-set_same (replicate most_processes (record { 0 = 0 })) p (record { 0 = 1 }) (record { 0 = 0 }) (omega (arith, length-replicate {A = Interval} most_processes (record { 0 = 0 }))))))
    (λ ne. rw (ne_eqb p f (λ e. ne (sym e)))
    (ap (λ (x : Interval). x.0) (get_or-set_other (replicate most_processes (record { 0 = 0 })) p f (record { 0 = 1 }) (record { 0 = 0 }) ne ∙ get_or-replicate most_processes f (record { 0 = 0 }) (record { 0 = 0 }) lf)))

first_long : (p : ℕ) → length (started ones p).vector ≡ most_processes
unfolding started
first_long p = length-set (replicate most_processes (record { 0 = 0 })) p (record { 0 = 1 }) ∙ length-replicate {A = Interval} most_processes (record { 0 = 0 })

-- No state yet.
pub first_none : (states : List State) → FirstStates 0 states (replicate most_processes 0) × (length (replicate {A = ℕ} most_processes 0) ≡ most_processes)
first_none states = (
  record { vector = λ p f h. absurd (omega arith); wide = λ p h. absurd (omega arith); owner = λ p h. absurd (omega arith); live = λ p h. absurd (omega arith) },
  length-replicate {A = ℕ} most_processes 0,
)

-- One more state.
module _ (p : ℕ) (R : Reading) (v : List Interval) (lp : p < most_processes) (room : most_rows ≤ length R.states) (places : length R.current ≡ most_processes) (rows : R.rows ≡ p)
    (e : v ≡ (started ones p).vector) (h : FirstStates p R.states R.current) where
  pub first_more : FirstStates (p + 1) (with_state R p v).states (with_state R p v).current × (length (with_state R p v).current ≡ most_processes)
  unfolding with_state
  first_more =
      let x : State = record { process = p; vector = v } in
      let here : get_or (set R.states R.rows x) p no_state ≡ x =
      ap (λ (r : ℕ). get_or (set R.states r x) p no_state) rows ∙ put_same R.states p x (omega (arith, room)) in
      let there : (q : ℕ) → (q ≡ p → ⊥) → get_or (set R.states R.rows x) q no_state ≡ get_or R.states q no_state =
      λ q ne. put_other R.states R.rows x q (λ d. ne (d ∙ rows)) in (
        record {
          vector = λ q f lq lf. by_eq q p
              (λ d. rw d (ap (λ (z : State). (entry z.vector f).0) here ∙ ap (λ (z : List Interval). (entry z f).0) e ∙ first_entry p f lp lf))
              (λ ne. ap (λ (z : State). (entry z.vector f).0) (there q ne) ∙ h.vector q f (omega arith) lf);
          wide = λ q lq. by_eq q p
              (λ d. rw d (ap (λ (z : State). length z.vector) here ∙ ap length e ∙ first_long p))
              (λ ne. ap (λ (z : State). length z.vector) (there q ne) ∙ h.wide q (omega arith));
          owner = λ q lq. by_eq q p
              (λ d. rw d (ap (λ (z : State). z.process) here))
              (λ ne. ap (λ (z : State). z.process) (there q ne) ∙ h.owner q (omega arith));
          live = λ q lq. by_eq q p
              (λ d. rw d (get_or-set_same R.current p R.rows 0 (omega (arith, places)) ∙ rows))
              (λ ne. get_or-set_other R.current p q R.rows 0 ne ∙ h.live q (omega arith));
        },
        length-set R.current p R.rows ∙ places,
      )

  pub first_step : (R' : Reading) → R' ≡ with_state R p v → (length R'.states ≡ length R.states) × FirstStates (p + 1) R'.states R'.current × (length R'.current ≡ most_processes)
  unfolding with_state
  first_step R' d = rw d (put_length R.states R.rows (record { process = p; vector = v }), first_more.0, first_more.1)
