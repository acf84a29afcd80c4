-- How often an event stands in a list, and that it stands there once.
use Rattle.std.specs.Prelude.{◌≡◌, ◌∷◌, ◌++◌, ◌+◌, ◌≤◌}
use Rattle.laws.specs.Basics.{refl, sym, ◌∙◌, ap, Bool, true, false, List, [], inl, inr, ℕ, zero, suc, arith, eqb, eq-eqb, eqb-true, pick, by_bool}
use Rattle.laws.specs.Truth.{never_both}
use Rattle.histories.specs.History.{HistoryEvent, stored, sent, received, up_to}
use Rattle.histories.proofs.Places.{Stands, first, later, weight, stands_cons, stands_nil}

-- Two events are the same.
unfoldable pub same : HistoryEvent → HistoryEvent → Bool
same stored stored = true
same (sent m) (sent k) = eqb m k
same (received m) (received k) = eqb m k
same stored (sent k) = false
same stored (received k) = false
same (sent m) stored = false
same (sent m) (received k) = false
same (received m) stored = false
same (received m) (sent k) = false

-- How often an event stands in a list.
unfoldable pub times : HistoryEvent → List HistoryEvent → ℕ
times e [] = 0
times e (x ∷ l) = pick (same e x) (suc (times e l)) (times e l)

-- The test finds equal events.
same_true : (e x : HistoryEvent) → same e x ≡ true → e ≡ x
unfolding same
same_true stored stored q = refl
same_true (sent m) (sent k) q = ap sent (eqb-true m k q)
same_true (received m) (received k) q = ap received (eqb-true m k q)
same_true stored (sent k) q = never_both false q refl
same_true stored (received k) q = never_both false q refl
same_true (sent m) stored q = never_both false q refl
same_true (sent m) (received k) q = never_both false q refl
same_true (received m) stored q = never_both false q refl
same_true (received m) (sent k) q = never_both false q refl

-- An event is the same as itself.
same_self : (e : HistoryEvent) → same e e ≡ true
unfolding same
same_self stored = refl
same_self (sent m) = eq-eqb m m refl
same_self (received m) = eq-eqb m m refl

-- What does not stand in a list stands there no times.
pub times_none : (e : HistoryEvent) (l : List HistoryEvent) → ((g : ℕ) → Stands e g l → ⊥) → times e l ≡ 0
unfolding times
times_none e [] h = refl
times_none e (x ∷ l) h = by_bool (same e x)
    (λ q. absurd (h 0 (first (same_true e x q) refl)))
    (λ q. rw q (times_none e l (λ g s. h (weight x + g) (later s refl))))

-- The rest of a list has an event no more often.
times_tail : (e x : HistoryEvent) (l : List HistoryEvent) → times e l ≤ times e (x ∷ l)
unfolding times
times_tail e x l = by_bool (same e x) (λ q. rw q (omega arith)) (λ q. rw q (omega arith))

-- The first event counts.
times_head : (e x : HistoryEvent) (l : List HistoryEvent) → e ≡ x → times e (x ∷ l) ≡ suc (times e l)
unfolding times
times_head e x l q = rw (← q) (rw (same_self e))

-- What stands in a list stands there at least once.
pub stands_times : {e : HistoryEvent} {g : ℕ} (l : List HistoryEvent) → Stands e g l → 1 ≤ times e l
stands_times [] s = absurd (stands_nil s)
stands_times {e = e} {g = g} (x ∷ l) s = elim (stands_cons s) [
  | inl w ↦ omega (arith, times_head e x l w.0)
  | inr w ↦ omega (arith, times_tail e x l, stands_times {g = w.0} l w.1)
]

-- What stands in a list at most once stands there in one interval.
pub one_place : {e : HistoryEvent} {g h : ℕ} (l : List HistoryEvent) → times e l ≤ 1 → Stands e g l → Stands e h l → g ≡ h
one_place [] few s t = absurd (stands_nil s)
one_place {e = e} {g = g} {h = h} (x ∷ l) few s t = elim (stands_cons s) [
  | inl w ↦ elim (stands_cons t) [
    | inl z ↦ w.1 ∙ sym z.1
    | inr z ↦ absurd (omega (arith, few, times_head e x l w.0, stands_times l z.1))
  ]
  | inr w ↦ elim (stands_cons t) [
    | inl z ↦ absurd (omega (arith, few, times_head e x l z.0, stands_times l w.1))
    | inr z ↦ omega (arith, w.2, z.2, one_place {g = w.0} l (omega (arith, few, times_tail e x l)) w.1 z.1)
  ]
]

-- So does one at the end.
times_end : (e : HistoryEvent) (l : List HistoryEvent) (x : HistoryEvent) → times e (l ++ (x ∷ [])) ≡ times e l + pick (same e x) 1 0
unfolding times
times_end e [] x = by_bool (same e x) (λ q. rw q) (λ q. rw q)
times_end e (y ∷ l) x = by_bool (same e y)
    (λ q. rw q (omega (arith, times_end e l x)))
    (λ q. rw q (times_end e l x))

-- One more event at the end, which does not stand in the list: what stood there at most once still does.
pub single_end : (e : HistoryEvent) (l : List HistoryEvent) (x : HistoryEvent) → times e l ≤ 1 → (e ≡ x → (g : ℕ) → Stands e g l → ⊥) → times e (l ++ (x ∷ [])) ≤ 1
single_end e l x few fresh = by_bool (same e x)
    (λ q. omega (arith, times_end e l x, ap {B = ℕ} (λ b. pick b 1 0) q, times_none e l (fresh (same_true e x q))))
    (λ q. omega (arith, few, times_end e l x, ap {B = ℕ} (λ b. pick b 1 0) q))

-- A part of the list has it no more often.
pub times_up_to : (e : HistoryEvent) (k : ℕ) (l : List HistoryEvent) → times e (up_to k l) ≤ times e l
unfolding times up_to
times_up_to e k [] = omega arith
times_up_to e zero (stored ∷ l) = by_bool (same e stored) (λ q. rw q (omega arith)) (λ q. rw q (omega arith))
times_up_to e (suc k) (stored ∷ l) = by_bool (same e stored) (λ q. rw q (omega (arith, times_up_to e k l))) (λ q. rw q (times_up_to e k l))
times_up_to e k (sent m ∷ l) = by_bool (same e (sent m)) (λ q. rw q (omega (arith, times_up_to e k l))) (λ q. rw q (times_up_to e k l))
times_up_to e k (received m ∷ l) = by_bool (same e (received m)) (λ q. rw q (omega (arith, times_up_to e k l))) (λ q. rw q (times_up_to e k l))
