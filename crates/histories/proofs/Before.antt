-- The part of a list before a send: what stands in it, and that steps leave it alone.
-- Assumes nothing.
use Rattle.std.specs.Prelude.{◌≡◌, ◌∷◌, ◌++◌, ◌⊎◌, ◌≤◌}
use Rattle.laws.specs.Basics.{refl, sym, ap, false, List, [], inl, inr, ℕ, zero, suc, arith, eqb, eq-eqb, eqb-true, by_bool}
use mathlib.Core.List.Memᴰ
use mathlib.Core.List.{Memᴰ}
use Rattle.laws.specs.Truth.{never_both}
use Rattle.histories.specs.History.{HistoryEvent, stored, sent, received, checkpoints, up_to, before}
use Rattle.histories.proofs.{Apart.same_sent, Apart.sent_stored, Apart.sent_received, Places.Stands, Places.first, Places.stands_cases}
use Rattle.histories.proofs.Cuts.{past_stored, past_sent, past_received, stands_member, member_stands}

not_sent : (m k : ℕ) → eqb k m ≡ false → sent m ≡ sent k → ⊥
not_sent m k e q = never_both (eqb k m) (eq-eqb k m (sym (same_sent m k q))) e

-- An element of a list with a first one that is not it.
rest : {e x : HistoryEvent} {l : List HistoryEvent} → (e ≡ x → ⊥) → Memᴰ e (x ∷ l) → Memᴰ e l
rest ne s = elim (Memᴰ.cases_cons s) [ inl e ↦ absurd (ne e) | inr t ↦ t ]

-- The send stands in the interval where the part before it ends.
pub before_stands : (m : ℕ) (l : List HistoryEvent) → Memᴰ (sent m) l → Stands (sent m) (checkpoints (before m l)) l
unfolding before checkpoints
before_stands m [] s = absurd (Memᴰ.not-nil s)
before_stands m (stored ∷ l) s = past_stored (before_stands m l (rest (sent_stored m) s))
before_stands m (received k ∷ l) s = past_received k (before_stands m l (rest (sent_received m k) s))
before_stands m (sent k ∷ l) s = by_bool (eqb k m)
    (λ e. rw e (first (ap sent (sym (eqb-true k m e))) refl))
    (λ e. rw e (past_sent k (before_stands m l (rest (not_sent m k e) s))))

-- What stands in that part stands in the list, in an interval up to that one.
pub before_out : (m : ℕ) (l : List HistoryEvent) {e : HistoryEvent} → Memᴰ e (before m l) → (g : ℕ) × Stands e g l × (g ≤ checkpoints (before m l))
unfolding before checkpoints
before_out m [] s = absurd (Memᴰ.not-nil s)
before_out m (stored ∷ l) s = elim (Memᴰ.cases_cons s) [
  | inl e ↦ (0, first e refl, omega arith)
  | inr t ↦ (let w = before_out m l t in (suc w.0, past_stored w.1, omega (arith, w.2)))
]
before_out m (received k ∷ l) s = elim (Memᴰ.cases_cons s) [
  | inl e ↦ (0, first e refl, omega arith)
  | inr t ↦ (let w = before_out m l t in (w.0, past_received k w.1, w.2))
]
before_out m (sent k ∷ l) s = by_bool (eqb k m)
    (λ e. absurd (Memᴰ.not-nil (rw e at s)))
    (λ e. rw e (elim (Memᴰ.cases_cons (rw e at s)) [
      | inl q ↦ (0, first q refl, omega arith)
      | inr t ↦ (let w = before_out m l t in (w.0, past_sent k w.1, w.2))
    ]))

-- One more event at the end leaves it alone.
pub before_end : (m : ℕ) (l : List HistoryEvent) (x : HistoryEvent) → Memᴰ (sent m) l → before m (l ++ (x ∷ [])) ≡ before m l
unfolding before
before_end m [] x s = absurd (Memᴰ.not-nil s)
before_end m (stored ∷ l) x s = ap (λ (t : List HistoryEvent). stored ∷ t) (before_end m l x (rest (sent_stored m) s))
before_end m (received k ∷ l) x s = ap (λ (t : List HistoryEvent). received k ∷ t) (before_end m l x (rest (sent_received m k) s))
before_end m (sent k ∷ l) x s = by_bool (eqb k m)
    (λ e. rw e)
    (λ e. rw e (ap (λ (t : List HistoryEvent). sent k ∷ t) (before_end m l x (rest (not_sent m k e) s))))

-- Before a send at the end stands the whole list, if it has no such send.
pub before_new : (m : ℕ) (l : List HistoryEvent) → (Memᴰ (sent m) l → ⊥) → before m (l ++ (sent m ∷ [])) ≡ l
unfolding before
before_new m [] fresh = rw (eq-eqb m m refl)
before_new m (stored ∷ l) fresh = ap (λ (t : List HistoryEvent). stored ∷ t) (before_new m l (λ s. fresh (Memᴰ.tail s)))
before_new m (received k ∷ l) fresh = ap (λ (t : List HistoryEvent). received k ∷ t) (before_new m l (λ s. fresh (Memᴰ.tail s)))
before_new m (sent k ∷ l) fresh = by_bool (eqb k m)
    (λ e. absurd (fresh (Memᴰ.head (ap sent (sym (eqb-true k m e))))))
    (λ e. rw e (ap (λ (t : List HistoryEvent). sent k ∷ t) (before_new m l (λ s. fresh (Memᴰ.tail s)))))

-- A cut after the send leaves it alone.
pub before_up_to : (m k : ℕ) (l : List HistoryEvent) → Memᴰ (sent m) (up_to k l) → before m (up_to k l) ≡ before m l
unfolding before up_to
before_up_to m k [] s = absurd (Memᴰ.not-nil s)
before_up_to m zero (stored ∷ l) s = absurd (Memᴰ.not-nil (rest (sent_stored m) s))
before_up_to m (suc k) (stored ∷ l) s = ap (λ (t : List HistoryEvent). stored ∷ t) (before_up_to m k l (rest (sent_stored m) s))
before_up_to m k (received j ∷ l) s = ap (λ (t : List HistoryEvent). received j ∷ t) (before_up_to m k l (rest (sent_received m j) s))
before_up_to m k (sent j ∷ l) s = by_bool (eqb j m)
    (λ e. rw e)
    (λ e. rw e (ap (λ (t : List HistoryEvent). sent j ∷ t) (before_up_to m k l (rest (not_sent m j e) s))))

-- An element of a list with one more at the end.
pub member_end : {e : HistoryEvent} (l : List HistoryEvent) (x : HistoryEvent) → Memᴰ e (l ++ (x ∷ [])) → (e ≡ x) ⊎ Memᴰ e l
member_end l x s = elim (stands_cases l x (member_stands (l ++ (x ∷ [])) s).1) [ inl w ↦ inl w.0 | inr w ↦ inr (stands_member l w) ]
