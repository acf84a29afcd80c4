-- The other half of what a sent mark says: where it is set, a send stands in the live interval, after the last checkpoint. Each step keeps this.
-- Assumes nothing.
use Rattle.std.specs.Prelude.{◌≡◌}
use Rattle.laws.specs.Basics.{refl, sym, ◌∙◌, true, ℕ, suc, by_bool, by_eq}
use Rattle.laws.specs.Truth.{never_both}
use Rattle.histories.specs.History.{sent}
use Rattle.histories.proofs.{Places.Stands, Places.stands_end, Invariant.Inv, Delivered.delivered_forced, Delivered.delivered_plain}
use Rattle.histories.proofs.Run.{Ideal, Failed, begin, checkpointed, sending, forces, taken_in, delivered, lost, rolled, recovered}
use Rattle.histories.proofs.Sending.{sending_own, sending_mark_other, sending_events, sending_events_other}
use Rattle.histories.proofs.CheckpointedViews.{checkpointed_own_other, checkpointed_mark, checkpointed_mark_other, checkpointed_still}
use Rattle.histories.proofs.TakenInViews.{taken_in_own, taken_in_mark, taken_in_still}
use Rattle.histories.proofs.RecoveredViews.{recovered_own_stays, recovered_mark_back, recovered_mark_stays, recovered_events_stays}

-- A process whose mark is set has sent since its last checkpoint.
abbrev pub Marks : Ideal → Type 0
Marks r = (p : ℕ) → r.mark p ≡ true → (m : ℕ) × Stands (sent m) (r.own p) (r.events p)

pub begin_marks : (n : ℕ) → Marks (begin n)
unfolding begin
begin_marks n p e = never_both _ e refl

pub checkpointed_marks : (r : Ideal) (i : ℕ) → Marks r → Marks (checkpointed r i)
checkpointed_marks r i h p e = by_eq p i
    (λ c. never_both ((checkpointed r i).mark i) (rw c at e) (checkpointed_mark r i))
    (λ ne. let w = h p (sym (checkpointed_mark_other r i p ne) ∙ e) in (w.0, rw (checkpointed_own_other r i p ne) (checkpointed_still r i p w.1)))

pub sending_marks : (r : Ideal) (i j : ℕ) → Inv r → Marks r → Marks (sending r i j)
sending_marks r i j v h p e = by_eq p i
    (λ c. rw c (suc r.last, rw (sending_own r i j i, sending_events r i j) (stands_end (r.events i) (v.counted i))))
    (λ ne. let w = h p (sym (sending_mark_other r i j p ne) ∙ e) in (w.0, rw (sending_own r i j p, sending_events_other r i j p ne) w.1))

taken_marks : (r : Ideal) (m : ℕ) → Marks r → Marks (taken_in r m)
taken_marks r m h p e = let w = h p (sym (taken_in_mark r m p) ∙ e) in (w.0, rw (taken_in_own r m p) (taken_in_still r m p w.1))

pub delivered_marks : (r : Ideal) (m : ℕ) → Marks r → Marks (delivered r m)
delivered_marks r m h = by_bool (forces r m)
    (λ e. rw (delivered_forced r m e) (taken_marks (checkpointed r (r.receiver m)) m (checkpointed_marks r (r.receiver m) h)))
    (λ e. rw (delivered_plain r m e) (taken_marks r m h))

pub lost_marks : (r : Ideal) (m : ℕ) → Marks r → Marks (lost r m)
unfolding lost
lost_marks r m h = h

pub recovered_marks : (r : Ideal) (F : Failed) → Marks r → Marks (recovered r F)
recovered_marks r F h p e = by_bool (rolled r F p)
    (λ q. never_both ((recovered r F).mark p) e (recovered_mark_back r F p q))
    (λ q. let w = h p (sym (recovered_mark_stays r F p q) ∙ e) in (w.0, rw (recovered_own_stays r F p q, recovered_events_stays r F p q) w.1))
