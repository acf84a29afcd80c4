-- Places in one list: which interval an event at a place stands in, and the places of its states.
-- Assumes nothing.
use Rattle.std.specs.Prelude.{◌≡◌, ◌∷◌, ◌≤◌, ◌<◌}
use Rattle.laws.specs.Basics.{refl, sym, List, [], Some, ℕ, zero, suc, arith, ltb, length, ltb-true, ltb-false, by_bool, by_eq}
use Rattle.laws.specs.Options.{some_same, none≢some}
use Rattle.histories.specs.History.{HistoryEvent, stored, sent, received, Lists, checkpoints}
use Rattle.theory_patterns.specs.Paths.{event_at, interval, StandsIn, place_of, Precedes, next, through}

-- A list that is checkpoint 0 alone has no other event.
pub first_event : (i : ℕ) (e : HistoryEvent) → event_at (stored ∷ []) i ≡ Some e → e ≡ stored
unfolding event_at
first_event zero e h = sym (some_same h)
first_event (suc i) e h = absurd (none≢some h)

-- The interval of an event is that of its place, and at most the live one.
pub stands_at : (l : List HistoryEvent) (i : ℕ) (e : HistoryEvent) → event_at l i ≡ Some e → StandsIn e (interval l i) l
stands_at l i e h = (i, h, refl)

pub interval_le : (l : List HistoryEvent) (i : ℕ) → interval l i ≤ checkpoints l
unfolding interval checkpoints
interval_le [] i = omega arith
interval_le (e ∷ l) zero = omega arith
interval_le (stored ∷ l) (suc i) = omega (arith, interval_le l i)
interval_le (sent m ∷ l) (suc i) = interval_le l i
interval_le (received m ∷ l) (suc i) = interval_le l i

pub stands_le : {e : HistoryEvent} {g : ℕ} (l : List HistoryEvent) → StandsIn e g l → g ≤ checkpoints l
stands_le l s = omega (arith, s.2, interval_le l s.0)

-- An event at or before state k has an interval of at most k; one after a checkpoint k has one above k.
pub interval_before : (l : List HistoryEvent) (i k : ℕ) → i ≤ place_of k l → interval l i ≤ k
unfolding interval place_of
interval_before [] i k h = omega arith
interval_before (x ∷ l) zero k h = omega arith
interval_before (stored ∷ l) (suc i) zero h = absurd (omega arith)
interval_before (stored ∷ l) (suc i) (suc k) h = omega (arith, interval_before l i k (omega arith))
interval_before (sent m ∷ l) (suc i) k h = interval_before l i k (omega arith)
interval_before (received m ∷ l) (suc i) k h = interval_before l i k (omega arith)

pub interval_after : (l : List HistoryEvent) (i k : ℕ) → k < checkpoints l → place_of k l < i → k < interval l i
unfolding interval place_of checkpoints
interval_after [] i k c h = absurd (omega arith)
interval_after (x ∷ l) zero k c h = absurd (omega arith)
interval_after (stored ∷ l) (suc i) zero c h = omega arith
interval_after (stored ∷ l) (suc i) (suc k) c h = omega (arith, interval_after l i k (omega arith) (omega arith))
interval_after (sent m ∷ l) (suc i) k c h = interval_after l i k c (omega arith)
interval_after (received m ∷ l) (suc i) k c h = interval_after l i k c (omega arith)

-- A place in a later interval than k comes after checkpoint k.
pub place_before : (l : List HistoryEvent) (i k : ℕ) → k < interval l i → place_of k l < i
place_before l i k h = by_bool (ltb (place_of k l) i)
    (λ e. ltb-true (place_of k l) i e)
    (λ e. absurd (omega (arith, h, interval_before l i k (ltb-false (place_of k l) i e))))

-- The place of a checkpoint holds a checkpoint, that of the live state no event.
pub place_stored : (l : List HistoryEvent) (k : ℕ) → k < checkpoints l → event_at l (place_of k l) ≡ Some stored
unfolding event_at place_of checkpoints
place_stored [] k h = absurd (omega arith)
place_stored (stored ∷ l) zero h = refl
place_stored (stored ∷ l) (suc k) h = place_stored l k (omega arith)
place_stored (sent m ∷ l) k h = place_stored l k h
place_stored (received m ∷ l) k h = place_stored l k h

pub place_le : (l : List HistoryEvent) (k : ℕ) → place_of k l ≤ length l
unfolding place_of
place_le [] k = omega arith
place_le (stored ∷ l) zero = omega arith
place_le (stored ∷ l) (suc k) = omega (arith, place_le l k)
place_le (sent m ∷ l) k = omega (arith, place_le l k)
place_le (received m ∷ l) k = omega (arith, place_le l k)

-- The place after the last checkpoint is the end of the list.
pub place_end : (l : List HistoryEvent) (k : ℕ) → checkpoints l ≤ k → place_of k l ≡ length l
unfolding place_of checkpoints
place_end [] k h = refl
place_end (stored ∷ l) zero h = absurd (omega arith)
place_end (stored ∷ l) (suc k) h = omega (arith, place_end l k (omega arith))
place_end (sent m ∷ l) k h = omega (arith, place_end l k h)
place_end (received m ∷ l) k h = omega (arith, place_end l k h)

pub place_rises : (l : List HistoryEvent) (j k : ℕ) → j < k → k ≤ checkpoints l → place_of j l < place_of k l
unfolding place_of checkpoints
place_rises [] j k h c = absurd (omega arith)
place_rises (stored ∷ l) zero zero h c = absurd (omega arith)
place_rises (stored ∷ l) zero (suc k) h c = omega arith
place_rises (stored ∷ l) (suc j) zero h c = absurd (omega arith)
place_rises (stored ∷ l) (suc j) (suc k) h c = omega (arith, place_rises l j k (omega arith) (omega arith))
place_rises (sent m ∷ l) j k h c = omega (arith, place_rises l j k h c)
place_rises (received m ∷ l) j k h c = omega (arith, place_rises l j k h c)

-- A place with an event is in the list.
pub place_in : (l : List HistoryEvent) (i : ℕ) (e : HistoryEvent) → event_at l i ≡ Some e → i < length l
unfolding event_at
place_in [] i e h = absurd (none≢some h)
place_in (x ∷ l) zero e h = omega arith
place_in (x ∷ l) (suc i) e h = omega (arith, place_in l i e h)

-- An event precedes every later place of its list.
pub along : (lists : Lists) (p i k : ℕ) → i < k → k ≤ length (lists p) → Precedes lists p i p k
along lists p i zero h c = absurd (omega arith)
along lists p i (suc k) h c = by_eq i k
    (λ e. rw e (next {p = p} {i = k} (omega arith)))
    (λ ne. through (along lists p i k (omega arith) (omega arith)) (next {p = p} {i = k} (omega arith)))
