-- One more event at the end of one list: what stands where then.
-- Assumes nothing.
use Rattle.std.specs.Prelude.{◌≡◌, ◌∷◌, ◌++◌, ◌⊎◌, ◌≤◌}
use Rattle.laws.specs.Basics.{refl, ◌∙◌, ap, List, [], Some, inl, inr, ℕ, zero, suc, arith, length, by_eq}
use Rattle.laws.specs.{Options.none≢some, Update.upd_same, Update.upd_other}
use Rattle.histories.specs.History.{HistoryEvent, stored, sent, received, Lists, checkpoints}
use Rattle.whole_runs.specs.Survival.{added}
use Rattle.theory_patterns.specs.Paths.{event_at, interval, place_of}

-- In one list.
old_at : (l : List HistoryEvent) (x : HistoryEvent) (i : ℕ) (e : HistoryEvent) → event_at l i ≡ Some e → event_at (l ++ (x ∷ [])) i ≡ Some e
unfolding event_at
old_at [] x i e h = absurd (none≢some h)
old_at (y ∷ l) x zero e h = h
old_at (y ∷ l) x (suc i) e h = old_at l x i e h

new_at : (l : List HistoryEvent) (x : HistoryEvent) → event_at (l ++ (x ∷ [])) (length l) ≡ Some x
unfolding event_at
new_at [] x = refl
new_at (y ∷ l) x = new_at l x

cases_at : (l : List HistoryEvent) (x : HistoryEvent) (i : ℕ) (e : HistoryEvent) → event_at (l ++ (x ∷ [])) i ≡ Some e → (event_at l i ≡ Some e) ⊎ ((i ≡ length l) × (x ≡ e))
unfolding event_at
cases_at [] x zero e h = inr (refl, cc)
cases_at [] x (suc i) e h = absurd (none≢some h)
cases_at (y ∷ l) x zero e h = inl h
cases_at (y ∷ l) x (suc i) e h = elim (cases_at l x i e h) [ inl w ↦ inl w | inr w ↦ inr (omega (arith, w.0), w.1) ]

grows_at : (l : List HistoryEvent) (x : HistoryEvent) (k : ℕ) → place_of k l ≤ place_of k (l ++ (x ∷ []))
unfolding place_of
grows_at [] x k = omega arith
grows_at (stored ∷ l) x zero = omega arith
grows_at (stored ∷ l) x (suc k) = omega (arith, grows_at l x k)
grows_at (sent m ∷ l) x k = omega (arith, grows_at l x k)
grows_at (received m ∷ l) x k = omega (arith, grows_at l x k)

interval_at : (l : List HistoryEvent) (x : HistoryEvent) (i : ℕ) → i ≤ length l → interval (l ++ (x ∷ [])) i ≡ interval l i
unfolding interval
interval_at [] x zero h = refl
interval_at [] x (suc i) h = absurd (omega arith)
interval_at (y ∷ l) x zero h = refl
interval_at (stored ∷ l) x (suc i) h = ap suc (interval_at l x i (omega arith))
interval_at (sent m ∷ l) x (suc i) h = interval_at l x i (omega arith)
interval_at (received m ∷ l) x (suc i) h = interval_at l x i (omega arith)

interval_end : (l : List HistoryEvent) → interval l (length l) ≡ checkpoints l
unfolding interval checkpoints
interval_end [] = refl
interval_end (stored ∷ l) = ap suc (interval_end l)
interval_end (sent m ∷ l) = interval_end l
interval_end (received m ∷ l) = interval_end l

-- Of all lists.
module _ (lists : Lists) (i : ℕ) (x : HistoryEvent) where
  pub list_same : added lists i x i ≡ lists i ++ (x ∷ [])
  unfolding added
  list_same = upd_same lists i (lists i ++ (x ∷ []))

  pub list_other : (p : ℕ) → (p ≡ i → ⊥) → added lists i x p ≡ lists p
  unfolding added
  list_other p ne = upd_other lists i (lists i ++ (x ∷ [])) p ne

  pub event_old : (p j : ℕ) (e : HistoryEvent) → event_at (lists p) j ≡ Some e → event_at (added lists i x p) j ≡ Some e
  event_old p j e h = by_eq p i
      (λ c. rw (c, list_same) (old_at (lists i) x j e (rw c at h)))
      (λ ne. rw (list_other p ne) h)

  pub event_new : event_at (added lists i x i) (length (lists i)) ≡ Some x
  event_new = rw list_same (new_at (lists i) x)

  pub event_cases : (p j : ℕ) (e : HistoryEvent) → event_at (added lists i x p) j ≡ Some e → (event_at (lists p) j ≡ Some e) ⊎ ((p ≡ i) × (j ≡ length (lists i)) × (x ≡ e))
  event_cases p j e h = by_eq p i
      (λ c. elim (cases_at (lists i) x j e (rw list_same at (rw c at h))) [ inl w ↦ inl (rw c w) | inr w ↦ inr (c, w.0, w.1) ])
      (λ ne. inl (rw (list_other p ne) at h))

  pub place_old : (p k : ℕ) → place_of k (lists p) ≤ place_of k (added lists i x p)
  place_old p k = by_eq p i
      (λ c. rw (c, list_same) (grows_at (lists i) x k))
      (λ ne. rw (list_other p ne) (omega arith))

  pub interval_old : (p j : ℕ) → j ≤ length (lists p) → interval (added lists i x p) j ≡ interval (lists p) j
  interval_old p j h = by_eq p i
      (λ c. let below : j ≤ length (lists i) = rw c at h in rw (c, list_same) (interval_at (lists i) x j below))
      (λ ne. rw (list_other p ne))

  pub interval_new : interval (added lists i x i) (length (lists i)) ≡ checkpoints (lists i)
  interval_new = rw list_same (interval_at (lists i) x (length (lists i)) (omega arith) ∙ interval_end (lists i))
