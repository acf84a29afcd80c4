-- A checkpoint is stored after the kept ones, once the own pin has moved to it: it stays, nothing else changes by its being there, and one of the 16
-- places of the row is free for it. So a function may collect the kept ones first and store the new one then.
-- Assumes nothing.
use Rattle.std.specs.Prelude.{◌≡◌, ◌∷◌, ◌++◌, ◌≤◌, ◌<◌, None, Some}
use Rattle.laws.specs.Basics.{refl, ◌∙◌, ap, true, not, List, [], map, append-nil, ℕ, zero, suc, arith, eqb, leb, length, get_or, set, get_or-set_same, eq-eqb, ne_eqb, eqb-true, leb-true, by_bool}
use Rattle.laws.specs.{Choice.pick_same, Lists.select, Lists.last_of, Lists.or_else, Prefixes.select_none, Prefixes.select_or, Rows.some_at, Select.select_append}
use Rattle.laws.specs.{Tables.get_d_table, Tables.length_table, Tests.some_of, Truth.and_left, Truth.and_right}
use Rattle.model.specs.Shapes.{Pin}
use Rattle.model.specs.declared.{Interval.Interval, CheckpointIndex.CheckpointIndex}
use Rattle.model.specs.declared.Checkpoint.{Checkpoint}
use Rattle.model.specs.{Words.entry, Words.below, Words.names, Words.is_pinned, Steps.taken_pin, Steps.taken_pins, Sound.ascending}

-- the kept ones that a pin names
abbrev pub pinned_by : Pin → List Checkpoint → List Checkpoint
pinned_by pin l = select (λ c. names pin c.index) l

abbrev pub indexes : List Checkpoint → List ℕ
indexes l = map (λ c. c.index.0) l

-- Where indexes ascend from above a pin's, the pin names none.
pub ascending_none : (low : ℕ) (a : CheckpointIndex) (l : List Checkpoint) → ascending low (indexes l) ≡ true → a.0 < low → pinned_by (Some a) l ≡ []
unfolding select ascending
ascending_none low a [] h b = refl
ascending_none low a (c ∷ l) h b =
    let up = leb-true low c.index.0 (and_left _ _ h) in
    let other : a.0 ≡ c.index.0 → ⊥ = λ e. omega arith in
    rw (ne_eqb a.0 c.index.0 other) (ascending_none (suc c.index.0) a l (and_right (leb low c.index.0) _ h) (omega arith))

-- Where indexes ascend, a pin names at most one.
pub ascending_one : (low : ℕ) (pin : Pin) (l : List Checkpoint) → ascending low (indexes l) ≡ true → length (pinned_by pin l) ≤ 1
unfolding select ascending
ascending_one low pin [] h = omega arith
ascending_one low None (c ∷ l) h = ascending_one (suc c.index.0) None l (and_right (leb low c.index.0) _ h)
ascending_one low (Some a) (c ∷ l) h = by_bool (eqb a.0 c.index.0)
    (λ e.
    let same = eqb-true a.0 c.index.0 e in
    rw (e, ascending_none (suc c.index.0) a l (and_right (leb low c.index.0) _ h) (omega arith)) (omega arith))
    (λ e. rw e (ascending_one (suc c.index.0) (Some a) l (and_right (leb low c.index.0) _ h)))

-- Where indexes ascend, the last is the greatest.
pub ascending_last : (low : ℕ) (d : Checkpoint) (l : List Checkpoint) → ascending low (indexes l) ≡ true → d.index.0 < low
    → d.index.0 ≤ (or_else (last_of l) d).index.0
unfolding last_of ascending
ascending_last low d [] h b = omega arith
ascending_last low d (c ∷ l) h b =
    omega (
      arith,
      leb-true low c.index.0 (and_left _ _ h),
      ascending_last (suc c.index.0) c l (and_right (leb low c.index.0) _ h) (omega arith),
    )

-- So a pin above the last names none.
pub ascending_above : (low : ℕ) (d : Checkpoint) (a : CheckpointIndex) (l : List Checkpoint) → ascending low (indexes l) ≡ true
    → (or_else (last_of l) d).index.0 < a.0 → pinned_by (Some a) l ≡ []
unfolding select last_of ascending
ascending_above low d a [] h b = refl
ascending_above low d a (c ∷ l) h b =
    let rest = and_right (leb low c.index.0) _ h in
    let most = ascending_last (suc c.index.0) c l rest (omega arith) in
    let other : a.0 ≡ c.index.0 → ⊥ = λ e. omega arith in
    rw (ne_eqb a.0 c.index.0 other) (ascending_above (suc c.index.0) c a l rest b)

-- Where each pin names at most one, no more are named than there are pins.
module _ (l : List Checkpoint) (one : (pin : Pin) → length (pinned_by pin l) ≤ 1) where
  pub pinned_most : (pins : List Pin) → length (select (is_pinned pins) l) ≤ length pins
  unfolding is_pinned some_of
  pinned_most [] = omega (arith, ap length (select_none (λ c. some_of (λ q. names q c.index) []) l (λ c. refl)))
  pinned_most (pin ∷ pins) =
      omega (arith, select_or (λ c. names pin c.index) (λ c. some_of (λ q. names q c.index) pins) l, one pin, pinned_most pins)

  -- and where one of them names none, there are fewer
  pub pinned_fewer : (pins : List Pin) (i : ℕ) → i < length pins → pinned_by (get_or pins i None) l ≡ [] → length (select (is_pinned pins) l) < length pins
  unfolding is_pinned some_of
  pinned_fewer [] i h e = absurd (omega arith)
  pinned_fewer (pin ∷ pins) zero h e =
      omega (arith, select_or (λ c. names pin c.index) (λ c. some_of (λ q. names q c.index) pins) l, ap length e, pinned_most pins)
  pinned_fewer (pin ∷ pins) (suc i) h e =
      omega (arith, select_or (λ c. names pin c.index) (λ c. some_of (λ q. names q c.index) pins) l, one pin, pinned_fewer pins i (omega arith) e)

-- The own pin, at place i, names checkpoint c, which is put after others.
module _ (pins : List Pin) (i : ℕ) (c : Checkpoint) (h : i < length pins) (own_pin : get_or pins i None ≡ Some c.index) where
  pub own_pinned : is_pinned pins c ≡ true
  unfolding is_pinned
  own_pinned = some_at (λ pin. names pin c.index) pins i None h (rw own_pin (eq-eqb c.index.0 c.index.0 refl))

  -- it stays after those that stay
  pub stays_after : (l : List Checkpoint) → select (is_pinned pins) (l ++ (c ∷ [])) ≡ select (is_pinned pins) l ++ (c ∷ [])
  unfolding select
  stays_after l = rw (select_append, own_pinned)

  -- it is not deleted
  pub deleted_before : (l : List Checkpoint) → select (λ x. not (is_pinned pins x)) (l ++ (c ∷ [])) ≡ select (λ x. not (is_pinned pins x)) l
  unfolding select
  deleted_before l = rw (select_append, own_pinned, append-nil)

  -- and there is room for it
  pub room_after : (low : ℕ) (d : Checkpoint) (l : List Checkpoint) → ascending low (indexes l) ≡ true → (or_else (last_of l) d).index.0 < c.index.0
      → length (select (is_pinned pins) l) < length pins
  room_after low d l up last =
      pinned_fewer l (λ pin. ascending_one low pin l up) pins i h (rw own_pin (ascending_above low d c.index l up last))

-- The own pin after it was moved.
pub moved_own_lem : (pins : List Pin) (i : ℕ) (a : CheckpointIndex) → i < length pins → get_or (set pins i (Some a)) i None ≡ Some a
moved_own_lem pins i a h = get_or-set_same pins i (Some a) None h

-- Taking a carried vector in leaves the own pin.
pub taken_own : (i : ℕ) (own carried : List Interval) (pins : List Pin) → i < 16 → get_or (taken_pins i own carried pins) i None ≡ get_or pins i None
unfolding taken_pins taken_pin
taken_own i own carried pins h =
    get_d_table 16 (taken_pin i own carried pins) i None h ∙ pick_same (below (entry own i) (entry carried i)) (get_or pins i None)

pub taken_length : (i : ℕ) (own carried : List Interval) (pins : List Pin) → length (taken_pins i own carried pins) ≡ 16
unfolding taken_pins
taken_length i own carried pins = length_table 16 (taken_pin i own carried pins)
