-- One process's part of a sound state: it stays sound where a checkpoint is stored, where a carried vector is taken in, and where what no pin names is deleted.
-- Assumes nothing.
use Rattle.std.specs.Prelude.{◌≡◌, ◌&&◌, ◌||◌, ◌∷◌, ◌++◌, ◌+◌, ◌-◌, ◌≤◌, ◌<◌, None}
use Rattle.laws.specs.Basics.{refl, sym, ◌∙◌, ap, Bool, true, false, not, List, [], map, Option, Some, ℕ, zero, suc, arith, eqb, leb, length, get_or, take, drop, set, length-set, length-append, get_or-set_same, get_or-set_other, length-take-le, eq-eqb, ne_eqb, eqb-true, le-ltb, le-leb, leb-true, not-true, by_bool, by_eq}
use lib.ListN.{get_or-eq_default}
use Rattle.laws.specs.{Lists.select, Lists.or_else, Lists.last_of, Elements.every_append, Elements.every_single, Elements.every_from, Elements.every_table}
use Rattle.laws.specs.{Prefixes.select_same, Prefixes.every_select, Rows.every_at, Rows.every_by, Rows.every_beyond, Rows.some_at, Rows.by_lt}
use Rattle.laws.specs.{Select.last_of_snoc, Select.some_append, Tables.get_d_table, Tables.length_table, Tests.every, Tests.some_of}
use Rattle.laws.specs.Truth.{and_right, and_out, and_both, or_left, or_in_right, never_both}
use Rattle.model.specs.Shapes.{Pin}
use Rattle.model.specs.declared.{Interval.Interval, CheckpointIndex.CheckpointIndex}
use Rattle.model.specs.declared.Checkpoint.{Checkpoint}
use Rattle.model.specs.Words.{most_processes, entry, below, live_index_of, last_stored_of, names, is_pinned, Process, no_checkpoint, block_count}
use Rattle.model.specs.Steps.{settled, advanced, storing, checkpointed, taken_entry, taken_vector, taken_pin, taken_pins, taken_in}
use Rattle.model.specs.Sound.{ascending, pin_sound, zero_from, is_nothing_of, nothing_from, cause_sound, is_block_count_of, record_sound}
use Rattle.words.proofs.Ascending.{selected_passes}
use Rattle.words_process.proofs.receipts.Settling.{indexes, ascending_one, ascending_last, pinned_most, taken_own}

-- What passes one test passes another.
pub every_then : {A : Type 0} (t u : A → Bool) (l : List A) → ((x : A) → t x ≡ true → u x ≡ true) → every t l ≡ true → every u l ≡ true
unfolding every
every_then t u [] h e = refl
every_then t u (x ∷ l) h e = let q = and_out (t x) (every t l) e in and_both (u x) (every u l) (h x q.0) (every_then t u l h q.1)

-- What holds of the part of process p among n, where W says which vectors have no entry above an own entry, before what no pin names is deleted. The block count is
-- that of part B.
pub record Loose (n : ℕ) (W : List Interval → Bool) (p : ℕ) (B P : Process) : Type 0 where
  pub vector_long : length P.vector ≡ most_processes
  pub pins_long : length P.pins ≡ most_processes
  pub own_some : 1 ≤ (entry P.vector p).0
  pub current_within : W P.vector ≡ true
  pub stored_within : every (λ c. W c.vector) P.kept ≡ true
  pub kept_count_some : 1 ≤ length P.kept
  pub kept_ascend : ascending 0 (indexes P.kept) ≡ true
  pub kept_own : every (λ c. eqb (entry c.vector p).0 c.index.0) P.kept ≡ true
  pub kept_last : (or_else (last_of P.kept) no_checkpoint).index.0 ≡ (entry P.vector p).0 - 1
  pub own_pin : names (get_or P.pins p None) (last_stored_of (entry P.vector p)) ≡ true
  pub pins_kept : every (pin_sound P.kept) P.pins ≡ true
  pub vector_unused : zero_from n P.vector ≡ true
  pub pins_unused : nothing_from n P.pins ≡ true
  pub stored_unused : every (λ c. zero_from n c.vector) P.kept ≡ true
  pub records_sound : every (record_sound B) P.kept ≡ true

-- And after it.
pub record Fine (n : ℕ) (W : List Interval → Bool) (p : ℕ) (P : Process) : Type 0 where
  pub loose : Loose n W p P P
  pub kept_count_most : length P.kept ≤ n
  pub kept_pinned : every (is_pinned P.pins) P.kept ≡ true

-- Where the own entries rise.
pub loose_rise : (n : ℕ) (U W : List Interval → Bool) (p : ℕ) (B P : Process) → ((v : List Interval) → U v ≡ true → W v ≡ true) → Loose n U p B P → Loose n W p B P
loose_rise n U W p B P rise h = record {
  vector_long = h.vector_long;
  pins_long = h.pins_long;
  own_some = h.own_some;
  current_within = rise P.vector h.current_within;
  stored_within = every_then (λ c. U c.vector) (λ c. W c.vector) P.kept (λ c. rise c.vector) h.stored_within;
  kept_count_some = h.kept_count_some;
  kept_ascend = h.kept_ascend;
  kept_own = h.kept_own;
  kept_last = h.kept_last;
  own_pin = h.own_pin;
  pins_kept = h.pins_kept;
  vector_unused = h.vector_unused;
  pins_unused = h.pins_unused;
  stored_unused = h.stored_unused;
  records_sound = h.records_sound;
}

-- Numbers that ascend up to a last one, and one more after it; and those that are selected.
ascending_more : (low : ℕ) (d : Checkpoint) (l : List Checkpoint) (c : Checkpoint) → ascending low (indexes l) ≡ true → low ≤ c.index.0
    → (1 ≤ length l → (or_else (last_of l) d).index.0 < c.index.0) → ascending low (indexes (l ++ (c ∷ []))) ≡ true
unfolding ascending last_of
ascending_more low d [] c h least rest_after = and_both (leb low c.index.0) true (le-leb low c.index.0 least) refl
ascending_more low d (x ∷ l) c h least rest_after =
    let q = and_out (leb low x.index.0) (ascending (suc x.index.0) (indexes l)) h in
    let last = rest_after (omega arith) in
    and_both (leb low x.index.0) (ascending (suc x.index.0) (indexes (l ++ (c ∷ [])))) q.0
    (ascending_more (suc x.index.0) x l c q.1 (omega (arith, last_least (suc x.index.0) x l q.1 (omega arith), last)) (λ some-there. last))
  where
    last_least : (low : ℕ) (d : Checkpoint) (l : List Checkpoint) → ascending low (indexes l) ≡ true → d.index.0 < low → d.index.0 ≤ (or_else (last_of l) d).index.0
    last_least = ascending_last

pub ascending_select : {A : Type 0} (number : A → ℕ) (low : ℕ) (t : A → Bool) (l : List A) → ascending low (map number l) ≡ true → ascending low (map number (select t l)) ≡ true
unfolding ascending select
ascending_select number low t [] h = refl
ascending_select number low t (x ∷ l) h =
    let q = and_out (leb low (number x)) (ascending (suc (number x)) (map number l)) h in
    by_bool (t x)
    (λ e. rw e (and_both (leb low (number x)) (ascending (suc (number x)) (map number (select t l))) q.0 (ascending_select number (suc (number x)) t l q.1)))
    (λ e. rw e (ascending_select number low t l (ascending_lower (map number l) low (suc (number x)) (omega (arith, leb-true low (number x) q.0)) q.1)))
  where
    ascending_lower : (l : List ℕ) (low high : ℕ) → low ≤ high → ascending high l ≡ true → ascending low l ≡ true
    ascending_lower [] low high le h = refl
    ascending_lower (x ∷ l) low high le h =
        let q = and_out (leb high x) (ascending (suc x) l) h in
        and_both (leb low x) (ascending (suc x) l) (le-leb low x (omega (arith, leb-true high x q.0))) q.1

-- The last of those that are selected, where the last one is.
select_last : {A : Type 0} (t : A → Bool) (l : List A) (d : A) → 1 ≤ length l → t (or_else (last_of l) d) ≡ true → (1 ≤ length (select t l)) × (last_of (select t l) ≡ last_of l)
unfolding select last_of
select_last t [] d some-there h = absurd (omega arith)
select_last t (x ∷ []) d some-there h = rw h (omega arith, refl)
select_last t (x ∷ y ∷ l) d some-there h =
    let rest = select_last t (y ∷ l) x (omega arith) h in
    by_bool (t x)
    (λ e. rw e (omega arith, ap (λ (o : Option _). Some (or_else o x)) rest.1))
    (λ e. rw e (rest.0, rest.1))

-- A vector and a row of pins of 16 places, zero and none from n on, by place.
zero_at : (n : ℕ) (v : List Interval) → zero_from n v ≡ true → (k : ℕ) → n ≤ k → k < length v → (entry v k).0 ≡ 0
unfolding zero_from
zero_at n v h k le lt = eqb-true _ _ (every_beyond (λ (x : Interval). eqb x.0 0) n v k (record { 0 = 0 }) h le lt)

zero_by : (n : ℕ) (v : List Interval) → ((k : ℕ) → n ≤ k → k < length v → (entry v k).0 ≡ 0) → zero_from n v ≡ true
unfolding zero_from
zero_by n v h = every_from (λ (x : Interval). eqb x.0 0) (record { 0 = 0 }) n v (λ k le lt. eq-eqb _ _ (h k le lt))

nothing_at : (n : ℕ) (pins : List Pin) → nothing_from n pins ≡ true → (k : ℕ) → n ≤ k → k < length pins → is_nothing_of (get_or pins k None) ≡ true
unfolding nothing_from
nothing_at n pins h k le lt = every_beyond is_nothing_of n pins k None h le lt

nothing_by : (n : ℕ) (pins : List Pin) → ((k : ℕ) → n ≤ k → k < length pins → is_nothing_of (get_or pins k None) ≡ true) → nothing_from n pins ≡ true
unfolding nothing_from
nothing_by n pins h = every_from is_nothing_of None n pins h

-- A pin that names a kept one still does where one more is kept.
pin_more : (l : List Checkpoint) (c : Checkpoint) (pin : Pin) → pin_sound l pin ≡ true → pin_sound (l ++ (c ∷ [])) pin ≡ true
unfolding pin_sound
pin_more l c None h = refl
pin_more l c (Some a) h = some_append (λ x. names (Some a) x.index) l (c ∷ []) ∙ or_left _ _ h

pin_last : (l : List Checkpoint) (c : Checkpoint) → pin_sound (l ++ (c ∷ [])) (Some c.index) ≡ true
unfolding pin_sound some_of
pin_last l c =
    let there : Checkpoint → Bool = λ x. names (Some c.index) x.index in
    some_append there l (c ∷ []) ∙ or_in_right (some_of there l) (some_of there (c ∷ [])) (or_left (eqb c.index.0 c.index.0) false (eq-eqb c.index.0 c.index.0 refl))

-- What a kept checkpoint records.
record_out : (B : Process) (c : Checkpoint) → record_sound B c ≡ true → (is_block_count_of c.blocks ≡ true) × (c.blocks ≡ block_count B)
unfolding record_sound
record_out B c e =
    let a = cause_sound c.index.0 c.cause in
    let q = and_out (a && is_block_count_of c.blocks) (eqb c.blocks (block_count B)) e in
    (and_right a (is_block_count_of c.blocks) q.0, eqb-true c.blocks (block_count B) q.1)

-- A checkpoint is stored.
module _ (n : ℕ) (U W : List Interval → Bool) (i cause : ℕ) (P : Process) (h : Loose n U i P P) (inside : i < n) (few : n ≤ most_processes)
    (rise : (v : List Interval) → U v ≡ true → W v ≡ true) (new : W (advanced i P.vector) ≡ true) (caused : (1 ≤ cause) × (cause ≤ 2)) where
  own_entry : (entry (advanced i P.vector) i).0 ≡ (entry P.vector i).0 + 1
  unfolding advanced
  own_entry = ap (λ (x : Interval). x.0) (get_or-set_same P.vector i (record { 0 = (entry P.vector i).0 + 1 }) (record { 0 = 0 }) (omega (arith, h.vector_long)))

  first_sound : record_sound P (get_or P.kept 0 no_checkpoint) ≡ true
  first_sound = every_at (record_sound P) P.kept 0 no_checkpoint (omega (arith, h.kept_count_some)) h.records_sound

  count_fits : is_block_count_of (block_count P) ≡ true
  unfolding block_count
  count_fits = (record_out P (get_or P.kept 0 no_checkpoint) first_sound).0

  record_new : record_sound P (storing cause i P) ≡ true
  unfolding record_sound storing cause_sound
  record_new =
      let later : (entry P.vector i).0 ≡ 0 → ⊥ = λ e. omega (arith, h.own_some) in
      let cause-fits : cause_sound (entry P.vector i).0 cause ≡ true
      = rw (ne_eqb (entry P.vector i).0 0 later) (and_both (leb 1 cause) (leb cause 2) (le-leb 1 cause caused.0) (le-leb cause 2 caused.1)) in
      and_both _ _ (and_both _ _ cause-fits count_fits) (eq-eqb (block_count P) (block_count P) refl)

  module _ (k : ℕ) (le : n ≤ k) where
    other : k ≡ i → ⊥
    other e = omega arith

  pub stored_loose : Loose n W i P (checkpointed cause i P)
  unfolding checkpointed storing advanced
  stored_loose =
      let v = P.vector in
      let x : Interval = record { 0 = (entry P.vector i).0 + 1 } in
      let pin : Pin = Some (live_index_of (entry P.vector i)) in
      let long = length-set v i x in
      let pins = length-set P.pins i pin in
      record {
        vector_long = long ∙ h.vector_long;
        pins_long = pins ∙ h.pins_long;
        own_some = omega (arith, own_entry);
        current_within = new;
        stored_within = every_append _ P.kept _ (every_then (λ c. U c.vector) (λ c. W c.vector) P.kept (λ c. rise c.vector) h.stored_within) (every_single _ _ (rise v h.current_within));
        kept_count_some = omega (arith, length-append P.kept (storing cause i P ∷ []));
        kept_ascend = ascending_more 0 no_checkpoint P.kept (storing cause i P) h.kept_ascend (omega arith) (λ some-there. omega (arith, h.kept_last, h.own_some));
        kept_own = every_append _ P.kept _ h.kept_own (every_single _ _ (eq-eqb (entry P.vector i).0 (entry P.vector i).0 refl));
        kept_last = ap (λ (o : Option Checkpoint). (or_else o no_checkpoint).index.0) (last_of_snoc P.kept (storing cause i P)) ∙ let z = own_entry in omega (arith, z);
        own_pin = rw (get_or-set_same P.pins i pin None (omega (arith, h.pins_long))) (let next : (entry P.vector i).0 ≡ (entry (advanced i P.vector) i).0 - 1 = omega (arith, own_entry) in eq-eqb _ _ next);
        pins_kept = every_by _ (set P.pins i pin) None (λ k lt. by_eq k i
            (λ e. rw (e, get_or-set_same P.pins i pin None (omega (arith, h.pins_long))) (pin_last P.kept (storing cause i P)))
            (λ ne. rw (get_or-set_other P.pins i k pin None ne) (pin_more P.kept (storing cause i P) _ (every_at _ P.pins k None (omega (arith, pins)) h.pins_kept))));
        vector_unused = zero_by n (set v i x) (λ k le lt. rw (get_or-set_other v i k x (record { 0 = 0 }) (other k le)) (zero_at n v h.vector_unused k le (omega (arith, long))));
        pins_unused = nothing_by n (set P.pins i pin) (λ k le lt. rw (get_or-set_other P.pins i k pin None (other k le)) (nothing_at n P.pins h.pins_unused k le (omega (arith, pins))));
        stored_unused = every_append _ P.kept _ h.stored_unused (every_single _ _ h.vector_unused);
        records_sound = every_append _ P.kept _ h.records_sound (every_single _ _ record_new);
      }

-- A carried vector is taken in.
module _ (n : ℕ) (W : List Interval → Bool) (i : ℕ) (carried : List Interval) (B P : Process) (h : Loose n W i B P) (inside : i < n) (few : n ≤ most_processes)
    (zeros : zero_from n carried ≡ true) (low : (entry carried i).0 ≤ (entry P.vector i).0) (new : W (taken_vector P.vector carried) ≡ true) where
  no_higher : (k : ℕ) → n ≤ k → below (entry P.vector k) (entry carried k) ≡ false
  no_higher k le = by_lt k (length carried)
      (λ lt. le-ltb (entry P.vector k).0 (entry carried k).0 (omega (arith, zero_at n carried zeros k le lt)))
      (λ past. let z = ap (λ (x : Interval). x.0) (get_or-eq_default carried (record { 0 = 0 }) past) in le-ltb (entry P.vector k).0 (entry carried k).0 (omega (arith, z)))

  own_same : entry (taken_vector P.vector carried) i ≡ entry P.vector i
  unfolding taken_vector taken_entry
  own_same = get_d_table 16 (taken_entry P.vector carried) i (record { 0 = 0 }) (omega arith) ∙ rw (le-ltb (entry P.vector i).0 (entry carried i).0 low)

  pin_at : (k : ℕ) → k < most_processes → pin_sound P.kept (get_or P.pins k None) ≡ true
  pin_at k lt = every_at _ P.pins k None (omega (arith, h.pins_long)) h.pins_kept

  pub taken_loose : Loose n W i B (taken_in i carried P)
  unfolding taken_in taken_vector taken_entry taken_pins taken_pin
  taken_loose = record {
    vector_long = length_table 16 (taken_entry P.vector carried);
    pins_long = length_table 16 (taken_pin i P.vector carried P.pins);
    own_some = rw own_same h.own_some;
    current_within = new;
    stored_within = h.stored_within;
    kept_count_some = h.kept_count_some;
    kept_ascend = h.kept_ascend;
    kept_own = h.kept_own;
    kept_last = h.kept_last ∙ ap (λ (x : Interval). x.0 - 1) (sym own_same);
    own_pin = rw (own_same, taken_own i P.vector carried P.pins (omega arith)) h.own_pin;
    pins_kept = every_table (pin_sound P.kept) 16 (taken_pin i P.vector carried P.pins) (λ f lt. by_bool (below (entry P.vector f) (entry carried f))
        (λ e. rw e (pin_at i (omega arith)))
        (λ e. rw e (pin_at f lt)));
    vector_unused = zero_by n _ (λ k le lt.
        let row : k < 16 = omega (arith, lt, length_table 16 (taken_entry P.vector carried)) in
        ap (λ (x : Interval). x.0) (get_d_table 16 (taken_entry P.vector carried) k (record { 0 = 0 }) row) ∙ rw (no_higher k le) (zero_at n P.vector h.vector_unused k le (omega (arith, row, h.vector_long))));
    pins_unused = nothing_by n _ (λ k le lt.
        let row : k < 16 = omega (arith, lt, length_table 16 (taken_pin i P.vector carried P.pins)) in
        ap is_nothing_of (get_d_table 16 (taken_pin i P.vector carried P.pins) k None row) ∙ rw (no_higher k le) (nothing_at n P.pins h.pins_unused k le (omega (arith, row, h.pins_long))));
    stored_unused = h.stored_unused;
    records_sound = h.records_sound;
  }

-- What no pin names is deleted.
names_same : (pin : Pin) (a b : CheckpointIndex) → a.0 ≡ b.0 → names pin a ≡ names pin b
names_same None a b e = refl
names_same (Some c) a b e = rw e

some_select : {A : Type 0} (u t : A → Bool) (l : List A) → ((x : A) → u x ≡ true → t x ≡ true) → some_of u l ≡ true → some_of u (select t l) ≡ true
unfolding some_of select
some_select u t [] h e = e
some_select u t (x ∷ l) h e = by_bool (u x)
    (λ q. rw (h x q) (or_left (u x) (some_of u (select t l)) q))
    (λ q. by_bool (t x)
    (λ r. rw r (or_in_right (u x) (some_of u (select t l)) (some_select u t l h (rw q at e))))
    (λ r. rw r (some_select u t l h (rw q at e))))

pin_stays : (pins : List Pin) (k : ℕ) (kept : List Checkpoint) → k < length pins → (pin : Pin) → get_or pins k None ≡ pin → pin_sound kept pin ≡ true → pin_sound (select (is_pinned pins) kept) pin ≡ true
unfolding pin_sound is_pinned
pin_stays pins k kept lt None e h = refl
pin_stays pins k kept lt (Some a) e h =
    some_select (λ c. names (Some a) c.index) (λ c. some_of (λ pin. names pin c.index) pins) kept (λ c q. some_at (λ pin. names pin c.index) pins k None lt (rw e q)) h

some_front : {A : Type 0} (f : A → Bool) (n : ℕ) (l : List A) → every (λ x. not (f x)) (drop n l) ≡ true → some_of f l ≡ some_of f (take n l)
unfolding some_of every
some_front f zero [] h = refl
some_front f zero (x ∷ l) h =
    let q = and_out (not (f x)) (every (λ y. not (f y)) l) h in
    rw (not-true (f x) q.0) (some_front f zero l q.1)
some_front f (suc n) [] h = refl
some_front f (suc n) (x ∷ l) h = ap (λ (b : Bool). f x || b) (some_front f n l h)

nothing_names : (a : CheckpointIndex) (pin : Pin) → is_nothing_of pin ≡ true → not (names pin a) ≡ true
unfolding is_nothing_of
nothing_names a None h = refl
nothing_names a (Some b) h = never_both false h refl

pub record_same : (X Y : Process) → block_count X ≡ block_count Y → (c : Checkpoint) → record_sound X c ≡ record_sound Y c
unfolding record_sound
record_same X Y e c = rw e

module _ (n : ℕ) (W : List Interval → Bool) (i : ℕ) (B P : Process) (h : Loose n W i B P) (inside : i < n) (few : n ≤ most_processes) where
  last_pinned : is_pinned P.pins (or_else (last_of P.kept) no_checkpoint) ≡ true
  unfolding is_pinned
  last_pinned = some_at (λ pin. names pin (or_else (last_of P.kept) no_checkpoint).index) P.pins i None (omega (arith, h.pins_long))
      (names_same (get_or P.pins i None) _ (last_stored_of (entry P.vector i)) h.kept_last ∙ h.own_pin)

  left : (1 ≤ length (select (is_pinned P.pins) P.kept)) × (last_of (select (is_pinned P.pins) P.kept) ≡ last_of P.kept)
  left = select_last (is_pinned P.pins) P.kept no_checkpoint h.kept_count_some last_pinned

  same_count : block_count (settled P) ≡ block_count B
  unfolding settled block_count
  same_count =
      let those = select (is_pinned P.pins) P.kept in
      (record_out B (get_or those 0 no_checkpoint) (every_at (record_sound B) those 0 no_checkpoint (omega (arith, left.0)) (every_select (record_sound B) (is_pinned P.pins) P.kept h.records_sound))).1

  pinned_front : (c : Checkpoint) → is_pinned P.pins c ≡ is_pinned (take n P.pins) c
  unfolding is_pinned nothing_from
  pinned_front c = some_front (λ pin. names pin c.index) n P.pins (every_then is_nothing_of (λ pin. not (names pin c.index)) (drop n P.pins) (nothing_names c.index) h.pins_unused)

  most_left : length (select (is_pinned P.pins) P.kept) ≤ n
  most_left = omega (
    arith,
    ap length (select_same (is_pinned P.pins) (is_pinned (take n P.pins)) P.kept pinned_front),
    pinned_most P.kept (λ pin. ascending_one 0 pin P.kept h.kept_ascend) (take n P.pins),
    length-take-le n P.pins (omega (arith, h.pins_long)),
  )

  settled_loose : Loose n W i (settled P) (settled P)
  unfolding settled
  settled_loose = record {
    vector_long = h.vector_long;
    pins_long = h.pins_long;
    own_some = h.own_some;
    current_within = h.current_within;
    stored_within = every_select _ (is_pinned P.pins) P.kept h.stored_within;
    kept_count_some = left.0;
    kept_ascend = ascending_select (λ c. c.index.0) 0 (is_pinned P.pins) P.kept h.kept_ascend;
    kept_own = every_select _ (is_pinned P.pins) P.kept h.kept_own;
    kept_last = ap (λ (o : Option Checkpoint). (or_else o no_checkpoint).index.0) left.1 ∙ h.kept_last;
    own_pin = h.own_pin;
    pins_kept = every_by _ P.pins None (λ k lt. pin_stays P.pins k P.kept lt _ refl (every_at _ P.pins k None lt h.pins_kept));
    vector_unused = h.vector_unused;
    pins_unused = h.pins_unused;
    stored_unused = every_select _ (is_pinned P.pins) P.kept h.stored_unused;
    records_sound = every_then (record_sound B) _ _ (λ c e. record_same (settled P) B same_count c ∙ e) (every_select (record_sound B) (is_pinned P.pins) P.kept h.records_sound);
  }

  pub settled_fine : Fine n W i (settled P)
  unfolding settled
  settled_fine = record { loose = settled_loose; kept_count_most = most_left; kept_pinned = selected_passes (is_pinned P.pins) P.kept }
