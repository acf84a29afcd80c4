-- What collecting leaves of the places of kept checkpoints: those that a pin names close up, in their order, and the places after them are unused.
-- Assumes nothing.
use Rattle.std.specs.Prelude.{◌≡◌, ◌∷◌, ◌++◌, ◌+◌, ◌-◌, ◌*◌, ◌≤◌, ◌<◌}
use Rattle.laws.specs.Basics.{refl, sym, ◌∙◌, ap, Bool, true, false, not, List, [], append-nil, ℕ, zero, arith, length, set, length-append, sets, by_eq}
use native.Mathlib.Numerals.{add-one}
use Rattle.laws.specs.{Elements.every_table, Lists.select, Lists.table, Rows.by_lt, Tables.table_same, Tests.some_of, Written.sets_two}
use Rattle.laws.specs.Select.{select_append, select_one, all_chosen, none_chosen}
use Rattle.model.specs.Shapes.{Pin}
use Rattle.model.specs.declared.Checkpoint.{Checkpoint}
use Rattle.model.specs.{Words.names, Words.is_pinned, Steps.listed}
use Rattle.whole_runs.specs.Outcomes.{pairs}
use Rattle.words.specs.{Layout.word, Layout.blocks_at_of, Layout.index_at_of, Layout.cause_at_of, Layout.stored_at, Layout.index_of_def, Layout.checkpoint_in, Puts.puts}
use Rattle.words.proofs.{Reading.puts_length, Reading.untouched, Reading.touched, Same.row_word, Same.checkpoint_moved}
use Rattle.words_process.specs.Kept.{cleared_puts, moved_puts, moved_up, Used, AllPinned, OnlyKept, SamePlace, ZeroPlace, Cleared, Split, Collected}

pub kept_stays : (w : List ℕ) (p : ℕ) → OnlyKept w p w
kept_stays w p = record { size = refl; lower = λ q a. refl; upper = λ q a. refl }

pub kept_then : (w v u : List ℕ) (p : ℕ) → OnlyKept w p v → OnlyKept v p u → OnlyKept w p u
kept_then w v u p a b = record { size = b.size ∙ a.size; lower = λ q x. b.lower q x ∙ a.lower q x; upper = λ q x. b.upper q x ∙ a.upper q x }

pub place_stays : (w : List ℕ) (p k : ℕ) → SamePlace w p k w k
place_stays w p k = record { index = refl; cause = refl; vector = λ f lt. refl }

pub place_then : (w v u : List ℕ) (p i j k : ℕ) → SamePlace w p i v j → SamePlace v p j u k → SamePlace w p i u k
place_then w v u p i j k a b = record { index = b.index ∙ a.index; cause = b.cause ∙ a.cause; vector = λ f lt. b.vector f lt ∙ a.vector f lt }

-- The same checkpoint stands in both places.
pub same_checkpoint : (w v : List ℕ) (p k j : ℕ) → p < 16 → OnlyKept w p v → SamePlace w p k v j → checkpoint_in v p j ≡ checkpoint_in w p k
same_checkpoint w v p k j room only same = checkpoint_moved v w p p j k same.index same.cause (only.lower (blocks_at_of p) (omega arith)) same.vector

-- Whether a pin names a checkpoint, by the word of its index.
pub pinned_is : (w : List ℕ) (p k : ℕ) (pins : List Pin) → is_pinned pins (checkpoint_in w p k) ≡ some_of (λ pin. names pin (index_of_def (word w (index_at_of p k)))) pins
unfolding is_pinned checkpoint_in
pinned_is w p k pins = refl

pub index_is : (w : List ℕ) (p k : ℕ) → (checkpoint_in w p k).index ≡ index_of_def (word w (index_at_of p k))
unfolding checkpoint_in
index_is w p k = refl

-- One place made unused.
module _ (w : List ℕ) (size : length w ≡ 6464) (p k : ℕ) (room : p < 16) (lt : k < 16) where
  abbrev v : List ℕ
  v = puts w (cleared_puts p k)

  pub clear_only : OnlyKept w p v
  clear_only = record {
    size = puts_length w (cleared_puts p k);
    lower = λ q less. untouched w (cleared_puts p k) q (omega arith);
    upper = λ q more. untouched w (cleared_puts p k) q (omega arith);
  }

  pub clear_zero : ZeroPlace v p k
  clear_zero = record {
    index = touched w (cleared_puts p k) 0 0 (index_at_of p k) (omega arith, omega arith, omega arith, omega arith);
    cause = touched w (cleared_puts p k) 1 0 (cause_at_of p k) (omega arith, omega arith, omega arith, omega arith);
    vector = λ f less. touched w (cleared_puts p k) 2 f (stored_at p k + f) (refl, less, omega arith, tt);
  }

  pub clear_other : (j : ℕ) → j < 16 → (j ≡ k → ⊥) → SamePlace w p j v j
  clear_other j less ne = by_lt j k
      (λ under. record {
        index = untouched w (cleared_puts p k) (index_at_of p j) (omega arith);
        cause = untouched w (cleared_puts p k) (cause_at_of p j) (omega arith);
        vector = λ f small. untouched w (cleared_puts p k) (stored_at p j + f) (omega arith);
      })
      (λ over.
      let far : k < j = omega arith in
      record {
        index = untouched w (cleared_puts p k) (index_at_of p j) (omega arith);
        cause = untouched w (cleared_puts p k) (cause_at_of p j) (omega arith);
        vector = λ f small. untouched w (cleared_puts p k) (stored_at p j + f) (omega arith);
      })

pub cleared_none : (w : List ℕ) (p from : ℕ) → Cleared w p from from w
cleared_none w p from = record {
  only = kept_stays w p;
  before = λ k lt. place_stays w p k;
  zero = λ k le lt. absurd (omega arith);
  after = λ k le lt. place_stays w p k;
}

pub cleared_step : (w : List ℕ) (p from k : ℕ) (v u : List ℕ) → length w ≡ 6464 → p < 16 → from ≤ k → k < 16 → Cleared w p from k v → u ≡ puts v (cleared_puts p k)
    → Cleared w p from (k + 1) u
cleared_step w p from k v u size room le lt h e = rw e
    (let long : length v ≡ 6464 = h.only.size ∙ size in
    let y = puts v (cleared_puts p k) in
    record {
      only = kept_then w v y p h.only (clear_only v long p k room lt);
      before = λ j less. place_then w v y p j j j (h.before j less) (clear_other v long p k room lt j (omega arith) (λ q. omega arith));
      zero = λ j low less. by_eq j k
          (λ q. rw q (clear_zero v long p k room lt))
          (λ ne.
          let old = h.zero j low (omega arith) in
          let same = clear_other v long p k room lt j (omega arith) ne in
          record { index = same.index ∙ old.index; cause = same.cause ∙ old.cause; vector = λ f small. same.vector f small ∙ old.vector f small });
      after = λ j low less. place_then w v y p j j j (h.after j (omega arith) less) (clear_other v long p k room lt j less (λ q. omega arith));
    })

-- What stands in one place moved to another.
module _ (w : List ℕ) (size : length w ≡ 6464) (p from to : ℕ) (room : p < 16) (a : from < 16) (b : to < 16) where
  pub move_only : OnlyKept w p (moved_up w p from to)
  unfolding moved_up
  move_only = record {
    size = puts_length w (moved_puts w p from to);
    lower = λ q less. untouched w (moved_puts w p from to) q (omega arith);
    upper = λ q more. untouched w (moved_puts w p from to) q (omega arith);
  }

  pub move_there : SamePlace w p from (moved_up w p from to) to
  unfolding moved_up
  move_there = record {
    index = touched w (moved_puts w p from to) 0 0 (index_at_of p to) (omega arith, omega arith, omega arith, omega arith);
    cause = touched w (moved_puts w p from to) 1 0 (cause_at_of p to) (omega arith, omega arith, omega arith, omega arith);
    vector = λ f less. touched w (moved_puts w p from to) 2 f (stored_at p to + f) (refl, less, omega arith, tt) ∙ row_word w (stored_at p from) f less;
  }

  pub move_other : (j : ℕ) → j < 16 → (j ≡ to → ⊥) → SamePlace w p j (moved_up w p from to) j
  unfolding moved_up
  move_other j less ne = by_lt j to
      (λ under. record {
        index = untouched w (moved_puts w p from to) (index_at_of p j) (omega arith);
        cause = untouched w (moved_puts w p from to) (cause_at_of p j) (omega arith);
        vector = λ f small. untouched w (moved_puts w p from to) (stored_at p j + f) (omega arith);
      })
      (λ over.
      let far : to < j = omega arith in
      record {
        index = untouched w (moved_puts w p from to) (index_at_of p j) (omega arith);
        cause = untouched w (moved_puts w p from to) (cause_at_of p j) (omega arith);
        vector = λ f small. untouched w (moved_puts w p from to) (stored_at p j + f) (omega arith);
      })

-- The chosen ones of a table of one more.
module _ {A : Type 0} (t : A → Bool) (n : ℕ) (f : ℕ → A) where
  pub chosen_more : t (f n) ≡ true → select t (table (n + 1) f) ≡ select t (table n f) ++ (f n ∷ [])
  unfolding table
  chosen_more e = rw (add-one n) (select_append t (table n f) (f n ∷ []) ∙ ap (λ (l : List A). select t (table n f) ++ l) (select_one t (f n) ∙ rw e))

  pub chosen_less : t (f n) ≡ false → select t (table (n + 1) f) ≡ select t (table n f)
  unfolding table
  chosen_less e = rw (add-one n) (select_append t (table n f) (f n ∷ []) ∙ ap (λ (l : List A). select t (table n f) ++ l) (select_one t (f n) ∙ rw e) ∙ append-nil (select t (table n f)))

module _ (w : List ℕ) (size : length w ≡ 6464) (p : ℕ) (room : p < 16) (pins : List Pin) where
  -- Where a pin names each of the first ones, they stay where they are.
  pub split_first : (from kept_count_of_def : ℕ) → from ≤ kept_count_of_def → kept_count_of_def ≤ 16 → Used w p kept_count_of_def → AllPinned w p pins from → Split w p from pins w from
  unfolding AllPinned Used
  split_first from kept_count_of_def le most used all = record {
    only = kept_stays w p;
    most = omega arith;
    front = sym (all_chosen (is_pinned pins) (table from (checkpoint_in w p)) (every_table (is_pinned pins) from (checkpoint_in w p) all));
    used = λ k lt. used k (omega arith);
    after = λ k a b. place_stays w p k;
  }

  module _ (k : ℕ) (v : List ℕ) (to : ℕ) (h : Split w p k pins v to) (lt : k < 16) where
    long : length v ≡ 6464
    long = h.only.size ∙ size

    in_place : checkpoint_in v p k ≡ checkpoint_in w p k
    in_place = same_checkpoint w v p k k room h.only (h.after k (omega arith) lt)

    pub index_there : word v (index_at_of p k) ≡ word w (index_at_of p k)
    index_there = (h.after k (omega arith) lt).index

    pub split_stays : is_pinned pins (checkpoint_in w p k) ≡ false → Split w p (k + 1) pins v to
    split_stays e = record {
      only = h.only;
      most = omega (arith, h.most);
      front = h.front ∙ sym (chosen_less (is_pinned pins) k (checkpoint_in w p) e);
      used = h.used;
      after = λ j low less. h.after j (omega arith) less;
    }

    module _ (some : 1 ≤ word w (index_at_of p k)) (e : is_pinned pins (checkpoint_in w p k) ≡ true) where
      abbrev u : List ℕ
      u = moved_up v p k to

      small : to < 16
      small = omega (arith, h.most)

      there : checkpoint_in u p to ≡ checkpoint_in w p k
      there = same_checkpoint v u p k to room (move_only v long p k to room lt small) (move_there v long p k to room lt small) ∙ in_place

      other : (j : ℕ) → j < to → checkpoint_in u p j ≡ checkpoint_in v p j
      other j less = same_checkpoint v u p j j room (move_only v long p k to room lt small) (move_other v long p k to room lt small j (omega arith) (λ q. omega arith))

      front_then : table (to + 1) (checkpoint_in u p) ≡ select (is_pinned pins) (table (k + 1) (checkpoint_in w p))
      unfolding table
      front_then = rw (add-one to)
          (ap (λ (l : List Checkpoint). l ++ (checkpoint_in u p to ∷ [])) (table_same to (checkpoint_in u p) (checkpoint_in v p) other ∙ h.front)
          ∙ ap (λ (c : Checkpoint). select (is_pinned pins) (table k (checkpoint_in w p)) ++ (c ∷ [])) there
          ∙ sym (chosen_more (is_pinned pins) k (checkpoint_in w p) e))

      pub split_moves : Split w p (k + 1) pins u (to + 1)
      unfolding Used
      split_moves = record {
        only = kept_then w v u p h.only (move_only v long p k to room lt small);
        most = omega (arith, h.most);
        front = front_then;
        used = λ j less. by_eq j to
            (λ q. rw q (omega (arith, some, (move_there v long p k to room lt small).index, index_there)))
            (λ ne. omega (arith, h.used j (omega arith), (move_other v long p k to room lt small j (omega arith) ne).index));
        after = λ j low less. place_then w v u p j j j (h.after j (omega arith) less) (move_other v long p k to room lt small j less (λ q. omega (arith, h.most)));
      }

  -- Then the places between are cleared.
  pub collected : (kept_count_of_def : ℕ) (v u : List ℕ) (to : ℕ) → kept_count_of_def ≤ 16 → Split w p kept_count_of_def pins v to → Cleared v p to kept_count_of_def u → Collected w p kept_count_of_def pins u to
  unfolding Used
  collected kept_count_of_def v u to most s c = record {
    only = kept_then w v u p s.only c.only;
    most = s.most;
    front = table_same to (checkpoint_in u p) (checkpoint_in v p) (λ j less. same_checkpoint v u p j j room c.only (c.before j less)) ∙ s.front;
    used = λ j less. omega (arith, s.used j less, (c.before j less).index);
    zero = c.zero;
    after = λ j low less. place_then w v u p j j j (s.after j low less) (c.after j low less);
  }

-- The pairs of deleted checkpoints.
pub pairs_none : (p : ℕ) → pairs (listed p []) ≡ []
unfolding listed pairs
pairs_none p = refl

pairs_append : (p : ℕ) (l m : List Checkpoint) → pairs (listed p (l ++ m)) ≡ pairs (listed p l) ++ pairs (listed p m)
unfolding listed pairs
pairs_append p [] m = refl
pairs_append p (c ∷ l) m = ap (λ (r : List ℕ). p ∷ c.index.0 ∷ r) (pairs_append p l m)

pairs_one : (p : ℕ) (l : List Checkpoint) (c : Checkpoint) → pairs (listed p (l ++ (c ∷ []))) ≡ pairs (listed p l) ++ p ∷ c.index.0 ∷ []
unfolding listed pairs
pairs_one p l c = pairs_append p l (c ∷ [])

pub pairs_length : (p : ℕ) (l : List Checkpoint) → length (pairs (listed p l)) ≡ 2 * length l
unfolding listed pairs
pairs_length p [] = refl
pairs_length p (c ∷ l) = rw (pairs_length p l) (omega arith)

module _ (w : List ℕ) (p : ℕ) (pins : List Pin) where
  abbrev pub unpinned : ℕ → List Checkpoint
  unpinned n = select (λ c. not (is_pinned pins c)) (table n (checkpoint_in w p))

  pub unpinned_none : (from : ℕ) → AllPinned w p pins from → unpinned from ≡ []
  unfolding AllPinned
  unpinned_none from all = none_chosen (is_pinned pins) (table from (checkpoint_in w p)) (every_table (is_pinned pins) from (checkpoint_in w p) all)

  module _ (k : ℕ) where
    pub unpinned_same : is_pinned pins (checkpoint_in w p k) ≡ true → unpinned (k + 1) ≡ unpinned k
    unpinned_same e = chosen_less (λ c. not (is_pinned pins c)) k (checkpoint_in w p) (ap not e)

    module _ (e : is_pinned pins (checkpoint_in w p k) ≡ false) where
      more : unpinned (k + 1) ≡ unpinned k ++ (checkpoint_in w p k ∷ [])
      more = chosen_more (λ c. not (is_pinned pins c)) k (checkpoint_in w p) (ap not e)

      pub one_more : length (unpinned (k + 1)) ≡ length (unpinned k) + 1
      one_more = ap length more ∙ length-append (unpinned k) (checkpoint_in w p k ∷ [])

      pub pair_more : (l₀ l : List ℕ) (at next : ℕ) → l ≡ sets l₀ at (pairs (listed p (unpinned k))) → next ≡ at + 2 * length (unpinned k)
          → set (set l next p) (next + 1) (checkpoint_in w p k).index.0 ≡ sets l₀ at (pairs (listed p (unpinned (k + 1))))
      pair_more l₀ l at next so_far place =
          sets_two l₀ l at next (pairs (listed p (unpinned k))) so_far (omega (arith, place, pairs_length p (unpinned k))) p (checkpoint_in w p k).index.0
          ∙ ap (λ (r : List ℕ). sets l₀ at r) (sym (pairs_one p (unpinned k) (checkpoint_in w p k)))
          ∙ ap (λ (r : List Checkpoint). sets l₀ at (pairs (listed p r))) (sym more)
