-- A process whose pins are put: what they name stays, and then the new checkpoint is stored, if one is. What that leaves of the words.
-- Assumes nothing.
use Rattle.std.specs.Prelude.{◌≡◌, ◌∷◌, ◌++◌, ◌+◌, ◌-◌, ◌*◌, ◌≤◌, ◌<◌}
use Rattle.laws.specs.Basics.{refl, sym, ◌∙◌, ap, Bool, true, false, not, List, [], ℕ, zero, arith, eqb, length, get_or, set, pick, by_eq}
use native.Mathlib.Numerals.{add-one}
use Rattle.laws.specs.{Lists.select, Lists.table, Rows.by_lt, Tables.table_same}
use Rattle.model.specs.Shapes.{Pin}
use Rattle.model.specs.declared.{Interval.Interval, Checkpoint.Checkpoint, CheckpointIndex.CheckpointIndex, Disk.Disk}
use Rattle.model.specs.{Words.is_pinned, Steps.billed}
use Rattle.words_process.specs.{receipts.Receipt.kept_then_of, Kept.stored_puts, Kept.Used, Kept.AllPinned, Kept.SamePlace, Kept.ZeroPlace, Kept.Collected}
use Rattle.words.specs.{Clean.CleanKept, Frames.OnlyProcess, Frames.OnlyDisk, Parts.process_in, Puts.Put, Puts.puts, Puts.one, Puts.row_put}
use Rattle.words.specs.Layout.{word, wide4, kept_count_at_of, mark_at, blocks_at_of, part_at, pins_at_of, index_at_of, cause_at_of, stored_at, index_of_def, pin_of_def, vector_in, pins_in, mark_in, checkpoint_in}
use Rattle.words.proofs.{Reading.puts_length, Reading.untouched, Reading.touched, Reading.set_is_put, Reading.index_back, View.kept_table}
use Rattle.words.proofs.Same.{vector_same, vector_is, checkpoint_moved}
use Rattle.words_process.specs.{Moves.disk_in, Moves.Moves, Pins.pin_row, Steps.stored_in, Steps.places_of, Steps.settled_part}

-- The pins alone are put.
module _ (w : List ℕ) (size : length w ≡ 6464) (i : ℕ) (room : i < 16) (r : List ℕ) where
  abbrev l : List Put
  l = row_put (pins_at_of i) r ∷ []

  abbrev pub pinned : List ℕ
  pinned = puts w l

  pub pinned_size : length pinned ≡ 6464
  pinned_size = puts_length w l ∙ size

  pub pinned_low : (q : ℕ) → q < 80 + 320 * i → word pinned q ≡ word w q
  pinned_low q less = untouched w l q (omega arith)

  pub pinned_high : (q : ℕ) → 96 + 320 * i ≤ q → word pinned q ≡ word w q
  pinned_high q more = untouched w l q (omega arith)

  pub pinned_pin : (f : ℕ) → f < 16 → word pinned (pins_at_of i + f) ≡ get_or r f 0
  pinned_pin f lt = touched w l 0 f (pins_at_of i + f) (refl, lt, omega arith, tt)

  pub pinned_checkpoint : (k : ℕ) → k < 16 → checkpoint_in pinned i k ≡ checkpoint_in w i k
  pinned_checkpoint k lt = checkpoint_moved pinned w i i k k (pinned_high (index_at_of i k) (omega arith)) (pinned_high (cause_at_of i k) (omega arith)) (pinned_low (blocks_at_of i) (omega arith))
      (λ f less. pinned_high (stored_at i k + f) (omega arith))

  pub pinned_places : (n : ℕ) → n ≤ 16 → table n (checkpoint_in pinned i) ≡ table n (checkpoint_in w i)
  pinned_places n most = table_same n (checkpoint_in pinned i) (checkpoint_in w i) (λ k lt. pinned_checkpoint k (omega arith))

  pub pinned_used : (n : ℕ) → n ≤ 16 → Used w i n → Used pinned i n
  unfolding Used
  pinned_used n most used k lt = omega (arith, used k lt, pinned_high (index_at_of i k) (omega arith))

  pub pinned_still : (pins : List Pin) (n : ℕ) → n ≤ 16 → AllPinned w i pins n → AllPinned pinned i pins n
  unfolding AllPinned
  pinned_still pins n most all k lt = ap (is_pinned pins) (pinned_checkpoint k (omega arith)) ∙ all k lt

  -- Then it is collected, `stay` of `kept_count_of_def` stay, and what follows leaves x of them.
  module _ (kept_count_of_def : ℕ) (is : kept_count_of_def ≡ word w (kept_count_at_of i)) (most : kept_count_of_def ≤ 16) (v : List ℕ) (stay : ℕ) (c : Collected pinned i kept_count_of_def (pin_row r) v stay) where
    v_low : (q : ℕ) → q < 80 + 320 * i → word v q ≡ word w q
    v_low q less = c.only.lower q (omega arith) ∙ pinned_low q less

    v_high : (q : ℕ) → 384 + 320 * i ≤ q → word v q ≡ word w q
    v_high q more = c.only.upper q more ∙ pinned_high q (omega arith)

    pub v_size : length v ≡ 6464
    v_size = c.only.size ∙ pinned_size

    pub v_disk : (k : ℕ) → k < 12 → word v k ≡ word w k
    v_disk k lt = v_low k (omega arith)

    front : table stay (checkpoint_in v i) ≡ select (is_pinned (pin_row r)) (places_of w i)
    unfolding places_of
    front = c.front ∙ ap (select (is_pinned (pin_row r))) (pinned_places kept_count_of_def most ∙ ap (λ (n : ℕ). table n (checkpoint_in w i)) is)

    pub record Then (u : List ℕ) (x : ℕ) (mark : Bool) (kept : List Checkpoint) : Type 0 where
      pub long : length u ≡ 6464
      pub low : (q : ℕ) → q < 96 + 320 * i → (q ≡ kept_count_at_of i → ⊥) → (q ≡ mark_at i → ⊥) → word u q ≡ word v q
      pub high : (q : ℕ) → 384 + 320 * i ≤ q → word u q ≡ word v q
      pub many : word u (kept_count_at_of i) ≡ x
      pub marked : mark_in u i ≡ mark
      pub after : (k : ℕ) → x ≤ k → k < 16 → SamePlace v i k u k
      pub used : Used u i x
      pub table_then : table x (checkpoint_in u i) ≡ kept

    module _ (u : List ℕ) (x : ℕ) (mark : Bool) (kept : List Checkpoint) (few : x ≤ 16) (over : stay ≤ x) (h : Then u x mark kept) where
      process_then : OnlyProcess w u i
      process_then = record {
        size = h.long ∙ sym size;
        front = λ k lt nh nm. h.low k (omega arith) nh nm ∙ v_low k (omega arith);
        lower = λ k a b. h.low k (omega arith) (λ e. omega arith) (λ e. omega arith) ∙ v_low k (omega arith);
        upper = λ k a. h.high k (omega arith) ∙ v_high k (omega arith);
      }

      vector_then : vector_in u (part_at i) ≡ vector_in w (part_at i)
      vector_then = vector_same u w (part_at i) (part_at i) (λ f lt. h.low (part_at i + f) (omega arith) (λ e. omega arith) (λ e. omega arith) ∙ v_low (part_at i + f) (omega arith))

      pins_then : pins_in u (pins_at_of i) ≡ pin_row r
      unfolding pins_in pin_row
      pins_then = table_same 16 _ _ (λ f lt. ap pin_of_def (h.low (pins_at_of i + f) (omega arith) (λ e. omega arith) (λ e. omega arith) ∙ c.only.lower (pins_at_of i + f) (omega arith) ∙ pinned_pin f lt))

      kept_then : (process_in u i).kept ≡ kept
      unfolding Used
      kept_then = kept_table u i (omega (arith, h.many)) (λ k lt. h.used k (omega (arith, h.many))) ∙ ap (λ (n : ℕ). table n (checkpoint_in u i)) h.many ∙ h.table_then

      part_then : process_in u i ≡ record { vector = vector_in w (part_at i); pins = pin_row r; mark = mark; kept = kept }
      unfolding process_in
      part_then = λ j. record { vector = vector_then j; pins = pins_then j; mark = h.marked j; kept = kept_then j }

      place_clean : CleanKept w i → (k : ℕ) → x ≤ k → k < 16 → ZeroPlace u i k
      place_clean clean k low lt =
          let same = h.after k low lt in
          by_lt k kept_count_of_def
          (λ less. let z = c.zero k (omega arith) less in record { index = same.index ∙ z.index; cause = same.cause ∙ z.cause; vector = λ f small. same.vector f small ∙ z.vector f small })
          (λ more.
          let z = c.after k more lt in
          record {
            index = same.index ∙ z.index ∙ pinned_high (index_at_of i k) (omega arith) ∙ clean.index k (omega arith) lt;
            cause = same.cause ∙ z.cause ∙ pinned_high (cause_at_of i k) (omega arith) ∙ clean.cause k (omega arith) lt;
            vector = λ f small. same.vector f small ∙ z.vector f small ∙ pinned_high (stored_at i k + f) (omega arith) ∙ clean.vector k f (omega arith) lt small;
          })

      clean_then : CleanKept w i → CleanKept u i
      clean_then clean = record {
        index = λ k low lt. (place_clean clean k (omega (arith, h.many)) lt).index;
        cause = λ k low lt. (place_clean clean k (omega (arith, h.many)) lt).cause;
        vector = λ k f low lt small. (place_clean clean k (omega (arith, h.many)) lt).vector f small;
      }

      pub moves_then : (d : Disk) (y : List ℕ) → OnlyDisk u y → disk_in y ≡ d → Moves w i (record { vector = vector_in w (part_at i); pins = pin_row r; mark = mark; kept = kept }) d y
      moves_then d y disk bill = record {
        between = u;
        process = process_then;
        part = part_then;
        kept_count = omega (arith, h.many);
        clean = clean_then;
        disk = disk;
        blocks = bill;
      }

      pub then_disk : (k : ℕ) → k < 12 → word u k ≡ word w k
      then_disk k lt = h.low k (omega arith) (λ e. omega arith) (λ e. omega arith) ∙ v_disk k lt

    -- Nothing is stored: how many are kept is put.
    module _ where
      abbrev m : List Put
      m = one (kept_count_at_of i) stay ∷ []

      pub kept_only : Then (puts v m) stay (mark_in w i) (select (is_pinned (pin_row r)) (places_of w i))
      unfolding Used mark_in
      kept_only = record {
        long = puts_length v m ∙ v_size;
        low = λ q less nh nm. untouched v m q (λ a b. nh (omega arith), tt);
        high = λ q more. untouched v m q (omega arith);
        many = touched v m 0 0 (kept_count_at_of i) (omega arith, omega arith, omega (arith, v_size), tt);
        marked = ap (λ (y : ℕ). not (eqb y 0)) (untouched v m (mark_at i) (omega arith) ∙ v_low (mark_at i) (omega arith));
        after = λ k low lt. stays k lt;
        used = λ k lt. omega (arith, c.used k lt, (stays k (omega (arith, c.most))).index);
        table_then = table_same stay (checkpoint_in (puts v m) i) (checkpoint_in v i)
            (λ k lt. checkpoint_moved (puts v m) v i i k k (stays k (omega (arith, c.most))).index (stays k (omega (arith, c.most))).cause (untouched v m (blocks_at_of i) (omega arith)) (stays k (omega (arith, c.most))).vector) ∙ front;
      }
        where
          stays : (k : ℕ) → k < 16 → SamePlace v i k (puts v m) k
          stays k lt = record {
            index = untouched v m (index_at_of i k) (omega arith);
            cause = untouched v m (cause_at_of i k) (omega arith);
            vector = λ f small. untouched v m (stored_at i k + f) (omega arith);
          }

    -- A checkpoint is stored after those that stay, the mark is cleared, and how many are kept is put.
    module _ (index : CheckpointIndex) (cause : ℕ) (vector : List Interval) (long-vector : length vector ≡ 16) (place : stay < 16) where
      abbrev s : List Put
      s = stored_puts i stay index cause vector ++ one (mark_at i) 0 ∷ one (kept_count_at_of i) (stay + 1) ∷ []

      abbrev y : List ℕ
      y = puts v s

      other : (k : ℕ) → k < 16 → (k ≡ stay → ⊥) → SamePlace v i k y k
      other k lt ne = by_lt k stay
          (λ under. record {
            index = untouched v s (index_at_of i k) (omega arith);
            cause = untouched v s (cause_at_of i k) (omega arith);
            vector = λ f small. untouched v s (stored_at i k + f) (omega arith);
          })
          (λ over.
          let far : stay < k = omega arith in
          record {
            index = untouched v s (index_at_of i k) (omega arith);
            cause = untouched v s (cause_at_of i k) (omega arith);
            vector = λ f small. untouched v s (stored_at i k + f) (omega arith);
          })

      index_put : word y (index_at_of i stay) ≡ index.0 + 1
      index_put = touched v s 0 0 (index_at_of i stay) (omega arith, omega arith, omega (arith, v_size), omega arith)

      blocks_stay : word y (blocks_at_of i) ≡ word w (blocks_at_of i)
      blocks_stay = untouched v s (blocks_at_of i) (omega arith) ∙ v_low (blocks_at_of i) (omega arith)

      stored_there : checkpoint_in y i stay ≡ stored_in w i index cause vector
      unfolding checkpoint_in stored_in
      stored_there =
          let a : index_of_def (word y (index_at_of i stay)) ≡ index = ap (λ (n : ℕ). index_of_def n) index_put ∙ index_back index in
          let b : vector_in y (stored_at i stay) ≡ vector = vector_is y (stored_at i stay) vector long-vector (λ f lt. touched v s 2 f (stored_at i stay + f) (refl, lt, omega (arith, v_size), omega arith)) in
          let d : word y (cause_at_of i stay) ≡ cause = touched v s 1 0 (cause_at_of i stay) (omega arith, omega arith, omega (arith, v_size), omega arith) in
          λ j. record { index = a j; vector = b j; cause = d j; blocks = blocks_stay j }

      table_stored : table (stay + 1) (checkpoint_in y i) ≡ select (is_pinned (pin_row r)) (places_of w i) ++ (stored_in w i index cause vector ∷ [])
      unfolding table
      table_stored = ap (λ (n : ℕ). table n (checkpoint_in y i)) (add-one stay)
          ∙ (ap (λ (q : List Checkpoint). q ++ (checkpoint_in y i stay ∷ []))
          (table_same stay (checkpoint_in y i) (checkpoint_in v i)
          (λ k lt. let z = other k (omega arith) (λ e. omega arith) in checkpoint_moved y v i i k k z.index z.cause (untouched v s (blocks_at_of i) (omega arith)) z.vector) ∙ front)
          ∙ ap (λ (q : Checkpoint). select (is_pinned (pin_row r)) (places_of w i) ++ (q ∷ [])) stored_there)

      pub one_stored : Then y (stay + 1) false (select (is_pinned (pin_row r)) (places_of w i) ++ (stored_in w i index cause vector ∷ []))
      unfolding Used mark_in
      one_stored = record {
        long = puts_length v s ∙ v_size;
        low = λ q less nh nm. untouched v s q (omega arith, (omega arith, (omega arith, (λ a b. nm (omega arith), (λ a b. nh (omega arith), tt)))));
        high = λ q more. untouched v s q (omega arith);
        many = touched v s 4 0 (kept_count_at_of i) (omega arith, omega arith, omega (arith, v_size), tt);
        marked = ap (λ (q : ℕ). not (eqb q 0)) (touched v s 3 0 (mark_at i) (omega arith, omega arith, omega (arith, v_size), omega arith));
        after = λ k low lt. other k lt (λ e. omega arith);
        used = λ k lt. by_eq k stay
            (λ e. rw e (omega (arith, index_put)))
            (λ ne. omega (arith, c.used k (omega arith), (other k (omega arith) ne).index));
        table_then = table_stored;
      }

-- The blocks of words that agree on them.
disk_same : (w u : List ℕ) → ((k : ℕ) → k < 12 → word u k ≡ word w k) → (wide4 u 4 ≡ wide4 w 4) × (wide4 u 8 ≡ wide4 w 8)
disk_same w u same = (
  rw (same 4 (omega arith), same 5 (omega arith), same 6 (omega arith), same 7 (omega arith)),
  rw (same 8 (omega arith), same 9 (omega arith), same 10 (omega arith), same 11 (omega arith)),
)

-- All of it: the pins are put, the process collected, the checkpoint stored if `stores`, how many are kept put, and the blocks billed.
module _ (w : List ℕ) (size : length w ≡ 6464) (i : ℕ) (room : i < 16) (r : List ℕ) (p : List ℕ) (e : p ≡ pinned w size i room r) (kept_count_of_def : ℕ) (is : kept_count_of_def ≡ word w (kept_count_at_of i)) (most : kept_count_of_def ≤ 16)
    (v : List ℕ) (stay : ℕ) (c : Collected p i kept_count_of_def (pin_row r) v stay) (index : CheckpointIndex) (cause : ℕ) (vector : List Interval) (long : length vector ≡ 16) where
  there : Collected (pinned w size i room r) i kept_count_of_def (pin_row r) v stay
  there = rw e at c

  abbrev pub storing_then : Bool → List ℕ
  storing_then stores = pick stores (puts v (stored_puts i stay index cause vector ++ one (mark_at i) 0 ∷ [])) v

  abbrev pub kept_count_then : Bool → List ℕ
  kept_count_then stores = set (storing_then stores) (kept_count_at_of i) (stay + pick stores 1 0)

  stored_words : kept_count_then true ≡ puts v (stored_puts i stay index cause vector ++ one (mark_at i) 0 ∷ one (kept_count_at_of i) (stay + 1) ∷ [])
  stored_words = set_is_put (puts v (stored_puts i stay index cause vector ++ one (mark_at i) 0 ∷ [])) (kept_count_at_of i) (stay + 1)

  plain_words : kept_count_then false ≡ puts v (one (kept_count_at_of i) stay ∷ [])
  plain_words = ap (λ (n : ℕ). set v (kept_count_at_of i) n) (let z : stay + 0 ≡ stay = omega arith in z) ∙ set_is_put v (kept_count_at_of i) stay

  pub kept_count_disk : (stores : Bool) → (stores ≡ true → stay < 16) → (wide4 (kept_count_then stores) 4 ≡ wide4 w 4) × (wide4 (kept_count_then stores) 8 ≡ wide4 w 8)
  kept_count_disk true few = rw stored_words (disk_same w (puts v (stored_puts i stay index cause vector ++ one (mark_at i) 0 ∷ one (kept_count_at_of i) (stay + 1) ∷ [])) (then_disk w size i room r kept_count_of_def is most v stay there _ (stay + 1) false _ (let z = few refl in omega arith) (omega arith) (one_stored w size i room r kept_count_of_def is most v stay there index cause vector long (few refl))))
  kept_count_disk false few = rw plain_words (disk_same w (puts v (one (kept_count_at_of i) stay ∷ [])) (then_disk w size i room r kept_count_of_def is most v stay there _ stay (mark_in w i) _ (omega (arith, c.most)) (omega arith) (kept_only w size i room r kept_count_of_def is most v stay there)))

  pub kept_count_size : (stores : Bool) → (stores ≡ true → stay < 16) → length (kept_count_then stores) ≡ 6464
  kept_count_size true few = ap length stored_words ∙ (one_stored w size i room r kept_count_of_def is most v stay there index cause vector long (few refl)).long
  kept_count_size false few = ap length plain_words ∙ (kept_only w size i room r kept_count_of_def is most v stay there).long

  pub settles : (stores : Bool) → (stores ≡ true → stay < 16) → (y : List ℕ) (blocks gone : ℕ) → OnlyDisk (kept_count_then stores) y
      → wide4 y 4 ≡ wide4 (kept_count_then stores) 4 + pick stores blocks 0 → wide4 y 8 ≡ wide4 (kept_count_then stores) 8 + gone * blocks
      → Moves w i (settled_part w i (pin_row r) stores (stored_in w i index cause vector)) (billed (disk_in w) (pick stores blocks 0) (gone * blocks)) y
  unfolding settled_part kept_then_of billed
  settles true few y blocks gone only a b =
      let d = kept_count_disk true few in
      moves_then w size i room r kept_count_of_def is most v stay there _ (stay + 1) false _ (let z = few refl in omega arith) (omega arith) (one_stored w size i room r kept_count_of_def is most v stay there index cause vector long (few refl))
      (record { written = wide4 w 4 + blocks; deleted = wide4 w 8 + gone * blocks }) y (rw stored_words at only)
      (λ j. record { written = (a ∙ ap (λ (n : ℕ). n + blocks) d.0) j; deleted = (b ∙ ap (λ (n : ℕ). n + gone * blocks) d.1) j })
  settles false few y blocks gone only a b =
      let d = kept_count_disk false few in
      moves_then w size i room r kept_count_of_def is most v stay there _ stay (mark_in w i) _ (omega (arith, c.most)) (omega arith) (kept_only w size i room r kept_count_of_def is most v stay there)
      (record { written = wide4 w 4 + 0; deleted = wide4 w 8 + gone * blocks }) y (rw plain_words at only)
      (λ j. record { written = (a ∙ ap (λ (n : ℕ). n + 0) d.0) j; deleted = (b ∙ ap (λ (n : ℕ). n + gone * blocks) d.1) j })

  -- The same, of words and of a count that are these.
  module _ (stores : Bool) (few : stores ≡ true → stay < 16) (u : List ℕ) (x : ℕ) (words : u ≡ storing_then stores) (many : x ≡ stay + pick stores 1 0) where
    pub end_is : set u (kept_count_at_of i) x ≡ kept_count_then stores
    end_is = rw (words, many)

    pub end_size : length (set u (kept_count_at_of i) x) ≡ 6464
    end_size = ap length end_is ∙ kept_count_size stores few

    pub end_disk : (wide4 (set u (kept_count_at_of i) x) 4 ≡ wide4 w 4) × (wide4 (set u (kept_count_at_of i) x) 8 ≡ wide4 w 8)
    end_disk = rw end_is (kept_count_disk stores few)

    pub end_moves : (y : List ℕ) (blocks gone : ℕ) → OnlyDisk (set u (kept_count_at_of i) x) y → wide4 y 4 ≡ wide4 (set u (kept_count_at_of i) x) 4 + pick stores blocks 0
        → wide4 y 8 ≡ wide4 (set u (kept_count_at_of i) x) 8 + gone * blocks
        → Moves w i (settled_part w i (pin_row r) stores (stored_in w i index cause vector)) (billed (disk_in w) (pick stores blocks 0) (gone * blocks)) y
    end_moves y blocks gone only a b = settles stores few y blocks gone (rw end_is at only) (rw end_is at a) (rw end_is at b)
