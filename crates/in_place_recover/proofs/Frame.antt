-- Words that agree on what is one process's restore it alike; and what changes of other processes and of the blocks leave of it.
-- Assumes nothing.
use Rattle.std.specs.Prelude.{◌≡◌, ◌&&◌, ◌+◌, ◌-◌, ◌*◌, ◌≤◌, ◌<◌}
use Rattle.laws.specs.Basics.{refl, ◌∙◌, ap, true, not, List, ℕ, zero, suc, arith, leb, leb-true, pick, by_bool}
use Rattle.laws.specs.{Lists.select, Lists.table, Tables.table_same}
use Rattle.model.specs.Shapes.{Pin}
use Rattle.model.specs.declared.{Interval.Interval, Disk.Disk}
use Rattle.model.specs.{Words.is_pinned, Words.Process, Steps.advanced}
use Rattle.words.specs.Frames.{OnlyProcess, OnlyDisk}
use Rattle.words.specs.Layout.{word, kept_count_at_of, mark_at, blocks_at_of, part_at, pins_at_of, index_at_of, stored_at, row_in, vector_in, pins_in, mark_in, checkpoint_in}
use Rattle.words.proofs.Frames.{process_kept_count, process_mark, process_blocks, process_part}
use Rattle.words.proofs.Same.{row_same, vector_same, pins_same, checkpoint_same}
use Rattle.words_line.specs.Restored.{known_row, found_in_of}
use Rattle.words_process.specs.{Kept.Used, Kept.AllPinned, Moves.Moves, Pins.pin_row, Steps.places_of, Steps.unpinned_in}
use Rattle.in_place_recover.specs.Restored.{goes_back, restored_vector, restored_pins, restored_part, restored_gone, Restorable, SameProcess}

module _ (w v : List ℕ) (p : ℕ) (room : p < 16) (same : SameProcess w v p) where
  part_word : (k : ℕ) → 64 + 320 * p ≤ k → k < 384 + 320 * p → word v k ≡ word w k
  part_word k low less = same.part k low (omega arith)

  current_same : vector_in v (part_at p) ≡ vector_in w (part_at p)
  current_same = vector_same v w (part_at p) (part_at p) (λ f lt. part_word (part_at p + f) (omega arith) (omega arith))

  stored_same : (k : ℕ) → k < 16 → vector_in v (stored_at p k) ≡ vector_in w (stored_at p k)
  stored_same k less = vector_same v w (stored_at p k) (stored_at p k) (λ f lt. part_word (stored_at p k + f) (omega arith) (omega arith))

  pins_row_same : row_in v (pins_at_of p) ≡ row_in w (pins_at_of p)
  pins_row_same = row_same v w (pins_at_of p) (pins_at_of p) (λ f lt. part_word (pins_at_of p + f) (omega arith) (omega arith))

  pins_here_same : pins_in v (pins_at_of p) ≡ pins_in w (pins_at_of p)
  pins_here_same = pins_same v w (pins_at_of p) (pins_at_of p) (λ f lt. part_word (pins_at_of p + f) (omega arith) (omega arith))

  mark_same : mark_in v p ≡ mark_in w p
  unfolding mark_in
  mark_same = rw same.mark

  here_same : (k : ℕ) → k < 16 → checkpoint_in v p k ≡ checkpoint_in w p k
  here_same = checkpoint_same v w p same.kept_count same.blocks (λ k low less. part_word k (omega arith) less)

  back_same : (past : ℕ) → goes_back v p past ≡ goes_back w p past
  back_same past = ap (leb past) same.kept_count

  found_same : (owns : List Interval) (n : ℕ) → n ≤ 16 → found_in_of v owns p n ≡ found_in_of w owns p n
  unfolding found_in_of
  found_same owns zero le = refl
  found_same owns (suc n) le = rw (found_same owns n (omega arith), stored_same n (omega arith), part_word (index_at_of p n) (omega arith) (omega arith))

  module _ (most : word w (kept_count_at_of p) ≤ 16) where
    places_same : places_of v p ≡ places_of w p
    unfolding places_of
    places_same = ap (λ (n : ℕ). table n (checkpoint_in v p)) same.kept_count ∙ table_same (word w (kept_count_at_of p)) (checkpoint_in v p) (checkpoint_in w p) (λ k lt. here_same k (omega arith))

    module _ (past : ℕ) where
      under : goes_back w p past ≡ true → past ≤ 16
      under e = omega (arith, leb-true past (word w (kept_count_at_of p)) e)

      restored_vector_same : restored_vector v p past ≡ restored_vector w p past
      unfolding restored_vector
      restored_vector_same = by_bool (goes_back w p past)
          (λ e. rw (back_same past, e) (ap (advanced p) (stored_same (past - 1) (omega (arith, under e)))))
          (λ e. rw (back_same past, e) current_same)

      module _ (owns : List Interval) where
        restored_pins_same : restored_pins v p past owns ≡ restored_pins w p past owns
        unfolding restored_pins
        restored_pins_same = ap (λ (x : List Interval). known_row x owns (pick (goes_back v p past) (found_in_of v owns p past) (row_in v (pins_at_of p)))) restored_vector_same
            ∙ ap (known_row (restored_vector w p past) owns) (by_bool (goes_back w p past)
            (λ e. rw (back_same past, e) (found_same owns past (under e)))
            (λ e. rw (back_same past, e) pins_row_same))

        pub restored_same : restored_part v p past owns ≡ restored_part w p past owns
        unfolding restored_part
        restored_same = λ j. record {
          vector = restored_vector_same j;
          pins = pin_row (restored_pins_same j);
          mark = mark_same j && not (back_same past j);
          kept = select (is_pinned (pin_row (restored_pins_same j))) (places_same j);
        }

        pub gone_same : restored_gone v p past owns ≡ restored_gone w p past owns
        unfolding restored_gone unpinned_in
        gone_same = λ j. select (λ c. not (is_pinned (pin_row (restored_pins_same j)) c)) (places_same j)

  pub restorable_same : (past : ℕ) → Restorable w p past → Restorable v p past
  unfolding Used AllPinned
  restorable_same past h =
      let a = h.0 in (
        (
          omega (arith, same.kept_count, a.0),
          a.1,
          omega (arith, same.kept_count, a.2),
          λ le. omega (arith, a.3 (omega (arith, same.kept_count)), part_word (stored_at p (past - 1) + p) (omega arith) (omega (arith, same.kept_count, a.0))),
        ),
        λ k lt. omega (arith, h.1 k (omega (arith, same.kept_count)), part_word (index_at_of p k) (omega arith) (omega (arith, same.kept_count, a.0))),
        λ k lt. ap (λ (pins : List Pin). is_pinned pins (checkpoint_in v p k)) pins_here_same ∙ ap (is_pinned (pins_in w (pins_at_of p))) (here_same k (omega (arith, same.kept_count, a.0))) ∙ h.2 k (omega (arith, same.kept_count)),
      )

pub same_stays : (w : List ℕ) (p : ℕ) → SameProcess w w p
same_stays w p = record { kept_count = refl; mark = refl; blocks = refl; part = λ k a b. refl }

module _ (w v u : List ℕ) (p : ℕ) (room : p < 16) (same : SameProcess w v p) where
  pub same_process : (q : ℕ) → q < 16 → (p ≡ q → ⊥) → OnlyProcess v u q → SameProcess w u p
  same_process q lt ne only = record {
    kept_count = process_kept_count v u q only p lt room ne ∙ same.kept_count;
    mark = process_mark v u q only p lt room ne ∙ same.mark;
    blocks = process_blocks v u q only p lt room ∙ same.blocks;
    part = λ k a b. process_part v u q only p lt room ne k a b ∙ same.part k a b;
  }

  pub same_disk : OnlyDisk v u → SameProcess w u p
  same_disk only = record {
    kept_count = only.rest (kept_count_at_of p) (omega arith) ∙ same.kept_count;
    mark = only.rest (mark_at p) (omega arith) ∙ same.mark;
    blocks = only.rest (blocks_at_of p) (omega arith) ∙ same.blocks;
    part = λ k a b. only.rest k (omega arith) ∙ same.part k a b;
  }

-- Another process is restored.
pub same_moves : (w v u : List ℕ) (p q : ℕ) (P : Process) (d : Disk) → p < 16 → q < 16 → (p ≡ q → ⊥) → Moves v q P d u → SameProcess w v p → SameProcess w u p
same_moves w v u p q P d room lt ne m same = same_disk w m.between u p room (same_process w v m.between p room same q lt ne m.process) m.disk
