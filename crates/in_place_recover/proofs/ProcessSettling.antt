-- A process whose pins are put, and which is then collected: what that leaves of the words.
-- Assumes nothing.
use Rattle.std.specs.Prelude.{◌≡◌, ◌∷◌, ◌+◌, ◌*◌, ◌≤◌, ◌<◌}
use Rattle.laws.specs.Basics.{refl, ◌∙◌, ap, not, List, [], ℕ, arith, length, set}
use Rattle.laws.specs.Lists.{select, table}
use Rattle.model.specs.{Words.is_pinned, Steps.billed}
use Rattle.words.specs.{Frames.OnlyDisk, Layout.word, Layout.wide4, Layout.kept_count_at_of, Layout.mark_in, Layout.checkpoint_in, Puts.puts, Puts.one}
use Rattle.words.proofs.Reading.{set_is_put}
use Rattle.words_process.specs.{Kept.AllPinned, Kept.Collected, Moves.disk_in, Moves.Moves, Pins.pin_row, Steps.places_of, Steps.unpinned_in}
use Rattle.words_process.proofs.Settling.{pinned, pinned_places, Then, kept_only, moves_then, then_disk}
use Rattle.in_place_recover.specs.Restored.{pinned_part}

pub none_pinned : (w : List ℕ) (p : ℕ) (r : List ℕ) → AllPinned w p (pin_row r) 0
unfolding AllPinned
none_pinned w p r k lt = absurd (omega arith)

module _ (w : List ℕ) (size : length w ≡ 6464) (p : ℕ) (room : p < 16) (r : List ℕ) (u : List ℕ) (e : u ≡ pinned w size p room r) (most : word w (kept_count_at_of p) ≤ 16) where
  -- What is collected is what stood in the places before the pins were put.
  pub unpinned_is : select (λ c. not (is_pinned (pin_row r) c)) (table (word w (kept_count_at_of p)) (checkpoint_in u p)) ≡ unpinned_in w p (pin_row r)
  unfolding unpinned_in places_of
  unpinned_is =
      ap (λ (q : List ℕ). select (λ c. not (is_pinned (pin_row r) c)) (table (word w (kept_count_at_of p)) (checkpoint_in q p))) e
      ∙ ap (select (λ c. not (is_pinned (pin_row r) c))) (pinned_places w size p room r (word w (kept_count_at_of p)) most)

  -- Then how many are kept is put, and the blocks are billed.
  module _ (v : List ℕ) (stay : ℕ) (c : Collected u p (word w (kept_count_at_of p)) (pin_row r) v stay) where
    collected : Collected (pinned w size p room r) p (word w (kept_count_at_of p)) (pin_row r) v stay
    collected = rw e at c

    abbrev counted : List ℕ
    counted = puts v (one (kept_count_at_of p) stay ∷ [])

    counted_is : set v (kept_count_at_of p) stay ≡ counted
    counted_is = set_is_put v (kept_count_at_of p) stay

    kept : Then w size p room r (word w (kept_count_at_of p)) refl most v stay collected counted stay (mark_in w p) (select (is_pinned (pin_row r)) (places_of w p))
    kept = kept_only w size p room r (word w (kept_count_at_of p)) refl most v stay collected

    few : stay ≤ 16
    few = omega (arith, c.most)

    low : (k : ℕ) → k < 12 → word counted k ≡ word w k
    low = then_disk w size p room r (word w (kept_count_at_of p)) refl most v stay collected counted stay (mark_in w p) (select (is_pinned (pin_row r)) (places_of w p)) few (omega arith) kept

    pub settled_size : length (set v (kept_count_at_of p) stay) ≡ 6464
    settled_size = ap length counted_is ∙ kept.long

    pub settled_disk : (wide4 (set v (kept_count_at_of p) stay) 4 ≡ wide4 w 4) × (wide4 (set v (kept_count_at_of p) stay) 8 ≡ wide4 w 8)
    settled_disk = rw counted_is (
      rw (low 4 (omega arith), low 5 (omega arith), low 6 (omega arith), low 7 (omega arith)),
      rw (low 8 (omega arith), low 9 (omega arith), low 10 (omega arith), low 11 (omega arith)),
    )

    pub settled_moves : (y : List ℕ) (blocks gone : ℕ) → OnlyDisk (set v (kept_count_at_of p) stay) y → wide4 y 4 ≡ wide4 (set v (kept_count_at_of p) stay) 4 + 0
        → wide4 y 8 ≡ wide4 (set v (kept_count_at_of p) stay) 8 + gone * blocks → Moves w p (pinned_part w p (pin_row r)) (billed (disk_in w) 0 (gone * blocks)) y
    unfolding pinned_part billed
    settled_moves y blocks gone only a b =
        moves_then w size p room r (word w (kept_count_at_of p)) refl most v stay collected counted stay (mark_in w p) (select (is_pinned (pin_row r)) (places_of w p)) few (omega arith) kept
        (record { written = wide4 w 4 + 0; deleted = wide4 w 8 + gone * blocks }) y (rw counted_is at only)
        (λ j. record { written = (a ∙ ap (λ (n : ℕ). n + 0) settled_disk.0) j; deleted = (b ∙ ap (λ (n : ℕ). n + gone * blocks) settled_disk.1) j })
