-- Changes one after the other, and what they leave of the words that frames speak of.
-- Assumes nothing.
use Rattle.std.specs.Prelude.{◌≡◌, ◌+◌, ◌≤◌, ◌<◌}
use Rattle.laws.specs.Basics.{refl, ◌∙◌, List, ℕ, arith}
use Rattle.laws.specs.Rows.{by_lt}
use Rattle.words.specs.{Layout.word, Layout.kept_count_at_of, Layout.mark_at, Layout.blocks_at_of, Layout.part_at, Frames.OnlyProcess, Frames.OnlyDisk}

pub process_stays : (w : List ℕ) (p : ℕ) → OnlyProcess w w p
process_stays w p = record { size = refl; front = λ k a b c. refl; lower = λ k a b. refl; upper = λ k a. refl }

pub disk_stays : (w : List ℕ) → OnlyDisk w w
disk_stays w = record { size = refl; front = λ k a. refl; rest = λ k a. refl }

module _ (w v u : List ℕ) where
  pub process_then : (p : ℕ) → OnlyProcess w v p → OnlyProcess v u p → OnlyProcess w u p
  process_then p a b = record {
    size = b.size ∙ a.size;
    front = λ k lt x y. b.front k lt x y ∙ a.front k lt x y;
    lower = λ k x y. b.lower k x y ∙ a.lower k x y;
    upper = λ k x. b.upper k x ∙ a.upper k x;
  }

  pub disk_then_lem : OnlyDisk w v → OnlyDisk v u → OnlyDisk w u
  disk_then_lem a b = record {
    size = b.size ∙ a.size;
    front = λ k x. b.front k x ∙ a.front k x;
    rest = λ k x. b.rest k x ∙ a.rest k x;
  }

-- What a change of process p leaves: the words up to 15, the counts of the others, every block count, the parts of the others, the messages.
module _ (w v : List ℕ) (p : ℕ) (only : OnlyProcess w v p) where
  pub process_head : (k : ℕ) → k < 16 → word v k ≡ word w k
  process_head k lt = only.front k (omega arith) (λ e. omega arith) (λ e. omega arith)

  pub process_blocks : (q : ℕ) → p < 16 → q < 16 → word v (blocks_at_of q) ≡ word w (blocks_at_of q)
  process_blocks q room lt = only.front (blocks_at_of q) (omega arith) (λ e. omega arith) (λ e. omega arith)

  module _ (q : ℕ) (room : p < 16) (lt : q < 16) (ne : q ≡ p → ⊥) where
    pub process_kept_count : word v (kept_count_at_of q) ≡ word w (kept_count_at_of q)
    process_kept_count = only.front (kept_count_at_of q) (omega arith) (λ e. ne (omega arith)) (λ e. omega arith)

    pub process_mark : word v (mark_at q) ≡ word w (mark_at q)
    process_mark = only.front (mark_at q) (omega arith) (λ e. omega arith) (λ e. ne (omega arith))

    pub process_part : (k : ℕ) → part_at q ≤ k → k < part_at q + 320 → word v k ≡ word w k
    process_part k low under = by_lt q p (λ less. only.lower k (omega arith) (omega arith)) (λ more. only.upper k (let far : p < q = omega arith in omega arith))

  pub process_message_words : p < 16 → (k : ℕ) → 5184 ≤ k → word v k ≡ word w k
  process_message_words room k low = only.upper k (omega arith)
