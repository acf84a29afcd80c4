-- The causes of a state are numbers of 8 bits, and stay so where a call changes the state: so the words that it leaves are readable.
-- Assumes nothing.
use Rattle.std.specs.Prelude.{◌≡◌, ◌∷◌, ◌≤◌, ◌<◌}
use Rattle.laws.specs.Basics.{◌∙◌, List, [], ℕ, zero, suc, arith, length, get_or, take, length-set, get_or-set_same, get_or-set_other, by_eq}
use lib.Seq.{get_or-take}
use Rattle.laws.specs.{Lists.placed, Rows.by_lt}
use Rattle.model.specs.declared.{Message.Message, Disk.Disk, Run.Run}
use Rattle.model.specs.Words.{most_processes, no_checkpoint, Process, process, with_process, with_messages, with_disk}
use Rattle.words.proofs.View.{placed_at, placed_past}

pub length_take_most : {A : Type 0} (i : ℕ) (l : List A) → length (take i l) ≤ i
length_take_most zero [] = omega arith
length_take_most zero (x ∷ l) = omega arith
length_take_most (suc i) [] = omega arith
length_take_most (suc i) (x ∷ l) = let r = length_take_most i l in omega arith

-- A state of 1 to 16 processes whose causes have 8 bits.
pub record Small (s : Run) : Type 0 where
  pub count_some : 1 ≤ s.count
  pub count_few : s.count ≤ 16
  pub rows : length s.kept.0 ≡ 16
  pub causes : (p k : ℕ) → p < s.count → k < 16 → (get_or (get_or s.kept.0 p []) k no_checkpoint).cause < 256

module _ (s : Run) (small : Small s) where
  pub small_messages : (messages : List Message) (last : ℕ) → Small (with_messages s messages last)
  unfolding with_messages
  small_messages messages last = record { count_some = small.count_some; count_few = small.count_few; rows = small.rows; causes = small.causes }

  pub small_disk : (disk : Disk) → Small (with_disk s disk)
  unfolding with_disk
  small_disk disk = record { count_some = small.count_some; count_few = small.count_few; rows = small.rows; causes = small.causes }

  pub small_process : (i : ℕ) (P : Process) → (i < s.count → (k : ℕ) → k < length P.kept → k < 16 → (get_or P.kept k no_checkpoint).cause < 256) → Small (with_process s i P)
  unfolding with_process
  small_process i P few = record {
    count_some = small.count_some;
    count_few = small.count_few;
    rows = length-set s.kept.0 i (placed most_processes no_checkpoint P.kept) ∙ small.rows;
    causes = λ p k lt less. by_eq p i
        (λ e. rw (e, get_or-set_same s.kept.0 i (placed most_processes no_checkpoint P.kept) [] (omega (arith, small.rows, small.count_few)))
        (by_lt k (length P.kept)
        (λ under. rw (placed_at most_processes no_checkpoint P.kept k under) (few (omega arith) k under less))
        (λ past. rw (placed_past most_processes no_checkpoint P.kept k past less) (omega arith))))
        (λ ne. rw (get_or-set_other s.kept.0 i p (placed most_processes no_checkpoint P.kept) [] ne) (small.causes p k lt less));
  }

  -- The checkpoints of a process.
  pub small_kept : (i : ℕ) → i < s.count → (k : ℕ) → k < length (process s i).kept → k < 16 → (get_or (process s i).kept k no_checkpoint).cause < 256
  unfolding process
  small_kept i lt k under less = by_lt k (get_or s.kept_count i 0)
      (λ h. rw (get_or-take (get_or s.kept_count i 0) (get_or s.kept.0 i []) k no_checkpoint h) (small.causes i k lt less))
      (λ h. absurd (omega (arith, under, h, length_take_most (get_or s.kept_count i 0) (get_or s.kept.0 i []))))
