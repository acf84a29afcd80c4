-- A recovery on the words, process after process: `pasts` has one above the place of each process's member in the line, `owns` the own entries after the recovery.
-- Assumes nothing.
use Rattle.std.specs.Prelude.{◌≡◌, ◌≤◌, ◌<◌}
use Rattle.laws.specs.Basics.{true, List, ℕ, length, get_or}
use Rattle.laws.specs.{Lists.gather, Sums.sum_below}
use Rattle.model.specs.declared.{Interval.Interval, Checkpoint.Checkpoint, Disk.Disk}
use Rattle.model.specs.{Words.Process, Words.blocks_of, Words.with_disk, Words.most_processes, Steps.Deletion, Steps.listed, Steps.billed, Steps.with_processes}
use Rattle.words.specs.{Clean.Clean, Layout.word, Layout.end_of, Layout.fits, Layout.run_of}
use Rattle.words_process.specs.Moves.{disk_in}
use Rattle.in_place_recover.specs.Restored.{restored_part, restored_gone, Restorable, SameProcess}

-- The part of process p, and what is deleted of it.
abbrev pub part_then : List ℕ → List ℕ → List Interval → ℕ → Process
part_then w pasts owns p = restored_part w p (get_or pasts p 0) owns

abbrev pub gone_then : List ℕ → List ℕ → List Interval → ℕ → List Checkpoint
gone_then w pasts owns p = restored_gone w p (get_or pasts p 0) owns

-- What is deleted of the first k processes, "by process, then index, ascending", and the blocks then.
unfoldable pub losses_then : List ℕ → List ℕ → List Interval → ℕ → List Deletion
losses_then w pasts owns k = gather k (λ p. listed p (gone_then w pasts owns p))

unfoldable pub disk_then : List ℕ → List ℕ → List Interval → ℕ → Disk
disk_then w pasts owns k = billed (disk_in w) 0 (sum_below k (λ p. blocks_of (gone_then w pasts owns p)))

-- Each of n processes can go back to its member, whose place the table has.
abbrev pub AllRestorable : ℕ → List ℕ → List ℕ → Type 0
AllRestorable n pasts w = (n ≤ length pasts) × ((p : ℕ) → p < n → Restorable w p (get_or pasts p 0))

-- v is w with the first k processes as they are after the recovery; the others and the messages are as they were.
pub record Restored (w pasts : List ℕ) (owns : List Interval) (k : ℕ) (v : List ℕ) : Type 0 where
  pub run : run_of v ≡ with_disk (with_processes k (part_then w pasts owns) (run_of w)) (disk_then w pasts owns k)
  pub fit : fits v ≡ true
  pub disk : disk_in v ≡ disk_then w pasts owns k
  pub front : (q : ℕ) → q < 4 → word v q ≡ word w q
  pub end : end_of v ≡ end_of w
  pub later : (q : ℕ) → k ≤ q → q < most_processes → SameProcess w v q
  pub message_words : (q : ℕ) → 5184 ≤ q → word v q ≡ word w q
  pub clean : Clean w → Clean v
