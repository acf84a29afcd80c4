-- What a checkpoint or a receipt leaves of the words: another part for its process, and other blocks written and deleted.
-- Assumes nothing.
use Rattle.std.specs.Prelude.{◌≡◌, ◌≤◌}
use Rattle.laws.specs.Basics.{List, ℕ}
use Rattle.model.specs.declared.Disk.{Disk}
use Rattle.model.specs.Words.{Process, most_processes}
use Rattle.words.specs.{Clean.CleanKept, Frames.OnlyProcess, Frames.OnlyDisk, Layout.word, Layout.wide4, Layout.kept_count_at_of, Parts.process_in}

-- The blocks written and deleted of words.
abbrev pub disk_in : List ℕ → Disk
disk_in w = record { written = wide4 w 4; deleted = wide4 w 8 }

-- v is w with the part P for process i and with these blocks: first the process alone has changed, then the blocks alone.
pub record Moves (w : List ℕ) (i : ℕ) (P : Process) (d : Disk) (v : List ℕ) : Type 0 where
  pub between : List ℕ
  pub process : OnlyProcess w between i
  pub part : process_in between i ≡ P
  pub kept_count : word between (kept_count_at_of i) ≤ most_processes
  pub clean : CleanKept w i → CleanKept between i
  pub disk : OnlyDisk between v
  pub blocks : disk_in v ≡ d
