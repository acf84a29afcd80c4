-- Words in which one process and the blocks have changed: the run that they stand for, and that unused places stay zero.
-- Assumes nothing.
use Rattle.std.specs.Prelude.{◌≡◌, ◌≤◌, ◌<◌}
use Rattle.laws.specs.Basics.{◌∙◌, ap, true, List, ℕ}
use Rattle.model.specs.declared.Disk.{Disk}
use Rattle.model.specs.Words.{Process, with_process, with_disk}
use Rattle.words.specs.Layout.{count_of, fits, run_of}
use Rattle.words.proofs.{ViewChange.with_process_lem, ViewChange.with_disk_lem, ViewChange.process_fits, ViewClean.clean_process, ViewClean.clean_disk}
use Rattle.words_process.specs.Moves.{Moves}
use Rattle.in_place.specs.Left.{Leaves}

module _ (w v : List ℕ) (i : ℕ) (P : Process) (d : Disk) (fit : fits w ≡ true) (lt : i < count_of w) (few : count_of w ≤ 16) (m : Moves w i P d v) where
  pub moved_run : run_of v ≡ with_disk (with_process (run_of w) i P) d
  moved_run = with_disk_lem m.between v m.disk (process_fits w m.between i fit lt few m.process)
      ∙ (λ j. with_disk ((with_process_lem w m.between i fit lt few m.process m.kept_count ∙ ap (with_process (run_of w) i) m.part) j) (m.blocks j))

  pub moved_leaves : Leaves w v
  moved_leaves = record {
    size = m.disk.size ∙ m.process.size;
    clean = λ c. clean_disk m.between v m.disk (clean_process w m.between i lt few m.process (m.clean (c.kept i lt)) c);
  }
