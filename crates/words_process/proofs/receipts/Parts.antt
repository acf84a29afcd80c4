-- A sound state with the part of one of its processes put back, and with another sent mark.
-- Assumes nothing.
use Rattle.std.specs.Prelude.{◌≡◌, ◌<◌}
use Rattle.laws.specs.Basics.{sym, ◌∙◌, ap, Bool, true, false, List, [], ℕ, length, get_or, set}
use lib.Seq.{set-get_or}
use Rattle.laws.specs.Lists.{placed}
use Rattle.model.specs.Shapes.{Pin}
use Rattle.model.specs.declared.{Interval.Interval, Checkpoint.Checkpoint, Run.Run}
use Rattle.model.specs.{Words.most_processes, Words.no_checkpoint, Words.process, Words.with_process, Sound.sound}
use Rattle.words_process.specs.receipts.Sized.{Sized}
use Rattle.words_process.proofs.receipts.Filled.{row_filled, row_many}

-- The state with these parts in place of its own.
abbrev with_parts : Run → List (List Interval) → List (List Pin) → List Bool → List (List Checkpoint) → List ℕ → Run
with_parts s vectors pins sent kept kept_count_of_def = record {
  count = s.count;
  vectors = record { 0 = vectors };
  pins = record { 0 = pins };
  sent = sent;
  kept = record { 0 = kept };
  kept_count = kept_count_of_def;
  messages = s.messages;
  underway = s.underway;
  last = s.last;
  disk = s.disk;
}

-- The state with another sent mark for process i.
unfoldable pub with_mark : Run → ℕ → Bool → Run
with_mark s i mark = with_parts s s.vectors.0 s.pins.0 (set s.sent i mark) s.kept.0 s.kept_count

mark_back : (s : Run) (i : ℕ) → with_mark s i (get_or s.sent i false) ≡ s
unfolding with_mark
mark_back s i = λ j. with_parts s s.vectors.0 s.pins.0 (set-get_or s.sent i false j) s.kept.0 s.kept_count

module _ (s : Run) (h : sound s ≡ true) (size : Sized s) (i : ℕ) (lt : i < s.count) where
  kept_back : set s.kept.0 i (placed most_processes no_checkpoint (process s i).kept) ≡ s.kept.0
  kept_back = ap (λ (l : List Checkpoint). set s.kept.0 i l) (sym (row_filled s size h i lt)) ∙ set-get_or s.kept.0 i []

  kept_count_back : set s.kept_count i (length (process s i).kept) ≡ s.kept_count
  kept_count_back = ap (λ (n : ℕ). set s.kept_count i n) (row_many s size h i lt) ∙ set-get_or s.kept_count i 0

  pub rows_back : (mark : Bool)
      → with_process s i (record { vector = (process s i).vector; pins = (process s i).pins; mark = mark; kept = (process s i).kept }) ≡ with_mark s i mark
  unfolding with_process with_mark process
  rows_back mark = λ j. with_parts s (set-get_or s.vectors.0 i [] j) (set-get_or s.pins.0 i [] j) (set s.sent i mark) (kept_back j) (kept_count_back j)

  pub part_back : with_process s i (process s i) ≡ s
  unfolding process
  part_back = rows_back (get_or s.sent i false) ∙ mark_back s i
