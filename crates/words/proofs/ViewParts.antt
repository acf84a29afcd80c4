-- A process's part put together from its rows, what each of the three changes leaves as it was, and process after process changed.
-- Assumes nothing.
use Rattle.std.specs.Prelude.{◌≡◌, ◌+◌, ◌≤◌, ◌<◌}
use Rattle.laws.specs.Basics.{◌∙◌, true, List, ℕ, take}
use native.Mathlib.Numerals.{add-one}
use Rattle.model.specs.declared.Run.{Run}
use Rattle.model.specs.{Words.Process, Steps.with_processes}
use Rattle.words.specs.Layout.{word, count_of, kept_count_at_of, part_at, pins_at_of, vector_in, pins_in, mark_in, kept_in, fits, run_of}
use Rattle.words.specs.{Parts.process_in, Frames.OnlyProcess}
use Rattle.words.proofs.ViewChange.{with_process_lem}

-- A process by its four parts.
pub process_by : (w : List ℕ) (p : ℕ) (P : Process) → vector_in w (part_at p) ≡ P.vector → pins_in w (pins_at_of p) ≡ P.pins → mark_in w p ≡ P.mark
    → take (word w (kept_count_at_of p)) (kept_in w p) ≡ P.kept → process_in w p ≡ P
unfolding process_in
process_by w p P a b c d = rw (a, b, c, d)

pub with_processes_step : (w v : List ℕ) (k : ℕ) (f : ℕ → Process) (s : Run) → fits w ≡ true → k < count_of w → count_of w ≤ 16 → OnlyProcess w v k → word v (kept_count_at_of k) ≤ 16
    → process_in v k ≡ f k → run_of w ≡ with_processes k f s → run_of v ≡ with_processes (k + 1) f s
unfolding with_processes
with_processes_step w v k f s fit lt few only most part inv =
    with_process_lem w v k fit lt few only most ∙ rw (add-one, inv, part)
