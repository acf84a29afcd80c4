-- `words_process::kept::clear_from` meets its contract. Assumes nothing.
use Rattle.std.specs.Prelude.{◌≡◌, ◌-◌, ◌≤◌}
use Rattle.laws.specs.Basics.{refl, ◌∙◌, arith, length, rules}
use Rattle.words_process.specs.Kept.{Cleared}
use Rattle.words_process.proofs.{Collecting.cleared_none, Collecting.cleared_step}
use Rattle.words_process.proofs.kept.clear_from.Given as goal

abbrev pub invariant-loop-k : goal.invariant-loop-k
invariant-loop-k l = (l.from ≤ l.k) × (l.k ≤ l.to) × (length l.w ≡ length l.initial.w) × Cleared l.initial.w l.p l.from l.k l.w
