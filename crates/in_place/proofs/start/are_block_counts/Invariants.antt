-- `in_place::start::are_block_counts` meets its contract. Assumes nothing.
use Rattle.std.specs.Prelude.{◌≡◌, ◌&&◌, ◌-◌, ◌≤◌}
use Rattle.laws.specs.Basics.{◌∙◌, ap, Bool, arith, get_or, rules}
use Rattle.laws.specs.{Loops.all_zero, Rows.all_step, Search.all_below}
use Rattle.model.specs.Sound.{is_block_count_of}
use Rattle.in_place.proofs.start.are_block_counts.Given as goal

abbrev pub invariant-loop-p : goal.invariant-loop-p
invariant-loop-p l = (l.p ≤ l.n) × (l.all ≡ all_below l.p (λ q. is_block_count_of (get_or l.block_counts q 0)))
