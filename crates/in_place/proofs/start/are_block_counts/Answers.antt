-- `in_place::start::are_block_counts` meets its contract. Assumes nothing.
use Rattle.std.specs.Prelude.{◌≡◌, ◌&&◌, ◌-◌, ◌≤◌}
use Rattle.laws.specs.Basics.{◌∙◌, ap, Bool, arith, get_or, rules}
use Rattle.laws.specs.{Loops.all_zero, Rows.all_step, Search.all_below}
use Rattle.model.specs.Sound.{is_block_count_of}
use Rattle.in_place.proofs.start.are_block_counts.Goals as goal

pub loop-p-init : goal.loop-p-init
loop-p-init c =
    (search rules, all_zero _)

pub loop-p-preserved : goal.loop-p-preserved
loop-p-preserved c =
    let l = c.loop-p in (search rules, ap (λ (b : Bool). l.all && b) c.is_block_count-fits.ensures ∙ all_step _ l.p l.all l.invariant.1)

pub returns : goal.returns
returns c =
    let l = c.loop-p in let e : l.p ≡ c.args.n = omega arith in
    rw e at l.invariant.1
