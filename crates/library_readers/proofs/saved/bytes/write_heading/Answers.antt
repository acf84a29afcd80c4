-- `library_readers::saved::bytes::write_heading` meets its contract. Assumes nothing.
use Rattle.std.specs.Prelude.{◌≡◌, ◌-◌, ◌≤◌}
use Rattle.laws.specs.Basics.{refl, ◌∙◌, ap, List, ℕ, arith, length, get_or, length-set, sets, rules}
use Rattle.laws.specs.{Below.below_written, Loops.set_below, Loops.below_none, Loops.step_set}
use Rattle.library_readers.specs.saved.Format.{heading}
use Rattle.library_readers.proofs.{saved.Parts.heading_table}
use Rattle.library_readers.proofs.saved.bytes.write_heading.Goals as goal

pub loop-k-init : goal.loop-k-init
loop-k-init c =
    (search rules, search rules, refl, below_none _ _)

pub loop-k-preserved : goal.loop-k-preserved
loop-k-preserved c =
    let l = c.loop-k in let a = c.args in (search rules, l.invariant.1, simp length-set l.invariant.2, step_set (λ q. get_or heading q 0) a.bytes.now l.bytes l.k l.invariant.3 _ (ap (λ (h : List ℕ). get_or h l.k 0) l.invariant.1))

pub returns : goal.returns
returns c =
    let l = c.loop-k in let e : l.k ≡ 10 = omega arith in
    rw e at l.invariant.3 ∙ below_written _ _ _ ∙ ap (sets c.args.bytes.now 0) heading_table
