-- `library_readers::saved::bytes::words_in` meets its contract. Assumes nothing.
use Rattle.std.specs.Prelude.{◌≡◌, ◌-◌, ◌≤◌}
use Rattle.laws.specs.Basics.{◌∙◌, ℕ, arith, length-replicate, rules}
use Rattle.laws.specs.Loops.{set_below, below_none, step_set, below_all}
use Rattle.library_readers.specs.saved.Format.{word_in_of, words_in}
use Rattle.library_readers.proofs.saved.bytes.words_in.Goals as goal

pub loop-k-init : goal.loop-k-init
loop-k-init c =
    (search rules, below_none _ _)

pub loop-k-preserved : goal.loop-k-preserved
loop-k-preserved c =
    let l = c.loop-k in (search rules, step_set (word_in_of c.args.bytes.now) _ l.w l.k l.invariant.1 _ c.word_in-x.ensures)

pub returns : goal.returns
unfolding words_in
returns c =
    let l = c.loop-k in let e : l.k ≡ 6464 = omega arith in
    rw e at l.invariant.1 ∙ below_all _ _ 6464 (length-replicate {A = ℕ} 6464 0)
