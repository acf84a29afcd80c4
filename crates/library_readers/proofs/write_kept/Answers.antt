-- `library_readers::write_kept` meets its contract. Assumes nothing.
use Rattle.std.specs.Prelude.{◌≡◌, ◌+◌, ◌-◌, ◌*◌, ◌≤◌}
use Rattle.laws.specs.Basics.{refl, ◌∙◌, List, ℕ, arith, length, sets, rules}
use Rattle.laws.specs.Lists.{table}
use Rattle.words.specs.Layout.{checkpoint_in}
use Rattle.library_readers.specs.Readings.{stored_numbers}
use Rattle.library_readers.proofs.{Three.stored_step}
use Rattle.library_readers.proofs.write_kept.Goals as goal

nothing : (w out : List ℕ) (p : ℕ) → out ≡ sets out 0 (stored_numbers (table 0 (checkpoint_in w p)))
unfolding table stored_numbers
nothing w out p = refl

pub loop-k-init : goal.loop-k-init
loop-k-init c =
    let a = c.args in (search rules, refl, nothing a.w.now a.out.now a.p)

pub write_checkpoint-requires : goal.write_checkpoint-requires
write_checkpoint-requires c =
    let l = c.loop-k in let less = c.loop-k-test.true in (c.requires.0, c.requires.1, omega (arith, less, c.requires.2), c.requires.4 l.k less, omega (arith, less, c.requires.3, l.invariant.1))

pub loop-k-preserved : goal.loop-k-preserved
loop-k-preserved c =
    let l = c.loop-k in let a = c.args in let t = c.write_checkpoint in (search rules, t.auto.out ∙ l.invariant.1, t.ensures ∙ stored_step (checkpoint_in a.w.now a.p) a.out.now l.out l.k l.invariant.2)

pub returns : goal.returns
returns c =
    let l = c.loop-k in let e : l.k ≡ c.args.kept_count = omega arith in
    rw e at l.invariant.2
