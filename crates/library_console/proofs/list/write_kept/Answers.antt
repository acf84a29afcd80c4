-- `library_console::list::write_kept` meets its contract. The loop's invariant: the pairs of the checkpoints passed are written.
-- Assumes nothing.
use Rattle.std.specs.Prelude.{◌≡◌, ◌-◌, ◌≤◌}
use Rattle.laws.specs.Basics.{refl, ◌∙◌, arith, length, sets, rules}
use Rattle.laws.specs.Lists.{table}
use Rattle.model.specs.Steps.{listed}
use Rattle.whole_runs.specs.Outcomes.{pairs}
use Rattle.words.specs.Layout.{checkpoint_in}
use Rattle.library_console.proofs.{Listing.none_written, Listing.one_written}
use Rattle.library_console.proofs.list.write_kept.Goals as goal

pub loop-k-init : goal.loop-k-init
loop-k-init c =
    let a = c.args in (search rules, refl, none_written a.p (checkpoint_in a.w.now a.p) a.deleted.now a.at)

pub write_pair-requires : goal.write_pair-requires
write_pair-requires c =
    let l = c.loop-k in (c.requires.0, c.requires.1, omega (arith, c.loop-k-test.true, c.requires.2), c.requires.4 l.k c.loop-k-test.true, omega (arith, c.loop-k-test.true, c.requires.3, l.invariant.1))

pub loop-k-preserved : goal.loop-k-preserved
loop-k-preserved c =
    let l = c.loop-k in let a = c.args in (search rules, c.write_pair.auto.deleted ∙ l.invariant.1, c.write_pair.ensures ∙ one_written a.p (checkpoint_in a.w.now a.p) a.deleted.now l.deleted a.at l.k l.invariant.2)

pub returns : goal.returns
returns c =
    let l = c.loop-k in let e : l.k ≡ c.args.kept_count = omega arith in
    rw e at l.invariant.2
