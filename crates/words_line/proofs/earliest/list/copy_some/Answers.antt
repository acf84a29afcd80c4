-- `words_line::earliest::list::copy_some` meets its contract. The loop's invariant: what is copied so far is the copy of the elements passed.
-- Assumes nothing.
use Rattle.std.specs.Prelude.{◌≡◌, ◌-◌, ◌≤◌}
use Rattle.laws.specs.Basics.{sym, ◌∙◌, arith, take, length-take-le, rules}
use lib.Seq.{get_or-take}
use Rattle.words_line.specs.earliest.Copying.{no_named, copy_to}
use Rattle.words_line.proofs.earliest.Lists.{to_length, copy_none, copy_more, copy_whole}
use Rattle.words_line.proofs.earliest.list.copy_some.Goals as goal

pub loop-k-init : goal.loop-k-init
loop-k-init c =
    (search rules, copy_none _ _ c.nothing_copied-copied.ensures)

pub with_element-copied-requires : goal.with_element-copied-requires
with_element-copied-requires c =
    let few = c.requires in rw (c.loop-k.invariant.1, to_length (take c.args.m c.args.named) c.loop-k.k) (omega (arith, few, c.loop-k.invariant.0))

pub loop-k-preserved : goal.loop-k-preserved
loop-k-preserved c =
    let a = c.args in (search rules, copy_more (take a.m a.named) c.loop-k.k _ _ (sym (get_or-take a.m a.named c.loop-k.k no_named (search rules))) (rw c.loop-k.invariant.1 at c.with_element-copied.ensures))

pub returns : goal.returns
returns c =
    let a = c.args in let e : c.loop-k.k ≡ a.m = omega arith in
    c.loop-k.invariant.1 ∙ copy_whole (take a.m a.named) c.loop-k.k (e ∙ sym (length-take-le a.m a.named (search rules)))
