-- `words::pin_of` meets its contract. Assumes nothing.
use Rattle.laws.specs.Basics.{sym, ◌∙◌, ap, arith, rules}
use Rattle.std.specs.Prelude.{Some}
use Rattle.words.specs.Layout.{pin_of_def}
use Rattle.words.proofs.{Reading.pin_some}
use Rattle.words.proofs.pin_of.Goals as goal

pub returns-then-x-eq0 : goal.returns-then-x-eq0
unfolding pin_of_def
returns-then-x-eq0 c =
    search rules

pub returns-else-x-eq0 : goal.returns-else-x-eq0
returns-else-x-eq0 c =
    ap Some c.index_of.ensures ∙ sym (pin_some c.args.x (omega arith))
