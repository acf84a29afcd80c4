-- `words_line::earliest::list::with_element` meets its contract.
-- Assumes nothing.
use Rattle.laws.specs.Basics.{rules}
use Rattle.words_line.specs.earliest.Copying.{with_element_of}
use Rattle.words_line.proofs.earliest.list.with_element.Goals as goal

pub returns : goal.returns
unfolding with_element_of
returns c =
    rw (c.greater-process.ensures, c.placed-named.ensures)
