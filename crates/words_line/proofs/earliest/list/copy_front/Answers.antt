-- `words_line::earliest::list::copy_front` meets its contract: an array has no more than 16 elements.
-- Assumes nothing.
use Rattle.laws.specs.Basics.{sym, ◌∙◌, ap, rules}
use lib.Seq.{take_all}
use Rattle.words_line.specs.earliest.Copying.{copy_of}
use Rattle.words_line.proofs.earliest.list.copy_front.Goals as goal

pub returns : goal.returns
returns c =
    let a = c.args in let long = c.if-length-lt-PROCESSES.false in c.copy_some-2.ensures ∙ ap copy_of (take_all 16 a.named (search rules) ∙ sym (take_all a.length a.named (search rules)))
