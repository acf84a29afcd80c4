-- `library_calls::run_words::fill::mark_word` meets its contract. Assumes nothing.
use Rattle.laws.specs.Basics.{rules}
use Rattle.library_calls.specs.run_words.Filled.{mark_word_of}
use Rattle.library_calls.proofs.run_words.fill.mark_word.Goals as goal

pub returns-then-mark : goal.returns-then-mark
unfolding mark_word_of
returns-then-mark c =
    search rules

pub returns-else-mark : goal.returns-else-mark
unfolding mark_word_of
returns-else-mark c =
    search rules
