-- `library_calls::run_words::fill::word_of_pin` meets its contract. Assumes nothing.
use Rattle.laws.specs.Basics.{rules}
use Rattle.library_calls.specs.run_words.Filled.{pin_word}
use Rattle.library_calls.proofs.run_words.fill.word_of_pin.Goals as goal

pub returns-in-None : goal.returns-in-None
unfolding pin_word
returns-in-None c =
    search rules

pub returns-in-Some : goal.returns-in-Some
unfolding pin_word
returns-in-Some c =
    rw (c.word_of_index.ensures, c.in-Some.is)
