-- `library_calls::run_words::fill::is_nothing` meets its contract. Assumes nothing.
use Rattle.laws.specs.Basics.{rules}
use Rattle.model.specs.Sound.{is_nothing_of}
use Rattle.library_calls.proofs.run_words.fill.is_nothing.Goals as goal

pub returns-in-None : goal.returns-in-None
unfolding is_nothing_of
returns-in-None c =
    search rules

pub returns-in-Some : goal.returns-in-Some
unfolding is_nothing_of
returns-in-Some c =
    search rules
