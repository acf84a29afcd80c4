-- `library_calls::run_words::fill::is_message_fit` meets its contract. Assumes nothing.
use Rattle.laws.specs.Basics.{rules}
use Rattle.library_calls.specs.run_words.Fits.{message_fits}
use Rattle.library_calls.proofs.run_words.fill.is_message_fit.Goals as goal

pub returns : goal.returns
unfolding message_fits
returns c =
    search rules
