-- `library_calls::run_words::fill::is_pin_fit` meets its contract. Assumes nothing.
use Rattle.laws.specs.Basics.{rules}
use Rattle.library_calls.specs.run_words.Fits.{pin_fits}
use Rattle.library_calls.proofs.run_words.fill.is_pin_fit.Goals as goal

pub returns-in-None : goal.returns-in-None
unfolding pin_fits
returns-in-None c =
    search rules

pub returns-in-Some : goal.returns-in-Some
unfolding pin_fits
returns-in-Some c =
    rw (c.is_index_fit.ensures, c.in-Some.is)
