-- `library_calls::run_words::read::is_kept` meets its contract. Assumes nothing.
use Rattle.words.specs.Layout.{is_kept_in}
use Rattle.library_calls.proofs.run_words.read.is_kept.Goals as goal

pub returns : goal.returns
unfolding is_kept_in
returns c =
    rw c.number_of-kept_count.ensures
