-- `library_calls::run_words::fill::is_unused` meets its contract. Assumes nothing.
use Rattle.model.specs.Sound.{unused_checkpoint}
use Rattle.library_calls.proofs.run_words.fill.is_unused.Goals as goal

pub returns : goal.returns
unfolding unused_checkpoint
returns c =
    rw c.is_zero-zero.ensures
