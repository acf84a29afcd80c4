-- `library_calls::run_words::fill::is_message_unused` meets its contract. Assumes nothing.
use Rattle.model.specs.Sound.{unused_message}
use Rattle.library_calls.proofs.run_words.fill.is_message_unused.Goals as goal

pub returns : goal.returns
unfolding unused_message
returns c =
    rw c.is_zero-zero.ensures
