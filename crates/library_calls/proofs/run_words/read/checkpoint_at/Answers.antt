-- `library_calls::run_words::read::checkpoint_at` meets its contract. Assumes nothing.
use Rattle.words.specs.Layout.{checkpoint_in}
use Rattle.library_calls.proofs.run_words.read.checkpoint_at.Goals as goal

pub returns : goal.returns
unfolding checkpoint_in
returns c =
    rw (c.cause_of-cause.ensures, c.vector_at-vector.ensures, c.index_of-index.ensures)
