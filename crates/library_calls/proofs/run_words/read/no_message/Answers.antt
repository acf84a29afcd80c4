-- `library_calls::run_words::read::no_message` meets its contract. Assumes nothing.
use Rattle.library_calls.proofs.run_words.read.no_message.Goals as goal

pub returns : goal.returns
returns c =
    rw c.zero_vector-vector.ensures
