-- `library_calls::run_words::read::message_at` meets its contract. Assumes nothing.
use Rattle.words.specs.Layout.{message_in}
use Rattle.library_calls.proofs.run_words.read.message_at.Goals as goal

pub returns : goal.returns
unfolding message_in
returns c =
    rw (
      c.number_of-receiver.ensures,
      c.number_of-sender.ensures,
      c.vector_at-vector.ensures,
      c.number_at-number.ensures,
    )
