-- `library_calls::run_words::read::disk_of` meets its contract. Assumes nothing.
use Rattle.library_calls.proofs.run_words.read.disk_of.Goals as goal

pub returns : goal.returns
returns c =
    λ j. record { written = c.wide4-written.ensures j; deleted = c.wide4-deleted.ensures j }
