-- `words::pin_word` meets its contract. Assumes nothing.
use Rattle.laws.specs.Basics.{refl, rules}
use Rattle.words.proofs.{Reading.pin_back, Reading.index_back}
use Rattle.words.proofs.pin_word.Goals as goal

pub returns : goal.returns
returns c =
    (refl, pin_back c.args.index, index_back c.args.index)
