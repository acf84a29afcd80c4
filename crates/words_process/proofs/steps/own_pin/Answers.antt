-- `words_process::steps::own_pin` meets its contract. Assumes nothing.
use Rattle.laws.specs.Basics.{rules}
use Rattle.words_process.proofs.steps.own_pin.Goals as goal

pub pin_word-requires : goal.pin_word-requires
pin_word-requires c =
    c.requires c.if-stores.true

pub returns-then-stores : goal.returns-then-stores
returns-then-stores c =
    rw c.if-stores.true c.pin_word.ensures.0
