-- `lemidrosy::saving::lemidrosy_load` meets its contract. Assumes nothing.
use Rattle.laws.specs.Basics.{rules}
use Rattle.library_readers.proofs.saved.Promises.{loaded_was_saved}
use Rattle.lemidrosy.proofs.saving.lemidrosy_load.Goals as goal

pub shape_of-words : goal.shape_of-words
shape_of-words c =
    c.load.auto.w

pub returns : goal.returns
returns c =
    let g = c.load.ensures in record { value = g.value; words_after = g.w_after; loaded_was_saved = loaded_was_saved c.args.bytes.now }
