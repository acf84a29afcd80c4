-- `lemidrosy::saving::lemidrosy_save` meets its contract. Assumes nothing.
use Rattle.laws.specs.Basics.{rules}
use Rattle.library_readers.proofs.saved.Promises.{saved_is_loaded}
use Rattle.lemidrosy.proofs.saving.lemidrosy_save.Goals as goal

pub shape_of-bytes : goal.shape_of-bytes
shape_of-bytes c =
    c.save.auto.bytes

pub returns : goal.returns
returns c =
    let g = c.save.ensures in record { value = g.value; bytes_after = g.bytes_after; saved_is_loaded = saved_is_loaded c.args.words.now }
