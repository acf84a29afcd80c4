-- `library_readers::saved::bytes::heading_bytes` meets its contract, by computation. Assumes nothing.
use Rattle.laws.specs.Basics.{refl}
use Rattle.library_readers.specs.saved.Format.{heading}
use Rattle.library_readers.proofs.saved.bytes.heading_bytes.Goals as goal

pub returns : goal.returns
unfolding heading
returns c =
    refl
