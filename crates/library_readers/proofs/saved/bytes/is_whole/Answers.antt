-- `library_readers::saved::bytes::is_whole` meets its contract. Assumes nothing.
use Rattle.laws.specs.Basics.{ap, not, sym, ◌∙◌, true, false, rules}
use Rattle.laws.specs.Below.{not_out}
use Rattle.library_readers.proofs.{saved.Parts.not_sized, saved.Parts.not_headed, saved.Parts.summed_or_not}
use Rattle.library_readers.proofs.saved.bytes.is_whole.Goals as goal

pub returns-then-bytes-ne-SAVED : goal.returns-then-bytes-ne-SAVED
returns-then-bytes-ne-SAVED c =
    not_sized _ c.if-bytes-ne-SAVED.true

pub returns-then-not-headed : goal.returns-then-not-headed
returns-then-not-headed c =
    not_headed c.args.bytes.now c.if-bytes-ne-SAVED.false (sym c.has_heading-headed.ensures ∙ not_out _ true (ap not c.if-not-headed.true))

pub returns : goal.returns
returns c =
    summed_or_not c.args.bytes.now c.if-bytes-ne-SAVED.false (sym c.has_heading-headed.ensures ∙ not_out _ false (ap not c.if-not-headed.false))
    c.sum_in-stored.result c.crc32c_of-sum.result c.sum_in-stored.ensures c.crc32c_of-sum.ensures
