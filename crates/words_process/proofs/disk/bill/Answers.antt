-- `words_process::disk::bill` meets its contract. Assumes nothing.
use Rattle.laws.specs.Basics.{◌∙◌, rules}
use Rattle.words.proofs.Frames.{disk_then_lem}
use Rattle.words_process.proofs.disk.bill.Goals as goal

pub returns : goal.returns
returns c =
    let a = c.bill_stored.ensures in let b = c.bill_deleted.ensures in record { only_disk = disk_then_lem c.args.w.now _ _ a.only_disk b.only_disk; w_after = (b.w_unchanged.0 ∙ a.w_after.0, rw (← a.w_after.1) b.w_unchanged.1) }
