-- `words_process::disk::bill_stored` meets its contract. Assumes nothing.
use Rattle.std.specs.Prelude.{◌≡◌, ◌+◌}
use Rattle.laws.specs.Basics.{refl, ◌∙◌, ap, Bool, true, false, List, ℕ, arith, length, rules, pick}
use Rattle.words.proofs.Frames.{disk_stays}
use Rattle.words_process.proofs.{Billing.written_only, Billing.written_is, Billing.deleted_stays}
use Rattle.words.specs.{Frames.OnlyDisk, Layout.wide4, Puts.puts, Puts.puts4}
use Rattle.words_process.proofs.disk.bill_stored.Goals as goal

module _ (w : List ℕ) where
  then_billed : (v : List ℕ) → length w ≡ 6464 → (stores : Bool) (blocks x : ℕ) → stores ≡ true → x ≡ wide4 w 4 → v ≡ puts w (puts4 4 (x + blocks))
      → OnlyDisk w v × ((wide4 v 4 ≡ wide4 w 4 + pick stores blocks 0) × (wide4 v 8 ≡ wide4 w 8))
  then_billed v size stores blocks x taken e is =
      rw (is, taken) (written_only w size (x + blocks), (written_is w size (x + blocks) ∙ ap (λ (y : ℕ). y + blocks) e, deleted_stays w size (x + blocks)))

  else_billed : (stores : Bool) (blocks : ℕ) → stores ≡ false → OnlyDisk w w × ((wide4 w 4 ≡ wide4 w 4 + pick stores blocks 0) × (wide4 w 8 ≡ wide4 w 8))
  else_billed stores blocks left = rw left (disk_stays w, (omega arith, refl))

pub returns-then-stores : goal.returns-then-stores
returns-then-stores c =
    let x = c.wide4-written.ensures in let z = then_billed c.args.w.now _ c.requires.0 c.args.stores c.args.blocks _ c.if-stores.true x c.put4.ensures in record { only_disk = z.0; w_after = z.1 }

pub returns-else-stores : goal.returns-else-stores
returns-else-stores c =
    let z = else_billed c.args.w.now c.args.stores c.args.blocks c.if-stores.false in record { only_disk = z.0; w_after = z.1 }
