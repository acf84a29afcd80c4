-- `words_process::disk::bill_deleted` meets its contract. Assumes nothing.
use Rattle.std.specs.Prelude.{◌≡◌, ◌+◌, ◌*◌, ◌≤◌, ◌<◌}
use Rattle.laws.specs.Basics.{refl, ◌∙◌, ap, List, ℕ, arith, length, rules}
use Rattle.words.proofs.Frames.{disk_stays}
use Rattle.words_process.proofs.{Billing.deleted_only, Billing.deleted_is, Billing.written_stays}
use native.Mathlib.Nat.{mul-le-mul, zero-mul}
use Rattle.words.specs.{Frames.OnlyDisk, Layout.wide4, Puts.puts, Puts.puts4}
use Rattle.words_process.proofs.disk.bill_deleted.Goals as goal

small_product : (gone blocks : ℕ) → gone ≤ 256 → blocks < 65536 → gone * blocks ≤ 16777216
small_product gone blocks a b = mul-le-mul {n₁ = gone} {m₁ = blocks} {n₂ = 256} {m₂ = 65536} a (omega arith)

module _ (w : List ℕ) where
  then_billed : (v : List ℕ) → length w ≡ 6464 → (gone blocks x : ℕ) → x ≡ wide4 w 8 → v ≡ puts w (puts4 8 (x + gone * blocks))
      → OnlyDisk w v × ((wide4 v 4 ≡ wide4 w 4) × (wide4 v 8 ≡ wide4 w 8 + gone * blocks))
  then_billed v size gone blocks x e is =
      rw is (deleted_only w size (x + gone * blocks), (written_stays w size (x + gone * blocks), deleted_is w size (x + gone * blocks) ∙ ap (λ (y : ℕ). y + gone * blocks) e))

  else_billed : (gone blocks : ℕ) → gone ≡ 0 → OnlyDisk w w × ((wide4 w 4 ≡ wide4 w 4) × (wide4 w 8 ≡ wide4 w 8 + gone * blocks))
  else_billed gone blocks none = (disk_stays w, (refl, rw (none, zero-mul blocks) (omega arith)))

pub overflow_mul-gone : goal.overflow_mul-gone
overflow_mul-gone c =
    let m = small_product c.args.gone c.args.blocks c.requires.2 (search rules) in search rules

pub overflow_add-less : goal.overflow_add-less
overflow_add-less c =
    let m = small_product c.args.gone c.args.blocks c.requires.2 (search rules) in let e = c.wide4-less.ensures in let p = c.requires.1 in search rules

pub returns-then-gone-gt0 : goal.returns-then-gone-gt0
returns-then-gone-gt0 c =
    let z = then_billed c.args.w.now _ c.requires.0 c.args.gone c.args.blocks _ c.wide4-less.ensures c.put4.ensures in record { only_disk = z.0; w_unchanged = z.1 }

pub returns-else-gone-gt0 : goal.returns-else-gone-gt0
returns-else-gone-gt0 c =
    let z = else_billed c.args.w.now c.args.gone c.args.blocks (let e = c.if-gone-gt0.false in omega arith) in record { only_disk = z.0; w_unchanged = z.1 }
