-- `library_readers::put_three` meets its contract. Assumes nothing.
use Rattle.std.specs.Prelude.{◌≡◌, ◌∷◌, ◌+◌}
use Rattle.laws.specs.Basics.{List, [], ℕ, arith, set, length-set, sets, rules}
use native.Mathlib.Numerals.{add-one}
use Rattle.library_readers.proofs.put_three.Goals as goal

three : (l : List ℕ) (at x y z : ℕ) → set (set (set l at x) (at + 1) y) (at + 2) z ≡ sets l at (x ∷ y ∷ z ∷ [])
three l at x y z = let e : at + 2 ≡ at + 1 + 1 = omega arith in rw (e, add-one (at + 1), add-one at)

pub bounds-out-at-2 : goal.bounds-out-at-2
bounds-out-at-2 c =
    simp length-set (omega arith)

pub bounds-out-at-3 : goal.bounds-out-at-3
bounds-out-at-3 c =
    simp length-set (omega arith)

pub returns : goal.returns
returns c =
    let a = c.args in three a.out.now a.at a.x a.y a.z
