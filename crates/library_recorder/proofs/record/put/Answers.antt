-- `recorder::bytes::put` meets its contract: four stores, one after the other.
-- Assumes nothing.
use Rattle.std.specs.Prelude.{◌≡◌, ◌∷◌, ◌+◌}
use Rattle.laws.specs.Basics.{List, [], ℕ, suc, arith, length, get_or, set, length-set, sets, rules}
use Rattle.library_recorder.proofs.record.put.Goals as goal

-- Four stores one after the other.
four : (b l : List ℕ) (k : ℕ) → length b ≡ 4 → set (set (set (set l k (get_or b 0 0)) (k + 1) (get_or b 1 0)) (k + 2) (get_or b 2 0)) (k + 3) (get_or b 3 0) ≡ sets l k b
four [] l k e = absurd (omega arith)
four (x ∷ []) l k e = absurd (omega arith)
four (x ∷ y ∷ []) l k e = absurd (omega arith)
four (x ∷ y ∷ z ∷ []) l k e = absurd (omega arith)
four (x ∷ y ∷ z ∷ w ∷ []) l k e = rw (one, two, three)
  where
    one : k + 1 ≡ suc k
    one = omega arith

    two : k + 2 ≡ suc (suc k)
    two = omega arith

    three : k + 3 ≡ suc (suc (suc k))
    three = omega arith
four (x ∷ y ∷ z ∷ w ∷ v ∷ b) l k e = absurd (omega arith)

pub bounds-buffer-place-2 : goal.bounds-buffer-place-2
bounds-buffer-place-2 c =
    simp length-set (omega arith)

pub bounds-buffer-place-3 : goal.bounds-buffer-place-3
bounds-buffer-place-3 c =
    simp length-set (omega arith)

pub bounds-buffer-place-4 : goal.bounds-buffer-place-4
bounds-buffer-place-4 c =
    simp length-set (omega arith)

pub returns : goal.returns
returns c =
    four c.args.bytes _ c.args.place (search rules)
