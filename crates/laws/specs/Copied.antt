-- A list copied into a table of fixed size entry by entry; and an entry that is there, read with any default.
use Rattle.std.specs.Prelude.{◌≡◌, List, ℕ, ◌+◌, ◌<◌, length, get_or, set, take}
use Rattle.std.proofs.Common.{arith, length-take-le}
use Rattle.laws.specs.Lists.{placed}
use Rattle.laws.specs.Prefixes.{take_more, placed_more}

-- One entry more of a list is copied into a table.
pub copied : {A : Type 0} (n : ℕ) (unused : A) (l out : List A) (k : ℕ) (d : A) → k < length l → k < n → out ≡ placed n unused (take k l)
    → set out k (get_or l k d) ≡ placed n unused (take (k + 1) l)
copied n unused l out k d there room e =
    let front : length (take k l) ≡ k = length-take-le k l (omega arith) in
    let more = placed_more n unused (take k l) (get_or l k d) (omega (arith, front)) in
    rw (e, take_more l k d there) (rw front at more)
