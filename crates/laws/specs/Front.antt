-- Values written to the front of a list: the entries written, and those past them.
use Rattle.std.specs.Prelude.{◌≡◌, List, ◌++◌, ℕ, ◌+◌, ◌≤◌, ◌<◌, length, get_or, drop}
use Rattle.std.proofs.Common.{◌∙◌, arith}
use Rattle.std.proofs.Math.ListN.{get_or-append}
use Rattle.std.proofs.lemmas.List.Edits.{sets, sets-eq}

module _ {A : Type 0} (l xs : List A) (fits : length xs ≤ length l) where
  -- The list, taken apart after what was written.
  pub written_front : sets l 0 xs ≡ xs ++ drop (length xs) l
  written_front = let e : 0 + length xs ≡ length xs = omega arith in sets-eq xs l 0 (omega arith) ∙ rw e

  -- An entry that was written.
  pub get_d_written : (p : ℕ) (d : A) → p < length xs → get_or (sets l 0 xs) p d ≡ get_or xs p d
  get_d_written p d h = rw written_front (get_or-append xs (drop (length xs) l) d p h)
