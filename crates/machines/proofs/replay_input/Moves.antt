-- Bytes moved towards the front of a list, one after the other: the first k of them are written, and what lies after them is as it was.
-- Assumes nothing.
use Rattle.std.specs.Prelude.{◌≡◌, ◌∷◌, ◌+◌, ◌≤◌, ◌<◌}
use Rattle.laws.specs.Basics.{refl, sym, ◌∙◌, ap, List, [], ℕ, suc, arith, length, get_or, take, drop, set, length-drop, sets, get_or-set_other, length-take-le}
use lib.Seq.{get_or-drop}
use Rattle.laws.specs.{Prefixes.take_more, Written.sets_after}

above : (l : List ℕ) (i : ℕ) (xs : List ℕ) (j : ℕ) → i + length xs ≤ j → get_or (sets l i xs) j 0 ≡ get_or l j 0
above l i [] j h = refl
above l i (x ∷ xs) j h = above (set l i x) (suc i) xs j (omega arith) ∙ get_or-set_other l i j x 0 (omega arith)

pub one_moved : (b₀ b : List ℕ) (to from k : ℕ) → b ≡ sets b₀ to (take k (drop from b₀)) → to ≤ from → from + k < length b₀
    → set b (to + k) (get_or b (from + k) 0) ≡ sets b₀ to (take (k + 1) (drop from b₀))
one_moved b₀ b to from k so_far order more =
    let moved = take k (drop from b₀) in
    let many : length moved ≡ k = length-take-le k (drop from b₀) (omega (arith, length-drop from b₀)) in
    let byte : get_or b (from + k) 0 ≡ get_or (drop from b₀) k 0 = ap (λ (l : List ℕ). get_or l (from + k) 0) so_far ∙ above b₀ to moved (from + k) (omega arith) ∙ sym (get_or-drop from b₀ k 0) in
    ap (set b (to + k)) byte
    ∙ sets_after b₀ b to (to + k) moved so_far (omega arith) (get_or (drop from b₀) k 0 ∷ [])
    ∙ ap (sets b₀ to) (sym (take_more (drop from b₀) k 0 (omega (arith, length-drop from b₀))))
