-- One iteration more of a loop that gathers.
-- Assumes nothing.
use Rattle.std.specs.Prelude.{◌≡◌, ◌||◌, ◌+◌}
use Rattle.laws.specs.Basics.{◌∙◌, ap, Bool, ℕ, by_bool}
use Rattle.laws.specs.{Loops.any_yes, Loops.any_no, Rows.or_false, Search.any_below, Truth.or_in_right}

pub any_or : (t : ℕ → Bool) (i : ℕ) (mark x : Bool) → mark ≡ any_below i t → x ≡ t i → (mark || x) ≡ any_below (i + 1) t
any_or t i mark x inv e = by_bool (t i)
    (λ yes. or_in_right mark x (e ∙ yes) ∙ any_yes t i yes)
    (λ no. ap (λ (b : Bool). mark || b) (e ∙ no) ∙ or_false mark ∙ any_no t i mark inv no)
