-- Tests gathered in the bits of a word: it is 0 exactly if each part was.
-- Assumes nothing.
use Rattle.std.specs.Prelude.{◌≡◌, ◌&&◌, ◌||◌, ◌+◌, ◌-◌}
use Rattle.laws.specs.Basics.{refl, ◌∙◌, Bool, true, false, not, ℕ, arith, eqb, leb, eq-eqb, eqb-true, le-leb, leb-true, pick}
use native.Mathlib.Numerals.{add-one}
use lib.Bits.{bit_or, or_add_and, and_le_l, and_le_r}
use Rattle.laws.specs.{Below.all_and, Elements.same_test, Search.all_below, Search.any_below, Truth.and_out, Truth.and_both}

pub or_zero : (a b : ℕ) → eqb (bit_or a b) 0 ≡ (eqb a 0 && eqb b 0)
or_zero a b = same_test _ _
    (λ e.
    let z = eqb-true (bit_or a b) 0 e in
    let s = or_add_and a b in let l = and_le_l a b in let r = and_le_r a b in
    and_both (eqb a 0) (eqb b 0) (eq-eqb a 0 (omega arith)) (eq-eqb b 0 (omega arith)))
    (λ e.
    let p = and_out (eqb a 0) (eqb b 0) e in
    let x = eqb-true a 0 p.0 in let y = eqb-true b 0 p.1 in
    let s = or_add_and a b in
    eq-eqb (bit_or a b) 0 (omega arith))

pub less_zero : (x y : ℕ) → eqb (x - y) 0 ≡ leb x y
less_zero x y = same_test _ _ (λ e. let z = eqb-true (x - y) 0 e in le-leb x y (omega arith)) (λ e. let z = leb-true x y e in eq-eqb (x - y) 0 (omega arith))

-- An iteration of a loop that gathers.
pub or_step : (t : ℕ → Bool) (f over e : ℕ) → eqb over 0 ≡ all_below f t → eqb e 0 ≡ t f → eqb (bit_or over e) 0 ≡ all_below (f + 1) t
or_step t f over e inv here = or_zero over e ∙ all_and t f (eqb over 0) (eqb e 0) inv here

-- Ones gathered where a test holds: the word is 0 exactly if none has.
pub any_none : (t : ℕ → Bool) → true ≡ not (any_below 0 t)
unfolding any_below
any_none t = refl

neither : (a b : Bool) → (not a && not b) ≡ not (b || a)
neither true true = refl
neither true false = refl
neither false true = refl
neither false false = refl

ones_zero : (b : Bool) → eqb (pick b 65535 0) 0 ≡ not b
ones_zero true = refl
ones_zero false = refl

pub any_step : (t : ℕ → Bool) (f any here : ℕ) → eqb any 0 ≡ not (any_below f t) → here ≡ pick (t f) 65535 0 → eqb (bit_or any here) 0 ≡ not (any_below (f + 1) t)
unfolding any_below
any_step t f any here inv e = or_zero any here ∙ rw (inv, e, ones_zero (t f), add-one f) (neither (any_below f t) (t f))

pub any_end : (b : Bool) (any : ℕ) → eqb any 0 ≡ not b → not (eqb any 0) ≡ b
any_end true any e = rw e
any_end false any e = rw e
