-- Eight bytes by the tests of `call_of`, and that what has 16 bits is the whole argument.
-- Assumes nothing.
use Rattle.std.specs.Prelude.{◌≡◌, ◌&&◌, ◌≤◌, ◌<◌}
use Rattle.laws.specs.Basics.{sym, ◌∙◌, ap, Bool, true, false, List, ℕ, arith, eqb, eqb-true, lt-ltb, le-ltb}
use Rattle.laws.specs.{Tests.every, Truth.and_left, Truth.and_right}
use Rattle.theory_roles.specs.declared.{Operation.Operation, Operation.TheVariants.Recover, Operation.TheVariants.Line, Operation.TheVariants.Earliest}
use Rattle.machine_console.specs.declared.{script.Call.Call, script.Read.TheVariants.Malformed, script.Read.TheVariants.Asks}
use Rattle.machine_console.specs.script.Script.{byte, operation_of_def, must_be_zero, is_clear_of, well_formed, call_in, call_of, asked, WholeArguments}

module _ (call : List ℕ) where
  pub no_operation : 9 < byte call 3 → Malformed ≡ asked (call_of call)
  unfolding asked call_of well_formed
  no_operation h = rw (le-ltb (byte call 3) 10 (omega (arith, h)))

  module _ (h : byte call 3 ≤ 9) (o : Operation) (e : o ≡ operation_of_def (byte call 3)) (b : Bool) (is : b ≡ is_clear_of o call) where
    clear_is : is_clear_of (operation_of_def (byte call 3)) call ≡ b
    clear_is = ap (λ (p : Operation). is_clear_of p call) (sym e) ∙ sym is

    pub not_clear : b ≡ false → Malformed ≡ asked (call_of call)
    unfolding asked call_of well_formed
    not_clear q = rw (lt-ltb (byte call 3) 10 (omega (arith, h)), clear_is ∙ q)

    pub asks : b ≡ true → (x : Call) → x ≡ call_in o call → Asks x ≡ asked (call_of call)
    unfolding asked call_of well_formed
    asks q x i = rw (lt-ltb (byte call 3) 10 (omega (arith, h)), clear_is ∙ q) (ap Asks (i ∙ ap (λ (p : Operation). call_in p call) e))

-- A failed set and an index, which have 16 bits, are the whole argument of a call that is well-formed.
low_of : (call : List ℕ) (o : Operation) → byte call 5 ≡ 0 → (call_in o call).argument ≡ (call_in o call).low
unfolding call_in
low_of call o z = omega (arith, z)

high : (call : List ℕ) → (eqb (byte call 5) 0 && true) ≡ true → byte call 5 ≡ 0
high call e = eqb-true (byte call 5) 0 (and_left (eqb (byte call 5) 0) true e)

pub whole_arguments : WholeArguments
unfolding WholeArguments is_clear_of must_be_zero every
whole_arguments call = (
  λ e. low_of call Recover (high call (and_right (eqb (byte call 4) 0) (eqb (byte call 5) 0 && true) e)),
  λ e. low_of call Line (high call (and_right (eqb (byte call 4) 0) (eqb (byte call 5) 0 && true) e)),
  λ e. low_of call Earliest (high call e),
)
