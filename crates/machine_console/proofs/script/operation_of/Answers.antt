-- `machine_console::script::operation_of` meets its contract: the arm of the `match` says which number it is, and the last has 9 alone left.
-- Assumes nothing.
use Rattle.std.specs.Prelude.{◌≡◌, ◌≤◌}
use Rattle.laws.specs.Basics.{arith}
use Rattle.machine_console.specs.script.Script.{operation_of_def}
use Rattle.machine_console.proofs.script.operation_of.Goals as goal

pub returns-in-0 : goal.returns-in-0
unfolding operation_of_def
returns-in-0 c =
    rw c.in-0.is

pub returns-in-1 : goal.returns-in-1
unfolding operation_of_def
returns-in-1 c =
    rw c.in-1.is

pub returns-in-2 : goal.returns-in-2
unfolding operation_of_def
returns-in-2 c =
    rw c.in-2.is

pub returns-in-3 : goal.returns-in-3
unfolding operation_of_def
returns-in-3 c =
    rw c.in-3.is

pub returns-in-4 : goal.returns-in-4
unfolding operation_of_def
returns-in-4 c =
    rw c.in-4.is

pub returns-in-5 : goal.returns-in-5
unfolding operation_of_def
returns-in-5 c =
    rw c.in-5.is

pub returns-in-6 : goal.returns-in-6
unfolding operation_of_def
returns-in-6 c =
    rw c.in-6.is

pub returns-in-7 : goal.returns-in-7
unfolding operation_of_def
returns-in-7 c =
    rw c.in-7.is

pub returns-in-8 : goal.returns-in-8
unfolding operation_of_def
returns-in-8 c =
    rw c.in-8.is

pub returns-in_default : goal.returns-in_default
unfolding operation_of_def
returns-in_default c =
    let code = c.args.code in let others = c.in_default.in_default-own.rest in let above-1 : 1 ≤ code = omega (arith, others.0.0.0.0.0.0.0.0.1) in
    let above-2 : 2 ≤ code = omega (arith, above-1, others.0.0.0.0.0.0.0.1) in
    let above-3 : 3 ≤ code = omega (arith, above-2, others.0.0.0.0.0.0.1) in
    let above-4 : 4 ≤ code = omega (arith, above-3, others.0.0.0.0.0.1) in
    let above-5 : 5 ≤ code = omega (arith, above-4, others.0.0.0.0.1) in
    let above-6 : 6 ≤ code = omega (arith, above-5, others.0.0.0.1) in
    let above-7 : 7 ≤ code = omega (arith, above-6, others.0.0.1) in
    let above-8 : 8 ≤ code = omega (arith, above-7, others.0.1) in
    let above-9 : 9 ≤ code = omega (arith, above-8, others.1) in
    let e : code ≡ 9 = omega (arith, above-9, c.requires) in
    rw e
