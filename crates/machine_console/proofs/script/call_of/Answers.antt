-- `machine_console::script::call_of` meets its contract: the operation is judged, then the bytes that must be zero.
-- Assumes nothing.
use Rattle.laws.specs.Basics.{rules}
use Rattle.machine_console.proofs.{script.Calls.no_operation, script.Calls.not_clear, script.Calls.asks}
use Rattle.machine_console.proofs.script.call_of.Goals as goal

pub returns-then-code-gt9 : goal.returns-then-code-gt9
returns-then-code-gt9 c =
    no_operation c.args.bytes c.if-code-gt9.true

pub returns-then-is_clear : goal.returns-then-is_clear
returns-then-is_clear c =
    asks c.args.bytes c.if-code-gt9.false _ c.operation_of-operation.ensures _ c.is_clear.ensures c.if-is_clear.true _ c.call_in-call.ensures

pub returns : goal.returns
returns c =
    not_clear c.args.bytes c.if-code-gt9.false _ c.operation_of-operation.ensures _ c.is_clear.ensures c.if-is_clear.false
