-- `machine_console::making::processes` meets its contract. Assumes nothing.
use Rattle.laws.specs.Basics.{◌∙◌, ap, min, rules}
use Rattle.machine_console.specs.Made.{processes}
use Rattle.machine_console.proofs.making.processes.Goals as goal

pub returns : goal.returns
unfolding processes
returns c =
    c.least.ensures ∙ ap (min 16) c.count_of-count.ensures
