-- `words_line::earliest::pairs::at_most_processes` meets its contract. Assumes nothing.
use Rattle.laws.specs.Basics.{rules, lt-ltb, le-ltb}
use Rattle.words_line.proofs.earliest.pairs.at_most_processes.Goals as goal

pub returns-then-process-lt-PROCESSES : goal.returns-then-process-lt-PROCESSES
returns-then-process-lt-PROCESSES c =
    rw (lt-ltb c.args.process 16 (search rules))

pub returns-else-process-lt-PROCESSES : goal.returns-else-process-lt-PROCESSES
returns-else-process-lt-PROCESSES c =
    rw (le-ltb c.args.process 16 (search rules))
