-- `machine_replay::phases::ready_after` meets its contract.
-- Assumes nothing.
use Rattle.laws.specs.Basics.{rules, eq-eqb, ne_eqb}
use Rattle.machine_replay.specs.Ready.{bytes_state}
use Rattle.machine_replay.proofs.phases.ready_after.Goals as goal

pub returns-then-p-eq-READING : goal.returns-then-p-eq-READING
unfolding bytes_state
returns-then-p-eq-READING c =
    rw (eq-eqb c.args.p.phase 3 c.if-p-eq-READING.true) (record { out_after = c.ready_read.ensures.out_after; lying = c.ready_read.ensures.lying })

pub returns : goal.returns
unfolding bytes_state
returns c =
    rw (ne_eqb c.args.p.phase 3 c.if-p-eq-READING.false) (record { out_after = c.ready_lines.ensures.out_after; lying = c.ready_lines.ensures.lying })
