-- `machine_record::text::write_line` meets its contract. Assumes nothing.
use Rattle.laws.specs.Basics.{refl, arith, rules, eq-eqb, ne_eqb}
use Rattle.machine_record.specs.Recorded.{line_for}
use Rattle.machine_record.proofs.text.write_line.Goals as goal

pub returns-then-x-eq0 : goal.returns-then-x-eq0
unfolding line_for
returns-then-x-eq0 c =
    rw (eq-eqb c.args.x 0 c.if-x-eq0.true) (record { next_place = omega arith; holds = refl }, omega arith)

pub returns : goal.returns
unfolding line_for
returns c =
    rw (ne_eqb c.args.x 0 c.if-x-eq0.false) c.write_refused.ensures
