-- `library_halves::taking::take_all` meets its contract.
-- Assumes nothing.
use Rattle.std.specs.Prelude.{◌≡◌, Err}
use Rattle.laws.specs.Basics.{refl, ◌∙◌, arith, rules, length-set}
use Rattle.library_halves.specs.Taking.{Takes}
use Rattle.library_halves.proofs.Iterations.{taking_front, taking_none, taking_stopped, taking_first, taking_second, taking_all}
use Rattle.library_halves.proofs.taking.take_all.Goals.{in-First, in-Second}
use Rattle.library_halves.proofs.taking.take_all.Goals as goal

pub loop-taken-init : goal.loop-taken-init
loop-taken-init c =
    let a = c.args in record {
      length_kept = refl;
      first_inside = search rules;
      second_inside = search rules;
      counted = refl;
      taking = taking_none a.n a.set a.first.now a.second.now _ a.log.now;
    }

pub returns-in_err-word : goal.returns-in_err-word
unfolding Takes
returns-in_err-word c =
    let l = c.loop-taken in let a = c.args in let t = l.invariant.taking in
    let f = taking_front a.n a.set a.first.now a.second.now _ l.log l.a l.b l.taken t l.invariant.counted (search rules) in
    let e : c.from_residual.result ≡ Err c.in_err-word.field-0.0 = search rules in
    rw e (taking_stopped a.n a.set a.first.now a.second.now _ l.log l.a l.b t (omega (arith, l.invariant.counted, c.loop-taken-test.true, c.how_many.ensures, c.how_many-2.ensures)) _ (c.in_err-word.ensures t.0 f.0 f.1))

pub loop-taken-preserved : goal.loop-taken-preserved
loop-taken-preserved c =
    let l = c.loop-taken in let a = c.args in let t = l.invariant.taking in
    let f = taking_front a.n a.set a.first.now a.second.now _ l.log l.a l.b l.taken t l.invariant.counted (search rules) in
    let s = c.in_ok-word.ensures t.0 f.0 f.1 in
    elim c.match-branch-2.branch [
      | in-First w ↦
          let x = taking_first a.n a.set a.first.now a.second.now _ l.log l.a l.b t l.taken l.invariant.counted (omega (arith, c.loop-taken-test.true, c.how_many.ensures, c.how_many-2.ensures)) (search rules) _ (rw w.in-First.is at s) in
          rw (w.log-is, w.a-is, w.b-is) (record {
            length_kept = length-set l.log _ _ ∙ l.invariant.length_kept;
            first_inside = x.1;
            second_inside = omega (arith, l.invariant.second_inside);
            counted = omega (arith, l.invariant.counted);
            taking = x.0;
          })
      | in-Second w ↦
          let x = taking_second a.n a.set a.first.now a.second.now _ l.log l.a l.b t l.taken l.invariant.counted (omega (arith, c.loop-taken-test.true, c.how_many.ensures, c.how_many-2.ensures)) (search rules) _ (rw w.in-Second.is at s) in
          rw (w.log-is, w.a-is, w.b-is) (record {
            length_kept = length-set l.log _ _ ∙ l.invariant.length_kept;
            first_inside = omega (arith, l.invariant.first_inside);
            second_inside = x.1;
            counted = omega (arith, l.invariant.counted);
            taking = x.0;
          })
    ]

pub returns : goal.returns
returns c =
    let l = c.loop-taken in let a = c.args in
    taking_all a.n a.set a.first.now a.second.now _ l.log l.a l.b l.invariant.taking (omega (arith, l.invariant.counted, c.loop-taken-test.false, c.how_many.ensures, c.how_many-2.ensures))
