-- `library_judge::reading::Reading::begin` meets its contract.
-- Assumes nothing.
use Rattle.std.specs.Prelude.{◌≡◌}
use Rattle.laws.specs.Basics.{refl, ◌∙◌, arith, rules}
use Rattle.model.specs.Words.{ones}
use Rattle.library_judge.specs.Readings.{with_state, first_step}
use Rattle.library_judge.proofs.reading.Reading.begin.Goals as goal

pub loop-p-preserved : goal.loop-p-preserved
unfolding with_state
loop-p-preserved c =
    let l = c.loop-p in let w = l.invariant in
    let s = first_step l.p l.self _ (search rules) (omega (arith, w.room)) w.places w.rows (c.first_vector.ensures ones) w.first _ refl in
    rw c.add_state.ensures (record {
      first = s.1;
      rows = omega (arith, w.rows);
      last = w.last;
      underway = w.underway;
      room = s.0 ∙ w.room;
      sent_room = w.sent_room;
      places = s.2;
    })

pub returns : goal.returns
returns c =
    let l = c.loop-p in let w = l.invariant in let e : l.p ≡ c.args.n = search rules in record {
      first = rw e at w.first;
      rows = w.rows ∙ e;
      last = w.last;
      underway = w.underway;
      room = w.room;
      sent_room = w.sent_room;
      places = w.places;
    }
