-- `library_judge::reading::Reading::begin` meets its contract. The loop's invariant: the first states so far.
-- Assumes nothing.
use Rattle.std.specs.Prelude.{◌≡◌}
use Rattle.laws.specs.Basics.{length}
use Rattle.library_judge.specs.Readings.{FirstStates}
use Rattle.library_judge.proofs.reading.Reading.begin.Given as goal

abbrev pub invariant-loop-p : goal.invariant-loop-p
invariant-loop-p l = record {
  first : FirstStates l.p l.self.states l.self.current;
  rows : l.self.rows ≡ l.p;
  last : l.self.last ≡ 0;
  underway : l.self.underway ≡ 0;
  room : length l.self.states ≡ 4112;
  sent_room : length l.self.messages ≡ 4096;
  places : length l.self.current ≡ 16;
}
