-- `library_readers::lost::write_lost` meets its contract. The loop's invariant: the lost messages of the places passed so far are written, and how many they are.
-- Assumes nothing.
use Rattle.std.specs.Prelude.{◌≡◌, ◌&&◌, ◌+◌, ◌-◌, ◌*◌, ◌≤◌, ◌<◌}
use Rattle.laws.specs.Basics.{refl, ◌∙◌, List, ℕ, arith, length, sets, rules}
use Rattle.laws.specs.Lists.{select, table}
use Rattle.model.specs.declared.CheckpointIndex.{CheckpointIndex}
use Rattle.words.specs.Layout.{message_in, is_message}
use Rattle.words_line.specs.Sifted.{lost_to}
use Rattle.library_readers.specs.{Readings.sent_numbers, Written.lost_below}
use Rattle.library_readers.proofs.{Three.sent_step, Losses.few_lost}
use Rattle.library_readers.proofs.lost.write_lost.Given as goal

abbrev pub invariant-loop-k : goal.invariant-loop-k
invariant-loop-k l = (l.k ≤ l.end) × (l.many ≤ l.k) × (length l.out ≡ length l.initial.out) × (l.out ≡ sets l.initial.out 0 (sent_numbers (lost_below l.indexes l.w l.k))) × (l.many ≡ length (lost_below l.indexes l.w l.k))
