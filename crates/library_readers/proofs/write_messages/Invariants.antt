-- `library_readers::write_messages` meets its contract. Assumes nothing.
use Rattle.std.specs.Prelude.{◌≡◌, ◌+◌, ◌-◌, ◌*◌, ◌≤◌}
use Rattle.laws.specs.Basics.{refl, ◌∙◌, List, ℕ, arith, length, sets, rules}
use Rattle.laws.specs.{Lists.select, Lists.table, Select.select_length, Tables.length_table}
use Rattle.words.specs.Layout.{message_in, is_message}
use Rattle.library_readers.specs.{Readings.sent_numbers, Written.messages_below}
use Rattle.library_readers.proofs.{Three.sent_step}
use Rattle.library_readers.proofs.write_messages.Given as goal

abbrev pub invariant-loop-k : goal.invariant-loop-k
invariant-loop-k l = (l.k ≤ l.end) × (l.many ≤ l.k) × (length l.out ≡ length l.initial.out) × (l.out ≡ sets l.initial.out 0 (sent_numbers (messages_below l.w l.k))) × (l.many ≡ length (messages_below l.w l.k))
