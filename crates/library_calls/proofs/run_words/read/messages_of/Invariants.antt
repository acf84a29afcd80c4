-- `library_calls::run_words::read::messages_of` meets its contract. Assumes nothing.
use Rattle.std.specs.Prelude.{◌≡◌, ◌≤◌}
use Rattle.laws.specs.Basics.{length}
use Rattle.laws.specs.{Lists.placed}
use Rattle.model.specs.Words.{no_message}
use Rattle.library_calls.proofs.run_words.Tables.{first_messages}
use Rattle.library_calls.proofs.run_words.read.messages_of.Given as goal

abbrev pub invariant-loop-k : goal.invariant-loop-k
invariant-loop-k l = (l.k ≤ l.end) × (l.many ≤ l.k) × (l.many ≡ length (first_messages l.w l.k)) × (l.messages ≡ placed 64 no_message (first_messages l.w l.k))
