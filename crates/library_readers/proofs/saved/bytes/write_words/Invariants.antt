-- `library_readers::saved::bytes::write_words` meets its contract. Assumes nothing.
use Rattle.std.specs.Prelude.{◌≡◌, ◌-◌, ◌≤◌, ◌<◌}
use Rattle.laws.specs.Basics.{refl, ◌∙◌, ap, List, ℕ, arith, length, take, sets, rules}
use lib.Seq.{take_all}
use Rattle.library_readers.specs.saved.Format.{word_bytes}
use Rattle.library_readers.proofs.{saved.Parts.none_written, saved.Parts.one_written}
use Rattle.library_readers.proofs.saved.bytes.write_words.Given as goal

abbrev pub invariant-loop-k : goal.invariant-loop-k
invariant-loop-k l = (l.k ≤ 6464) × (length l.bytes ≡ length l.initial.bytes) × (l.bytes ≡ sets l.initial.bytes 10 (word_bytes (take l.k l.w)))
