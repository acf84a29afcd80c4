-- `words_process::taking_in::take_in` meets its contract. Assumes nothing.
use Rattle.std.specs.Prelude.{◌≡◌, ◌-◌, ◌^◌, ◌≤◌, ◌<◌}
use Rattle.laws.specs.Basics.{refl, ◌∙◌, arith, length, rules}
use Rattle.laws.specs.Bits.{bits_of}
use Rattle.words.specs.Puts.{put_from}
use Rattle.words.proofs.Reading.{put_none}
use Rattle.words_process.proofs.TakingIn.{rises, word_then, step_words, step_rose, rises_none, all_rose, all_taken}
use Rattle.words_process.proofs.taking_in.take_in.Given as goal

abbrev pub invariant-loop-f : goal.invariant-loop-f
invariant-loop-f l = (l.f ≤ 16) × (length l.w ≡ length l.initial.w) × (l.w ≡ put_from l.initial.w l.at l.f (word_then l.initial.w l.at l.carried)) × (l.rose ≡ bits_of l.f (rises l.initial.w l.at l.carried)) × (l.rose < 2 ^ l.f)
