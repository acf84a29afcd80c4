-- `words_sound::is_sound` meets its contract: where a test fails the words are not sound, and where all hold they are. Assumes nothing.
use Rattle.std.specs.Prelude.{◌-◌, ◌≤◌}
use Rattle.laws.specs.Basics.{ap, not, ℕ, arith, rules}
use Rattle.words.specs.Layout.{word}
use Rattle.words_sound.proofs.Judging.{size_off, count_low, count_high, processes_off, words_whole}
use Rattle.words_sound.proofs.is_sound.Goals as goal

pub returns-then-w-ne-WORDS : goal.returns-then-w-ne-WORDS
returns-then-w-ne-WORDS c =
    size_off c.args.w.now ((let small' : (k : ℕ) → word c.args.w.now k ≤ 65535 = λ k. omega (arith, c.shared_slice_known-1.given k) in small')) c.if-w-ne-WORDS.true

pub returns-then-n-lt1 : goal.returns-then-n-lt1
returns-then-n-lt1 c =
    count_low c.args.w.now ((let small' : (k : ℕ) → word c.args.w.now k ≤ 65535 = λ k. omega (arith, c.shared_slice_known-1.given k) in small')) c.number_of-n.result c.number_of-n.ensures c.if-n-lt1.true

pub returns-then-n-gt-PROCESSES : goal.returns-then-n-gt-PROCESSES
returns-then-n-gt-PROCESSES c =
    count_high c.args.w.now ((let small' : (k : ℕ) → word c.args.w.now k ≤ 65535 = λ k. omega (arith, c.shared_slice_known-1.given k) in small')) c.number_of-n.result c.number_of-n.ensures c.if-n-gt-PROCESSES.true

pub returns-then-not-processes : goal.returns-then-not-processes
returns-then-not-processes c =
    processes_off c.args.w.now ((let small' : (k : ℕ) → word c.args.w.now k ≤ 65535 = λ k. omega (arith, c.shared_slice_known-1.given k) in small')) c.number_of-n.result c.number_of-n.ensures c.are_processes_sound-processes.result c.are_processes_sound-processes.ensures (ap not c.if-not-processes.true)

pub returns : goal.returns
returns c =
    words_whole c.args.w.now ((let small' : (k : ℕ) → word c.args.w.now k ≤ 65535 = λ k. omega (arith, c.shared_slice_known-1.given k) in small')) c.number_of-n.result c.number_of-n.ensures c.are_processes_sound-processes.result c.are_processes_sound-processes.ensures c.if-w-ne-WORDS.false c.if-n-lt1.false c.if-n-gt-PROCESSES.false (ap not c.if-not-processes.false) c.are_messages_sound.result c.are_messages_sound.ensures
