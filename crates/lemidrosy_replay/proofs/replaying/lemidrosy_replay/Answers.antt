-- `lemidrosy_replay::replaying::lemidrosy_replay` meets its contract: the progress's length, then the block. Assumes nothing.
use Rattle.laws.specs.Basics.{refl, arith, rules}
use Rattle.words.specs.Layout.{run_of}
use Rattle.in_place.proofs.Leaving.{same_words}
use Rattle.lemidrosy_replay.proofs.{Blocks.too_short, Blocks.long_enough}
use Rattle.lemidrosy_replay.proofs.replaying.lemidrosy_replay.Goals as goal

pub returns-then-progress-lt-PROGRESS : goal.returns-then-progress-lt-PROGRESS
returns-then-progress-lt-PROGRESS c =
    let a = c.args in let h = too_short a.all a.done (run_of a.words.now) a.records.now a.text.now a.progress.now c.if-progress-lt-PROGRESS.true in record { fact = h; words_unchanged = λ few. refl; leaves = same_words a.words.now; reachable = λ v. v }

pub returns : goal.returns
returns c =
    let a = c.args in let long = c.if-progress-lt-PROGRESS.false in let g = c.replay-step.ensures in let h = long_enough a.all a.done (run_of a.words.now) a.records.now a.text.now a.progress.now long _ _ _ _ _ _ g.taken_value g.written_value.0 g.going_value c.replay-step.ensures.out_after c.replay-step.ensures.w_after
    c.write_progress.ensures in record { fact = h; words_unchanged = λ few. absurd (omega (arith, long)); leaves = c.replay-step.ensures.leaves; reachable = c.replay-step.ensures.reachable }
