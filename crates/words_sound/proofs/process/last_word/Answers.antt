-- `words_sound::process::last_word` meets its contract. Assumes nothing.
use Rattle.std.specs.Prelude.{◌≡◌, ◌+◌, ◌-◌}
use Rattle.laws.specs.Basics.{◌∙◌, ap, ℕ, arith, rules}
use Rattle.model.specs.{declared.Interval.Interval, declared.CheckpointIndex.CheckpointIndex, Words.last_stored_of}
use Rattle.words_sound.proofs.process.last_word.Goals as goal

pub pin_word-requires : goal.pin_word-requires
pin_word-requires c =
    omega (arith, (let last' : c.last_stored-last.result.0 ≡ c.args.own - 1 = ap (λ (x : CheckpointIndex). x.0) (c.last_stored-last.ensures ∙ ap (λ (x : Interval). last_stored_of x) c.interval_of-current.ensures) in last'), c.ranges.own)

pub returns : goal.returns
returns c =
    c.pin_word.ensures.0 ∙ ap (λ (x : ℕ). x + 1) ((let last' : c.last_stored-last.result.0 ≡ c.args.own - 1 = ap (λ (x : CheckpointIndex). x.0) (c.last_stored-last.ensures ∙ ap (λ (x : Interval). last_stored_of x) c.interval_of-current.ensures) in last'))
