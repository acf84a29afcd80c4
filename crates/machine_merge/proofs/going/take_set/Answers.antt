-- `machine_merge::going::take_set` meets its contract.
-- Assumes nothing.
use Rattle.std.specs.Prelude.{◌≡◌}
use Rattle.laws.specs.Basics.{sym, ◌∙◌, ap, ℕ, arith, rules}
use Rattle.machines.specs.programs.Numbers.{number_in, at_most}
use Rattle.machine_merge.specs.Merging.{Naming, FirstHalf}
use Rattle.machine_merge.proofs.{Leading.set_none, Leading.set_some, Leading.at_most_lem, Arriving.led, Arriving.arrives_first}
use Rattle.machine_merge.proofs.going.take_set.Goals as goal

pub returns-then-set-eq-NO_NUMBER : goal.returns-then-set-eq-NO_NUMBER
returns-then-set-eq-NO_NUMBER c =
    λ input long.
    led
    (set_none _ (sym c.number_in-set.ensures ∙ c.if-set-eq-NO_NUMBER.true))
    (c.say.ensures input)

pub returns : goal.returns
returns c =
    λ input long.
    let word = c.args.word.now in let set : c.clamped.result ≡ at_most (number_in word) = c.clamped.ensures ∙ ap at_most c.number_in-set.ensures in
    led (set_some word (λ e. c.if-set-eq-NO_NUMBER.false (c.number_in-set.ensures ∙ e)) ∙ ap (λ (k : ℕ). Naming (FirstHalf k)) (sym set))
    (arrives_first _ input _ (omega (arith, set, at_most_lem (number_in word))) long)
