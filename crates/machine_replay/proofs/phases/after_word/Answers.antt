-- `machine_replay::phases::after_word` meets its contract.
-- Assumes nothing.
use Rattle.std.specs.Prelude.{◌&&◌, ◌+◌, ◌≤◌}
use Rattle.laws.specs.Basics.{sym, ◌∙◌, ap, Bool, arith, length, rules}
use Rattle.laws.specs.Tests.{same}
use Rattle.machines.specs.Machines.{Answer, brought}
use Rattle.machine_replay.specs.Replaying.{opening, next, all_word}
use Rattle.machine_replay.proofs.{Places.enough_input, Places.plain_opening}
use Rattle.machine_replay.proofs.phases.after_word.Goals as goal

pub is_all-is_it-requires : goal.is_all-is_it-requires
is_all-is_it-requires c =
    (c.word-taken.ensures.1, omega (arith, enough_input _ _ _ c.requires.0, c.requires.1))

pub returns : goal.returns
unfolding next
returns c =
    let a = c.args in let fits : a.p.buffered + 4 ≤ length a.input.now = omega (arith, enough_input _ _ _ c.requires.0, c.requires.1) in
    let word = c.is_all-is_it.ensures ∙ ap (λ (x : Answer). same (brought x) all_word) (sym (c.word-taken.ensures.0 a.p.buffered a.input.now fits)) in rw c.plain.ensures (plain_opening (a.p.all && c.is_all-is_it.result) a.words.now a.input.now a.out.now c.requires.0 ∙ ap (λ (b : Bool). opening (a.p.all && b)) word)
