-- `library_calls::judged::is_sound_state` meets its contract: filled words stand for a sound state exactly if the state is sound. Assumes nothing.
use Rattle.laws.specs.Basics.{ap, not, sym, ◌∙◌, rules}
use Rattle.library_calls.proofs.{Changing.over_unsound, Changing.within}
use Rattle.library_calls.proofs.judged.is_sound_state.Goals as goal

pub returns-then-not-few : goal.returns-then-not-few
returns-then-not-few c =
    sym (over_unsound c.args.s _ c.are_counts_fit-few.ensures (ap not c.if-not-few.true))

pub fill-requires : goal.fill-requires
fill-requires c =
    let h = within c.args.s _ c.are_counts_fit-few.ensures (ap not c.if-not-few.false) in (search rules, h.0, h.1)

pub returns : goal.returns
returns c =
    c.is_sound.ensures ∙ c.fill.ensures.0
