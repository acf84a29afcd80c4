-- `library_replay::record::apply` meets its contract. Assumes nothing.
use Rattle.std.specs.Prelude.{◌≡◌}
use Rattle.laws.specs.Basics.{sym, ◌∙◌, rules}
use Rattle.words.specs.Layout.{run_of}
use Rattle.in_place.proofs.Leaving.{same_words}
use Rattle.library_replay.proofs.{Summarised.malformed_performs, Summarised.unsound_performs}
use Rattle.library_replay.proofs.record.apply.Goals as goal

pub event_on-requires : goal.event_on-requires
event_on-requires c =
    (sym c.requires.0 ∙ c.if-still.true, c.requires.1, c.requires.2, c.requires.3)

pub returns-in-None : goal.returns-in-None
returns-in-None c =
    let a = c.args in record { performs = rw c.in-None.is (malformed_performs (run_of a.w.now) c.refuse.ensures.0 a.deleted.now); sound_value = c.refuse.ensures.1 ∙ c.requires.0; leaves = same_words a.w.now }

pub returns-then-still : goal.returns-then-still
returns-then-still c =
    let g = c.event_on.ensures in record { performs = rw c.in-Some.is g.performs; sound_value = g.sound_value; leaves = g.leaves }

pub returns-else-still : goal.returns-else-still
returns-else-still c =
    let a = c.args in let h = sym c.requires.0 ∙ c.if-still.false in record { performs = rw c.in-Some.is (unsound_performs (run_of a.w.now) h _ c.refuse-else-still.ensures.0 a.deleted.now); sound_value = c.refuse-else-still.ensures.1 ∙ sym h; leaves = same_words a.w.now }
