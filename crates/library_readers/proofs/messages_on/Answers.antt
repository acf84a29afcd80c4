-- `library_readers::messages_on` meets its contract. Assumes nothing.
use Rattle.std.specs.Prelude.{◌≡◌, ◌≤◌, ◌<◌}
use Rattle.laws.specs.Basics.{refl, ◌∙◌, arith, rules}
use Rattle.words.proofs.ViewSound.{sound_words}
use Rattle.library_readers.proofs.Readings.{answer_is, messages_few, messages_short, messages_read}
use Rattle.library_readers.proofs.messages_on.Goals as goal

pub returns-then-messages : goal.returns-then-messages
returns-then-messages c =
    let z = answer_is (messages_short c.args.w.now c.requires c.args.messages.now c.if-messages.true) c.refused.ensures refl in record { value = z.0; messages_after = z.1 }

pub write_messages-many-requires : goal.write_messages-many-requires
write_messages-many-requires c =
    let h = sound_words c.args.w.now c.requires in (h.size, omega (arith, h.end, c.end_in-end.ensures), c.if-messages.false)

pub counted-requires : goal.counted-requires
counted-requires c =
    omega (arith, rw c.end_in-end.ensures at c.write_messages-many.ensures.value, messages_few c.args.w.now c.requires)

pub returns : goal.returns
returns c =
    let z = answer_is (messages_read c.args.w.now c.requires c.args.messages.now c.if-messages.false) (rw (rw c.end_in-end.ensures at c.write_messages-many.ensures.value) at c.counted.ensures) (rw c.end_in-end.ensures at c.write_messages-many.ensures.out_after) in record { value = z.0; messages_after = z.1 }
