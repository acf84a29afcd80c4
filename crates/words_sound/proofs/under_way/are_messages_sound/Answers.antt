-- `words_sound::under_way::are_messages_sound` meets its contract. Assumes nothing.
use Rattle.laws.specs.Basics.{ap, not, refl, rules}
use Rattle.words.specs.Layout.{wide2}
use Rattle.words_sound.proofs.Judging.{end_far, last_far, end_off, messages_whole}
use Rattle.words_sound.proofs.under_way.are_messages_sound.Goals as goal

pub returns-then-end-gt-MESSAGES : goal.returns-then-end-gt-MESSAGES
returns-then-end-gt-MESSAGES c =
    let w = c.args.w.now in end_far w c.number_of-end.result (wide2 w 2) c.number_of-end.ensures refl c.if-end-gt-MESSAGES.true

pub returns-then-last-gt-LAST_MESSAGE : goal.returns-then-last-gt-LAST_MESSAGE
returns-then-last-gt-LAST_MESSAGE c =
    let w = c.args.w.now in last_far w c.number_of-end.result c.wide2-last.result c.number_of-end.ensures c.wide2-last.ensures c.if-last-gt-LAST_MESSAGE.true

pub returns-then-not-ended : goal.returns-then-not-ended
returns-then-not-ended c =
    let w = c.args.w.now in end_off w c.number_of-end.result c.wide2-last.result c.number_of-end.ensures c.wide2-last.ensures c.is_end_sound-ended.result c.is_end_sound-ended.ensures (ap not c.if-not-ended.true)

pub are_places_sound-requires : goal.are_places_sound-requires
are_places_sound-requires c =
    (c.requires, c.if-end-gt-MESSAGES.false)

pub returns : goal.returns
returns c =
    let w = c.args.w.now in messages_whole w c.number_of-end.result c.wide2-last.result c.number_of-end.ensures c.wide2-last.ensures c.is_end_sound-ended.result c.is_end_sound-ended.ensures c.if-end-gt-MESSAGES.false c.if-last-gt-LAST_MESSAGE.false (ap not c.if-not-ended.false) c.are_places_sound.result c.are_places_sound.ensures
