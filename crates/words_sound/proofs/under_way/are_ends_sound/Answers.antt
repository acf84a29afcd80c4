-- `words_sound::under_way::are_ends_sound` meets its contract. Assumes nothing.
use Rattle.laws.specs.Basics.{rules}
use Rattle.words_sound.proofs.{Judging.ends_are}
use Rattle.words_sound.proofs.under_way.are_ends_sound.Goals as goal

pub returns : goal.returns
returns c =
    let a = c.args in ends_are a.w.now a.k a.n c.sender_at-sender_at.result c.receiver_at-receiver_at.result c.number_of-sender.result c.number_of-receiver.result c.sender_at-sender_at.ensures c.number_of-sender.ensures c.receiver_at-receiver_at.ensures c.number_of-receiver.ensures
