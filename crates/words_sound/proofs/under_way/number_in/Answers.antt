-- `words_sound::under_way::number_in` meets its contract. Assumes nothing.
use Rattle.laws.specs.Basics.{rules}
use Rattle.words_sound.proofs.{Judging.number_is}
use Rattle.words_sound.proofs.under_way.number_in.Goals as goal

pub returns : goal.returns
returns c =
    let a = c.args in number_is a.w.now a.k c.low_at-low_at.result c.high_at-high_at.result c.wide-low.result c.wide-high.result c.low_at-low_at.ensures c.wide-low.ensures.0 c.high_at-high_at.ensures c.wide-high.ensures.0
