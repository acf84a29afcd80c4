-- `words_sound::process::are_numbers_sound` meets its contract. Assumes nothing.
use Rattle.laws.specs.Basics.{rules}
use Rattle.words_sound.proofs.{Judging.numbers_are}
use Rattle.words_sound.proofs.process.are_numbers_sound.Goals as goal

pub returns : goal.returns
returns c =
    let a = c.args in numbers_are a.w.now a.p a.n c.number_of-kept_count.result c.kept_count_at-kept_count_at.result c.blocks_at-blocks_at.result c.part_at.result c.last_word-last.result c.pins_at.result
    c.kept_count_at-kept_count_at.ensures c.number_of-kept_count.ensures c.blocks_at-blocks_at.ensures c.part_at.ensures c.last_word-last.ensures c.pins_at.ensures c.requires.1
