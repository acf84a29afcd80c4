-- `words_sound::blocks_kept` meets its contract. Assumes nothing.
use Rattle.std.specs.Prelude.{◌-◌, ◌*◌, ◌≤◌}
use Rattle.laws.specs.Basics.{arith, rules}
use Rattle.words_sound.proofs.{Judging.blocks_are, Judging.product_few}
use Rattle.words_sound.proofs.blocks_kept.Goals as goal

pub overflow_mul-result : goal.overflow_mul-result
overflow_mul-result c =
    search (rules, (let few' : c.wide-kept_count.result * c.wide-blocks.result ≤ 1048560 = product_few c.wide-kept_count.result c.wide-blocks.result (omega (arith, rw c.kept_count_at-kept_count_at.ensures at c.wide-kept_count.ensures.0, c.requires.2)) c.wide-blocks.ensures.1 in few'))

pub returns : goal.returns
returns c =
    let a = c.args in (blocks_are a.w.now a.p c.kept_count_at-kept_count_at.result c.blocks_at-blocks_at.result c.wide-kept_count.result c.wide-blocks.result c.kept_count_at-kept_count_at.ensures c.wide-kept_count.ensures.0 c.blocks_at-blocks_at.ensures c.wide-blocks.ensures.0, (let few' : c.wide-kept_count.result * c.wide-blocks.result ≤ 1048560 = product_few c.wide-kept_count.result c.wide-blocks.result (omega (arith, rw c.kept_count_at-kept_count_at.ensures at c.wide-kept_count.ensures.0, c.requires.2)) c.wide-blocks.ensures.1 in few'))
