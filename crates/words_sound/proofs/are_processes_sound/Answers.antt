-- `words_sound::are_processes_sound` meets its contract. Assumes nothing.
use Rattle.std.specs.Prelude.{◌-◌}
use Rattle.laws.specs.Basics.{ap, not, arith, rules}
use Rattle.words_sound.proofs.Judging.{Passed, none_passed, one_passed, process_fails, all_passed, kept_count_few}
use Rattle.words_sound.proofs.are_processes_sound.Goals as goal

pub loop-p-init : goal.loop-p-init
loop-p-init c =
    let a = c.args in none_passed a.w.now a.n

pub is_sound-ok-requires : goal.is_sound-ok-requires
is_sound-ok-requires c =
    (c.requires, c.loop-p-test.true, c.limits_where-columns.ensures)

pub returns-then-not-ok : goal.returns-then-not-ok
returns-then-not-ok c =
    let a = c.args in process_fails a.w.now a.n c.loop-p.p c.loop-p-test.true c.is_sound-ok.result c.is_sound-ok.ensures (ap not c.if-not-ok.true)

pub blocks_kept-more-requires : goal.blocks_kept-more-requires
blocks_kept-more-requires c =
    let a = c.args in (c.requires.sized, omega (arith, c.loop-p-test.true, c.requires.few), kept_count_few a.w.now c.loop-p.p a.n c.is_sound-ok.result c.is_sound-ok.ensures (ap not c.if-not-ok.false) c.requires.counted c.requires.few)

pub overflow_add-blocks : goal.overflow_add-blocks
overflow_add-blocks c =
    omega (arith, c.loop-p.invariant.bounded, c.blocks_kept-more.ensures.1, c.loop-p-test.true, c.requires.few)

pub loop-p-preserved : goal.loop-p-preserved
loop-p-preserved c =
    let a = c.args in one_passed a.w.now a.n c.loop-p.p c.loop-p.blocks c.blocks_kept-more.result c.loop-p.invariant c.loop-p-test.true c.is_sound-ok.result c.is_sound-ok.ensures (ap not c.if-not-ok.false) c.blocks_kept-more.ensures.0 c.blocks_kept-more.ensures.1

pub is_balanced-requires : goal.is_balanced-requires
is_balanced-requires c =
    c.requires.sized

pub returns : goal.returns
returns c =
    let a = c.args in all_passed a.w.now a.n c.loop-p.p c.loop-p.blocks c.loop-p.invariant c.loop-p-test.false c.requires.counted c.is_balanced.result c.is_balanced.ensures
