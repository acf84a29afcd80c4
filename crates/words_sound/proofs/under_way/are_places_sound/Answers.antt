-- `words_sound::under_way::are_places_sound` meets its contract. Assumes nothing.
use Rattle.std.specs.Prelude.{◌-◌}
use Rattle.laws.specs.Basics.{ap, not, arith, rules}
use Rattle.laws.specs.Loops.{either}
use Rattle.words_sound.proofs.Judging.{Read, none_read, one_read, none_there, read_fails, all_read}
use Rattle.words_sound.proofs.under_way.are_places_sound.Goals as goal
use Rattle.words_sound.proofs.under_way.are_places_sound.Goals.{then-number-ne0+else-not-ok, else-number-ne0}

pub loop-k-init : goal.loop-k-init
loop-k-init c =
    let a = c.args in none_read a.w.now a.end

pub is_message_sound-ok-requires : goal.is_message_sound-ok-requires
is_message_sound-ok-requires c =
    (c.requires.0.sized, c.requires.0.counted, search rules, c.number_in-number.ensures, c.loop-k.invariant.last)

pub returns-then-not-ok : goal.returns-then-not-ok
returns-then-not-ok c =
    let a = c.args in read_fails a.w.now a.end c.loop-k.k c.loop-k.before c.loop-k.count c.number_in-number.result c.loop-k.over c.loop-k.invariant c.loop-k-test.true c.number_in-number.ensures c.if-number-ne0.true c.is_message_sound-ok.result c.is_message_sound-ok.ensures (ap not c.if-not-ok.true)

pub overflow_add-count : goal.overflow_add-count
overflow_add-count c =
    omega (arith, c.loop-k.invariant.few, c.requires.1, c.loop-k-test.true)

pub loop-k-preserved : goal.loop-k-preserved
loop-k-preserved c =
    let a = c.args in elim c.if-number-ne0.branch [
      | then-number-ne0+else-not-ok z ↦ rw (z.over-is, z.before-is, z.count-is) (one_read a.w.now a.end c.loop-k.k c.loop-k.before c.loop-k.count c.number_in-number.result c.loop-k.over c.loop-k.invariant c.loop-k-test.true c.number_in-number.ensures z.if-number-ne0.true z.is_message_sound-ok.result z.is_message_sound-ok.ensures (ap not z.if-not-ok.false)
          z.over_by-more.result z.vector_at-vector.result a.owns (rw z.carried_at-vector_at.ensures at z.vector_at-vector.ensures) c.requires.0.limits z.over_by-more.ensures)
      | else-number-ne0 z ↦ rw (z.over-is, z.before-is, z.count-is) (none_there a.w.now a.end c.loop-k.k c.loop-k.before c.loop-k.count c.number_in-number.result c.loop-k.over c.loop-k.invariant c.loop-k-test.true c.number_in-number.ensures z.if-number-ne0.false)
    ]

pub returns : goal.returns
returns c =
    let a = c.args in all_read a.w.now a.end c.loop-k.k c.loop-k.before c.loop-k.count c.wide2-last.result c.loop-k.over c.loop-k.invariant c.loop-k-test.false c.wide2-last.ensures c.is_zero-within.result c.is_zero-within.ensures
