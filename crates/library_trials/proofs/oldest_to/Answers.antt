-- `library_trials::oldest_to` meets its contract.
-- Assumes nothing.
use Rattle.std.specs.Prelude.{◌≡◌, ◌<◌}
use Rattle.laws.specs.Basics.{ap, false, Some, ℕ, arith}
use Rattle.words.specs.Layout.{message_in}
use Rattle.words.proofs.ViewSound.{sound_words}
use Rattle.library_trials.specs.Steps.{number_of}
use Rattle.library_trials.proofs.Searching.{is_to, is_to_it, is_no_message, is_to_other, one_more, oldest_none, oldest_at}
use Rattle.library_trials.proofs.oldest_to.Goals as goal
use Rattle.library_trials.proofs.oldest_to.Goals.{else-w-k-via-then-w-k+else-number-ne0, else-w-k-via-else-w-k}

pub number_at-number-requires : goal.number_at-number-requires
number_at-number-requires c =
    omega (arith, c.loop-k-test.true, (sound_words c.args.w.now c.requires).end)

pub bounds-w-k : goal.bounds-w-k
bounds-w-k c =
    omega (arith, c.loop-k-test.true, (sound_words c.args.w.now c.requires).end)

pub returns-then-number-ne0 : goal.returns-then-number-ne0
unfolding number_of
returns-then-number-ne0 c =
    let w = c.args.w.now in
    let k = c.loop-k.k in
    let here = c.number_at-number in
    rw (oldest_at w c.requires c.args.p k c.loop-k-test.true c.loop-k.invariant (is_to_it w c.args.p k here.result here.ensures c.if-number-ne0.true c.if-w-k.true)) (ap (λ (x : ℕ). Some x) here.ensures)

pub loop-k-preserved : goal.loop-k-preserved
loop-k-preserved c =
    let w = c.args.w.now in
    let k = c.loop-k.k in
    let here = c.number_at-number in
    let not_here : is_to c.args.p (message_in w k) ≡ false = elim c.else-w-k.branch [
      | else-w-k-via-then-w-k+else-number-ne0 b ↦ is_no_message w c.args.p k here.result here.ensures b.if-number-ne0.false
      | else-w-k-via-else-w-k b ↦ is_to_other w c.args.p k b.if-w-k.false
    ] in
    one_more w c.args.p k c.loop-k.invariant not_here

pub returns : goal.returns
unfolding number_of
returns c =
    rw (oldest_none c.args.w.now c.requires c.args.p (λ j lt. c.loop-k.invariant j (omega (arith, lt, c.loop-k-test.false))))
