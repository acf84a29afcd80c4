-- `words_line::line::limits_of` meets its contract. The loop's invariant: what is left of the failed set is its bits from f on, and the limits passed so far stand.
-- Assumes nothing.
use Rattle.std.specs.Prelude.{◌≡◌, ◌+◌, ◌-◌, ◌/◌, ◌%◌, ◌^◌, ◌≤◌}
use Rattle.laws.specs.Basics.{◌∙◌, ap, ℕ, arith, eqb, rules, pick}
use Rattle.laws.specs.{Bits.bits_all, Bits.bits_next, Loops.set_below, Loops.below_none, Loops.step_set}
use Rattle.model.specs.declared.Interval.{Interval}
use Rattle.words.specs.Layout.{word, part_at}
use Rattle.words_line.specs.Line.{limit_of, limits_in}
use Rattle.words_line.proofs.line.limits_of.Goals as goal

pub loop-f-init : goal.loop-f-init
loop-f-init c =
    (search rules, bits_all _, below_none _ _)

pub limit_of-limit-requires : goal.limit_of-limit-requires
limit_of-limit-requires c =
    omega (arith, ap (λ (x : Interval). x.0) c.interval_of-own.ensures, c.requires.2 c.loop-f.f c.loop-f-test.true)

pub loop-f-preserved : goal.loop-f-preserved
unfolding limit_of
loop-f-preserved c =
    let a = c.args in let l = c.loop-f in let own = word a.w.now (part_at l.f + l.f) in (
      search rules,
      bits_next a.failed l.f _ l.invariant.1,
      step_set (limit_of a.w.now a.failed) _ l.limits l.f l.invariant.2 _
          (c.limit_of-limit.ensures
          ∙ ap (λ (x : Interval). record { 0 = pick (eqb (l.left % 2) 1) (x.0 - 1) x.0 }) c.interval_of-own.ensures
          ∙ ap (λ (k : ℕ). record { 0 = pick (eqb (k % 2) 1) (own - 1) own }) l.invariant.1),
    )

pub returns : goal.returns
unfolding limits_in
returns c =
    let l = c.loop-f in let e : l.f ≡ c.args.n = omega arith in
    rw e at l.invariant.2
