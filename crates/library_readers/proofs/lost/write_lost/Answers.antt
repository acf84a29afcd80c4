-- `library_readers::lost::write_lost` meets its contract. The loop's invariant: the lost messages of the places passed so far are written, and how many they are.
-- Assumes nothing.
use Rattle.std.specs.Prelude.{◌≡◌, ◌&&◌, ◌+◌, ◌-◌, ◌*◌, ◌≤◌, ◌<◌}
use Rattle.laws.specs.Basics.{refl, ◌∙◌, List, ℕ, arith, length, sets, rules}
use Rattle.laws.specs.Lists.{select, table}
use Rattle.model.specs.declared.CheckpointIndex.{CheckpointIndex}
use Rattle.words.specs.Layout.{message_in, is_message}
use Rattle.words_line.specs.Sifted.{lost_to}
use Rattle.library_readers.specs.{Readings.sent_numbers, Written.lost_below}
use Rattle.library_readers.proofs.{Three.sent_step, Losses.few_lost}
use Rattle.library_readers.proofs.lost.write_lost.Goals as goal

nothing : (indexes : List CheckpointIndex) (w out : List ℕ) → (out ≡ sets out 0 (sent_numbers (lost_below indexes w 0))) × (0 ≡ length (lost_below indexes w 0))
unfolding table select sent_numbers
nothing indexes w out = (refl, refl)

pub loop-k-init : goal.loop-k-init
loop-k-init c =
    let a = c.args in let n = nothing a.indexes a.w.now a.out.now in (search rules, search rules, refl, n.0, n.1)

pub write_if_lost-next-requires : goal.write_if_lost-next-requires
write_if_lost-next-requires c =
    let l = c.loop-k in let lt : l.k < 64 = omega (arith, c.loop-k-test.true, c.requires.1) in
    (c.requires.0, lt, omega (arith, c.loop-k-test.true, c.requires.1, l.invariant.1), omega (arith, c.requires.2, l.invariant.2), c.requires.3 l.k c.loop-k-test.true)

pub loop-k-preserved : goal.loop-k-preserved
loop-k-preserved c =
    let l = c.loop-k in let a = c.args in let t = sent_step (λ x. is_message x && lost_to a.indexes x) (message_in a.w.now) a.out.now l.out l.k l.many l.invariant.3 l.invariant.4 in let m = c.write_if_lost-next.ensures.value ∙ t.1 in (search rules, omega (arith, m, few_lost a.indexes a.w.now (l.k + 1)), c.write_if_lost-next.auto.out ∙ l.invariant.2, c.write_if_lost-next.ensures.out_after ∙ t.0, m)

pub returns : goal.returns
returns c =
    let l = c.loop-k in let e : l.k ≡ c.args.end = omega arith in record { out_after = rw e at l.invariant.3; value = rw e at l.invariant.4 }
