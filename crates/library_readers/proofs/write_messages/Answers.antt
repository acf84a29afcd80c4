-- `library_readers::write_messages` meets its contract. Assumes nothing.
use Rattle.std.specs.Prelude.{◌≡◌, ◌+◌, ◌-◌, ◌*◌, ◌≤◌}
use Rattle.laws.specs.Basics.{refl, ◌∙◌, List, ℕ, arith, length, sets, rules}
use Rattle.laws.specs.{Lists.select, Lists.table, Select.select_length, Tables.length_table}
use Rattle.words.specs.Layout.{message_in, is_message}
use Rattle.library_readers.specs.{Readings.sent_numbers, Written.messages_below}
use Rattle.library_readers.proofs.{Three.sent_step}
use Rattle.library_readers.proofs.write_messages.Goals as goal

nothing : (w out : List ℕ) → (out ≡ sets out 0 (sent_numbers (messages_below w 0))) × (0 ≡ length (messages_below w 0))
unfolding table select sent_numbers
nothing w out = (refl, refl)

few : (w : List ℕ) (k : ℕ) → length (messages_below w k) ≤ k
few w k = omega (arith, select_length is_message (table k (message_in w)), length_table k (message_in w))

pub loop-k-init : goal.loop-k-init
loop-k-init c =
    let a = c.args in let n = nothing a.w.now a.out.now in (search rules, search rules, refl, n.0, n.1)

pub loop-k-preserved : goal.loop-k-preserved
loop-k-preserved c =
    let l = c.loop-k in let a = c.args in let t = sent_step is_message (message_in a.w.now) a.out.now l.out l.k l.many l.invariant.3 l.invariant.4 in let m = c.write_message-next.ensures.value ∙ t.1 in (search rules, omega (arith, m, few a.w.now (l.k + 1)), c.write_message-next.auto.out ∙ l.invariant.2, c.write_message-next.ensures.out_after ∙ t.0, m)

pub returns : goal.returns
returns c =
    let l = c.loop-k in let e : l.k ≡ c.args.end = omega arith in record { out_after = rw e at l.invariant.3; value = rw e at l.invariant.4 }
