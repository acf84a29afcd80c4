-- Calls on the state that stands for a run: what an accepted one says of the run, and which failed sets the table does not refuse.
-- Assumes nothing.
use Rattle.std.specs.Prelude.{◌≡◌, ◌+◌, ◌*◌, ◌≤◌, ◌<◌}
use Rattle.laws.specs.Basics.{sym, ◌∙◌, ap, true, List, None, Some, ℕ, arith, length, by_bool}
use Rattle.laws.specs.Options.{some_same, none≢some}
use Rattle.model.specs.declared.{Disk.Disk, Message.Message}
use Rattle.model.specs.{Words.most_interval, Words.most_blocks, Words.block_count, Words.process, Words.own, Steps.found}
use Rattle.model.specs.Refusals.{checkpoint_refusal, send_refusal, deliver_refusal, lose_refusal, line_refusal, recover_refusal}
use Rattle.histories.proofs.{Run.Ideal, Run.sending, Run.forces, Invariant.Inv, Messages.underway_proper, Messages.used_number}
use Rattle.model.proofs.{simulation.View.message_of, simulation.View.disk_of, simulation.View.state_of, simulation.View.Limits, simulation.Billing.count_of}
use Rattle.model.proofs.simulation.Reads.{count_is_lem, last_is_lem, underway_is, disk_is, process_is, own_is}
use Rattle.model.proofs.simulation.Messages.{found_is, found_none}
use Rattle.model.proofs.{simulation.Deliver.deliver_forces, simulation.SoundLimits.limits_send}
use Rattle.model.proofs.simulation.Accepted.{SetFine, checkpoint_out, send_out, deliver_out, lose_out, line_out, recover_out}

module _ (r : Ideal) (v : Inv r) (fit : Limits r) where
  -- Blocks written, and a process's count.
  pub written_is : (state_of r).disk.written ≡ r.ledger.written
  unfolding disk_of
  written_is = ap (λ (d : Disk). d.written) (disk_is r)

  pub count_is_of : (i : ℕ) → i < r.n → block_count (process (state_of r) i) ≡ r.ledger.block_counts i
  count_is_of i hi = ap block_count (process_is r i fit.few_processes hi) ∙ count_of r v i hi

  -- An accepted checkpoint at i: i is in the run, its own entry has room, and so has the list.
  pub checkpoint_run : (i : ℕ) (deleted : List ℕ) → checkpoint_refusal (state_of r) i deleted ≡ None
      → (i < r.n) × (r.own i < most_interval) × (2 * r.n * r.n ≤ length deleted) × (r.ledger.written + r.ledger.block_counts i ≤ most_blocks)
  checkpoint_run i deleted e =
      let h = checkpoint_out (state_of r) i deleted e in
      let hi : i < r.n = rw (count_is_lem r) at h.present in (
        hi,
        rw (own_is r i fit.few_processes hi (v.self i (r.own i) (omega arith))) at h.early,
        rw (count_is_lem r) at h.room,
        omega (arith, h.blocks, written_is, count_is_of i hi),
      )

  -- An accepted send from i to j: both are in the run and differ, and the run after it is within the limits.
  pub send_run : (i j : ℕ) → send_refusal (state_of r) i j ≡ None → (i < r.n) × (j < r.n) × (i ≡ j → ⊥) × Limits (sending r i j)
  send_run i j e =
      let h = send_out (state_of r) i j e in
      (rw (count_is_lem r) at h.from, rw (count_is_lem r) at h.to, h.apart, limits_send r i j fit (rw (underway_is r) at h.room) (rw (last_is_lem r) at h.numbers))

  -- The message that is found is one under way in the run.
  found_run : (m : ℕ) (x : Message) → found (state_of r) m ≡ Some x → (r.transit m ≡ true) × (x ≡ message_of r m)
  found_run m x e = by_bool (r.transit m)
      (λ q. (q, some_same (sym e ∙ found_is r m (used_number r v m q) q)))
      (λ q. absurd (none≢some (sym (found_none r m q) ∙ e)))

  -- An accepted delivery: the message is under way, the list has room, and the disk has room for the checkpoint that it forces.
  pub deliver_run : (m : ℕ) (deleted : List ℕ) → deliver_refusal (state_of r) m deleted ≡ None
      → (r.transit m ≡ true) × (found (state_of r) m ≡ Some (message_of r m)) × (2 * r.n * r.n ≤ length deleted)
      × (forces r m ≡ true → r.ledger.written + r.ledger.block_counts (r.receiver m) ≤ most_blocks)
  unfolding message_of
  deliver_run m deleted e =
      let h = deliver_out (state_of r) m deleted e in
      let w = found_run m h.message h.here in
      let hi = (underway_proper r v m w.0).to in
      let self = v.self (r.receiver m) (r.own (r.receiver m)) (omega arith) in (
        w.0,
        found_is r m (used_number r v m w.0) w.0,
        rw (count_is_lem r) at h.room,
        λ q.
            let room : (state_of r).disk.written + block_count (process (state_of r) (r.receiver m)) ≤ most_blocks = (rw w.1 at h.blocks) (deliver_forces r m fit.few_processes hi self ∙ q) in
            omega (arith, room, written_is, count_is_of (r.receiver m) hi),
      )

  -- An accepted loss: the message is under way.
  pub lose_run : (m : ℕ) → lose_refusal (state_of r) m ≡ None → (r.transit m ≡ true) × (found (state_of r) m ≡ Some (message_of r m))
  lose_run m e =
      let h = lose_out (state_of r) m e in
      let w = found_run m h.message h.here in
      (w.0, found_is r m (used_number r v m w.0) w.0)

  -- An accepted line call: the failed set is one of processes of the run, and the list has room.
  pub line_run : (F : ℕ) (line : List ℕ) → line_refusal (state_of r) F line ≡ None → SetFine r.n F × (r.n ≤ length line)
  line_run F line e = let h = line_out (state_of r) F line e in (rw (count_is_lem r) at h.set, rw (count_is_lem r) at h.room)

  -- An accepted recovery: the same, with room in both lists.
  pub recover_run : (F : ℕ) (deleted line : List ℕ) → recover_refusal (state_of r) F deleted line ≡ None
      → SetFine r.n F × (2 * r.n * r.n ≤ length deleted) × (r.n ≤ length line)
  recover_run F deleted line e =
      let h = recover_out (state_of r) F deleted line e in
      (rw (count_is_lem r) at h.set, rw (count_is_lem r) at h.room, rw (count_is_lem r) at h.line_room)
