-- Calls on the state that stands for a run, the other way round from SoundCalls: which calls are accepted, by facts of the run.
-- Assumes nothing.
use Rattle.std.specs.Prelude.{◌≡◌, ◌+◌, ◌*◌, ◌≤◌, ◌<◌}
use Rattle.laws.specs.Basics.{sym, ◌∙◌, true, List, None, ℕ, arith, length}
use Rattle.laws.specs.Options.{some_same}
use Rattle.model.specs.{Words.most_under_way, Words.most_messages, Words.most_interval, Words.most_blocks, Words.own}
use Rattle.model.specs.Refusals.{checkpoint_refusal, send_refusal, deliver_refusal, lose_refusal}
use Rattle.histories.proofs.{Run.Ideal, Run.forces, Invariant.Inv, Line.live_self, Messages.underway_proper, Messages.used_number}
use Rattle.model.proofs.simulation.View.{message_of, messages_of, state_of, Limits}
use Rattle.model.proofs.simulation.Reads.{count_is_lem, last_is_lem, underway_is, own_is}
use Rattle.model.proofs.{simulation.Messages.found_is, simulation.Deliver.deliver_forces, simulation.Sound.state_sound}
use Rattle.model.proofs.simulation.Accepted.{checkpoint_in, send_in, deliver_in, deliver_out, lose_in}
use Rattle.model.proofs.simulation.SoundCalls.{written_is, count_is_of, deliver_run}

module _ (r : Ideal) (v : Inv r) (fit : Limits r) where
  pub checkpoint_admitted : (i : ℕ) (deleted : List ℕ) → i < r.n → r.own i < most_interval → 2 * r.n * r.n ≤ length deleted
      → r.ledger.written + r.ledger.block_counts i ≤ most_blocks → checkpoint_refusal (state_of r) i deleted ≡ None
  checkpoint_admitted i deleted hi early room blocks = checkpoint_in (state_of r) i deleted (record {
    whole = state_sound r v fit;
    room = rw (count_is_lem r) room;
    present = rw (count_is_lem r) hi;
    early = rw (own_is r i fit.few_processes hi (live_self r v i)) early;
    blocks = omega (arith, blocks, written_is r v fit, count_is_of r v fit i hi);
  })

  pub send_admitted : (i j : ℕ) → i < r.n → j < r.n → (i ≡ j → ⊥) → length (messages_of r) < most_under_way → r.last < most_messages → send_refusal (state_of r) i j ≡ None
  send_admitted i j hi hj apart few numbers = send_in (state_of r) i j (record {
    whole = state_sound r v fit;
    from = rw (count_is_lem r) hi;
    to = rw (count_is_lem r) hj;
    apart = apart;
    room = rw (underway_is r) few;
    numbers = rw (last_is_lem r) numbers;
  })

  pub deliver_admitted : (m : ℕ) (deleted : List ℕ) → r.transit m ≡ true → 2 * r.n * r.n ≤ length deleted → (forces r m ≡ true → r.own (r.receiver m) < most_interval)
      → (forces r m ≡ true → r.ledger.written + r.ledger.block_counts (r.receiver m) ≤ most_blocks) → deliver_refusal (state_of r) m deleted ≡ None
  unfolding message_of
  deliver_admitted m deleted under room early blocks =
      let hi = (underway_proper r v m under).to in
      deliver_in (state_of r) m deleted (record {
        whole = state_sound r v fit;
        room = rw (count_is_lem r) room;
        message = message_of r m;
        here = found_is r m (used_number r v m under) under;
        early = λ q. rw (own_is r (r.receiver m) fit.few_processes hi (live_self r v (r.receiver m))) (early (sym (deliver_forces r m fit.few_processes hi (live_self r v (r.receiver m))) ∙ q));
        blocks = λ q. omega (arith, blocks (sym (deliver_forces r m fit.few_processes hi (live_self r v (r.receiver m))) ∙ q), written_is r v fit, count_is_of r v fit (r.receiver m) hi);
      })

  pub lose_admitted : (m : ℕ) → r.transit m ≡ true → lose_refusal (state_of r) m ≡ None
  lose_admitted m under = lose_in (state_of r) m (record { whole = state_sound r v fit; message = message_of r m; here = found_is r m (used_number r v m under) under })

  -- An accepted delivery that forces a checkpoint found room for it.
  pub deliver_early : (m : ℕ) (deleted : List ℕ) → deliver_refusal (state_of r) m deleted ≡ None → forces r m ≡ true → r.own (r.receiver m) < most_interval
  unfolding message_of
  deliver_early m deleted e q =
      let h = deliver_out (state_of r) m deleted e in
      let w = deliver_run r v fit m deleted e in
      let hi = (underway_proper r v m w.0).to in
      let same : h.message ≡ message_of r m = some_same (sym h.here ∙ w.1) in
      let early : (own (state_of r) (r.receiver m)).0 < most_interval = (rw same at h.early) (deliver_forces r m fit.few_processes hi (live_self r v (r.receiver m)) ∙ q) in
      rw (own_is r (r.receiver m) fit.few_processes hi (live_self r v (r.receiver m))) at early
