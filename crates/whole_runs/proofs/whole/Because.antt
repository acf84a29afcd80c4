-- The reason for the next checkpoint changes nothing else: the state that stands for a run, its limits, the history that agrees with it, and what a step
-- from it does are as before.
-- Assumes nothing.
use Rattle.std.specs.Prelude.{◌≡◌}
use Rattle.laws.specs.Basics.{refl, sym, subst, List, None, ℕ}
use Rattle.model.specs.declared.Run.{Run}
use Rattle.model.specs.{Words.basic, Words.forced, Refusals.checkpoint_refusal, Refusals.deliver_refusal}
use Rattle.whole_runs.specs.{Calls.Call, Calls.checkpoint, Calls.deliver, Survival.Surviving}
use Rattle.histories.proofs.{Run.Ideal, Run.because, Run.keeps, Run.checkpointed, Run.delivered, Invariant.Inv, Ledger.ledger_inv, Memory.Memory}
use Rattle.histories.proofs.Counted.{kept_in, gone_in, new_in}
use Rattle.model.proofs.simulation.View.{pins_of, checkpoint_of, kept_of, process_of, message_of, messages_of, disk_of, parts_of, state_of, Fits, Limits}
use Rattle.whole_runs.proofs.{whole.Agreement.Agrees, whole.Agreement.HandsOut, whole.Accepted.Step, whole.Gone.gone_part, whole.Gone.gone_all}
use Rattle.whole_runs.proofs.whole.Steps.{checkpoint_step, deliver_step}

module _ (why : ℕ) (r : Ideal) where
  pub because_state : state_of (because why r) ≡ state_of r
  unfolding state_of parts_of disk_of process_of pins_of kept_of checkpoint_of messages_of message_of kept_in keeps
  because_state = refl

  because_fits : Fits r → Fits (because why r)
  unfolding kept_in keeps
  because_fits f = record { block_counts = f.block_counts; causes = f.causes; paid = f.paid; room = f.room }

  pub because_limits : Limits r → Limits (because why r)
  unfolding messages_of message_of
  because_limits f = record {
    some_process = f.some_process;
    few_processes = f.few_processes;
    few_messages = f.few_messages;
    few_numbers = f.few_numbers;
    ledger = because_fits f.ledger;
  }

  pub because_agrees : (h : Surviving) → Agrees h r → Agrees h (because why r)
  unfolding kept_in keeps
  because_agrees h g = record {
    lists = g.lists;
    sends = g.sends;
    receiver = g.receiver;
    underway = g.underway;
    kept = g.kept;
    block_counts = g.block_counts;
    cause = g.cause;
    written = g.written;
    deleted = g.deleted;
  }

  pub because_step : (n : ℕ) (h : Surviving) (s : Run) (r' : Ideal) (c : Call) → Step n h s (because why r) r' c → Step n h s r r' c
  unfolding HandsOut keeps new_in gone_in gone_all gone_part
  because_step n h s r' c t = record {
    inv = t.inv;
    limits = t.limits;
    moved = record { size = t.moved.size; back = t.moved.back; one = t.moved.one };
    state = t.state;
    lists = t.lists;
    sends = t.sends;
    receiver = t.receiver;
    underway = t.underway;
    memory = t.memory;
    hands_out = t.hands_out;
    hands_over = record { deleted = t.hands_over.deleted; counted = t.hands_over.counted };
    paid = record { block_counts = t.paid.block_counts; written = t.paid.written };
    cause = t.cause;
    stored = t.stored;
    blocks = t.blocks;
  }

  pub because_memory : Memory r → Memory (because why r)
  because_memory m = record { marks = m.marks; sources = m.sources }

-- So an accepted checkpoint is a step for the reason that one was asked for, an accepted delivery for the reason that it forces one.
module _ (n : ℕ) (h : Surviving) (r : Ideal) (v : Inv r) (fit : Limits r) (memory : Memory r) (size : r.n ≡ n) (g : Agrees h r) where
  pub basic_step : (i : ℕ) (deleted : List ℕ) → checkpoint_refusal (state_of r) i deleted ≡ None → Step n h (state_of r) r (checkpointed (because basic r) i) (checkpoint i deleted)
  basic_step i deleted e = because_step basic r n h (state_of r) (checkpointed (because basic r) i) (checkpoint i deleted)
      (subst (λ (s : Run). Step n h s (because basic r) (checkpointed (because basic r) i) (checkpoint i deleted)) (because_state basic r)
      (checkpoint_step n h (because basic r) (ledger_inv r _ v) (because_limits basic r fit) (because_memory basic r memory) size (because_agrees basic r h g) i deleted
      (subst (λ (s : Run). checkpoint_refusal s i deleted ≡ None) (sym (because_state basic r)) e) refl))

  pub forced_step : (m : ℕ) (deleted : List ℕ) → deliver_refusal (state_of r) m deleted ≡ None → Step n h (state_of r) r (delivered (because forced r) m) (deliver m deleted)
  forced_step m deleted e = because_step forced r n h (state_of r) (delivered (because forced r) m) (deliver m deleted)
      (subst (λ (s : Run). Step n h s (because forced r) (delivered (because forced r) m) (deliver m deleted)) (because_state forced r)
      (deliver_step n h (because forced r) (ledger_inv r _ v) (because_limits forced r fit) (because_memory forced r memory) size (because_agrees forced r h g) m deleted
      (subst (λ (s : Run). deliver_refusal s m deleted ≡ None) (sym (because_state forced r)) e) refl))
