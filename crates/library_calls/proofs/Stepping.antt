-- What a checkpoint and a delivery leave is a state of 1 to 16 processes whose causes have 8 bits: what is stored has cause 1 or 2.
-- Assumes nothing.
use Rattle.std.specs.Prelude.{◌≡◌, ◌<◌}
use Rattle.laws.specs.Basics.{true, List, ℕ, arith, by_bool}
use Rattle.model.specs.declared.{Interval.Interval, Message.Message, Run.Run}
use Rattle.model.specs.{Words.basic, Words.forced, Words.Process, Words.process, Sound.sound, Refusals.checkpoint_refusal, Refusals.deliver_refusal}
use Rattle.model.specs.Steps.{settled, storing, checkpointed, checkpoint_state, forces, taken_in, delivered, deliver_state}
use Rattle.whole_runs.specs.Outcomes.{message, checkpoint_outcome, deliver_outcome}
use Rattle.library_calls.proofs.run_words.Causes.{Small, small_messages, small_disk, small_process}
use Rattle.library_calls.proofs.{Changing.either_run, Keeping.Few, Keeping.few_chosen, Keeping.few_after, Keeping.kept_few}

few_settled : (P : Process) → Few P.kept → Few (settled P).kept
unfolding settled
few_settled P few = few_chosen _ P.kept few

few_checkpointed : (cause i : ℕ) (P : Process) → cause < 256 → Few P.kept → Few (checkpointed cause i P).kept
unfolding checkpointed storing
few_checkpointed cause i P h few = few_after P.kept (storing cause i P) few h

few_delivered : (i : ℕ) (carried : List Interval) (P : Process) → Few P.kept → Few (delivered i carried P).kept
unfolding delivered taken_in
few_delivered i carried P few = by_bool (forces P carried)
    (λ e. rw e (few_checkpointed forced i P (omega arith) few))
    (λ e. rw e few)

module _ (s : Run) (whole : sound s ≡ true) (small : Small s) where
  pub checkpoint_small : (i : ℕ) (deleted : List ℕ) → Small (checkpoint_outcome s i deleted).run
  unfolding checkpoint_outcome checkpoint_state
  checkpoint_small i deleted = either_run Small (checkpoint_refusal s i deleted) _ _ (λ r. small)
      (small_disk _ (small_process s small i (settled (checkpointed basic i (process s i)))
      (λ lt k under less. few_settled _ (few_checkpointed basic i (process s i) (omega arith) (kept_few s whole small i lt)) k under)) _)

  deliver_state_small : (x : Message) → Small (deliver_state s x)
  unfolding deliver_state
  deliver_state_small x = small_disk _ (small_messages _ (small_process s small x.receiver (settled (delivered x.receiver x.vector (process s x.receiver)))
      (λ lt k under less. few_settled _ (few_delivered x.receiver x.vector (process s x.receiver) (kept_few s whole small x.receiver lt)) k under)) _ _) _

  pub deliver_small : (m : ℕ) (deleted : List ℕ) → Small (deliver_outcome s m deleted).run
  unfolding deliver_outcome
  deliver_small m deleted = either_run Small (deliver_refusal s m deleted) _ _ (λ r. small) (deliver_state_small (message s m))
