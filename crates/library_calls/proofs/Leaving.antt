-- What a send and a loss leave of the state as it is: all but the sent marks and the messages.
-- Assumes nothing.
use Rattle.std.specs.Prelude.{◌≡◌, ◌∷◌, ◌++◌, ◌+◌, ◌<◌}
use Rattle.laws.specs.Basics.{refl, sym, ◌∙◌, ap, true, [], Option, None, Some, ℕ, arith, length, get_or}
use Rattle.model.specs.declared.{Checkpoint.Checkpoint, Message.Message, Refusal.Refusal, Run.Run}
use Rattle.model.specs.{Words.no_checkpoint, Words.past_end, Words.no_message, Words.process, Words.with_process, Words.under_way, Words.with_messages, Sound.sound}
use Rattle.model.specs.{Steps.marked, Steps.sent_message, Steps.send_state, Steps.lose_state, Refusals.send_refusal, Refusals.lose_refusal}
use Rattle.model.proofs.simulation.Accepted.{send_out}
use Rattle.whole_runs.specs.Outcomes.{Outcome, judged, send_outcome, lose_outcome}
use Rattle.words_process.proofs.receipts.Parts.{with_mark, rows_back}
use Rattle.library_calls.specs.{run_words.Fits.past_messages, run_words.Readable.after_messages}
use Rattle.library_calls.proofs.{run_words.Sizes.Sized, run_words.ReadBack.same_entry, Changing.either_run}
use Rattle.words_process.specs.receipts.Sized as receipts

pub lose_leaves : (s : Run) (m : ℕ) → (lose_outcome s m).run ≡ after_messages s (lose_outcome s m).run
unfolding lose_outcome lose_state with_messages after_messages
lose_leaves s m = either_run (λ r. r ≡ after_messages s r) (lose_refusal s m) _ _ (λ r. refl) refl

module _ (s : Run) (z : Sized s) (whole : sound s ≡ true) (i j : ℕ) where
  plain : receipts.Sized s
  plain = record {
    vectors = z.vectors;
    vector_row = z.vector_row;
    pins = z.pins;
    pin_row = z.pin_row;
    sent = z.sent;
    kept = z.kept;
    kept_row = z.kept_row;
    stored = λ p k lt less. ap (λ (c : Checkpoint). length c.vector) (same_entry (get_or s.kept.0 p []) k no_checkpoint past_end (omega (arith, z.kept_row p lt))) ∙ z.stored p k lt less;
    kept_count = z.kept_count;
    messages = z.messages;
    carried = λ k lt. ap (λ (x : Message). length x.vector) (same_entry s.messages k no_message past_messages (omega (arith, z.messages))) ∙ z.carried k lt;
  }

  -- The part of the sender is put back, with its mark set.
  sent_leaves : i < s.count → send_state s i j ≡ after_messages s (send_state s i j)
  unfolding send_state marked with_messages with_mark after_messages
  sent_leaves lt =
      let after : Run → Run = λ r. with_messages r (under_way s ++ (sent_message s i j ∷ [])) (s.last + 1) in
      let back : with_process s i (marked (process s i)) ≡ with_mark s i true = rows_back s whole plain i lt true in
      ap after back ∙ sym (ap (λ (r : Run). after_messages s (after r)) back)

  accepted : {A : Type 0} (o : Option Refusal) (a : Refusal → Outcome A) (b : Outcome A) → (o ≡ None → b.run ≡ after_messages s b.run) → ((r : Refusal) → (a r).run ≡ after_messages s (a r).run)
      → (judged o a b).run ≡ after_messages s (judged o a b).run
  accepted None a b x y = x refl
  accepted (Some r) a b x y = y r

  pub send_leaves : (send_outcome s i j).run ≡ after_messages s (send_outcome s i j).run
  unfolding send_outcome after_messages
  send_leaves = accepted (send_refusal s i j) _ _ (λ e. sent_leaves (send_out s i j e).from) (λ r. refl)
