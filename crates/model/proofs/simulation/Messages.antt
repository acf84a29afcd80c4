-- Sends and losses: the state after each stands for the run after it; which message a number finds, and what is left without it.
-- Assumes nothing.
use Rattle.std.specs.Prelude.{◌≡◌, ◌&&◌, ◌∷◌, ◌++◌, ◌+◌, ◌≤◌, ◌<◌}
use Rattle.laws.specs.Basics.{refl, sym, ◌∙◌, ap, true, false, not, List, [], None, Some, ℕ, suc, arith, eqb, eq-eqb, ne_eqb, by_bool, by_eq}
use native.Mathlib.Numerals.{add-one}
use Rattle.laws.specs.{Lists.last_of, Search.latest_is, Search.latest_none, Update.upd_same, Update.upd_other, Update.upds}
use Rattle.model.specs.declared.Message.{Message}
use Rattle.model.specs.{Words.most_processes, Steps.sent_message, Steps.marked, Steps.send_state, Steps.found, Steps.others, Steps.lose_state}
use Rattle.histories.proofs.{Run.Ideal, Run.keeps, Run.sending, Run.lost, Counted.kept_in}
use Rattle.histories.proofs.Lost.{lost_n, lost_own, lost_vector, lost_mark, lost_pin, lost_last}
use Rattle.model.proofs.simulation.View.{passing, pins_of, checkpoint_of, kept_of, process_of, message_of, messages_of, disk_of, state_of}
use Rattle.model.proofs.simulation.Passing.{passing_same, passing_yes, select_passing, last_passing}
use Rattle.model.proofs.{simulation.Reads.last_is_lem, simulation.Reads.under_way_is, simulation.Reads.process_is, simulation.Rows.process_same}
use Rattle.model.proofs.simulation.Stepping.{one_part_still, messages_alone}

module _ (r : Ideal) (i j : ℕ) (few : r.n ≤ most_processes) (hi : i < r.n) where
  -- Send. The part of i is as before but for its mark; the message comes last.
  send_process : marked (process_of r i) ≡ process_of (sending r i j) i
  unfolding marked process_of sending kept_of pins_of checkpoint_of keeps
  send_process = rw (upd_same r.mark i true)

  send_others : (p : ℕ) → p < r.n → (p ≡ i → ⊥) → process_of (sending r i j) p ≡ process_of r p
  unfolding sending
  send_others p lt ne = process_same r (sending r i j) p refl refl (λ k f le hf. refl) (upd_other r.mark i true p ne) (λ f hf. refl) refl refl

  send_message : sent_message (state_of r) i j ≡ message_of (sending r i j) (suc r.last)
  unfolding sent_message message_of sending process_of
  send_message = rw (process_is r i few hi, last_is_lem r, add-one r.last) (simp upds)

  send_before : (x : ℕ) → (x ≡ suc r.last → ⊥) → message_of r x ≡ message_of (sending r i j) x
  unfolding message_of sending
  send_before x ne = simp upds

  send_messages : messages_of r ++ (message_of (sending r i j) (suc r.last) ∷ []) ≡ messages_of (sending r i j)
  unfolding messages_of sending
  send_messages =
      ap (λ (l : List Message). l ++ (message_of (sending r i j) (suc r.last) ∷ [])) (passing_same (suc r.last) r.transit (sending r i j).transit (message_of r) (message_of (sending r i j))
      (λ x lt. sym (upd_other r.transit (suc r.last) true x (omega arith)))
      (λ x lt q. send_before x (omega arith)))
      ∙ sym (passing_yes (suc r.last) (sending r i j).transit (message_of (sending r i j)) (upd_same r.transit (suc r.last) true))

  send_n : (sending r i j).n ≡ r.n
  unfolding sending
  send_n = refl

  send_last : (state_of r).last + 1 ≡ (sending r i j).last
  unfolding sending
  send_last = omega (arith, last_is_lem r)

  send_disk : disk_of r ≡ disk_of (sending r i j)
  unfolding disk_of kept_in keeps sending
  send_disk = refl

  pub send_is : send_state (state_of r) i j ≡ state_of (sending r i j)
  unfolding send_state
  send_is = rw (process_is r i few hi, under_way_is r, send_message)
      (one_part_still r (sending r i j) send_n i (marked (process_of r i)) (messages_of r ++ (message_of (sending r i j) (suc r.last) ∷ [])) ((state_of r).last + 1) hi
      send_process send_others send_messages send_last send_disk)

module _ (r : Ideal) (m : ℕ) where
  -- The message that a number finds.
  found_latest : found (state_of r) m ≡ last_of (passing (suc r.last) (λ x. r.transit x && eqb x m) (message_of r))
  unfolding found messages_of message_of
  found_latest = rw (under_way_is r) (ap last_of (select_passing (λ x. eqb x.number m) (suc r.last) r.transit (message_of r)))

  pub found_is : m < suc r.last → r.transit m ≡ true → found (state_of r) m ≡ Some (message_of r m)
  found_is lt e = found_latest ∙ last_passing (suc r.last) _ (message_of r) ∙ rw (latest_is (suc r.last) (λ x. r.transit x && eqb x m) m lt
      (rw (e, eq-eqb m m refl))
      (λ x a b. rw (ne_eqb x m (omega arith)) (by_bool (r.transit x) (λ q. rw q) (λ q. rw q))))

  pub found_none : r.transit m ≡ false → found (state_of r) m ≡ None
  found_none e = found_latest ∙ last_passing (suc r.last) _ (message_of r) ∙ rw (latest_none (suc r.last) (λ x. r.transit x && eqb x m)
      (λ x lt. by_eq x m (λ q. rw (q, e)) (λ ne. rw (ne_eqb x m ne) (by_bool (r.transit x) (λ q. rw q) (λ q. rw q)))))

  -- The others: the messages of the run without that one.
  pub others_are : others (state_of r) m ≡ messages_of (lost r m)
  unfolding others messages_of message_of lost
  others_are = rw (under_way_is r) (select_passing (λ x. not (eqb x.number m)) (suc r.last) r.transit (message_of r)
      ∙ passing_same (suc r.last) _ _ _ _
      (λ x lt. by_eq x m
      (λ q. rw (q, eq-eqb m m refl, upd_same r.transit m false) (by_bool (r.transit m) (λ d. rw d) (λ d. rw d)))
      (λ ne. rw (ne_eqb x m ne, upd_other r.transit m false x ne) (by_bool (r.transit x) (λ d. rw d) (λ d. rw d))))
      (λ x lt q. refl))

  lose_process : (p : ℕ) → p < r.n → process_of r p ≡ process_of (lost r m) p
  unfolding lost
  lose_process p lt = sym (process_same r (lost r m) p (lost_n r m) (lost_own r m p) (λ k f le hf. lost_vector r m p k f) (lost_mark r m p) (λ f hf. lost_pin r m p f) refl refl)

  lose_disk : disk_of r ≡ disk_of (lost r m)
  unfolding disk_of kept_in keeps lost
  lose_disk = refl

  pub lose_is : lose_state (state_of r) m ≡ state_of (lost r m)
  unfolding lose_state
  lose_is = messages_alone r (lost r m) (lost_n r m) (others (state_of r) m) (state_of r).last lose_process others_are (last_is_lem r ∙ sym (lost_last r m)) lose_disk
