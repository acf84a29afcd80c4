-- The report of every call fits the fields of its number, whatever the state and the arguments.
-- Assumes nothing.
use Rattle.std.specs.Prelude.{◌≡◌, ◌&&◌, ◌+◌, ◌≤◌, ◌<◌}
use Rattle.laws.specs.Basics.{true, not, List, None, Some, ℕ, arith, eqb, leb, length, by_bool}
use Rattle.laws.specs.{Counting.count_le, Lists.select, Options.some_same, Options.none≢some, Prefixes.every_select}
use Rattle.model.specs.declared.{Message.Message, Named.Named, Run.Run, Refusal.Refusal}
use Rattle.model.specs.Words.{basic, is_pinned, process, own, under_way, live}
use Rattle.model.specs.Steps.{checkpointed, checkpoint_deletions, found, forces, delivered, deliver_deletions, member, pins_after, gone_at_of, deleted_at, recover_deletions, rolled_back, rolled_back_count}
use Rattle.model.specs.{Sound.message_sound, Sound.sound, laws.Refusals.by_refusal, laws.Refusals.number_range, laws.Sound.sound_state, laws.Sound.sound_message}
use Rattle.model.specs.Refusals.{checkpoint_refusal, send_refusal, deliver_refusal, lose_refusal, line_refusal, recover_refusal}
use Rattle.model.proofs.simulation.Accepted.{checkpoint_out, send_out, deliver_out, recover_out}
use Rattle.whole_runs.specs.Outcomes.{refusing, accepting, deliver_answer, checkpoint_outcome, checkpoint_report, send_outcome, send_report, deliver_outcome, deliver_report, lose_outcome, lose_report, line_outcome, line_report, recover_outcome, recover_report}
use Rattle.whole_runs.specs.Earliest.{earliest_refusal, earliest_outcome}
use Rattle.whole_runs.proofs.Sizes.{few_processes, few_kept, last_passes, listed_few, deletions_few, stored_few, taken_few}
use Rattle.whole_runs.proofs.whole.Handed.{gather_length}
use Rattle.listing.specs.answers.Codes.{Fits}

pub fits_refused : (x : Refusal) → Fits (refusing x)
fits_refused x = record { refused = omega (arith, (number_range x).1); deletions = omega arith; value = λ v e. absurd (none≢some e) }

pub fits_value : (v k : ℕ) → v < 16_777_216 → k < 32_768 → Fits (accepting (Some v) k)
fits_value v k a b = record { refused = omega arith; deletions = b; value = λ w e. omega (arith, some_same e) }

pub fits_none : (k : ℕ) → k < 32_768 → Fits (accepting None k)
fits_none k b = record { refused = omega arith; deletions = b; value = λ v e. absurd (none≢some e) }

-- How many checkpoints a call can delete.
module _ (s : Run) (h : sound s ≡ true) where
  checkpoint_few : (i : ℕ) → i < s.count → length (checkpoint_deletions s i) ≤ 17
  unfolding checkpoint_deletions
  checkpoint_few i lt = omega (arith, deletions_few i (checkpointed basic i (process s i)), stored_few basic i (process s i) (few_kept s h i lt))

  deliver_few : (m : ℕ) (x : Message) → found s m ≡ Some x → length (deliver_deletions s x) ≤ 17
  unfolding deliver_deletions found
  deliver_few m x e =
      let all = every_select (message_sound s) (λ y. eqb y.number m) (under_way s) (sound_state s h).messages_sound_lem in
      let lt = (sound_message s x (last_passes (message_sound s) (select (λ y. eqb y.number m) (under_way s)) x all e)).to in
      let P = process s x.receiver in
      omega (arith, deletions_few x.receiver (delivered x.receiver x.vector P), taken_few x.receiver x.vector P (few_kept s h x.receiver lt))

  recover_few : (F : ℕ) → length (recover_deletions s F) ≤ 256
  unfolding recover_deletions deleted_at gone_at_of
  recover_few F = omega (
    arith,
    few_processes s h,
    gather_length s.count 16 (deleted_at s F)
        (λ p lt. omega (arith, listed_few p (λ c. not (leb c.index.0 (member s F p).index.0 && is_pinned (pins_after s F p) c)) (process s p).kept, few_kept s h p lt)),
  )

-- The calls.
pub checkpoint_fits : (s : Run) (i : ℕ) (deleted : List ℕ) → Fits (checkpoint_report (checkpoint_outcome s i deleted).answer)
unfolding checkpoint_report checkpoint_outcome live own
checkpoint_fits s i deleted = by_refusal (checkpoint_refusal s i deleted)
    (λ e. let fine = checkpoint_out s i deleted e in
    rw e (fits_value (own s i).0 (length (checkpoint_deletions s i)) (omega (arith, fine.early)) (omega (arith, checkpoint_few s fine.whole i fine.present))))
    (λ x e. rw e (fits_refused x))

pub send_fits : (s : Run) (i j : ℕ) → Fits (send_report (send_outcome s i j).answer)
unfolding send_report send_outcome
send_fits s i j = by_refusal (send_refusal s i j)
    (λ e. rw e (fits_value (s.last + 1) 0 (omega (arith, (send_out s i j e).numbers)) (omega arith)))
    (λ x e. rw e (fits_refused x))

pub deliver_fits : (s : Run) (m : ℕ) (deleted : List ℕ) → Fits (deliver_report (deliver_outcome s m deleted).answer)
unfolding deliver_report deliver_outcome deliver_answer live own
deliver_fits s m deleted = by_refusal (deliver_refusal s m deleted)
    (λ e. let fine = deliver_out s m deleted e in
    let x = fine.message in
    let few = deliver_few s fine.whole m x fine.here in
    rw (e, fine.here) (by_bool (forces (process s x.receiver) x.vector)
    (λ f. rw f (fits_value (own s x.receiver).0 (length (deliver_deletions s x)) (omega (arith, fine.early f)) (omega arith)))
    (λ f. rw f (fits_none (length (deliver_deletions s x)) (omega arith)))))
    (λ x e. rw e (fits_refused x))

pub lose_fits : (s : Run) (m : ℕ) → Fits (lose_report (lose_outcome s m).answer)
unfolding lose_report lose_outcome
lose_fits s m = by_refusal (lose_refusal s m) (λ e. rw e (fits_none 0 (omega arith))) (λ x e. rw e (fits_refused x))

pub line_fits : (s : Run) (F : ℕ) (lent : List ℕ) → Fits (line_report (line_outcome s F lent).answer)
unfolding line_report line_outcome
line_fits s F lent = by_refusal (line_refusal s F lent) (λ e. rw e (fits_none 0 (omega arith))) (λ x e. rw e (fits_refused x))

pub earliest_fits : (s : Run) (l : List Named) (lent : List ℕ) → Fits (line_report (earliest_outcome s l lent).answer)
unfolding earliest_outcome line_report
earliest_fits s l lent = by_refusal (earliest_refusal s l lent) (λ e. rw e (fits_none 0 (omega arith))) (λ x e. rw e (fits_refused x))

pub recover_fits : (s : Run) (F : ℕ) (deleted lent : List ℕ) → Fits (recover_report (recover_outcome s F deleted lent).answer)
unfolding recover_report recover_outcome rolled_back_count
recover_fits s F deleted lent = by_refusal (recover_refusal s F deleted lent)
    (λ e. let fine = recover_out s F deleted lent e in
    rw e (fits_value (rolled_back_count s F) (length (recover_deletions s F)) (omega (arith, few_processes s fine.whole, count_le s.count (rolled_back s F)))
    (omega (arith, recover_few s fine.whole F))))
    (λ x e. rw e (fits_refused x))
