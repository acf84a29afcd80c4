-- What a record of each kind leaves, from what the functions answer and from the invariant.
-- Assumes nothing.
use Rattle.std.specs.Prelude.{◌≡◌, ◌∷◌, ◌<◌, Result, Err}
use Rattle.laws.specs.Basics.{refl, ◌∙◌, ap, true, false, not, [], Option, None, Some, ℕ, suc, arith, leb-false, by_bool}
use Rattle.model.specs.declared.{Event.Event, Refusal.Refusal, Refusal.TheVariants.NotUnderWay, Refusal.TheVariants.MalformedRecord}
use Rattle.model.specs.declared.Event.TheVariants.{Checkpoint, Send, Deliver, Lose, Recover}
use Rattle.model.specs.{Refusals.first_of, laws.Refusals.no_rule}
use Rattle.theory_patterns.specs.Patterns.{Pattern, record_refusal, taken}
use Rattle.theory_patterns.proofs.Trail.{Trail, storing, sending}
use Rattle.library_judge.specs.Kept.{Kept, AfterRecord, Reads}
use Rattle.library_judge.specs.declared.{reading.Reading.Reading, reading.Found.Found}
use Rattle.library_judge.specs.Readings.{answer_by, read_by, checkpoint_refusal, with_checkpoint, send_refusal, send_free, with_message, found_in_of, drop_refusal, lost_of, received_of}
use Rattle.library_judge.proofs.Keeping.{found_none, found_at, place_of_lem, checkpoint_refusal_lem, send_refusal_lem, kept_checkpoint, kept_send, kept_lose, after, kept_deliver}

-- A record by its refusal: what is kept is asked for where there is none.
module _ (n : ℕ) (R R' next : Reading) (answer : Result (Unit {0}) Refusal) (e : Option Event) where
  by_record : (read : ℕ) (t : Pattern) (o : Option Refusal) → record_refusal n t e ≡ o → answer ≡ answer_by o → R' ≡ read_by o R next
      → (o ≡ None → (tr : Trail) × Kept n (suc read) (taken t e) tr next) → AfterRecord n read t e answer R'
  unfolding AfterRecord
  by_record read t None same a b keeps = rw (a, b) (same, keeps refl)
  by_record read t (Some why) same a b keeps = rw a same

module _ (n : ℕ) (R : Reading) where
  pub checkpoint_reads : (i : ℕ) (answer : Result (Unit {0}) Refusal) (R' : Reading) → answer ≡ answer_by (checkpoint_refusal n R i)
      → R' ≡ read_by (checkpoint_refusal n R i) R (with_checkpoint R i) → Reads n R (Some (Checkpoint i)) answer R'
  unfolding Reads
  checkpoint_reads i answer R' a b read t tr more h =
      by_record n R R' (with_checkpoint R i) answer (Some (Checkpoint i)) read t (checkpoint_refusal n R i) (checkpoint_refusal_lem n read t tr R h more i) a b
      (λ e. (storing tr h.right i, kept_checkpoint n read t tr R h more i (in_run e)))
    where
      in_run : checkpoint_refusal n R i ≡ None → i < n
      in_run e = unfold checkpoint_refusal in leb-false n i (no_rule _ e 0)

  pub send_reads : (i j : ℕ) (answer : Result (Unit {0}) Refusal) (R' : Reading) → answer ≡ answer_by (send_refusal n R i j)
      → R' ≡ read_by (send_refusal n R i j) R (with_message R i j) → Reads n R (Some (Send i j)) answer R'
  unfolding Reads
  send_reads i j answer R' a b read t tr more h =
      by_record n R R' (with_message R i j) answer (Some (Send i j)) read t (send_refusal n R i j) (send_refusal_lem n read t tr R h more i j) a b
      (λ e. let free = send_free n R i j e in (sending tr h.right i, kept_send n read t tr R h more i j free.0 free.1 free.2))

  off_way : (t : Pattern) (m : ℕ) → t.underway m ≡ false → first_of (record { holds = not (t.underway m); gives = NotUnderWay } ∷ []) ≡ Some NotUnderWay
  unfolding first_of
  off_way t m u = rw u

  on_way : (t : Pattern) (m : ℕ) → t.underway m ≡ true → first_of (record { holds = not (t.underway m); gives = NotUnderWay } ∷ []) ≡ None
  unfolding first_of
  on_way t m u = rw u

  pub lose_reads : (m : ℕ) (answer : Result (Unit {0}) Refusal) (R' : Reading) → answer ≡ answer_by (drop_refusal (found_in_of R m)) → R' ≡ lost_of R (found_in_of R m)
      → Reads n R (Some (Lose m)) answer R'
  unfolding Reads record_refusal
  lose_reads m answer R' a b read t tr more h = by_bool (t.underway m)
      (λ u. let w = place_of_lem n read t tr R h more m u in found w.0 m w.1 u a b)
      (λ u. let none = found_none n read t tr R h more m u in
      by_record n R R' R answer (Some (Lose m)) read t (Some NotUnderWay) (off_way t m u) (a ∙ ap (λ (f : Option Found). answer_by (drop_refusal f)) none) (b ∙ ap (lost_of R) none) (λ e. absurd (never e)))
    where
      never : Some NotUnderWay ≡ None → ⊥
      never e = let z : ◌≡◌ {A = ℕ} 0 1 = cc in omega arith

      found : (y m : ℕ) → m ≡ suc y → t.underway m ≡ true → answer ≡ answer_by (drop_refusal (found_in_of R m)) → R' ≡ lost_of R (found_in_of R m) → AfterRecord n read t (Some (Lose m)) answer R'
      found y m c = rw c (λ u a b.
          let there = found_at n read t tr R h more y u in
          by_record n R R' (lost_of R (found_in_of R (suc y))) answer (Some (Lose (suc y))) read t None (on_way t (suc y) u)
          (a ∙ ap (λ (f : Option Found). answer_by (drop_refusal f)) there) b
          (λ e. (tr, rw there (kept_lose n read t tr R h more y u))))

  pub deliver_reads : (m : ℕ) (answer : Result (Unit {0}) Refusal) (R' : Reading) → answer ≡ answer_by (drop_refusal (found_in_of R m)) → R' ≡ received_of R (found_in_of R m)
      → Reads n R (Some (Deliver m)) answer R'
  unfolding Reads record_refusal
  deliver_reads m answer R' a b read t tr more h = by_bool (t.underway m)
      (λ u. let w = place_of_lem n read t tr R h more m u in found w.0 m w.1 u a b)
      (λ u. let none = found_none n read t tr R h more m u in
      by_record n R R' R answer (Some (Deliver m)) read t (Some NotUnderWay) (off_way t m u) (a ∙ ap (λ (f : Option Found). answer_by (drop_refusal f)) none) (b ∙ ap (received_of R) none) (λ e. absurd (never e)))
    where
      never : Some NotUnderWay ≡ None → ⊥
      never e = let z : ◌≡◌ {A = ℕ} 0 1 = cc in omega arith

      found : (y m : ℕ) → m ≡ suc y → t.underway m ≡ true → answer ≡ answer_by (drop_refusal (found_in_of R m)) → R' ≡ received_of R (found_in_of R m) → AfterRecord n read t (Some (Deliver m)) answer R'
      found y m c = rw c (λ u a b.
          let there = found_at n read t tr R h more y u in
          by_record n R R' (received_of R (found_in_of R (suc y))) answer (Some (Deliver (suc y))) read t None (on_way t (suc y) u)
          (a ∙ ap (λ (f : Option Found). answer_by (drop_refusal f)) there) b
          (λ e. (after n read t tr R h more y u, rw there (kept_deliver n read t tr R h more y u))))

  -- Neither a malformed record nor one of kind 4 is taken.
  pub recover_reads : (F : ℕ) (R' : Reading) → Reads n R (Some (Recover F)) (Err MalformedRecord) R'
  unfolding Reads AfterRecord record_refusal
  recover_reads F R' read t tr more h = refl

  pub malformed_reads : (R' : Reading) → Reads n R None (Err MalformedRecord) R'
  unfolding Reads AfterRecord record_refusal
  malformed_reads R' read t tr more h = refl
