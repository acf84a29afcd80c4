-- What a record of a half is found to be.
-- Assumes nothing.
use Rattle.std.specs.Prelude.{◌≡◌, ◌⊎◌, ◌+◌, ◌*◌, ◌/◌, ◌%◌, ◌^◌, ◌≤◌, ◌<◌}
use Rattle.laws.specs.Basics.{refl, Bool, true, false, List, Option, Some, ℕ, zero, suc, arith, eqb, eq-eqb, ne_eqb, lt-ltb, le-leb, lt-leb, by_bool}
use mathlib.Core.Bool.{beq}
use Rattle.std.proofs.lemmas.Bool.Decides.{nat_tests}
use Rattle.laws.specs.Loops.{either}
use Rattle.model.specs.declared.Refusal.TheVariants.{NoSuchProcess, SenderIsReceiver, HalvesMismatch, MalformedRecord}
use Rattle.model.specs.{Refusals.first_of, Trace.if_zero_of, Trace.fields_of, Trace.fits, Trace.word_of_def}
use Rattle.theory_merges.specs.Halves.{HalfEvent, checkpoint_at, send_to, message_number, receiver_of, plain_event, happens_at}
use Rattle.theory_merges.specs.Merge.{Taken, stopped, out_of_run, to_itself, in_half_of, record_refusal, on_record}
use Rattle.library_halves.specs.{Log.word_in_of, Taking.message_of}

-- Whether a process belongs to the half that is meant.
pub half_is : (set : ℕ) (side : Bool) (p : ℕ) → in_half_of set side p ≡ beq (eqb (set / 2 ^ p % 2) 1) side
unfolding in_half_of
half_is set true p = by_bool (eqb (set / 2 ^ p % 2) 1) (λ e. rw e) (λ e. rw e)
half_is set false p = by_bool (eqb (set / 2 ^ p % 2) 1) (λ e. rw e) (λ e. rw e)

module _ (n set : ℕ) (side : Bool) (l : List HalfEvent) where
  -- A field that must be zero is not.
  pub not_zero : (k : ℕ) (x : HalfEvent) → (k ≡ 0 → ⊥) → (next : HalfEvent → Taken) → on_record n set l side next (if_zero_of k x) ≡ stopped MalformedRecord
  unfolding on_record if_zero_of
  not_zero zero x h next = absurd (h refl)
  not_zero (suc k) x h next = refl

  is_zero : (k : ℕ) (x : HalfEvent) → k ≡ 0 → if_zero_of k x ≡ Some x
  unfolding if_zero_of
  is_zero zero x h = refl
  is_zero (suc k) x h = absurd (omega arith)

  absent : (x : HalfEvent) → out_of_run n x ≡ true → (next : HalfEvent → Taken) → on_record n set l side next (Some x) ≡ stopped NoSuchProcess
  unfolding on_record record_refusal first_of
  absent x h next = rw h

  itself : (x : HalfEvent) → out_of_run n x ≡ false → to_itself x ≡ true → (next : HalfEvent → Taken) → on_record n set l side next (Some x) ≡ stopped SenderIsReceiver
  unfolding on_record record_refusal first_of
  itself x h i next = rw (h, i)

  foreign : (x : HalfEvent) → out_of_run n x ≡ false → to_itself x ≡ false → in_half_of set side (happens_at (receiver_of l) x) ≡ false
      → (next : HalfEvent → Taken) → on_record n set l side next (Some x) ≡ stopped HalvesMismatch
  unfolding on_record record_refusal first_of
  foreign x h i f next = rw (h, i, f)

  taken : (x : HalfEvent) → out_of_run n x ≡ false → to_itself x ≡ false → in_half_of set side (happens_at (receiver_of l) x) ≡ true
      → (next : HalfEvent → Taken) → on_record n set l side next (Some x) ≡ next x
  unfolding on_record record_refusal first_of
  taken x h i f next = rw (h, i, f)

  -- The record is taken: its word.
  abbrev Goes : Option HalfEvent → ℕ → Type 0
  Goes o w = (x : HalfEvent) × (w ≡ word_in_of l x) × (fits (plain_event l x) ≡ true) × ((next : HalfEvent → Taken) → on_record n set l side next o ≡ next x)

  module _ (p a : ℕ) where
    pub no_checkpoint_lem : (a ≡ 0 → ⊥) → (next : HalfEvent → Taken) → on_record n set l side next (if_zero_of a (checkpoint_at p)) ≡ stopped MalformedRecord
    no_checkpoint_lem h = not_zero a (checkpoint_at p) h

    module _ (z : a ≡ 0) where
      pub checkpoint_absent : n ≤ p → (next : HalfEvent → Taken) → on_record n set l side next (if_zero_of a (checkpoint_at p)) ≡ stopped NoSuchProcess
      unfolding out_of_run
      checkpoint_absent h = rw (is_zero a (checkpoint_at p) z) (absent (checkpoint_at p) (le-leb n p h))

      pub checkpoint_foreign : p < n → in_half_of set side p ≡ false → (next : HalfEvent → Taken) → on_record n set l side next (if_zero_of a (checkpoint_at p)) ≡ stopped HalvesMismatch
      unfolding out_of_run to_itself happens_at
      checkpoint_foreign h f = rw (is_zero a (checkpoint_at p) z) (foreign (checkpoint_at p) (lt-leb n p h) refl f)

    pub checkpoint_taken : n ≤ 16 → a ≡ 0 → p < n → in_half_of set side p ≡ true → Goes (if_zero_of a (checkpoint_at p)) (p * 33554432)
    unfolding out_of_run to_itself happens_at word_in_of plain_event fields_of word_of_def fits
    checkpoint_taken b z h f =
        (checkpoint_at p, omega arith, rw (lt-ltb p 16 (omega arith)), rw (is_zero a (checkpoint_at p) z) (taken (checkpoint_at p) (lt-leb n p h) refl f))

  module _ (i j : ℕ) where
    pub send_absent : (n ≤ i) ⊎ (n ≤ j) → (next : HalfEvent → Taken) → on_record n set l side next (Some (send_to i j)) ≡ stopped NoSuchProcess
    unfolding out_of_run
    send_absent h = absent (send_to i j) (grind (arith, nat_tests, h))

    pub send_itself : i < n → j < n → i ≡ j → (next : HalfEvent → Taken) → on_record n set l side next (Some (send_to i j)) ≡ stopped SenderIsReceiver
    unfolding out_of_run to_itself
    send_itself g h e = itself (send_to i j) (rw (lt-leb n i g, lt-leb n j h)) (eq-eqb i j e)

    pub send_foreign : i < n → j < n → (i ≡ j → ⊥) → in_half_of set side i ≡ false → (next : HalfEvent → Taken) → on_record n set l side next (Some (send_to i j)) ≡ stopped HalvesMismatch
    unfolding out_of_run to_itself happens_at
    send_foreign g h e f = foreign (send_to i j) (rw (lt-leb n i g, lt-leb n j h)) (ne_eqb i j e) f

    pub send_taken : n ≤ 16 → i < n → j < n → (i ≡ j → ⊥) → in_half_of set side i ≡ true → Goes (Some (send_to i j)) (536870912 + i * 33554432 + j)
    unfolding out_of_run to_itself happens_at word_in_of plain_event fields_of word_of_def fits
    send_taken b g h e f =
        (send_to i j, omega arith, rw (lt-ltb i 16 (omega arith), lt-ltb j 33554432 (omega arith)), taken (send_to i j) (rw (lt-leb n i g, lt-leb n j h)) (ne_eqb i j e) f)

  -- A delivery or a loss.
  module _ (k p a : ℕ) where
    no_way_out : out_of_run n (message_of k a) ≡ false
    unfolding out_of_run message_of
    no_way_out = by_bool (eqb k 2) (λ e. rw e) (λ e. rw e)

    not_itself : to_itself (message_of k a) ≡ false
    unfolding to_itself message_of
    not_itself = by_bool (eqb k 2) (λ e. rw e) (λ e. rw e)

    at_home : happens_at (receiver_of l) (message_of k a) ≡ receiver_of l (a / 2097152) (a % 2097152)
    unfolding happens_at message_of
    at_home = by_bool (eqb k 2) (λ e. rw e) (λ e. rw e)

    pub message_foreign : p ≡ 0 → in_half_of set side (receiver_of l (a / 2097152) (a % 2097152)) ≡ false
        → (next : HalfEvent → Taken) → on_record n set l side next (if_zero_of p (message_of k a)) ≡ stopped HalvesMismatch
    message_foreign z f = rw (is_zero p (message_of k a) z) (foreign (message_of k a) no_way_out not_itself (rw at_home f))

    word_two : k ≡ 2 → k * 536870912 + message_number l (a / 2097152) (a % 2097152) ≡ word_in_of l (message_of k a)
    unfolding message_of word_in_of plain_event fields_of word_of_def
    word_two e = rw e (omega arith)

    word_three : k ≡ 3 → k * 536870912 + message_number l (a / 2097152) (a % 2097152) ≡ word_in_of l (message_of k a)
    unfolding message_of word_in_of plain_event fields_of word_of_def
    word_three e = rw e (omega arith)

    fits_any : message_number l (a / 2097152) (a % 2097152) < 33554432 → fits (plain_event l (message_of k a)) ≡ true
    unfolding message_of plain_event fields_of fits
    fits_any m = by_bool (eqb k 2) (λ e. rw (e, lt-ltb (message_number l (a / 2097152) (a % 2097152)) 33554432 m)) (λ e. rw (e, lt-ltb (message_number l (a / 2097152) (a % 2097152)) 33554432 m))

    pub message_taken : ((k ≡ 2) ⊎ (k ≡ 3)) → p ≡ 0 → message_number l (a / 2097152) (a % 2097152) < 33554432 → in_half_of set side (receiver_of l (a / 2097152) (a % 2097152)) ≡ true
        → Goes (if_zero_of p (message_of k a)) (k * 536870912 + message_number l (a / 2097152) (a % 2097152))
    message_taken s z m f =
        (message_of k a, either s word_two word_three, fits_any m, rw (is_zero p (message_of k a) z) (taken (message_of k a) no_way_out not_itself (rw at_home f)))
