-- The limits of a run hold at the start, and every step keeps them; a send does where there is room.
-- Assumes nothing.
use Rattle.std.specs.Prelude.{◌≡◌, ◌⊎◌, ◌+◌, ◌*◌, ◌≤◌, ◌<◌}
use Rattle.laws.specs.Basics.{refl, ap, Bool, true, false, List, inl, inr, ℕ, suc, arith, leb, length, get_or, ne_eqb, le-leb, leb-true, by_bool, by_eq}
use Rattle.laws.specs.{Sums.sum_below, Sums.sum_le, Truth.never_both, Truth.and_left, Truth.and_right, Tests.count_below}
use Rattle.laws.specs.{Update.upd, Update.upd_same, Update.upd_other, Update.upd_same₁, Update.upd_other₁, Counting.count_none, Counting.count_mono}
use Rattle.model.specs.Words.{most_processes, most_under_way, most_messages, most_block_count, most_blocks}
use Rattle.model.specs.Sound.{cause_sound, is_block_count_of}
use Rattle.histories.proofs.Run.{Ideal, Ledger, Failed, begin, open_ledger, begun, keeps, stores, checkpointed, sending, forces, taken_by, taken_in, delivered, lost, outlives, recovered}
use Rattle.histories.proofs.{Invariant.Inv, Messages.underway_proper, CheckpointedViews.checkpointed_own, CheckpointedViews.checkpointed_own_other}
use Rattle.histories.proofs.{Keeping.Moved, Keeping.checkpointed_moved, Keeping.delivered_moved, Keeping.recovered_moved, Checkpointed.checkpointed_inv}
use Rattle.histories.proofs.DeliveredViews.{delivered_n, delivered_last, delivered_own_forced, delivered_own_plain, delivered_own_other}
use Rattle.histories.proofs.{Delivered.delivered_inv, RecoveredStates.recovered_own_le, Recovered.recovered_inv}
use Rattle.histories.proofs.Counted.{kept_in, Paid, paid_on, checkpointed_new, checkpointed_paid, delivered_new_forced, delivered_paid, delivered_ledger_forced, delivered_ledger_plain, recovered_ledger, recovered_paid}
use Rattle.model.proofs.simulation.View.{message_of, messages_of, Fits, Limits}
use Rattle.model.proofs.{simulation.Passing.length_passing, simulation.Start.start_kept_in}

-- As many messages are under way as numbers up to the last used.
pub messages_count : (r : Ideal) → length (messages_of r) ≡ count_below (suc r.last) r.transit
unfolding messages_of
messages_count r = length_passing (suc r.last) r.transit (message_of r)

-- A run with as many processes, no further message under way and no further number used is within the limits.
limits_less : (r r' : Ideal) → Limits r → r'.n ≡ r.n → r'.last ≡ r.last → ((m : ℕ) → r'.transit m ≡ true → r.transit m ≡ true) → Fits r' → Limits r'
limits_less r r' fit same-n same_last less fits = record {
  some_process = rw same-n fit.some_process;
  few_processes = rw same-n fit.few_processes;
  few_messages =
      let fewer : count_below (suc r.last) r'.transit ≤ count_below (suc r.last) r.transit = count_mono (suc r.last) r'.transit r.transit (λ m lt. less m) in
      rw (messages_count r', same_last) (omega (arith, fit.few_messages, messages_count r));
  few_numbers = rw same_last fit.few_numbers;
  ledger = fits;
}

-- A step that pays for what it stores keeps the ledger in its limits, if the causes and the bound are right after it.
pub fits_step : (r r' : Ideal) → Inv r → Inv r' → Moved r r' → Paid r r' → Fits r
    → ((p k : ℕ) → p < r.n → k < r'.own p → cause_sound k (r'.ledger.cause p k) ≡ true) → r'.ledger.written ≤ most_blocks → Fits r'
fits_step r r' v v' w t fit causes room = record {
  block_counts = λ p hp. rw t.block_counts (fit.block_counts p (rw w.size at hp));
  causes = λ p k hp lt. causes p k (rw w.size at hp) lt;
  paid = paid_on r r' v v' w t fit.paid;
  room = room;
}

-- A step that stores nothing and leaves the causes.
pub fits_quiet : (r r' : Ideal) → Inv r → Inv r' → Moved r r' → Paid r r' → Fits r → r'.ledger.cause ≡ r.ledger.cause → ((p : ℕ) → r'.own p ≤ r.own p)
    → r'.ledger.written ≡ r.ledger.written → Fits r'
fits_quiet r r' v v' w t fit same less still = fits_step r r' v v' w t fit
    (λ p k hp lt. rw same (fit.causes p k hp (omega (arith, less p)))) (omega (arith, still, fit.room))

-- A cause that a step stores: basic or forced.
later : (k c : ℕ) → 1 ≤ k → 1 ≤ c → c ≤ 2 → cause_sound k c ≡ true
unfolding cause_sound
later k c pos a b = rw (ne_eqb k 0 (omega arith), le-leb 1 c a, le-leb c 2 b)

-- The causes once process i has stored a checkpoint.
stored_causes : (r : Ideal) → Inv r → (i : ℕ) → Fits r → 1 ≤ r.ledger.why → r.ledger.why ≤ 2 → (p k : ℕ) → p < r.n
    → ((p ≡ i) × (k ≤ r.own i)) ⊎ (k < r.own p) → cause_sound k ((stores r i).cause p k) ≡ true
unfolding stores
stored_causes r v i fit a b p k hp at = by_eq p i
    (λ e. rw (e, upd_same₁ r.ledger.cause i (upd (r.ledger.cause i) (r.own i) r.ledger.why) k) (by_eq k (r.own i)
    (λ d. rw (d, upd_same (r.ledger.cause i) (r.own i) r.ledger.why) (later (r.own i) r.ledger.why (v.positive i) a b))
    (λ nd. rw (upd_other (r.ledger.cause i) (r.own i) r.ledger.why k nd) (rw e at (fit.causes p k hp (elim at [ inl z ↦ rw e (omega (arith, z.1)) | inr z ↦ z ]))))))
    (λ ne. rw (upd_other₁ r.ledger.cause i (upd (r.ledger.cause i) (r.own i) r.ledger.why) p k ne)
    (fit.causes p k hp (elim at [ inl z ↦ absurd (ne z.0) | inr z ↦ z ])))

-- At the start nothing is under way, and what is kept is what was written.
begin_room : (n : ℕ) (block_counts : List ℕ) → n ≤ most_processes → ((p : ℕ) → p < n → is_block_count_of (get_or block_counts p 0) ≡ true) → sum_below n (λ p. get_or block_counts p 0) ≤ most_blocks
unfolding is_block_count_of
begin_room n block_counts few fit =
    let low : sum_below n (λ p. get_or block_counts p 0) ≤ n * most_block_count = sum_le n most_block_count (λ p. get_or block_counts p 0) (λ p lt. leb-true (get_or block_counts p 0) most_block_count (and_right (leb 1 (get_or block_counts p 0)) (leb (get_or block_counts p 0) most_block_count) (fit p lt))) in
    omega arith

fits_begin : (n : ℕ) (block_counts : List ℕ) → n ≤ most_processes → ((p : ℕ) → p < n → is_block_count_of (get_or block_counts p 0) ≡ true) → Fits (begun n block_counts)
unfolding begin open_ledger cause_sound
fits_begin n block_counts few fit = record {
  block_counts = fit;
  causes = λ p k hp lt. rw (zero_of k lt);
  paid = omega (arith, start_kept_in n block_counts);
  room = begin_room n block_counts few fit;
}
  where
    zero_of : (k : ℕ) → k < 1 → k ≡ 0
    zero_of k lt = omega arith

pub limits_begin : (n : ℕ) (block_counts : List ℕ) → 1 ≤ n → n ≤ most_processes → ((p : ℕ) → p < n → is_block_count_of (get_or block_counts p 0) ≡ true) → Limits (begun n block_counts)
unfolding begin
limits_begin n block_counts a b fit = record {
  some_process = a;
  few_processes = b;
  few_messages = rw (messages_count (begun n block_counts), count_none 1 (λ m. false) (λ m lt. refl)) (omega arith);
  few_numbers = omega arith;
  ledger = fits_begin n block_counts b fit;
}

checkpointed_ledger : (r : Ideal) (i : ℕ) → (checkpointed r i).ledger ≡ stores r i
unfolding checkpointed
checkpointed_ledger r i = refl

-- A checkpoint changes neither messages nor numbers; it is basic or forced, and there is room for its blocks.
pub fits_checkpoint : (r : Ideal) → Inv r → (i : ℕ) → i < r.n → Fits r → 1 ≤ r.ledger.why → r.ledger.why ≤ 2 → r.ledger.written + r.ledger.block_counts i ≤ most_blocks
    → Fits (checkpointed r i)
fits_checkpoint r v i hi fit a b room = fits_step r (checkpointed r i) v (checkpointed_inv r i v) (checkpointed_moved r i hi) (checkpointed_paid r i hi) fit
    (λ p k hp lt. causes p k hp lt)
    (omega (arith, (checkpointed_paid r i hi).written, checkpointed_new r i hi))
  where
    causes : (p k : ℕ) → p < r.n → k < (checkpointed r i).own p → cause_sound k ((checkpointed r i).ledger.cause p k) ≡ true
    causes p k hp lt = rw (checkpointed_ledger r i) (stored_causes r v i fit a b p k hp (by_eq p i
        (λ e. inl (e, omega (arith, lt, checkpointed_own r i, ap (checkpointed r i).own e)))
        (λ ne. inr (omega (arith, lt, checkpointed_own_other r i p ne)))))

pub limits_checkpoint : (r : Ideal) (i : ℕ) → Limits r → Fits (checkpointed r i) → Limits (checkpointed r i)
unfolding checkpointed
limits_checkpoint r i fit fits = limits_less r (checkpointed r i) fit refl refl (λ m e. e) fits

-- Sends and losses keep what was kept.
sending_kept : (r : Ideal) (i j : ℕ) → kept_in (sending r i j) ≡ kept_in r
unfolding kept_in keeps sending
sending_kept r i j = refl

lost_kept : (r : Ideal) (m : ℕ) → kept_in (lost r m) ≡ kept_in r
unfolding kept_in keeps lost
lost_kept r m = refl

-- A message that is no longer under way leaves the others.
taken_off : (t : ℕ → Bool) (m j : ℕ) → upd t m false j ≡ true → t j ≡ true
taken_off t m j e = by_eq j m
    (λ c. never_both false (rw (c, upd_same t m false) at e) refl)
    (λ ne. rw (upd_other t m false j ne) at e)

-- A delivery takes one message off, with a forced checkpoint or without.
delivered_off : (r : Ideal) (m j : ℕ) → (delivered r m).transit j ≡ true → r.transit j ≡ true
unfolding delivered taken_in taken_by checkpointed
delivered_off r m j = by_bool (forces r m)
    (λ e. rw e (taken_off r.transit m j))
    (λ e. rw e (taken_off r.transit m j))

pub limits_deliver : (r : Ideal) (m : ℕ) → Limits r → Fits (delivered r m) → Limits (delivered r m)
limits_deliver r m fit fits = limits_less r (delivered r m) fit (delivered_n r m) (delivered_last r m) (delivered_off r m) fits

-- A forced checkpoint needs room for its blocks.
pub fits_deliver : (r : Ideal) → Inv r → (m : ℕ) → r.transit m ≡ true → Fits r → r.ledger.why ≡ 2
    → (forces r m ≡ true → r.ledger.written + r.ledger.block_counts (r.receiver m) ≤ most_blocks) → Fits (delivered r m)
fits_deliver r v m under fit why room =
    let hi : r.receiver m < r.n = (underway_proper r v m under).to in
    let v' = delivered_inv r m v under in
    let w = delivered_moved r v m under in
    let t = delivered_paid r m hi in
    by_bool (forces r m)
    (λ e. fits_step r (delivered r m) v v' w t fit
    (λ p k hp lt. rw (delivered_ledger_forced r m e) (stored_causes r v (r.receiver m) fit (omega (arith, why)) (omega (arith, why)) p k hp (by_eq p (r.receiver m)
    (λ c. inl (c, omega (arith, lt, delivered_own_forced r m e, ap (delivered r m).own c)))
    (λ ne. inr (omega (arith, lt, delivered_own_other r m p ne))))))
    (omega (arith, t.written, delivered_new_forced r m hi e, room e)))
    (λ e. fits_quiet r (delivered r m) v v' w t fit (ap (λ (l : Ledger). l.cause) (delivered_ledger_plain r m e)) (λ p. omega (arith, delivered_own_plain r m e p))
    (ap (λ (l : Ledger). l.written) (delivered_ledger_plain r m e)))

-- A loss takes one message off.
pub limits_lose : (r : Ideal) (m : ℕ) → Limits r → Limits (lost r m)
unfolding lost
limits_lose r m fit = limits_less r (lost r m) fit refl refl (λ j e. taken_off r.transit m j e) fits
  where
    fits : Fits (lost r m)
    fits = record { block_counts = fit.ledger.block_counts; causes = fit.ledger.causes; paid = omega (arith, fit.ledger.paid, lost_kept r m); room = fit.ledger.room }

-- A recovery puts no message under way.
fits_recover : (r : Ideal) → Inv r → (F : Failed) → Fits r → Fits (recovered r F)
fits_recover r v F fit = fits_quiet r (recovered r F) v (recovered_inv r v F) (recovered_moved r v F) (recovered_paid r v F) fit
    (ap (λ (l : Ledger). l.cause) (recovered_ledger r F)) (recovered_own_le r v F) (ap (λ (l : Ledger). l.written) (recovered_ledger r F))

pub limits_recover : (r : Ideal) → Inv r → (F : Failed) → Limits r → Limits (recovered r F)
unfolding recovered outlives
limits_recover r v F fit = limits_less r (recovered r F) fit refl refl (λ m e. and_left (r.transit m) _ e) (fits_recover r v F fit.ledger)

-- A send adds one message and one number, where both had room.
pub limits_send : (r : Ideal) (i j : ℕ) → Limits r → length (messages_of r) < most_under_way → r.last < most_messages → Limits (sending r i j)
unfolding sending count_below
limits_send r i j fit room numbers = record {
  some_process = fit.some_process;
  few_processes = fit.few_processes;
  few_messages =
      let fewer : count_below (suc r.last) (upd r.transit (suc r.last) true) ≤ count_below (suc r.last) r.transit
      = count_mono (suc r.last) _ r.transit (λ m lt e. rw (upd_other r.transit (suc r.last) true m (omega arith)) at e) in
      rw (messages_count (sending r i j), upd_same r.transit (suc r.last) true) (omega (arith, messages_count r));
  few_numbers = numbers;
  ledger = record { block_counts = fit.ledger.block_counts; causes = fit.ledger.causes; paid = omega (arith, fit.ledger.paid, sending_kept r i j); room = fit.ledger.room };
}
