-- What the state that stands for a run holds: each process's part, the messages, the count; and the entries of its vectors and pins.
-- Assumes nothing.
use Rattle.std.specs.Prelude.{◌≡◌, ◌≤◌, ◌<◌, None}
use Rattle.laws.specs.Basics.{refl, ◌∙◌, ℕ, suc, arith, ltb, leb, length, get_or, get_or-replicate, lt-ltb, le-ltb, leb-true, leb-false, by_bool}
use lib.ListN.{get_or-eq_default}
use Rattle.laws.specs.Tables.{get_d_table, get_d_table_past, table_same}
use Rattle.model.specs.Words.{most_processes, entry, live, zero_vector, blank, process, own, under_way, with_messages, with_disk}
use Rattle.model.specs.Steps.{with_processes}
use Rattle.histories.proofs.Run.{Ideal}
use Rattle.model.proofs.simulation.View.{vector_of, pin_of_def, pins_of, checkpoint_of, process_of, messages_of, disk_of, parts_of, state_of}
use Rattle.model.proofs.simulation.Parts.{unused, under_way_put, count_all, room_blank, process_all, process_above, process_blank}

-- The entries of a vector: those below n are the function's, all others zero.
pub entry_is : (n : ℕ) (v : ℕ → ℕ) (f : ℕ) → n ≤ most_processes → f < n → entry (vector_of n v) f ≡ record { 0 = v f }
unfolding vector_of
entry_is n v f few lt = get_d_table most_processes _ f (record { 0 = 0 }) (omega arith) ∙ rw (lt-ltb f n lt)

pub entry_past : (n : ℕ) (v : ℕ → ℕ) (f : ℕ) → n ≤ f → entry (vector_of n v) f ≡ record { 0 = 0 }
unfolding vector_of
entry_past n v f le = by_bool (leb (suc f) most_processes)
    (λ e. get_d_table most_processes _ f (record { 0 = 0 }) (leb-true (suc f) most_processes e) ∙ rw (le-ltb f n le))
    (λ e. let past : most_processes ≤ f = omega (arith, leb-false (suc f) most_processes e) in get_d_table_past most_processes _ f (record { 0 = 0 }) past)

pub entry_zero : (f : ℕ) → entry zero_vector f ≡ record { 0 = 0 }
entry_zero f = by_bool (leb (suc f) most_processes)
    (λ e. get_or-replicate most_processes f (record { 0 = 0 }) (record { 0 = 0 }) (leb-true (suc f) most_processes e))
    (λ e. let past : length zero_vector ≤ f = omega (arith, leb-false (suc f) most_processes e) in get_or-eq_default zero_vector (record { 0 = 0 }) past)

-- Two vectors are the same list if they agree below n.
pub vector_same : (n : ℕ) (v w : ℕ → ℕ) → ((f : ℕ) → f < n → v f ≡ w f) → vector_of n v ≡ vector_of n w
unfolding vector_of
vector_same n v w h = table_same most_processes _ _ (λ f lt. by_bool (ltb f n)
    (λ e. rw (e, h f (leb-true (suc f) n e)))
    (λ e. rw e))

-- The pins of a process: those below n are the run's, all others none.
pub pin_is : (r : Ideal) (p f : ℕ) → r.n ≤ most_processes → f < r.n → get_or (pins_of r p) f None ≡ pin_of_def (r.pin p f)
unfolding pins_of
pin_is r p f few lt = get_d_table most_processes _ f None (omega arith) ∙ rw (lt-ltb f r.n lt)

pub pin_past : (r : Ideal) (p f : ℕ) → r.n ≤ f → get_or (pins_of r p) f None ≡ None
unfolding pins_of
pin_past r p f le = by_bool (leb (suc f) most_processes)
    (λ e. get_d_table most_processes _ f None (leb-true (suc f) most_processes e) ∙ rw (le-ltb f r.n le))
    (λ e. let past : most_processes ≤ f = omega (arith, leb-false (suc f) most_processes e) in get_d_table_past most_processes _ f None past)

module _ (r : Ideal) where
  pub count_is_lem : (state_of r).count ≡ r.n
  unfolding state_of parts_of with_disk with_messages blank
  count_is_lem = count_all r.n (process_of r) (blank r.n)

  pub last_is_lem : (state_of r).last ≡ r.last
  unfolding state_of parts_of with_disk with_messages
  last_is_lem = refl

  pub underway_is : (state_of r).underway ≡ length (messages_of r)
  unfolding state_of parts_of with_disk with_messages
  underway_is = refl

  pub disk_is : (state_of r).disk ≡ disk_of r
  unfolding state_of with_disk
  disk_is = refl

  pub under_way_is : under_way (state_of r) ≡ messages_of r
  unfolding state_of parts_of with_disk under_way
  under_way_is = under_way_put (with_processes r.n (process_of r) (blank r.n)) (messages_of r) r.last

  -- The part of a process of the run, and of an unused one.
  pub process_is : (p : ℕ) → r.n ≤ most_processes → p < r.n → process (state_of r) p ≡ process_of r p
  unfolding state_of parts_of process with_disk with_messages
  process_is p few lt = process_all r.n (process_of r) (blank r.n) p lt (room_blank r.n p (omega arith))

  pub process_past : (p : ℕ) → r.n ≤ p → p < most_processes → process (state_of r) p ≡ unused
  unfolding state_of parts_of process with_disk with_messages
  process_past p le lt = process_above r.n (process_of r) (blank r.n) p le ∙ process_blank r.n p lt

  -- Own entries: the run's, and zero for an unused process. `self` says that the live state's own entry is its index.
  pub own_is : (p : ℕ) → r.n ≤ most_processes → p < r.n → r.vector p (r.own p) p ≡ r.own p → own (state_of r) p ≡ record { 0 = r.own p }
  unfolding own process_of
  own_is p few lt self = rw (process_is p few lt) (entry_is r.n (r.vector p (r.own p)) p few lt ∙ rw self)

  pub own_past : (p : ℕ) → r.n ≤ p → p < most_processes → own (state_of r) p ≡ record { 0 = 0 }
  unfolding own
  own_past p le lt = rw (process_past p le lt) (entry_zero p)

  -- The live state of a process of the run, as a checkpoint.
  pub live_is : (p : ℕ) → r.n ≤ most_processes → p < r.n → r.vector p (r.own p) p ≡ r.own p → live p (process_of r p) ≡ checkpoint_of r p (r.own p)
  unfolding live process_of checkpoint_of
  live_is p few lt self = rw (entry_is r.n (r.vector p (r.own p)) p few lt, self, le-ltb (r.own p) (r.own p) (omega arith))
