-- Laws of a state's parts: one process's part and the messages, put in and read back. They hold of every state.
-- Assumes nothing.
use Rattle.std.specs.Prelude.{◌≡◌, ◌≤◌, ◌<◌}
use Rattle.laws.specs.Basics.{refl, sym, ◌∙◌, ap, subst, false, List, [], ℕ, zero, suc, arith, length, get_or, length-set, get_or-replicate, get_or-set_same, get_or-set_other, by_eq}
use native.Mathlib.Nat.{not-suc-le-zero}
use lib.Seq.{set-set, set_comm}
use Rattle.laws.specs.{Lists.placed, Tables.take_placed, Update.upd, Update.upd_same, Update.upd_other}
use Rattle.model.specs.{declared.Message.Message, declared.Disk.Disk, declared.Run.Run, Steps.with_processes}
use Rattle.model.specs.Words.{most_processes, most_under_way, Process, zero_vector, no_pins_of, no_checkpoint, no_message, blank, process, with_process, under_way, with_messages, with_disk}

-- One process's part put in twice, and two processes' parts put in.
pub put_put : (s : Run) (p : ℕ) (P Q : Process) → with_process (with_process s p P) p Q ≡ with_process s p Q
unfolding with_process
put_put s p P Q = rw (
  set-set s.vectors.0 p P.vector Q.vector,
  set-set s.pins.0 p P.pins Q.pins,
  set-set s.sent p P.mark Q.mark,
  set-set s.kept.0 p (placed most_processes no_checkpoint P.kept) (placed most_processes no_checkpoint Q.kept),
  set-set s.kept_count p (length P.kept) (length Q.kept),
)

pub put_other : (s : Run) (p q : ℕ) (P Q : Process) → (p ≡ q → ⊥) → with_process (with_process s p P) q Q ≡ with_process (with_process s q Q) p P
unfolding with_process
put_other s p q P Q ne = rw (
  set_comm s.vectors.0 p q P.vector Q.vector ne,
  set_comm s.pins.0 p q P.pins Q.pins ne,
  set_comm s.sent p q P.mark Q.mark ne,
  set_comm s.kept.0 p q (placed most_processes no_checkpoint P.kept) (placed most_processes no_checkpoint Q.kept) ne,
  set_comm s.kept_count p q (length P.kept) (length Q.kept) ne,
)

-- Parts of all processes that agree below the bound give the same state. Paths are written out here and below: a rewriting would take states apart.
pub all_agree : (n : ℕ) (f g : ℕ → Process) (s : Run) → ((p : ℕ) → p < n → f p ≡ g p) → with_processes n f s ≡ with_processes n g s
unfolding with_processes
all_agree zero f g s h = refl
all_agree (suc n) f g s h = λ i. with_process (all_agree n f g s (λ p lt. h p (omega arith)) i) n (h n (omega arith) i)

-- A part put in again at a process that has its part already.
put_above : (n : ℕ) (f : ℕ → Process) (s : Run) (i : ℕ) (P : Process) → n ≤ i → with_process (with_processes n f s) i P ≡ with_processes n f (with_process s i P)
unfolding with_processes
put_above zero f s i P h = refl
put_above (suc n) f s i P h = put_other (with_processes n f s) n i (f n) P (omega arith) ∙ ap (λ (t : Run). with_process t n (f n)) (put_above n f s i P (omega arith))

put_last : (n : ℕ) (f : ℕ → Process) (s : Run) (P : Process) → with_process (with_processes (suc n) f s) n P ≡ with_processes (suc n) (upd f n P) s
unfolding with_processes
put_last n f s P =
    put_put (with_processes n f s) n (f n) P
    ∙ (λ i. with_process (all_agree n f (upd f n P) s (λ p lt. sym (upd_other f n P p (omega arith))) i) n (sym (upd_same f n P) i))

pub put_one : (n : ℕ) (f : ℕ → Process) (s : Run) (i : ℕ) (P : Process) → i < n → with_process (with_processes n f s) i P ≡ with_processes n (upd f i P) s
unfolding with_processes
put_one zero f s i P h = absurd (not-suc-le-zero h)
put_one (suc n) f s i P h = by_eq i n
    (λ e. subst (λ (k : ℕ). with_process (with_processes (suc n) f s) k P ≡ with_processes (suc n) (upd f k P) s) (sym e) (put_last n f s P))
    (λ ne. put_other (with_processes n f s) n i (f n) P (omega arith)
    ∙ (λ j. with_process (put_one n f s i P (omega arith) j) n (sym (upd_other f i P n (omega arith)) j)))

-- Parts of all processes put in twice.
all_last : (n : ℕ) (g : ℕ → Process) (s : Run) (P : Process) → with_processes (suc n) g (with_process s n P) ≡ with_processes (suc n) g s
unfolding with_processes
all_last n g s P = ap (λ (t : Run). with_process t n (g n)) (sym (put_above n g s n P (omega arith))) ∙ put_put (with_processes n g s) n P (g n)

all_put : (n : ℕ) (g : ℕ → Process) (s : Run) (i : ℕ) (P : Process) → i < n → with_processes n g (with_process s i P) ≡ with_processes n g s
unfolding with_processes
all_put zero g s i P h = absurd (not-suc-le-zero h)
all_put (suc n) g s i P h = by_eq i n
    (λ e. subst (λ (k : ℕ). with_processes (suc n) g (with_process s k P) ≡ with_processes (suc n) g s) (sym e) (all_last n g s P))
    (λ ne. ap (λ (t : Run). with_process t n (g n)) (all_put n g s i P (omega arith)))

pub all_all : (n m : ℕ) (f g : ℕ → Process) (s : Run) → m ≤ n → with_processes n g (with_processes m f s) ≡ with_processes n g s
unfolding with_processes
all_all n zero f g s h = refl
all_all n (suc m) f g s h = all_put n g (with_processes m f s) m (f m) h ∙ all_all n m f g s (omega arith)

-- Messages and processes are put in independently; messages put in twice.
pub put_messages : (s : Run) (l : List Message) (k i : ℕ) (P : Process) → with_process (with_messages s l k) i P ≡ with_messages (with_process s i P) l k
unfolding with_process with_messages
put_messages s l k i P = refl

pub all_messages : (n : ℕ) (f : ℕ → Process) (s : Run) (l : List Message) (k : ℕ) → with_processes n f (with_messages s l k) ≡ with_messages (with_processes n f s) l k
unfolding with_processes
all_messages zero f s l k = refl
all_messages (suc n) f s l k = rw (all_messages n f s l k) (put_messages (with_processes n f s) l k n (f n))

pub messages_twice : (s : Run) (l l' : List Message) (k k' : ℕ) → with_messages (with_messages s l k) l' k' ≡ with_messages s l' k'
unfolding with_messages
messages_twice s l l' k k' = refl

pub under_way_put : (s : Run) (l : List Message) (k : ℕ) → under_way (with_messages s l k) ≡ l
unfolding under_way with_messages
under_way_put s l k = take_placed most_under_way no_message l

pub process_messages : (s : Run) (l : List Message) (k p : ℕ) → process (with_messages s l k) p ≡ process s p
unfolding process with_messages
process_messages s l k p = refl

-- The disk is put in independently too.
put_disk : (s : Run) (d : Disk) (i : ℕ) (P : Process) → with_process (with_disk s d) i P ≡ with_disk (with_process s i P) d
unfolding with_process with_disk
put_disk s d i P = refl

pub all_disk : (n : ℕ) (f : ℕ → Process) (s : Run) (d : Disk) → with_processes n f (with_disk s d) ≡ with_disk (with_processes n f s) d
unfolding with_processes
all_disk zero f s d = refl
all_disk (suc n) f s d = ap (λ (t : Run). with_process t n (f n)) (all_disk n f s d) ∙ put_disk (with_processes n f s) d n (f n)

pub process_disk : (s : Run) (d : Disk) (p : ℕ) → process (with_disk s d) p ≡ process s p
unfolding process with_disk
process_disk s d p = refl

pub count_put : (s : Run) (p : ℕ) (P : Process) → (with_process s p P).count ≡ s.count
unfolding with_process
count_put s p P = refl

pub count_all : (n : ℕ) (f : ℕ → Process) (s : Run) → (with_processes n f s).count ≡ s.count
unfolding with_processes
count_all zero f s = refl
count_all (suc n) f s = count_put (with_processes n f s) n (f n) ∙ count_all n f s

-- A state has a place for process p in each of its lists.
pub record Room (s : Run) (p : ℕ) : Type 0 where
  pub vectors : p < length s.vectors.0
  pub pins : p < length s.pins.0
  pub sent : p < length s.sent
  pub kept : p < length s.kept.0
  pub kept_count : p < length s.kept_count

room_put : (s : Run) (p q : ℕ) (Q : Process) → Room s p → Room (with_process s q Q) p
unfolding with_process
room_put s p q Q h = record {
  vectors = omega (arith, h.vectors, length-set s.vectors.0 q Q.vector);
  pins = omega (arith, h.pins, length-set s.pins.0 q Q.pins);
  sent = omega (arith, h.sent, length-set s.sent q Q.mark);
  kept = omega (arith, h.kept, length-set s.kept.0 q (placed most_processes no_checkpoint Q.kept));
  kept_count = omega (arith, h.kept_count, length-set s.kept_count q (length Q.kept));
}

pub room_all : (n : ℕ) (f : ℕ → Process) (s : Run) (p : ℕ) → Room s p → Room (with_processes n f s) p
unfolding with_processes
room_all zero f s p h = h
room_all (suc n) f s p h = room_put (with_processes n f s) p n (f n) (room_all n f s p h)

pub room_blank : (n p : ℕ) → p < most_processes → Room (blank n) p
unfolding blank
room_blank n p h = record { vectors = h; pins = h; sent = h; kept = h; kept_count = h }

-- What is read back of a process's part: the part itself where there is a place, and other parts are as before.
pub process_put : (s : Run) (p : ℕ) (P : Process) → Room s p → process (with_process s p P) p ≡ P
unfolding process with_process
process_put s p P h = rw (
  get_or-set_same s.vectors.0 p P.vector [] h.vectors,
  get_or-set_same s.pins.0 p P.pins [] h.pins,
  get_or-set_same s.sent p P.mark false h.sent,
  get_or-set_same s.kept.0 p (placed most_processes no_checkpoint P.kept) [] h.kept,
  get_or-set_same s.kept_count p (length P.kept) 0 h.kept_count,
  take_placed most_processes no_checkpoint P.kept,
)

pub process_other : (s : Run) (p q : ℕ) (Q : Process) → (p ≡ q → ⊥) → process (with_process s q Q) p ≡ process s p
unfolding process with_process
process_other s p q Q ne = rw (
  get_or-set_other s.vectors.0 q p Q.vector [] ne,
  get_or-set_other s.pins.0 q p Q.pins [] ne,
  get_or-set_other s.sent q p Q.mark false ne,
  get_or-set_other s.kept.0 q p (placed most_processes no_checkpoint Q.kept) [] ne,
  get_or-set_other s.kept_count q p (length Q.kept) 0 ne,
)

pub process_above : (n : ℕ) (f : ℕ → Process) (s : Run) (p : ℕ) → n ≤ p → process (with_processes n f s) p ≡ process s p
unfolding with_processes
process_above zero f s p h = refl
process_above (suc n) f s p h = process_other (with_processes n f s) p n (f n) (omega arith) ∙ process_above n f s p (omega arith)

pub process_all : (n : ℕ) (f : ℕ → Process) (s : Run) (p : ℕ) → p < n → Room s p → process (with_processes n f s) p ≡ f p
unfolding with_processes
process_all zero f s p h room = absurd (not-suc-le-zero h)
process_all (suc n) f s p h room = by_eq p n
    (λ e. rw e (process_put (with_processes n f s) n (f n) (rw e at (room_all n f s p room))))
    (λ ne. process_other (with_processes n f s) p n (f n) ne ∙ process_all n f s p (omega arith) room)

-- An unused process.
abbrev pub unused : Process
unused = record { vector = zero_vector; pins = no_pins_of; mark = false; kept = [] }

-- The parts of a state of zeros, one by one: its tables are never written out.
module _ (n p : ℕ) (h : p < most_processes) where
  blank_vector : get_or (blank n).vectors.0 p [] ≡ zero_vector
  unfolding blank
  blank_vector = get_or-replicate most_processes p zero_vector [] h

  blank_pins : get_or (blank n).pins.0 p [] ≡ no_pins_of
  unfolding blank
  blank_pins = get_or-replicate most_processes p no_pins_of [] h

  blank_mark : get_or (blank n).sent p false ≡ false
  unfolding blank
  blank_mark = get_or-replicate most_processes p false false h

  blank_kept_count : get_or (blank n).kept_count p 0 ≡ 0
  unfolding blank
  blank_kept_count = get_or-replicate {A = ℕ} most_processes p 0 0 h

  pub process_blank : process (blank n) p ≡ unused
  unfolding process
  process_blank = rw (blank_vector, blank_pins, blank_mark, blank_kept_count)
