-- A step that changes one process's part, the messages and the disk: the state after it stands for a run that differs in these alone.
-- Assumes nothing.
use Rattle.std.specs.Prelude.{◌≡◌, ◌<◌}
use Rattle.laws.specs.Basics.{refl, sym, ◌∙◌, ap, List, ℕ, arith, by_eq}
use Rattle.laws.specs.Update.{upd, upd_same, upd_other}
use Rattle.model.specs.declared.{Message.Message, Disk.Disk, Run.Run}
use Rattle.model.specs.{Words.Process, Words.blank, Words.with_process, Words.with_messages, Words.with_disk, Steps.with_processes}
use Rattle.histories.proofs.Run.{Ideal}
use Rattle.model.proofs.simulation.View.{process_of, messages_of, disk_of, parts_of, state_of}
use Rattle.model.proofs.simulation.Parts.{put_one, all_all, all_agree, all_messages, all_disk, put_messages, messages_twice}

-- A disk put in before does not matter where another one is put in after; where none is, it stays.
disk_one : (s : Run) (d d' : Disk) (i : ℕ) (P : Process) → with_disk (with_process (with_disk s d) i P) d' ≡ with_disk (with_process s i P) d'
unfolding with_process with_disk
disk_one s d d' i P = refl

disk_one_messages : (s : Run) (d d' : Disk) (i : ℕ) (P : Process) (l : List Message) (k : ℕ)
    → with_disk (with_messages (with_process (with_disk s d) i P) l k) d' ≡ with_disk (with_messages (with_process s i P) l k) d'
unfolding with_process with_messages with_disk
disk_one_messages s d d' i P l k = refl

disk_still : (s : Run) (d : Disk) (i : ℕ) (P : Process) (l : List Message) (k : ℕ) → with_messages (with_process (with_disk s d) i P) l k ≡ with_disk (with_messages (with_process s i P) l k) d
unfolding with_process with_messages with_disk
disk_still s d i P l k = refl

disk_messages : (s : Run) (d : Disk) (l : List Message) (k : ℕ) → with_messages (with_disk s d) l k ≡ with_disk (with_messages s l k) d
unfolding with_messages with_disk
disk_messages s d l k = refl

disk_twice : (s : Run) (d d' : Disk) → with_disk (with_disk s d) d' ≡ with_disk s d'
unfolding with_disk
disk_twice s d d' = refl

module _ (r r' : Ideal) (same-n : r'.n ≡ r.n) where
  -- Messages put into a state in which all parts are those of the other run.
  parts_state : (l : List Message) (k : ℕ) → l ≡ messages_of r' → k ≡ r'.last → with_messages (with_processes r.n (process_of r') (blank r.n)) l k ≡ parts_of r'
  unfolding parts_of
  parts_state l k el ek = rw (el, ek, same-n)

  -- One process's part changes.
  put_state : (i : ℕ) (P : Process) → i < r.n → P ≡ process_of r' i → ((p : ℕ) → p < r.n → (p ≡ i → ⊥) → process_of r' p ≡ process_of r p)
      → with_process (parts_of r) i P ≡ with_messages (with_processes r.n (process_of r') (blank r.n)) (messages_of r) r.last
  unfolding parts_of
  put_state i P hi here there =
      put_messages (with_processes r.n (process_of r) (blank r.n)) (messages_of r) r.last i P
      ∙ ap (λ (s : Run). with_messages s (messages_of r) r.last)
      (put_one r.n (process_of r) (blank r.n) i P hi
      ∙ all_agree r.n (upd (process_of r) i P) (process_of r') (blank r.n) (λ p lt. by_eq p i
      (λ e. rw e (upd_same (process_of r) i P ∙ here))
      (λ ne. upd_other (process_of r) i P p ne ∙ sym (there p lt ne))))

  one_parts : (i : ℕ) (P : Process) (l : List Message) (k : ℕ) → i < r.n → P ≡ process_of r' i → ((p : ℕ) → p < r.n → (p ≡ i → ⊥) → process_of r' p ≡ process_of r p)
      → l ≡ messages_of r' → k ≡ r'.last → with_messages (with_process (parts_of r) i P) l k ≡ parts_of r'
  one_parts i P l k hi here there el ek =
      ap (λ (s : Run). with_messages s l k) (put_state i P hi here there)
      ∙ messages_twice (with_processes r.n (process_of r') (blank r.n)) (messages_of r) l r.last k
      ∙ parts_state l k el ek

  pub one_part : (i : ℕ) (P : Process) (d : Disk) → i < r.n → P ≡ process_of r' i → ((p : ℕ) → p < r.n → (p ≡ i → ⊥) → process_of r' p ≡ process_of r p)
      → messages_of r ≡ messages_of r' → r.last ≡ r'.last → d ≡ disk_of r' → with_disk (with_process (state_of r) i P) d ≡ state_of r'
  unfolding state_of
  one_part i P d hi here there el ek ed =
      disk_one (parts_of r) (disk_of r) d i P
      ∙ (λ j. with_disk ((put_state i P hi here there ∙ parts_state (messages_of r) r.last el ek) j) (ed j))

  pub one_part_messages : (i : ℕ) (P : Process) (l : List Message) (k : ℕ) (d : Disk) → i < r.n → P ≡ process_of r' i
      → ((p : ℕ) → p < r.n → (p ≡ i → ⊥) → process_of r' p ≡ process_of r p)
      → l ≡ messages_of r' → k ≡ r'.last → d ≡ disk_of r' → with_disk (with_messages (with_process (state_of r) i P) l k) d ≡ state_of r'
  unfolding state_of
  one_part_messages i P l k d hi here there el ek ed =
      disk_one_messages (parts_of r) (disk_of r) d i P l k
      ∙ (λ j. with_disk (one_parts i P l k hi here there el ek j) (ed j))

  -- The same, where nothing is written or deleted.
  pub one_part_still : (i : ℕ) (P : Process) (l : List Message) (k : ℕ) → i < r.n → P ≡ process_of r' i → ((p : ℕ) → p < r.n → (p ≡ i → ⊥) → process_of r' p ≡ process_of r p)
      → l ≡ messages_of r' → k ≡ r'.last → disk_of r ≡ disk_of r' → with_messages (with_process (state_of r) i P) l k ≡ state_of r'
  unfolding state_of
  one_part_still i P l k hi here there el ek ed =
      disk_still (parts_of r) (disk_of r) i P l k
      ∙ (λ j. with_disk (one_parts i P l k hi here there el ek j) (ed j))

  -- All parts change.
  all_parts : (f : ℕ → Process) (l : List Message) (k : ℕ) → ((p : ℕ) → p < r.n → f p ≡ process_of r' p) → l ≡ messages_of r' → k ≡ r'.last
      → with_messages (with_processes r.n f (parts_of r)) l k ≡ parts_of r'
  unfolding parts_of
  all_parts f l k same el ek =
      ap (λ (s : Run). with_messages s l k) (all_messages r.n f (with_processes r.n (process_of r) (blank r.n)) (messages_of r) r.last)
      ∙ messages_twice (with_processes r.n f (with_processes r.n (process_of r) (blank r.n))) (messages_of r) l r.last k
      ∙ ap (λ (s : Run). with_messages s l k) (all_all r.n r.n (process_of r) f (blank r.n) (omega arith) ∙ all_agree r.n f (process_of r') (blank r.n) same)
      ∙ parts_state l k el ek

  pub all_parts_messages : (f : ℕ → Process) (l : List Message) (k : ℕ) (d : Disk) → ((p : ℕ) → p < r.n → f p ≡ process_of r' p) → l ≡ messages_of r' → k ≡ r'.last → d ≡ disk_of r'
      → with_disk (with_messages (with_processes r.n f (state_of r)) l k) d ≡ state_of r'
  unfolding state_of
  all_parts_messages f l k d same el ek ed =
      ap (λ (s : Run). with_disk (with_messages s l k) d) (all_disk r.n f (parts_of r) (disk_of r))
      ∙ ap (λ (s : Run). with_disk s d) (disk_messages (with_processes r.n f (parts_of r)) (disk_of r) l k)
      ∙ disk_twice (with_messages (with_processes r.n f (parts_of r)) l k) (disk_of r) d
      ∙ (λ j. with_disk (all_parts f l k same el ek j) (ed j))

  -- Messages alone change.
  alone : (l : List Message) (k : ℕ) → ((p : ℕ) → p < r.n → process_of r p ≡ process_of r' p) → l ≡ messages_of r' → k ≡ r'.last → with_messages (parts_of r) l k ≡ parts_of r'
  unfolding parts_of
  alone l k same el ek =
      messages_twice (with_processes r.n (process_of r) (blank r.n)) (messages_of r) l r.last k
      ∙ ap (λ (s : Run). with_messages s l k) (all_agree r.n (process_of r) (process_of r') (blank r.n) same)
      ∙ parts_state l k el ek

  pub messages_alone : (l : List Message) (k : ℕ) → ((p : ℕ) → p < r.n → process_of r p ≡ process_of r' p) → l ≡ messages_of r' → k ≡ r'.last → disk_of r ≡ disk_of r' → with_messages (state_of r) l k ≡ state_of r'
  unfolding state_of
  messages_alone l k same el ek ed = disk_messages (parts_of r) (disk_of r) l k ∙ (λ j. with_disk (alone l k same el ek j) (ed j))
