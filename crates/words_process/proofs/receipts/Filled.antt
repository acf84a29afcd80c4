-- A sound state is full up to what it holds: after the messages under way and after the kept checkpoints of a process, each place is the unused one.
-- So a table of the state is its own used front laid into a table, and one process's part put back into the state changes nothing.
-- Assumes nothing.
use Rattle.std.specs.Prelude.{◌≡◌, ◌∷◌, ◌-◌, ◌<◌}
use Rattle.laws.specs.Basics.{refl, ◌∙◌, ap, Bool, true, List, [], ℕ, zero, suc, arith, eqb, length, get_or, take, drop, replicate, eqb-true}
use native.Mathlib.Nat.{min-eq_left}
use lib.ListN.{length-take}
use Rattle.laws.specs.{Lists.placed, Tests.every, Truth.and_left, Truth.and_right, Truth.and_out}
use Rattle.model.specs.{declared.Interval.Interval, declared.Checkpoint.Checkpoint, declared.Run.Run, Sound.zero_from, Sound.unused_checkpoint, Sound.sound}
use Rattle.model.specs.{Words.most_processes, Words.zero_vector, Words.no_checkpoint, Words.process, Words.under_way, laws.Sound.sound_state}
use Rattle.words_process.specs.receipts.Sized.{Sized}
use Rattle.words_process.proofs.receipts.Facts.{place, kept_count_places}

-- A list whose entries from place k on pass a test, where an entry that passes is x: it is its first k entries, filled up with x.
module _ {A : Type 0} (t : A → Bool) (x : A) where
  pub filled : (k : ℕ) (l : List A) → every t (drop k l) ≡ true → ((j : ℕ) → j < length l → t (get_or l j x) ≡ true → get_or l j x ≡ x)
      → l ≡ placed (length l) x (take k l)
  unfolding placed every
  filled zero [] e h = refl
  filled (suc k) [] e h = refl
  filled zero (y ∷ l) e h =
      let one : y ≡ x = h 0 (omega arith) (and_left (t y) (every t l) e) in
      let rest = filled zero l (and_right (t y) (every t l) e) (λ j lt. h (suc j) (omega arith)) in
      let size : suc (length l) - 0 ≡ suc (length l - 0) = omega arith in
      rw size (ap (λ (z : A). z ∷ l) one ∙ ap (λ (r : List A). x ∷ r) rest)
  filled (suc k) (y ∷ l) e h =
      let rest = filled k l e (λ j lt. h (suc j) (omega arith)) in
      let size : suc (length l) - suc (length (take k l)) ≡ length l - length (take k l) = omega arith in
      rw size (ap (λ (r : List A). y ∷ r) rest)

-- An unused vector is the vector of zeros, where it has 16 entries,
pub zero_vector_lem : (v : List Interval) → zero_from 0 v ≡ true → length v ≡ most_processes → v ≡ zero_vector
unfolding zero_from placed
zero_vector_lem v e n =
    filled (λ x. eqb x.0 0) (record { 0 = 0 }) 0 v e (λ j lt q. ap (λ (k : ℕ). record { 0 = k }) (eqb-true (get_or v j (record { 0 = 0 })).0 0 q))
    ∙ ap (λ (k : ℕ). replicate k zero_entry) size
  where
    zero_entry : Interval
    zero_entry = record { 0 = 0 }

    size : length v - 0 ≡ most_processes
    size = omega (arith, n)

-- and so are an unused checkpoint and an unused message.
pub zero_checkpoint : (c : Checkpoint) → unused_checkpoint c ≡ true → length c.vector ≡ most_processes → c ≡ no_checkpoint
unfolding unused_checkpoint
zero_checkpoint c e n =
    let d = and_out _ (eqb c.blocks 0) e in
    let b = and_out _ (eqb c.cause 0) d.0 in
    let q = and_out (eqb c.index.0 0) (zero_from 0 c.vector) b.0 in
    λ j. record {
      index = record { 0 = eqb-true c.index.0 0 q.0 j };
      vector = zero_vector_lem c.vector q.1 n j;
      cause = eqb-true c.cause 0 b.1 j;
      blocks = eqb-true c.blocks 0 d.1 j;
    }

module _ (s : Run) (size : Sized s) (h : sound s ≡ true) where
  pub messages_many : length (under_way s) ≡ s.underway
  unfolding under_way
  messages_many = rw length-take (min-eq_left (omega (arith, (sound_state s h).underway_most, size.messages)))

  -- the row of the kept checkpoints of a process, and how many they are
  module _ (p : ℕ) (lt : p < s.count) where
    pub row_filled : get_or s.kept.0 p [] ≡ placed most_processes no_checkpoint (process s p).kept
    unfolding process
    row_filled =
        filled unused_checkpoint no_checkpoint (get_or s.kept_count p 0) (get_or s.kept.0 p []) ((sound_state s h).processes p lt).row_unused_lem
        (λ j less e. zero_checkpoint (get_or (get_or s.kept.0 p []) j no_checkpoint) e (size.stored p j (place s h p lt) (omega (arith, size.kept_row p (place s h p lt)))))
        ∙ ap (λ (n : ℕ). placed n no_checkpoint (take (get_or s.kept_count p 0) (get_or s.kept.0 p []))) (size.kept_row p (place s h p lt))

    pub row_many : length (process s p).kept ≡ get_or s.kept_count p 0
    unfolding process
    row_many =
        rw length-take (min-eq_left (omega (arith, kept_count_places s h p lt, size.kept_row p (place s h p lt))))
