-- Every answer, as it is taken: one that fits, or `Failed`.
-- Assumes nothing.
use Rattle.std.specs.Prelude.{◌&&◌, ◌≤◌}
use Rattle.laws.specs.Basics.{List, ℕ, leb, length, leb-true, by_bool}
use Rattle.laws.specs.Truth.{and_left, and_right}
use Rattle.machines.specs.Machines.{Answer, Number, Bytes, End, Done, Failed, heard_count, heard_word, heard_read, heard_done}

module _ (P : Answer → Type 0) (fails : P Failed) where
  pub by_count : ((n : ℕ) → P (Number n)) → (a : Answer) → P (heard_count a)
  unfolding heard_count
  by_count h (Number n) = h n
  by_count h (Bytes l) = fails
  by_count h End = fails
  by_count h Done = fails
  by_count h Failed = fails

  pub by_word : (most : ℕ) → ((l : List ℕ) → length l ≤ most → P (Bytes l)) → (a : Answer) → P (heard_word most a)
  unfolding heard_word
  by_word most h (Number n) = fails
  by_word most h (Bytes l) = by_bool (leb (length l) most) (λ e. rw e (h l (leb-true (length l) most e))) (λ e. rw e fails)
  by_word most h End = fails
  by_word most h Done = fails
  by_word most h Failed = fails

  pub by_read : (most : ℕ) → ((l : List ℕ) → 1 ≤ length l → length l ≤ most → P (Bytes l)) → P End → (a : Answer) → P (heard_read most a)
  unfolding heard_read
  by_read most h ends (Number n) = fails
  by_read most h ends (Bytes l) =
      let some = leb 1 (length l) in
      let fit = leb (length l) most in
      by_bool (some && fit)
      (λ e. rw e (h l (leb-true 1 (length l) (and_left some fit e)) (leb-true (length l) most (and_right some fit e))))
      (λ e. rw e fails)
  by_read most h ends End = ends
  by_read most h ends Done = fails
  by_read most h ends Failed = fails

  pub by_done : P Done → (a : Answer) → P (heard_done a)
  unfolding heard_done
  by_done done (Number n) = fails
  by_done done (Bytes l) = fails
  by_done done End = fails
  by_done done Done = done
  by_done done Failed = fails
