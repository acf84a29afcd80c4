-- A state that a function holds has the sizes that its type fixes. What the function knows of the state's memory says it.
-- Assumes nothing.
use Rattle.std.specs.Prelude.{◌≡◌, ◌∷◌, ◌<◌}
use Rattle.laws.specs.Basics.{List, [], ℕ, zero, suc, arith, length, get_or}
use mir.Val.{Val}
use base.Fml.{Fml}
use denote.Shadow.{shadow}
use denote.Array.{each}
use denote.Builtin.{Array}
use denote.Laws.{Is}
use denote.Struct.Declared.{row}
use denote.Struct.Laws.{owed}
use Rattle.model.specs.Shapes.{Pin}
use Rattle.model.specs.declared.{Interval.Interval, Checkpoint.Checkpoint, Message.Message, Run.Run}
use Rattle.model.specs.Words.{no_checkpoint, past_end, entry}
use Rattle.library_calls.specs.run_words.Fits.{past_messages}
use Rattle.model.specs.contracts.Run as run
use Rattle.model.specs.contracts.CheckpointIndex as index
use Rattle.model.specs.contracts.Interval as interval
use Rattle.std.specs.contracts.option.Option as option
use Rattle.model.specs.contracts.Checkpoint as checkpoint
use Rattle.model.specs.contracts.Message as message
use Rattle.model.proofs.Run.TheLaws as run-laws

pub record Sized (s : Run) : Type 0 where
  pub vectors : length s.vectors.0 ≡ 16
  pub vector_row : (p : ℕ) → p < 16 → length (get_or s.vectors.0 p []) ≡ 16
  pub pins : length s.pins.0 ≡ 16
  pub pin_row : (p : ℕ) → p < 16 → length (get_or s.pins.0 p []) ≡ 16
  pub sent : length s.sent ≡ 16
  pub kept : length s.kept.0 ≡ 16
  pub kept_row : (p : ℕ) → p < 16 → length (get_or s.kept.0 p []) ≡ 16
  pub stored : (p k : ℕ) → p < 16 → k < 16 → length (get_or (get_or s.kept.0 p []) k past_end).vector ≡ 16
  pub kept_count : length s.kept_count ≡ 16
  pub messages : length s.messages ≡ 64
  -- a vector's entry has 16 bits: of each row the own entry
  pub own_small : (p : ℕ) → p < 16 → (entry (get_or s.vectors.0 p []) p).0 < 65536
  -- a cause has 8
  pub causes : (p k : ℕ) → p < 16 → k < 16 → (get_or (get_or s.kept.0 p []) k no_checkpoint).cause < 256
  pub carried : (k : ℕ) → k < 64 → length (get_or s.messages k past_messages).vector ≡ 16

-- What the memory of an array says of each element.
each_at : {X : Type 0} (f : X → List Val → Fml) (xs : List X) (us : List Val) → shadow (each X f xs us)
    → (P : X → Type 0) → ((x : X) (vs : List Val) → shadow (f x vs) → P x) → (i : ℕ) (d : X) → i < length xs → P (get_or xs i d)
each_at f [] us s P h i d b = absurd (omega arith)
each_at f (x ∷ xs) [] s P h i d b = absurd s
each_at f (x ∷ xs) (u ∷ us) s P h zero d b = h x (u ∷ []) s.0
each_at f (x ∷ xs) (u ∷ us) s P h (suc i) d b = each_at f xs us s.1 P h i d (omega arith)

pub sizes : (s : Run) (vs : List Val) → Is (row run.the_type) s vs → Sized s
sizes s vs p =
    let g = owed run.the_type run-laws.the_laws s vs p in
    let vectors-known = g.1.0.1.1.0 in
    let pins-known = g.1.1.0.1.1.0 in
    let sent_known = g.1.1.1.0 in
    let kept-known = g.1.1.1.1.0.1.1.0 in
    let kept-count-known = g.1.1.1.1.1.0 in
    let messages-known = g.1.1.1.1.1.1.0 in
    let vectors : length s.vectors.0 ≡ 16 = vectors-known.1.0.1 in
    let pins : length s.pins.0 ≡ 16 = pins-known.1.0.1 in
    let kept : length s.kept.0 ≡ 16 = kept-known.1.0.1 in
    let messages : length s.messages ≡ 64 = messages-known.1.0.1 in
    let vector_row : (p : ℕ) → p < 16 → length (get_or s.vectors.0 p []) ≡ 16
    = λ p lt. each_at (Array interval.the_row tt 16).own_val s.vectors.0 vectors-known.0 vectors-known.1.1 (λ (r : List Interval). length r ≡ 16) (λ r us q. q.1.0.1) p [] (omega arith) in
    let kept_row : (p : ℕ) → p < 16 → length (get_or s.kept.0 p []) ≡ 16
    = λ p lt. each_at (Array checkpoint.the_row tt 16).own_val s.kept.0 kept-known.0 kept-known.1.1 (λ (r : List Checkpoint). length r ≡ 16) (λ r us q. q.1.0.1) p [] (omega arith) in
    record {
      vectors = vectors;
      vector_row = vector_row;
      pins = pins;
      pin_row = λ p lt. each_at (Array (option.the_row index.the_row) tt 16).own_val s.pins.0 pins-known.0 pins-known.1.1 (λ (r : List Pin). length r ≡ 16) (λ r us q. q.1.0.1) p [] (omega arith);
      sent = sent_known.1.0.1;
      kept = kept;
      kept_row = kept_row;
      stored = λ p k lt lt'.
          each_at (Array checkpoint.the_row tt 16).own_val s.kept.0 kept-known.0 kept-known.1.1 (λ (r : List Checkpoint). (k : ℕ) → k < length r → length (get_or r k past_end).vector ≡ 16)
          (λ r us q k lt. each_at (checkpoint.the_row).own_val r q.0 q.1.1 (λ (c : Checkpoint). length c.vector ≡ 16) (λ c us q. q.1.1.1.0.1.0.1) k past_end lt)
          p [] (omega arith) k (omega (arith, kept_row p lt));
      kept_count = kept-count-known.1.0.1;
      messages = messages;
      own_small = λ p lt.
          each_at (Array interval.the_row tt 16).own_val s.vectors.0 vectors-known.0 vectors-known.1.1 (λ (r : List Interval). (f : ℕ) → f < length r → (entry r f).0 < 65536)
          (λ r us q f less. each_at (interval.the_row).own_val r q.0 q.1.1 (λ (x : Interval). x.0 < 65536) (λ x us q. q.1.1.0.1) f (record { 0 = 0 }) less)
          p [] (omega arith) p (omega (arith, vector_row p lt));
      causes = λ p k lt lt'.
          each_at (Array checkpoint.the_row tt 16).own_val s.kept.0 kept-known.0 kept-known.1.1 (λ (r : List Checkpoint). (k : ℕ) → k < length r → (get_or r k no_checkpoint).cause < 256)
          (λ r us q k lt. each_at (checkpoint.the_row).own_val r q.0 q.1.1 (λ (c : Checkpoint). c.cause < 256) (λ c us q. q.1.1.1.1.0.1) k no_checkpoint lt)
          p [] (omega arith) k (omega (arith, kept_row p lt));
      carried = λ k lt. each_at (message.the_row).own_val s.messages messages-known.0 messages-known.1.1 (λ (x : Message). length x.vector ≡ 16) (λ x us q. q.1.1.1.1.1.0.1.0.1) k past_messages (omega arith);
    }
