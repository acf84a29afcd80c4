-- Which state an answer leads to, by what the code was handed of it.
-- Assumes nothing.
use Rattle.std.specs.Prelude.{◌≡◌, ◌+◌, ◌-◌, ◌*◌, ◌≤◌, ◌<◌}
use Rattle.laws.specs.Basics.{refl, sym, ◌∙◌, ap, subst, List, ℕ, min, arith, leb, length, get_or, take, drop, length-take-le, ne_eqb, lt-ltb, le-ltb, by_bool}
use lib.Seq.{drop-cons}
use Rattle.whole_runs.specs.Listing.{most_records}
use Rattle.machines.specs.Forms.{answer_of, taken_of}
use Rattle.machines.specs.Machines.{Failed, heard, heard_count, heard_read, stepped}
use Rattle.machine_record.specs.declared.marks.Marks.{Marks}
use Rattle.machine_record.specs.{Recorded.long_enough, Lent.position_of, Lent.Arrives}
use Rattle.machine_record.specs.Machine.{Position, State, counting, naming, beginning, reading, ending, failing, machine, ask, next, most_to_read, counted, sized, begun, begins_with, usage, arguments_name, largest_buffer, block_bytes}
use Rattle.machines.specs.declared.Answer as answers
use Rattle.machines.specs.declared.Answer.TheVariants as answer
use Rattle.machines.specs.declared.heard.Taken as takens

pub led : {m : Marks} {words input out lines : List ℕ} {s t : State} → t ≡ s → Arrives m words input out lines s → Arrives m words input out lines t
led {m} {words} {input} {out} {lines} e w = subst (λ (x : State). Arrives m words input out lines x) (sym e) w

-- How many words there are.
module _ (a : answers.Answer) (at : ℕ) (input : List ℕ) where
  pub counted_few : (n : ℕ) → a ≡ answer.Number n → n < 2 → stepped machine counting (answer_of a at input) ≡ beginning 4000000001
  unfolding stepped ask heard heard_count answer_of next counted long_enough
  counted_few n e h = rw e (rw (lt-ltb n 2 h) refl)

  pub counted_two : (n : ℕ) → a ≡ answer.Number n → n ≡ 2 → stepped machine counting (answer_of a at input) ≡ naming
  unfolding stepped ask heard heard_count answer_of next counted
  counted_two n e h = rw (e, h) refl

  pub counted_many : (n : ℕ) → a ≡ answer.Number n → 2 ≤ n → (n ≡ 2 → ⊥) → stepped machine counting (answer_of a at input) ≡ ending usage
  unfolding stepped ask heard heard_count answer_of next counted
  counted_many n e h k = rw e (rw (le-ltb n 2 h, ne_eqb n 2 k) refl)

  -- An answer that is no number.
  pub not_counted : (x : answers.Answer) → a ≡ x → heard_count (answer_of x at input) ≡ Failed → stepped machine counting (answer_of a at input) ≡ failing arguments_name
  unfolding stepped ask heard next
  not_counted x e h = rw e (rw h refl)

pub bytes_no_count : (size at : ℕ) (input : List ℕ) → heard_count (answer_of (answer.Bytes size) at input) ≡ Failed
unfolding answer_of heard_count
bytes_no_count size at input = by_bool (leb (at + size) (length input)) (λ h. rw h refl) (λ h. rw h refl)

-- The size of the buffer.
pub sized_large : (size : ℕ) → largest_buffer < size → sized size ≡ ending usage
unfolding sized
sized_large size h = rw (lt-ltb largest_buffer size h) refl

pub sized_small : (size : ℕ) → size ≤ largest_buffer → sized size ≡ beginning size
unfolding sized
sized_small size h = rw (le-ltb largest_buffer size h) refl

-- The first byte.
pub first_byte : (left size kept : ℕ) (input : List ℕ) → 1 ≤ size → size ≤ 1 → kept < length input → begins_with left (take size (drop kept input)) ≡ begun left (get_or input kept 0)
unfolding begins_with
first_byte left size kept input some few inside =
    let one : size ≡ 1 = omega (arith, some, few) in
    rw (one, drop-cons input kept 0 inside) refl

-- Bytes of records, as they are taken.
module _ (m : Marks) (words input : List ℕ) (a : answers.Answer) (r : takens.Taken) (most : ℕ) (is : most ≡ min 4096 (4 * (1000000000 - m.done)) - m.kept) (inside : m.kept ≤ length input)
    (h : heard_read most (answer_of a m.kept input) ≡ taken_of r m.kept input) where
  abbrev p : Position
  p = position_of m words input

  most_is : most_to_read p ≡ most
  unfolding most_to_read
  most_is = ap (λ (k : ℕ). min block_bytes (4 * (most_records - m.done)) - k) (length-take-le m.kept input inside) ∙ sym is

  pub heard_read_lem : stepped machine (reading p) (answer_of a m.kept input) ≡ next (reading p) (taken_of r m.kept input)
  unfolding stepped ask heard
  heard_read_lem = ap (λ (k : ℕ). next (reading p) (heard_read k (answer_of a m.kept input))) most_is ∙ ap (next (reading p)) h
