-- The parts that a reader of a whole trace hands on, by their places: each is the record there, and after the last fewer than four bytes are left.
-- Assumes nothing.
use Rattle.std.specs.Prelude.{◌≡◌, ◌∷◌, ◌+◌, ◌*◌, ◌≤◌, ◌<◌}
use Rattle.std.specs.Borrow.{Bor}
use Rattle.std.specs.Iterator.{YieldsFirstRef}
use Rattle.std.proofs.lemmas.Iterator.{YieldsList}
use Rattle.std.proofs.lemmas.Iterator.Consumers.{YieldsList-from_first}
use Rattle.laws.specs.Basics.{refl, sym, ◌∙◌, ap, List, [], ℕ, zero, suc, arith, length, get_or, take, drop, length-drop, le-leb}
use lib.Seq.{drop-drop}
use Rattle.trace.specs.declared.reader.Reader.{Reader}
use Rattle.trace.specs.{Answers.record_at, reader.Reading.record_after_of, reader.Reading.new_reader, reader.Whole.parts, reader.Whole.parts_left}

-- Part k of bytes has its place among them.
pub part_at : (l : List ℕ) (k : ℕ) (d : List ℕ) → k < length (parts l) → (get_or (parts l) k d ≡ take 4 (drop (4 * k) l)) × (4 * k + 4 ≤ length l)
unfolding parts
part_at [] k d h = absurd (omega arith)
part_at (a ∷ []) k d h = absurd (omega arith)
part_at (a ∷ b ∷ []) k d h = absurd (omega arith)
part_at (a ∷ b ∷ c ∷ []) k d h = absurd (omega arith)
part_at (a ∷ b ∷ c ∷ e ∷ l) zero d h = (refl, omega arith)
part_at (a ∷ b ∷ c ∷ e ∷ l) (suc k) d h =
    let w = part_at l k d (omega arith) in
    let four : 4 * suc k ≡ suc (suc (suc (suc (4 * k)))) = omega arith in
    (w.0 ∙ ap (λ (m : ℕ). take 4 (drop m (a ∷ b ∷ c ∷ e ∷ l))) (sym four), omega (arith, w.1))

pub few_over : (l : List ℕ) → length l < 4 * length (parts l) + 4
unfolding parts
few_over [] = omega arith
few_over (a ∷ []) = omega arith
few_over (a ∷ b ∷ []) = omega arith
few_over (a ∷ b ∷ c ∷ []) = omega arith
few_over (a ∷ b ∷ c ∷ e ∷ l) = omega (arith, few_over l)

-- A reader that has taken nothing gives the parts after the first byte.
pub gives_parts : (trace : Bor (List ℕ)) (r : Reader) → r ≡ new_reader trace → YieldsList (YieldsFirstRef parts_left) (λ x. x.now) r (parts (drop 1 trace.now))
gives_parts trace r e = YieldsList-from_first (λ x. x.now) parts_left (parts (drop 1 trace.now)) (ap parts_left e ∙ opened)
  where
    opened : parts_left (new_reader trace) ≡ parts (drop 1 trace.now)
    opened = unfold parts_left new_reader in refl

-- What the reader hands on in turn k.
pub turn : (trace : List ℕ) (k : ℕ) (part : List ℕ) → (k < length (parts (drop 1 trace))) × (part ≡ get_or (parts (drop 1 trace)) k part)
    → (1 + 4 * k + 4 ≤ length trace) × (part ≡ record_after_of trace k)
unfolding record_after_of record_at
turn trace k part h =
    let w = part_at (drop 1 trace) k part h.0 in
    let left : 1 + 4 * k + 4 ≤ length trace = omega (arith, w.1, length-drop 1 trace) in
    (left, h.1 ∙ w.0 ∙ ap (take 4) (drop-drop (4 * k) 1 trace) ∙ rw (le-leb (1 + 4 * k + 4) (length trace) left) refl)

-- Once it has handed on all, fewer than four bytes are left.
pub all_taken : (trace : List ℕ) (k : ℕ) → 1 ≤ length trace → k ≡ length (parts (drop 1 trace)) → length trace < 1 + 4 * k + 4
all_taken trace k h e = omega (arith, few_over (drop 1 trace), length-drop 1 trace, h, e)
