-- The numbers of a state, and the states that they stand for.
-- Assumes nothing.
use Rattle.std.specs.Prelude.{◌≡◌, ◌∷◌, ◌+◌, ◌≤◌, ◌<◌}
use Rattle.laws.specs.Basics.{refl, sym, ◌∙◌, ap, true, false, List, [], ℕ, arith, eqb, length, take, length-take-le, lt-ltb, le-ltb, le-leb, by_bool}
use Rattle.model.specs.Refusals.{number}
use Rattle.whole_runs.specs.Listing.{most_records}
use Rattle.listing.specs.Printed.{Printed}
use Rattle.machines.proofs.programs.Texts.{front_text, front_inside}
use Rattle.machines.specs.Machines.{Answer, stepped}
use Rattle.machine_record.specs.declared.marks.Marks.{Marks}
use Rattle.machine_record.specs.{Recorded.refused_line, Recorded.end_line, Played.block_lines, Lent.in_bounds_of, Lent.position_of, Lent.state_in, Lent.Arrives}
use Rattle.machine_record.specs.Machine.{Position, State, writing, reporting, ending, stopped, machine, next, to_read_of, to_report, to_write_of, to_end_of}

pub bounds : (m : Marks) (out : ℕ) → m.left ≤ 4000000001 → m.done ≤ most_records → m.kept ≤ 3 → m.size ≤ out → m.pending ≤ block_lines → in_bounds_of m out ≡ true
unfolding in_bounds_of
bounds m out a b c d e = rw (le-leb m.left 4000000001 a, le-leb m.done most_records b, le-leb m.kept 3 c, le-leb m.size out d, le-leb m.pending block_lines e) refl

module _ (words input lines : List ℕ) where
  -- A phase in which nothing is counted but the bytes of the buffer.
  pub arrives_at : (phase left : ℕ) (out : List ℕ) → left ≤ 4000000001
      → let m : Marks = record { phase = phase; left = left; done = 0; kept = 0; size = 0; pending = 0 } in Arrives m words input out lines (state_in m words input out lines)
  arrives_at phase left out h = record { bounds = bounds _ (length out) h (omega arith) (omega arith) (omega arith) (omega arith); state = refl }

  -- A phase that has a text and nothing else.
  pub arrives_text : (phase : ℕ) (state : List ℕ → State) (out text out' : List ℕ) (size : ℕ) → size ≤ length out → Printed out 0 text out' size
      → let m : Marks = record { phase = phase; left = 0; done = 0; kept = 0; size = size; pending = 0 } in
      state_in m words input out' lines ≡ state (take size out') → Arrives m words input out' lines (state text)
  arrives_text phase state out text out' size h p is = record {
    bounds = bounds _ (length out') (omega arith) (omega arith) (omega arith) (front_inside out text out' size p h) (omega arith);
    state = is ∙ ap state (front_text out text out' size p h);
  }

  pub arrives_read : (m : Marks) (out : List ℕ) → m.left ≤ 4000000001 → m.done < most_records → m.kept ≤ 3
      → Arrives (record { phase = 6; left = m.left; done = m.done; kept = m.kept; size = 0; pending = 0 }) words input out lines (to_read_of (position_of m words input))
  unfolding state_in to_read_of
  arrives_read m out a b c = record {
    bounds = bounds _ (length out) a (omega (arith, b)) c (omega arith) (omega arith);
    state = rw (lt-ltb m.done most_records b) refl;
  }

  pub arrives_last : (m : Marks) (out : List ℕ) → most_records ≤ m.done → to_read_of (position_of m words input) ≡ stopped
  unfolding to_read_of
  arrives_last m out h = rw (le-ltb m.done most_records h) refl

  -- Lines that are left to say.
  pub none_to_report : (m : Marks) → m.pending ≡ 0 → to_report (take m.pending lines) (position_of m words input) ≡ to_read_of (position_of m words input)
  unfolding to_report
  none_to_report m e = rw e refl

  some_to_report : (text : List ℕ) (p : Position) → (length text ≡ 0 → ⊥) → to_report text p ≡ reporting text p
  unfolding to_report
  some_to_report [] p h = absurd (h refl)
  some_to_report (b ∷ text) p h = refl

  pub arrives_report : (m : Marks) (out out' : List ℕ) (size : ℕ) → m.left ≤ 4000000001 → m.done ≤ most_records → m.kept ≤ 3 → m.pending ≤ length lines → m.pending ≤ length out → (m.pending ≡ 0 → ⊥)
      → Printed out 0 (take m.pending lines) out' size
      → Arrives (record { phase = 5; left = m.left; done = m.done; kept = m.kept; size = size; pending = 0 }) words input out' lines (to_report (take m.pending lines) (position_of m words input))
  unfolding state_in
  arrives_report m out out' size a b c d e some p =
      let many : length (take m.pending lines) ≡ m.pending = length-take-le m.pending lines d in
      let fits : size ≤ length out = omega (arith, many, e, p.next_place) in
      record {
        bounds = bounds _ (length out') a b c (front_inside out (take m.pending lines) out' size p fits) (omega arith);
        state = ap (λ (x : List ℕ). reporting x (position_of m words input)) (front_text out (take m.pending lines) out' size p fits) ∙ sym (some_to_report (take m.pending lines) (position_of m words input) (λ h. some (sym many ∙ h)));
      }

  -- What is left over at the end.
  pub none_left : (m : Marks) → m.kept ≡ 0 → to_end_of (end_line m.done (take m.kept input)) ≡ stopped
  unfolding to_end_of end_line
  none_left m e = rw e refl

  pub some_left : (m : Marks) → (m.kept ≡ 0 → ⊥) → m.kept ≤ length input → to_end_of (end_line m.done (take m.kept input)) ≡ ending (refused_line (m.done + 1) 13)
  some_left m h k = left_text (take m.kept input) (λ e. h (sym (length-take-le m.kept input k) ∙ e))
    where
      left_text : (rest : List ℕ) → (length rest ≡ 0 → ⊥) → to_end_of (end_line m.done rest) ≡ ending (refused_line (m.done + 1) 13)
      left_text [] none_there = absurd (none_there refl)
      left_text (b ∷ rest) none_there = unfold to_end_of end_line number refused_line in refl

-- Where a block was recorded.
pub arrives_write : (m : Marks) (words input out lines : List ℕ) → m.phase ≡ 4 → m.left ≤ 4000000001 → m.done ≤ most_records → m.kept ≤ 3 → m.size ≤ length out → m.pending ≤ block_lines
    → (m.size ≡ 0 → ⊥) → Arrives m words input out lines (to_write_of (take m.size out) (take m.pending lines) (position_of m words input))
unfolding state_in
arrives_write m words input out lines e a b c d f some = record {
  bounds = bounds m (length out) a b c d f;
  state = rw e (sym (some_to_write (take m.size out) (take m.pending lines) (position_of m words input) (λ h. some (sym (length-take-le m.size out d) ∙ h))));
}
  where
    some_to_write : (text more : List ℕ) (p : Position) → (length text ≡ 0 → ⊥) → to_write_of text more p ≡ writing text more p
    some_to_write [] more p h = absurd (h refl)
    some_to_write (x ∷ text) more p h = unfold to_write_of in refl

pub none_to_write : (m : Marks) (words input out lines : List ℕ) → m.size ≡ 0 → to_write_of (take m.size out) (take m.pending lines) (position_of m words input) ≡ to_report (take m.pending lines) (position_of m words input)
unfolding to_write_of
none_to_write m words input out lines e = rw e refl

-- What has ended or failed stops.
pub rest_stops : (m : Marks) (words input out lines : List ℕ) (a : Answer) → eqb m.phase 1 ≡ false → eqb m.phase 2 ≡ false → eqb m.phase 3 ≡ false → eqb m.phase 4 ≡ false
    → eqb m.phase 5 ≡ false → eqb m.phase 6 ≡ false → stepped machine (state_in m words input out lines) a ≡ stopped
unfolding state_in stepped next
rest_stops m words input out lines a n1 n2 n3 n4 n5 n6 = rw (n1, n2, n3, n4, n5, n6)
    (by_bool (eqb m.phase 7) (λ p7. rw p7 refl) (λ n7. by_bool (eqb m.phase 8) (λ p8. rw (n7, p8) refl) (λ n8. rw (n7, n8) refl)))
