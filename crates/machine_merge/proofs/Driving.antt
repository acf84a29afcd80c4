-- The loop that obeys the machine: what obeying a request leaves of its state.
-- Assumes nothing.
use Rattle.std.specs.Prelude.{◌≡◌, ◌+◌, ◌≤◌}
use Rattle.laws.specs.Basics.{refl, ap, List, ℕ, min, arith, eqb, length, take, pick, by_bool}
use Rattle.machines.specs.{Forms.Leaves, Forms.GoesTo}
use Rattle.machines.proofs.Places.{leaves_front}
use Rattle.machine_merge.specs.declared.marks.Marks.{Marks}
use Rattle.machine_merge.specs.Buffered.{most_kept_of}
use Rattle.machine_merge.specs.Merging.{longest_name, SecondHalf, Naming, Opening, Reading, Stopped}
use Rattle.machine_merge.specs.Words.{lacks_room_of, marks_of, in_bounds_of, Fits, name_at, half_at_of, read_to_of, stage_of, name_of, kept_of, state_in, state_of, place_in, place_of}
use Rattle.machine_merge.proofs.{Parts.part_kept, Parts.half_is, Parts.read_past, Marking.bounded}
use Rattle.machines.specs.declared.Request as requests

-- What the machine has not asked for is as it was, and so is its state.
module _ (m : Marks) (input after out : List ℕ) (fits : Fits m) where
  abbrev Same : ℕ → Type 0
  Same place = take place after ≡ take place input

  same_stage : (place : ℕ) → name_at m.half ≤ place → Same place → stage_of m after ≡ stage_of m input
  unfolding stage_of name_at
  same_stage place h e = by_bool (eqb m.half 0)
      (λ one. rw one refl)
      (λ two. rw two (ap (SecondHalf m.set) (part_kept longest_name m.first place after input (omega (arith, rw two at h, fits.1)) e)))

  same_name : (place : ℕ) → half_at_of m.half ≤ place → Same place → name_of m after ≡ name_of m input
  unfolding name_of
  same_name place h e = part_kept (name_at m.half) m.name place after input (omega (arith, h, half_is m.half, fits.2)) e

  same_kept : Same (read_to_of m.half m.count) → kept_of m.half m.count after ≡ kept_of m.half m.count input
  unfolding kept_of read_to_of
  same_kept e = part_kept (half_at_of m.half) (min m.count most_kept_of) (half_at_of m.half + min m.count most_kept_of) after input (omega arith) e

  same_naming : Same (name_at m.half) → Naming (stage_of m after) ≡ Naming (stage_of m input)
  same_naming e = ap Naming (same_stage (name_at m.half) (omega arith) e)

  same_opening : Same (half_at_of m.half) → Opening (stage_of m after) (name_of m after) ≡ Opening (stage_of m input) (name_of m input)
  same_opening e =
      let stage = same_stage (half_at_of m.half) (omega (arith, half_is m.half)) e in
      let name = same_name (half_at_of m.half) (omega arith) e in
      λ j. Opening (stage j) (name j)

  same_reading : Same (read_to_of m.half m.count)
      → Reading (stage_of m after) (name_of m after) (kept_of m.half m.count after) m.count ≡ Reading (stage_of m input) (name_of m input) (kept_of m.half m.count input) m.count
  same_reading e =
      let past = read_past m.half m.count in
      let stage = same_stage (read_to_of m.half m.count) (omega (arith, past, half_is m.half)) e in
      let name = same_name (read_to_of m.half m.count) past e in
      let kept = same_kept e in
      λ j. Reading (stage j) (name j) (kept j) m.count

  same_state : Same (place_in m) → state_in m after out ≡ state_in m input out
  unfolding state_in place_in
  same_state e = by_bool (eqb m.phase 1) (λ p1. rw p1 refl)
      (λ n1. by_bool (eqb m.phase 2) (λ p2. rw (n1, p2) refl)
      (λ n2. by_bool (eqb m.phase 3) (λ p3. rw (n1, n2, p3) (same_naming (rw p3 at e)))
      (λ n3. by_bool (eqb m.phase 4) (λ p4. rw (n1, n2, n3, p4) (same_opening (rw (n3, p4) at e)))
      (λ n4. by_bool (eqb m.phase 5) (λ p5. rw (n1, n2, n3, n4, p5) (same_reading (rw (n3, n4, p5) at e)))
      (λ n5. rw (n1, n2, n3, n4, n5) refl)))))

pub kept : (memory input after out : List ℕ) (r : requests.Request) → GoesTo r (place_of memory) → Leaves r input after → state_of memory after out ≡ state_of memory input out
unfolding state_of
kept memory input after out r there leaves =
    let (front, same) = leaves_front r (place_of memory) input after there leaves in
    let m = marks_of memory in
    rw same (by_bool (in_bounds_of m (length out))
    (λ b. rw b (ap (pick (lacks_room_of (length memory) (length input) (length out)) Stopped) (same_state m input after out (bounded m (length out) b).0 front)))
    (λ n. rw n refl))
