-- Where a block of records leads: to a read, to its lines, or to the last lines.
-- Assumes nothing.
use Rattle.std.specs.Prelude.{◌≡◌, ◌&&◌, ◌∷◌, ◌+◌, ◌-◌, ◌*◌, ◌≤◌, ◌<◌}
use Rattle.laws.specs.Basics.{refl, sym, ◌∙◌, ap, Bool, true, false, List, [], ℕ, zero, suc, arith, eqb, ltb, leb, length, take, drop, length-drop, sets, length-take-le, ne_eqb, lt-ltb, le-ltb, le-leb, leb-true, leb-false, by_bool}
use lib.Seq.{drop-drop, take_at, take-nil}
use Rattle.laws.specs.{Truth.and_no_right, Front.written_front}
use Rattle.whole_runs.specs.Listing.{most_records, state_after_records}
use Rattle.listing.specs.Lines.{longest_line}
use Rattle.words.specs.Layout.{run_of}
use Rattle.library_replay.specs.declared.block.Progress.{Progress}
use Rattle.library_replay.specs.Taken.{BlockOutcome, may_take, outcome_of, block_outcome, Within, BlocksGoOn}
use Rattle.library_replay.proofs.Onward.{blocks_go_on}
use Rattle.machine_replay.specs.declared.place.Place.{Place}
use Rattle.machine_replay.specs.Replaying.{Between, ending, taking, onward}
use Rattle.machine_replay.specs.Standing.{enough_room, inside, state_in, between_in, text_place, waiting_place, Lies, Blocked}
use Rattle.machine_replay.proofs.Places.{enough_out, inside_in, is_reading, is_printing, text_ending}

-- The rest of a part, after its first k.
drop_of_part : (k n : ℕ) (l : List ℕ) → k ≤ n → drop k (take n l) ≡ take (n - k) (drop k l)
drop_of_part zero n l h = let e : n - 0 ≡ n = omega arith in rw e
drop_of_part (suc k) zero l h = absurd (omega arith)
drop_of_part (suc k) (suc n) [] h = sym (take-nil (suc n - suc k))
drop_of_part (suc k) (suc n) (x ∷ l) h = let e : suc n - suc k ≡ n - k = omega arith in rw e (drop_of_part k n l (omega arith))

-- The records that lay in the lists were replayed as a block.
pub record Replayed (p : Place) (words input out : List ℕ) (made : Progress) (then-words then-out : List ℕ) : Type 0 where
  pub lies : Lies p words input out
  pub blocked : Blocked p.all p.count words (take p.buffered (drop p.from input)) out made then-words then-out
  pub same_words : length then-words ≡ length words
  pub same_out : length then-out ≡ length out

module _ {p : Place} {words input out : List ℕ} {made : Progress} {then-words then-out : List ℕ} (done : Replayed p words input out made then-words then-out) where
  abbrev block : List ℕ
  block = take p.buffered (drop p.from input)

  abbrev between : Between
  between = between_in p words input

  abbrev o : BlockOutcome
  o = block_outcome p.all p.count (run_of words) block (length out)

  within : Within p.all p.count (run_of words) block (length out) o.taken
  unfolding block_outcome outcome_of BlocksGoOn
  within = blocks_go_on p.all p.count (run_of words) block (length out)

  block_length : length block ≡ p.buffered
  block_length = length-take-le p.buffered (drop p.from input) (omega (arith, done.lies.within, length-drop p.from input))

  pub inside_block : 4 * made.taken ≤ p.buffered
  inside_block = omega (arith, done.blocked.taken, within.inside, block_length)

  pub few_then : p.count + made.taken ≤ most_records
  few_then = omega (arith, done.blocked.taken, within.few (omega (arith, done.lies.few)))

  is_onward : onward (length out) between ≡ taking between o.taken o.lines o.going o.run
  unfolding onward between_in
  is_onward = refl

  lines_front : take made.written then-out ≡ o.lines
  lines_front =
      ap (take made.written) (done.blocked.lines ∙ written_front out o.lines (omega (arith, done.blocked.written, done.blocked.fits)))
      ∙ take_at o.lines (drop (length o.lines) out) made.written (sym done.blocked.written)

  room_then : (then-input : List ℕ) → length then-input ≡ length input → enough_room (length then-words) (length then-input) (length then-out) ≡ true
  room_then then-input same = rw (done.same_words, same, done.same_out) done.lies.room

  -- No record is taken.
  module _ (none : made.taken ≡ 0) (then-input : List ℕ) (front : take p.buffered then-input ≡ take p.buffered (drop p.from input)) (same-input : length then-input ≡ length input) where
    taken_none : o.taken ≡ 0
    taken_none = sym done.blocked.taken ∙ none

    pub few_buffered : p.buffered < 4
    unfolding may_take
    few_buffered = by_bool (leb 4 p.buffered)
        (λ e. absurd (omega (
          arith,
          none,
          done.blocked.taken,
          within.some (omega (arith, block_length, leb-true 4 p.buffered e))
              (rw (lt-ltb p.count most_records done.lies.few, le-leb longest_line (length out) (enough_out (length words) (length input) (length out) done.lies.room))),
        )))
        (λ e. leb-false 4 p.buffered e)

    same_run : run_of then-words ≡ run_of words
    unfolding block_outcome outcome_of state_after_records
    same_run = done.blocked.run ∙ ap (λ (k : ℕ). state_after_records (run_of words) (take (4 * k) block)) taken_none

    waiting_inside : inside (waiting_place p) (length then-input) (length then-out) ≡ true
    unfolding waiting_place
    waiting_inside = inside_in (waiting_place p) (length then-input) (length then-out) done.lies.few (omega arith) (omega (arith, done.lies.within)) (rw (lt-ltb p.buffered 4 few_buffered))

    pub waits : state_in (waiting_place p) then-words then-input then-out ≡ onward (length out) between
    unfolding waiting_place taking between_in
    waits =
        is_reading {p = waiting_place p} {words = then-words} {input = then-input} {out = then-out} (record { room = room_then then-input same-input; there = waiting_inside }) refl
        ∙ rw (same_run, front) (sym (is_onward ∙ rw taken_none))

  -- Some are.
  module _ (some : made.taken ≡ 0 → ⊥) where
    some_taken : eqb o.taken 0 ≡ false
    some_taken = ne_eqb o.taken 0 (λ e. some (done.blocked.taken ∙ e))

    abbrev goes : Bool
    goes = o.going && ltb (p.count + o.taken) most_records

    stops : goes ≡ false → state_in (text_place 5 made.written) then-words input then-out ≡ onward (length out) between
    unfolding taking between_in
    stops e =
        text_ending made.written then-words input then-out (room_then input refl) (omega (arith, done.blocked.fits, done.same_out))
        ∙ ap ending lines_front
        ∙ sym (is_onward ∙ rw (some_taken, e))

    pub stops_refused : made.going ≡ false → state_in (text_place 5 made.written) then-words input then-out ≡ onward (length out) between
    stops_refused e = stops (rw (← done.blocked.going, e))

    pub stops_last : most_records ≤ p.count + made.taken → state_in (text_place 5 made.written) then-words input then-out ≡ onward (length out) between
    stops_last h = stops (rw (← done.blocked.taken, le-ltb (p.count + made.taken) most_records h) (and_no_right o.going false refl))

    module _ (next : Place) (phase : next.phase ≡ 4) (all : next.all ≡ p.all) (count : next.count ≡ p.count + made.taken) (from : next.from ≡ p.from + 4 * made.taken)
        (buffered : next.buffered ≡ p.buffered - 4 * made.taken) (written : next.written ≡ made.written) (going : made.going ≡ true) (less : p.count + made.taken < most_records) where
      goes_on : goes ≡ true
      goes_on = rw (← done.blocked.going, ← done.blocked.taken, going, lt-ltb (p.count + made.taken) most_records less)

      next_inside : inside next (length input) (length then-out) ≡ true
      next_inside = inside_in next (length input) (length then-out) (omega (arith, count, less)) (omega (arith, written, done.blocked.fits, done.same_out)) (omega (arith, from, buffered, done.lies.within, inside_block)) (rw phase)

      next_buffered : take next.buffered (drop next.from input) ≡ drop (4 * o.taken) block
      next_buffered = rw (from, buffered, ← done.blocked.taken) (sym (ap (λ (l : List ℕ). take (p.buffered - 4 * made.taken) l) (drop-drop (4 * made.taken) p.from input)) ∙ sym (drop_of_part (4 * made.taken) p.buffered (drop p.from input) inside_block))

      pub prints : state_in next then-words input then-out ≡ onward (length out) between
      unfolding taking between_in
      prints =
          is_printing {p = next} {words = then-words} {input = input} {out = then-out} (record { room = room_then input refl; there = next_inside }) phase
          ∙ rw (all, count, written, next_buffered, lines_front, done.blocked.run, done.blocked.taken) (sym (is_onward ∙ rw (some_taken, goes_on)))

-- The bytes held, moved to the front.
pub kept_front : (input then : List ℕ) (from buffered : ℕ) → from + buffered ≤ length input → then ≡ sets input 0 (take (from + buffered - from) (drop from input))
    → take buffered then ≡ take buffered (drop from input)
kept_front input then from buffered h e =
    let same : from + buffered - from ≡ buffered = omega arith in
    let xs = take buffered (drop from input) in
    let many : length xs ≡ buffered = length-take-le buffered (drop from input) (omega (arith, length-drop from input)) in
    ap (take buffered) (rw same at e ∙ written_front input xs (omega arith)) ∙ take_at xs (drop (length xs) input) buffered many
