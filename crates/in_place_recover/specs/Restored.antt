-- What a recovery leaves of one process, on the words. Its states are the checkpoints that it keeps, in their places, and after them the live one; `past` is one above
-- the place of its member in the line. proofs/Recovery has that they say what Steps says of the run.
-- Assumes nothing.
use Rattle.std.specs.Prelude.{◌≡◌, ◌&&◌, ◌+◌, ◌-◌, ◌≤◌, ◌<◌}
use Rattle.laws.specs.Basics.{Bool, not, List, ℕ, ltb, leb, length, get_or, pick}
use Rattle.laws.specs.Lists.{select, table}
use Rattle.model.specs.Shapes.{Pin}
use Rattle.model.specs.declared.{Interval.Interval, Checkpoint.Checkpoint}
use Rattle.model.specs.{Words.most_processes, Words.is_pinned, Words.Process, Words.most_interval, Steps.advanced}
use Rattle.words.specs.Layout.{word, kept_count_at_of, mark_at, blocks_at_of, part_at, pins_at_of, stored_at, interval_of, row_in, vector_in, pins_in, mark_in}
use Rattle.words_line.specs.Restored.{known_row, found_in_of}
use Rattle.words_process.specs.{Kept.Used, Kept.AllPinned, Pins.pin_row, Steps.places_of, Steps.unpinned_in}

-- "A process whose member is stored": the member is one of the kept checkpoints.
abbrev pub goes_back : List ℕ → ℕ → ℕ → Bool
goes_back w p past = leb past (word w (kept_count_at_of p))

-- ".. takes that vector with 1 added to its own entry"; "Then let own(f) be the own entries after this."
unfoldable pub restored_vector : List ℕ → ℕ → ℕ → List Interval
restored_vector w p past = pick (goes_back w p past) (advanced p (vector_in w (stored_at p (past - 1)))) (vector_in w (part_at p))

unfoldable pub restored_own : List ℕ → ℕ → ℕ → Interval
restored_own w p past = pick (ltb 0 past && goes_back w p past) (interval_of (word w (stored_at p (past - 1) + p) + 1)) (interval_of (word w (part_at p + p)))

-- A place at n or above has no member. The entry that the words hold there is of no use: no pin is for it (`pin_is` of proofs/Recovery).
unfoldable pub owns_after_of : List ℕ → List ℕ → List Interval
owns_after_of w pasts = table most_processes (λ p. restored_own w p (get_or pasts p 0))

-- "a pin for f whose vector entry is not own(f) becomes none. In a rolled-back process a pin whose entry is own(f) names the latest checkpoint with entry f below own(f)
-- among those kept before the call and not lost": these are in the places up to the member's.
unfoldable pub restored_pins : List ℕ → ℕ → ℕ → List Interval → List ℕ
restored_pins w p past owns = known_row (restored_vector w p past) owns (pick (goes_back w p past) (found_in_of w owns p past) (row_in w (pins_at_of p)))

-- The part of process p once it has these pins: what they name stays.
unfoldable pub pinned_part : List ℕ → ℕ → List Pin → Process
pinned_part w p pins = record { vector = vector_in w (part_at p); pins = pins; mark = mark_in w p; kept = select (is_pinned pins) (places_of w p) }

-- ".. loses its sent mark and later checkpoints". What these pins name stays: they name none of the later ones.
unfoldable pub restored_part : List ℕ → ℕ → ℕ → List Interval → Process
restored_part w p past owns = record {
  vector = restored_vector w p past;
  pins = pin_row (restored_pins w p past owns);
  mark = mark_in w p && not (goes_back w p past);
  kept = select (is_pinned (pin_row (restored_pins w p past owns))) (places_of w p);
}

unfoldable pub restored_gone : List ℕ → ℕ → ℕ → List Interval → List Checkpoint
restored_gone w p past owns = unpinned_in w p (pin_row (restored_pins w p past owns))

-- What the functions rely on: the member's place is there, and 1 can be added to its own entry.
abbrev pub Returns : List ℕ → ℕ → ℕ → Type 0
Returns w p past =
    (word w (kept_count_at_of p) ≤ most_processes) × (1 ≤ past) × (past ≤ word w (kept_count_at_of p) + 1) × (past ≤ word w (kept_count_at_of p) → word w (stored_at p (past - 1) + p) < most_interval)

abbrev pub AllReturn : List ℕ → List ℕ → Type 0
AllReturn pasts w = (most_processes ≤ length pasts) × ((p : ℕ) → p < most_processes → 1 ≤ get_or pasts p 0 → Returns w p (get_or pasts p 0))

-- Each kept checkpoint has an index, and a pin names it.
abbrev pub Restorable : List ℕ → ℕ → ℕ → Type 0
Restorable w p past = Returns w p past × Used w p (word w (kept_count_at_of p)) × AllPinned w p (pins_in w (pins_at_of p)) (word w (kept_count_at_of p))

-- Words that agree on what is process p's: how many checkpoints it keeps, its mark, its block count, the 320 words of its part.
pub record SameProcess (w v : List ℕ) (p : ℕ) : Type 0 where
  pub kept_count : word v (kept_count_at_of p) ≡ word w (kept_count_at_of p)
  pub mark : word v (mark_at p) ≡ word w (mark_at p)
  pub blocks : word v (blocks_at_of p) ≡ word w (blocks_at_of p)
  pub part : (k : ℕ) → part_at p ≤ k → k < part_at p + 320 → word v k ≡ word w k
