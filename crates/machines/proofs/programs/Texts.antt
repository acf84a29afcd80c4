-- Texts in a buffer: a word byte by byte, a text at the front; and how long the line of a refusal can be.
-- Assumes nothing.
use Rattle.std.specs.Prelude.{◌≡◌, ◌∷◌, ◌++◌, ◌+◌, ◌≤◌, ◌<◌}
use Rattle.laws.specs.Basics.{sym, ◌∙◌, ap, List, [], ℕ, arith, length, get_or, take, drop, set, length-append, sets, length-take-le}
use lib.Seq.{take_at, take-length, length-sets}
use Rattle.laws.specs.{Front.written_front, Prefixes.take_more, Written.sets_after}
use Rattle.model.specs.declared.Refusal.{Refusal}
use Rattle.model.specs.Refusals.{number}
use Rattle.whole_runs.specs.Listing.{decimal, line_feed}
use Rattle.listing.specs.Printed.{Printed}
use Rattle.listing.proofs.Bounds.{twenty_digits}
use Rattle.machines.specs.programs.Texts.{figure_text, refused_name, refused_text, longest_refusal}

pub one_copied : (out₀ out : List ℕ) (at k : ℕ) (word : List ℕ) → out ≡ sets out₀ at (take k word) → k < length word
    → set out (at + k) (get_or word k 0) ≡ sets out₀ at (take (k + 1) word)
one_copied out₀ out at k word so_far more =
    let many : length (take k word) ≡ k = length-take-le k word (omega arith) in
    sets_after out₀ out at (at + k) (take k word) so_far (omega arith) (get_or word k 0 ∷ []) ∙ ap (sets out₀ at) (sym (take_more word k 0 more))

pub all_copied : (out₀ out : List ℕ) (at k : ℕ) (word : List ℕ) → out ≡ sets out₀ at (take k word) → k ≡ length word → Printed out₀ at word out (at + length word)
all_copied out₀ out at k word so_far all = record {
  next_place = omega arith;
  holds = so_far ∙ ap (λ (j : ℕ). sets out₀ at (take j word)) all ∙ ap (sets out₀ at) (take-length word);
}

-- What is printed at the front of a buffer is what its front then holds.
pub front_text : (out text after : List ℕ) (written : ℕ) → Printed out 0 text after written → written ≤ length out → take written after ≡ text
front_text out text after written printed fits =
    ap (take written) (printed.holds ∙ written_front out text (omega (arith, printed.next_place)))
    ∙ take_at text (drop (length text) out) written (omega (arith, printed.next_place))

pub front_inside : (out text after : List ℕ) (written : ℕ) → Printed out 0 text after written → written ≤ length out → written ≤ length after
front_inside out text after written printed fits = omega (arith, fits, ap length printed.holds, length-sets out 0 text)

-- The same of a text that fits.
module _ (out text after : List ℕ) (size : ℕ) (fits : length text ≤ length out) (p : Printed out 0 text after size) where
  pub printed_inside : size ≤ length after
  printed_inside = front_inside out text after size p (omega (arith, p.next_place, fits))

  pub printed_front : take size after ≡ text
  printed_front = front_text out text after size p (omega (arith, p.next_place, fits))

-- Room for any refusal.
pub refused_length : (why : Refusal) → length (refused_text why) ≤ longest_refusal
unfolding refused_text figure_text
refused_length why =
    omega (arith, length-append refused_name (decimal (number why) ++ (line_feed ∷ [])), length-append (decimal (number why)) (line_feed ∷ []), twenty_digits (number why))
