-- A line has room where the longest one has, and so has the line of a refusal.
-- Assumes nothing.
use Rattle.std.specs.Prelude.{◌≡◌, ◌≤◌, ◌<◌}
use Rattle.laws.specs.Basics.{List, ℕ, arith, length, get_or}
use Rattle.model.specs.declared.Refusal.{Refusal}
use Rattle.model.specs.{Refusals.number, laws.Refusals.number_range}
use Rattle.whole_runs.specs.Listing.{line_text, refusal_text}
use Rattle.whole_runs.proofs.Sizes.{Small, small_refused}
use Rattle.listing.specs.declared.Summary.{Summary}
use Rattle.listing.specs.{Lines.reply_of, Lines.refusal_line, Lines.longest_line, Summarised.report_in}
use Rattle.listing.proofs.{Bounds.line_length, Texts.refused_line}

-- No line of small numbers is longer than the longest.
pub line_fits : (summary : Summary) (deleted : List ℕ) (k : ℕ) → Small (report_in summary) → k ≤ 1000000000 → ((j : ℕ) → get_or deleted j 0 < 65536)
    → length (line_text k (reply_of summary deleted)) ≤ longest_line
unfolding report_in reply_of
line_fits summary deleted k h few entries = line_length k (reply_of summary deleted) few (omega (arith, h.refused)) h.value h.deletions entries

-- The line of a refusal, which fits too.
pub refusal_line_lem : (why : Refusal) (k : ℕ) → refusal_text k why ≡ refusal_line k (number why)
unfolding refusal_text
refusal_line_lem why k = refused_line k _ (λ e. omega (arith, number_range why))

pub refusal_fits : (why : Refusal) (k : ℕ) → k ≤ 1000000000 → length (refusal_text k why) ≤ longest_line
unfolding refusal_text
refusal_fits why k few =
    let h = small_refused why in
    line_length k _ few (omega (arith, h.refused)) h.value h.deletions (λ j. omega arith)
