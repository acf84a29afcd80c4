-- What a line says, as the model has it: a summary of a reply, and the text of one deletion.
-- Assumes nothing.
use Rattle.std.specs.Prelude.{◌∷◌, ◌++◌}
use Rattle.laws.specs.Basics.{List, [], Option, None, Some, ℕ}
use Rattle.std.specs.declared.num.NonZeroU8.{NonZeroU8}
use Rattle.std.specs.Int.NonZero.{non_zero_u8_get}
use Rattle.whole_runs.specs.{Calls.Reply, Listing.decimal, Listing.space, Listing.colon, Listing.line_feed}
use Rattle.listing.specs.declared.Summary.{Summary}

-- The number that a line says: that of the refusal, 0 if there is none.
abbrev pub number_said : Option NonZeroU8 → ℕ
number_said None = 0
number_said (Some refused) = non_zero_u8_get refused

-- The reply that a summary and a deletion list make. A line prints nothing of a line list.
unfoldable pub reply_of : Summary → List ℕ → Reply
reply_of s deleted = record { report = record { refused = number_said s.refused; value = s.value; deletions = s.deletions }; rose = 0; deleted = deleted; line = [] }

-- "each as process:index", after a space
unfoldable pub pair_text : ℕ → ℕ → List ℕ
pair_text p i = space ∷ (decimal p ++ (colon ∷ decimal i))

-- The line of a refused record: its number and that of the refusal.
unfoldable pub refusal_line : ℕ → ℕ → List ℕ
refusal_line record-number x = decimal record-number ++ (space ∷ (decimal x ++ (line_feed ∷ [])))

-- No line is longer: 10 digits of the record number, 3 of the refusal number, 10 of the value, 3 of the count, 12 bytes for each of 256
-- deletions, three spaces and the line feed.
abbrev pub longest_line : ℕ
longest_line = 3102
