-- What the ends of a trace print.
-- Assumes nothing.
use Rattle.std.specs.Prelude.{◌≡◌, ◌∷◌, ◌+◌, ◌≤◌, ◌<◌}
use Rattle.laws.specs.Basics.{Bool, List, [], ℕ, arith, length, lt-ltb}
use Rattle.model.specs.declared.{Run.Run, Refusal.TheVariants.LeftOverBytes}
use Rattle.whole_runs.specs.Listing.{refusal_text, most_records, records}
use Rattle.whole_runs.proofs.Blocks.{past_limit}
use Rattle.listing.specs.Printed.{Printed}
use Rattle.listing.proofs.Texts.{nothing}

-- One to three bytes that are left over below the limit.
pub left_over : (all : Bool) (done : ℕ) (s : Run) (l : List ℕ) → 1 ≤ length l → length l < 4 → done < most_records → records all done s l ≡ refusal_text (done + 1) LeftOverBytes
unfolding records
left_over all done s [] h g lt = absurd (omega arith)
left_over all done s (a ∷ []) h g lt = rw (lt-ltb done most_records lt)
left_over all done s (a ∷ b ∷ []) h g lt = rw (lt-ltb done most_records lt)
left_over all done s (a ∷ b ∷ c ∷ []) h g lt = rw (lt-ltb done most_records lt)
left_over all done s (a ∷ b ∷ c ∷ d ∷ l) h g lt = absurd (omega arith)

-- Nothing is left over.
pub none_left : (all : Bool) (done : ℕ) (s : Run) (l out : List ℕ) → length l ≡ 0 → Printed out 0 (records all done s l) out 0
unfolding records
none_left all done s [] out h = nothing out 0
none_left all done s (a ∷ l) out h = absurd (omega arith)

pub past_left : (all : Bool) (done : ℕ) (s : Run) (l out : List ℕ) → most_records ≤ done → Printed out 0 (records all done s l) out 0
past_left all done s l out h = rw (past_limit all done s l h) (nothing out 0)
