-- Document 02, Note 1: "Taking a carried vector into a process's own now also gives the set of entries that rose, as a number of 16 bits, exact in every case".
-- What the set is, of any two vectors, whatever their lengths. proofs/Risen has the proof. The crate whole_runs says the same of a delivery by the
-- history alone, in specs/Answers.
-- Assumes nothing.
use Rattle.std.specs.Prelude.{◌≡◌, ◌≤◌, ◌<◌}
use Rattle.laws.specs.Basics.{false, not, List, ℕ, eqb}
use Rattle.model.specs.declared.Interval.{Interval}
use Rattle.model.specs.{Words.most_processes, Words.entry, Words.below, Words.in_set, Steps.newer, Steps.taken_vector, Steps.risen}

pub record RisenIsExact (own carried : List Interval) : Type 0 where
  -- "a number of 16 bits"
  pub small : risen own carried < 65_536
  -- bit f is set exactly if entry f was smaller than the carried one
  pub exact : (f : ℕ) → f < most_processes → in_set (risen own carried) f ≡ below (entry own f) (entry carried f)
  -- which is: exactly if it is greater in the vector that comes out
  pub rose : (f : ℕ) → f < most_processes → in_set (risen own carried) f ≡ below (entry own f) (entry (taken_vector own carried) f)
  -- no bit is set at 16 or above
  pub no_more : (f : ℕ) → most_processes ≤ f → in_set (risen own carried) f ≡ false
  -- the set is empty exactly if nothing carried is newer
  pub nothing : eqb (risen own carried) 0 ≡ not (newer own carried)
