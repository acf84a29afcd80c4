-- The closure: the least row of each process that a zigzag path reaches.
-- Assumes nothing.
use Rattle.std.specs.Prelude.{◌≡◌, ◌&&◌, ◌-◌, ◌≤◌, ◌<◌}
use Rattle.laws.specs.Basics.{Bool, true, List, Option, None, Some, ℕ, zero, suc, arith, eqb, ltb, leb, length, get_or, set, pick}
use Rattle.model.specs.Words.{most_processes}
use Rattle.library_judge.specs.declared.pattern.{State.State, Sent.Sent}
use Rattle.library_judge.specs.decision.Rows.{most_rows, no_sent, owner_at, entry_at, from_at, to_at, receipt_mark, reach_at}
use Rattle.library_judge.specs.decision.Crossings.{Inside}

-- The rows that a message names are there, are no more than a trace has (none is a number above them), and have their processes.
abbrev pub Joins : List State → Sent → Type 0
Joins states x = Inside (length states) x × Inside most_rows x × (owner_at states x.from < most_processes)
    × ((receipt_mark x.fate ≡ 0 → ⊥) → owner_at states (receipt_mark x.fate - 1) < most_processes)

-- So it is of every message. Of a row that none names nothing is asked.
abbrev pub Linked : List State → List Sent → Type 0
Linked states messages = (m : ℕ) → m < length messages → Joins states (get_or messages m no_sent)

-- The process of a message's send, and of its receipt.
abbrev pub sender_of : List State → List Sent → ℕ → ℕ
sender_of states messages m = owner_at states (from_at messages m)

abbrev pub receiver_of : List State → List Sent → ℕ → ℕ
receiver_of states messages m = owner_at states (to_at messages m - 1)

-- What is reached, and whether a pass lowered it.
pub record Pass : Type 0 where
  pub reach : List (Option ℕ)
  pub changed : Bool

-- What is reached once a message leads from row a of process s to row b of process q.
unfoldable pub lowered_by : ℕ → ℕ → ℕ → ℕ → Pass → Pass
lowered_by s q a b p = pick (leb (reach_at p.reach s) a && ltb b (reach_at p.reach q)) (record { reach = set p.reach q (Some b); changed = true }) p

unfoldable pub relaxed_by : List State → Sent → Pass → Pass
relaxed_by states x p =
    pick (eqb (receipt_mark x.fate) 0) p (lowered_by (owner_at states x.from) (owner_at states (receipt_mark x.fate - 1)) x.from (receipt_mark x.fate - 1) p)

-- The messages below m, the highest first.
unfoldable pub passed : List State → List Sent → ℕ → Pass → Pass
passed states messages zero p = p
passed states messages (suc m) p = passed states messages m (relaxed_by states (get_or messages m no_sent) p)

pub passed_one : (states : List State) (messages : List Sent) (m : ℕ) (p : Pass) → 0 < m
    → passed states messages m p ≡ passed states messages (m - 1) (relaxed_by states (get_or messages (m - 1) no_sent) p)
unfolding passed
passed_one states messages zero p h = absurd (omega arith)
passed_one states messages (suc m) p h = let e : suc m - 1 ≡ m = omega arith in rw e

-- Row r of process q is one of those to begin with, or a message from a row that is reached leads to it.
pub data ReachedRow (last : ℕ) (states : List State) (messages : List Sent) (start : List (Option ℕ)) : ℕ → ℕ → Type 0 where
  begins : {q r : ℕ} → get_or start q None ≡ Some r → ReachedRow last states messages start q r
  leads : {r m : ℕ} → m < last → (to_at messages m ≡ 0 → ⊥) → ReachedRow last states messages start (sender_of states messages m) r → r ≤ from_at messages m
      → ReachedRow last states messages start (receiver_of states messages m) (to_at messages m - 1)

pub record Closure (last : ℕ) (states : List State) (messages : List Sent) (start r : List (Option ℕ)) : Type 0 where
  pub size : length r ≡ most_processes
  pub lower : (q : ℕ) → reach_at r q ≤ reach_at start q
  pub sound : (q row : ℕ) → get_or r q None ≡ Some row → ReachedRow last states messages start q row
  pub closed : (m : ℕ) → m < last → (to_at messages m ≡ 0 → ⊥) → reach_at r (sender_of states messages m) ≤ from_at messages m → reach_at r (receiver_of states messages m) ≤ to_at messages m - 1

-- The first row of p whose own entry is above k.
abbrev pub FirstRow : List State → ℕ → ℕ → Option ℕ → Type 0
FirstRow states p k None = (x : ℕ) → x < length states → owner_at states x ≡ p → entry_at states x p ≤ k
FirstRow states p k (Some r) = (r < length states) × (owner_at states r ≡ p) × (k < entry_at states r p)
    × ((x : ℕ) → x < r → owner_at states x ≡ p → entry_at states x p ≤ k)
