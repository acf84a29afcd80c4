-- A call of a machine, for callers that have no enums: what it leaves in the list that the request goes to.
-- Assumes nothing.
use Rattle.std.specs.Prelude.{◌≡◌, ◌||◌}
use Rattle.laws.specs.Basics.{Bool, true, false, List, ℕ, ltb, length, sets}
use Rattle.machines.specs.Packed.{packed}
use Rattle.machines.specs.declared.Request as requests

-- The four numbers at the front of the list are a request of which this holds.
pub record Posed (before request : List ℕ) (Stands : requests.Request → Type 0) : Type 0 where
  pub form : requests.Request
  pub stands : Stands form
  pub posed_request : request ≡ sets before 0 (packed form)

-- The list is too short, or another is: 3, and what was lent is kept. Otherwise 0, and the machine asks for something.
pub record Called (lacks : Bool) (Kept : Type 0) (before request : List ℕ) (Stands : requests.Request → Type 0) (r : ℕ) : Type 0 where
  pub short : lacks || ltb (length before) 4 ≡ true → (r ≡ 3) × Kept × (request ≡ before)
  pub taken : lacks || ltb (length before) 4 ≡ false → (r ≡ 0) × Posed before request Stands
