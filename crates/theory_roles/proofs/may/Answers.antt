-- The table of the code is the table of the definition, entry by entry.
use Rattle.std.specs.Prelude.{◌≡◌, ◌∷◌, ◌<◌}
use Rattle.laws.specs.Basics.{refl, Bool, true, false, List, [], arith, get_or}
use Rattle.theory_roles.specs.declared.{Role.Role, Role.TheVariants.Operator, Role.TheVariants.JobOwner, Role.TheVariants.Viewer, Operation.Operation}
use Rattle.theory_roles.specs.declared.Operation.TheVariants.{Start, Checkpoint, Send, Deliver, Lose, Recover, Line, Earliest, List as Listing, Counts}
use Rattle.theory_roles.specs.Console.{may, role_place, operation_place}
use Rattle.theory_roles.proofs.may.Goals as goal

role_small : (r : Role) → role_place r < 3
role_small Operator = omega arith
role_small JobOwner = omega arith
role_small Viewer = omega arith

operation_small : (o : Operation) → operation_place o < 10
operation_small Start = omega arith
operation_small Checkpoint = omega arith
operation_small Send = omega arith
operation_small Deliver = omega arith
operation_small Lose = omega arith
operation_small Recover = omega arith
operation_small Line = omega arith
operation_small Earliest = omega arith
operation_small Listing = omega arith
operation_small Counts = omega arith

-- The rows of the table.
abbrev operator_row : List Bool
operator_row = true ∷ true ∷ true ∷ true ∷ true ∷ true ∷ true ∷ true ∷ true ∷ true ∷ []

abbrev owner_row : List Bool
owner_row = false ∷ true ∷ true ∷ true ∷ true ∷ false ∷ true ∷ false ∷ true ∷ false ∷ []

abbrev viewer_row : List Bool
viewer_row = false ∷ false ∷ false ∷ false ∷ false ∷ false ∷ false ∷ false ∷ false ∷ true ∷ []

abbrev permissions : List (List Bool)
permissions = operator_row ∷ owner_row ∷ viewer_row ∷ []

operator_right : (o : Operation) → get_or operator_row (operation_place o) false ≡ true
operator_right Start = refl
operator_right Checkpoint = refl
operator_right Send = refl
operator_right Deliver = refl
operator_right Lose = refl
operator_right Recover = refl
operator_right Line = refl
operator_right Earliest = refl
operator_right Listing = refl
operator_right Counts = refl

owner_right : (o : Operation) → get_or owner_row (operation_place o) false ≡ may JobOwner o
unfolding may
owner_right Start = refl
owner_right Checkpoint = refl
owner_right Send = refl
owner_right Deliver = refl
owner_right Lose = refl
owner_right Recover = refl
owner_right Line = refl
owner_right Earliest = refl
owner_right Listing = refl
owner_right Counts = refl

viewer_right : (o : Operation) → get_or viewer_row (operation_place o) false ≡ may Viewer o
unfolding may
viewer_right Start = refl
viewer_right Checkpoint = refl
viewer_right Send = refl
viewer_right Deliver = refl
viewer_right Lose = refl
viewer_right Recover = refl
viewer_right Line = refl
viewer_right Earliest = refl
viewer_right Listing = refl
viewer_right Counts = refl

table_right : (r : Role) (o : Operation) → get_or (get_or permissions (role_place r) []) (operation_place o) false ≡ may r o
unfolding may
table_right Operator o = operator_right o
table_right JobOwner o = owner_right o
table_right Viewer o = viewer_right o

pub offset_bounds-i : goal.offset_bounds-i
offset_bounds-i c =
    let a = c.args in omega (arith, c.role_place-i.ensures, role_small a.role, c.operation_place-j.ensures, operation_small a.operation)

pub bounds-i : goal.bounds-i
bounds-i c =
    let a = c.args in omega (arith, c.role_place-i.ensures, role_small a.role)

pub bounds-j : goal.bounds-j
bounds-j c =
    let a = c.args in omega (arith, c.operation_place-j.ensures, operation_small a.operation)

pub returns : goal.returns
returns c =
    rw (c.role_place-i.ensures, c.operation_place-j.ensures) (table_right c.args.role c.args.operation)
