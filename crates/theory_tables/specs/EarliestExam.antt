-- Note 8: a table of lists of named checkpoints on one state of three processes: the number that the call meets, 0 if it is accepted, and the line list after it.
-- proofs/Exam has the theorem.
-- Assumes nothing.
use Rattle.std.specs.Prelude.{◌&&◌, ◌∷◌}
use Rattle.laws.specs.Basics.{Bool, List, [], ℕ, eqb}
use Rattle.laws.specs.Tests.{every, same}
use Rattle.model.specs.declared.{Named.Named, Run.Run}
use Rattle.model.specs.{Words.ones, Steps.start_state}
use Rattle.whole_runs.specs.Calls.{checkpoint, send, deliver, earliest, call, state_after}
use Rattle.theory_tables.specs.Exam.{deletion_list, line_list}

-- A list, the number, and the line list that was lent with 9 in each of its entries.
pub record EarliestCase : Type 0 where
  pub list : List Named
  pub refused : ℕ
  pub line : List ℕ

abbrev pub at : ℕ → ℕ → Named
at p k = record { process = p; index = record { 0 = k } }

-- Process 2 keeps 0, 1 and 2, process 1 keeps 0 and 1, process 0 keeps 2 alone. Checkpoint 1 of process 2 knows interval 1 of processes 0 and 1, checkpoint 2 of
-- process 2 knows interval 2 of process 1, and so comes after checkpoint 1 of process 1.
unfoldable pub shown_state : Run
shown_state = state_after (start_state 3 ones) (
    send 0 1
    ∷ deliver 1 (deletion_list 3)
    ∷ send 1 2
    ∷ checkpoint 1 (deletion_list 3)
    ∷ deliver 2 (deletion_list 3)
    ∷ checkpoint 2 (deletion_list 3)
    ∷ send 1 2
    ∷ deliver 3 (deletion_list 3)
    ∷ checkpoint 2 (deletion_list 3)
    ∷ checkpoint 0 (deletion_list 3)
    ∷ checkpoint 0 (deletion_list 3)
    ∷ [])

unfoldable pub earliest_case_right : EarliestCase → Bool
earliest_case_right c =
    eqb (call shown_state (earliest c.list (line_list 3))).reply.report.refused c.refused
    && same (call shown_state (earliest c.list (line_list 3))).reply.line c.line

unfoldable pub earliest_cases : List EarliestCase
earliest_cases =
    -- the other members are the start; a deleted checkpoint of process 0, and process 1 at a live state; a deleted checkpoint of process 0
    record { list = at 0 2 ∷ []; refused = 0; line = 2 ∷ 0 ∷ 0 ∷ [] }
    ∷ record { list = at 2 2 ∷ []; refused = 0; line = 1 ∷ 2 ∷ 2 ∷ [] }
    ∷ record { list = at 1 1 ∷ []; refused = 0; line = 1 ∷ 1 ∷ 0 ∷ [] }
    -- through two, and through three
    ∷ record { list = at 0 2 ∷ at 2 1 ∷ []; refused = 0; line = 2 ∷ 1 ∷ 1 ∷ [] }
    ∷ record { list = at 0 2 ∷ at 1 1 ∷ at 2 0 ∷ []; refused = 0; line = 2 ∷ 1 ∷ 0 ∷ [] }
    -- "20 for two of which one comes causally before the other", in either order
    ∷ record { list = at 1 1 ∷ at 2 2 ∷ []; refused = 20; line = 9 ∷ 9 ∷ 9 ∷ [] }
    ∷ record { list = at 2 2 ∷ at 1 1 ∷ []; refused = 20; line = 9 ∷ 9 ∷ 9 ∷ [] }
    -- "19 for a checkpoint not kept": a deleted one, and a live state
    ∷ record { list = at 0 1 ∷ []; refused = 19; line = 9 ∷ 9 ∷ 9 ∷ [] }
    ∷ record { list = at 1 2 ∷ []; refused = 19; line = 9 ∷ 9 ∷ 9 ∷ [] }
    -- "18 .. for a list that is empty, longer than n or names a process twice"
    ∷ record { list = []; refused = 18; line = 9 ∷ 9 ∷ 9 ∷ [] }
    ∷ record { list = at 0 2 ∷ at 1 1 ∷ at 2 1 ∷ at 0 2 ∷ []; refused = 18; line = 9 ∷ 9 ∷ 9 ∷ [] }
    ∷ record { list = at 0 0 ∷ at 1 1 ∷ at 0 0 ∷ []; refused = 18; line = 9 ∷ 9 ∷ 9 ∷ [] }
    -- "The list is judged for 4 before 18": in a list that is too long, too
    ∷ record { list = at 0 2 ∷ at 1 1 ∷ at 2 1 ∷ at 3 0 ∷ []; refused = 4; line = 9 ∷ 9 ∷ 9 ∷ [] }
    ∷ []

-- The table, and a line list of two entries, which is refused with 3 before all else.
unfoldable pub earliest_cases_right : Bool
earliest_cases_right = every earliest_case_right earliest_cases && eqb (call shown_state (earliest (at 3 0 ∷ []) (line_list 2))).reply.report.refused 3
