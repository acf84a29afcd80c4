-- Note 13: a table of console calls, each with the number that it meets, 0 if it is accepted, and what it shows; and the named leaks, each by two runs that differ in
-- what others did. proofs/Table has the theorem.
-- Assumes nothing.
use Rattle.std.specs.Prelude.{◌&&◌, ◌∷◌}
use Rattle.laws.specs.Basics.{Bool, List, [], ℕ, eqb, length, take, drop, replicate}
use Rattle.laws.specs.Tests.{every, same}
use Rattle.model.specs.declared.Run.{Run}
use Rattle.model.specs.{Words.ones, Words.blank, Steps.start_state}
use Rattle.whole_runs.specs.Outcomes.{start_report}
use Rattle.whole_runs.specs.Calls.{Call, checkpoint, send, deliver, lose, recover, line, earliest, state_after}
use Rattle.theory_tables.specs.{EarliestExam.at, Exam.optional, Exam.deletion_list, Exam.line_list}
use Rattle.theory_roles.specs.declared.{Role.TheVariants.Operator, Role.TheVariants.Viewer, Caller.Caller}
use Rattle.theory_roles.specs.{Console.console_start, Runs.Asked, Runs.made, Runs.list, Runs.counts, Runs.console_answered, Isolation.owner}

abbrev pub operator : Caller
operator = record { role = Operator; owned = 0 }

abbrev pub viewer : Caller
viewer = record { role = Viewer; owned = 65_535 }

-- What a caller asks, the number, the value, the numbers at the front of the deletion list, and the line list. Lent lists have 9 in each of their entries, and the
-- deletion list still has it after its front.
pub record ConsoleCase : Type 0 where
  pub caller : Caller
  pub asked : Asked
  pub refused : ℕ
  pub value : List ℕ
  pub front : List ℕ
  pub line : List ℕ

unfoldable pub console_case_right : Run → ConsoleCase → Bool
console_case_right s c =
    let r = (console_answered c.caller s c.asked).reply in
    eqb r.report.refused c.refused
    && same (optional r.report.value) c.value
    && same (take (length c.front) r.deleted) c.front
    && every (eqb 9) (drop (length c.front) r.deleted)
    && same r.line c.line

-- A call that is refused, with the line list that it was lent.
abbrev pub meets : Caller → Asked → ℕ → List ℕ → ConsoleCase
meets c a refused lent = record { caller = c; asked = a; refused = refused; value = []; front = []; line = lent }

-- Three processes. Process 1 has received from 2 and keeps checkpoints 0 and 1. Message 2 is under way to process 2, message 3 to process 1.
unfoldable pub shared_state : Run
shared_state = state_after (start_state 3 ones) (
    send 2 1
    ∷ deliver 1 (deletion_list 3)
    ∷ checkpoint 1 (deletion_list 3)
    ∷ send 0 2
    ∷ send 2 1
    ∷ [])

-- The owner of processes 0 and 1, and of all bits at 3 and above.
abbrev pub tenant : Caller
tenant = owner 65_531

unfoldable pub console_cases : List ConsoleCase
console_cases =
    -- a list: of its own, of nobody, of all; "written as deletions are, with 3 as for theirs"
    record { caller = tenant; asked = list (deletion_list 3); refused = 0; value = 3 ∷ []; front = 0 ∷ 0 ∷ 1 ∷ 0 ∷ 1 ∷ 1 ∷ []; line = [] }
    ∷ record { caller = owner 65_528; asked = list (deletion_list 3); refused = 0; value = 0 ∷ []; front = []; line = [] }
    ∷ record { caller = operator; asked = list (deletion_list 3); refused = 0; value = 4 ∷ []; front = 0 ∷ 0 ∷ 1 ∷ 0 ∷ 1 ∷ 1 ∷ 2 ∷ 0 ∷ []; line = [] }
    ∷ meets tenant (list (replicate 17 9)) 3 []
    ∷ meets viewer (list (replicate 17 9)) 25 []
    -- the counts
    ∷ record { caller = viewer; asked = counts (line_list 4); refused = 0; value = []; front = []; line = 1 ∷ 2 ∷ 1 ∷ 9 ∷ [] }
    ∷ meets viewer (counts (line_list 2)) 3 (line_list 2)
    ∷ meets tenant (counts (line_list 3)) 25 (line_list 3)
    -- "its own members of a line for a failed set, other places left unchanged"; a failed set of another's, and one outside the run
    ∷ record { caller = tenant; asked = made (line 4 (line_list 4)); refused = 0; value = []; front = []; line = 1 ∷ 0 ∷ 9 ∷ 9 ∷ [] }
    ∷ record { caller = operator; asked = made (line 4 (line_list 4)); refused = 0; value = []; front = []; line = 1 ∷ 0 ∷ 0 ∷ 9 ∷ [] }
    ∷ meets tenant (made (line 8 (line_list 3))) 7 (line_list 3)
    ∷ meets viewer (made (line 8 (line_list 3))) 25 (line_list 3)
    -- "a process not its own", at n and above too; a receiver is judged as in the call
    ∷ record { caller = tenant; asked = made (checkpoint 0 (deletion_list 3)); refused = 0; value = 1 ∷ []; front = 0 ∷ 0 ∷ []; line = [] }
    ∷ meets tenant (made (checkpoint 2 (deletion_list 3))) 25 []
    ∷ meets tenant (made (checkpoint 3 (deletion_list 3))) 25 []
    ∷ meets operator (made (checkpoint 3 (deletion_list 3))) 4 []
    ∷ record { caller = tenant; asked = made (send 0 2); refused = 0; value = 4 ∷ []; front = []; line = [] }
    ∷ meets tenant (made (send 2 0)) 25 []
    ∷ meets tenant (made (send 0 3)) 4 []
    ∷ meets tenant (made (send 0 0)) 5 []
    -- "a message not under way to its own processes": another's, one that was delivered, one that was never sent
    ∷ record { caller = tenant; asked = made (deliver 3 (deletion_list 3)); refused = 0; value = []; front = []; line = [] }
    ∷ meets tenant (made (deliver 2 (deletion_list 3))) 25 []
    ∷ meets tenant (made (deliver 1 (deletion_list 3))) 25 []
    ∷ meets operator (made (deliver 1 (deletion_list 3))) 8 []
    ∷ meets tenant (made (lose 3)) 0 []
    ∷ meets tenant (made (lose 2)) 25 []
    ∷ meets tenant (made (lose 4)) 25 []
    -- the operator's alone
    ∷ meets tenant (made (recover 1 (deletion_list 3) (line_list 3))) 25 (line_list 3)
    ∷ record { caller = operator; asked = made (recover 4 (deletion_list 3) (line_list 3)); refused = 0; value = 2 ∷ []; front = 1 ∷ 1 ∷ []; line = 1 ∷ 0 ∷ 0 ∷ [] }
    ∷ meets tenant (made (earliest (at 0 0 ∷ []) (line_list 3))) 25 (line_list 3)
    ∷ []

-- "25, before every other": on a state that is not sound, 2 after it.
unfoldable pub unsound_cases : List ConsoleCase
unsound_cases =
    meets viewer (list (deletion_list 3)) 25 []
    ∷ meets tenant (list (deletion_list 3)) 2 []
    ∷ meets tenant (made (checkpoint 2 (deletion_list 3))) 25 []
    ∷ meets tenant (made (checkpoint 0 (deletion_list 3))) 2 []
    ∷ meets tenant (made (deliver 1 (deletion_list 3))) 25 []
    ∷ meets operator (made (deliver 1 (deletion_list 3))) 2 []
    ∷ meets tenant (counts (line_list 3)) 25 (line_list 3)
    ∷ meets viewer (counts (line_list 3)) 2 (line_list 3)
    ∷ []

-- A start: who, of how many processes, the number.
pub record StartCase : Type 0 where
  pub caller : Caller
  pub count : ℕ
  pub refused : ℕ

unfoldable pub start_case_right : StartCase → Bool
start_case_right c = eqb (start_report (console_start c.caller c.count ones).answer).refused c.refused

unfoldable pub start_cases : List StartCase
start_cases =
    record { caller = operator; count = 3; refused = 0 }
    ∷ record { caller = operator; count = 17; refused = 1 }
    ∷ record { caller = tenant; count = 3; refused = 25 }
    ∷ record { caller = viewer; count = 17; refused = 25 }
    ∷ []

-- A named leak: calls that others made in two runs of three processes, and how the owner of process 0 is answered after each.
pub record Leak : Type 0 where
  pub one : List Call
  pub first : ConsoleCase
  pub another : List Call
  pub second : ConsoleCase

unfoldable pub leak_right : Leak → Bool
leak_right k = console_case_right (state_after (start_state 3 ones) k.one) k.first && console_case_right (state_after (start_state 3 ones) k.another) k.second

abbrev pub accepts : Asked → List ℕ → List ℕ → List ℕ → ConsoleCase
accepts a value front members = record { caller = owner 1; asked = a; refused = 0; value = value; front = front; line = members }

-- 10 and 16 take more calls than a table can hold.
unfoldable pub leaks : List Leak
leaks =
    -- "shows a run-wide number"
    record { one = []; first = accepts (made (send 0 1)) (1 ∷ []) [] []; another = send 1 2 ∷ []; second = accepts (made (send 0 1)) (2 ∷ []) [] [] }
    -- "A send may still meet 9"
    ∷ record { one = replicate 63 (send 1 2); first = accepts (made (send 0 1)) (64 ∷ []) [] []; another = replicate 64 (send 1 2); second = meets (owner 1) (made (send 0 1)) 9 [] }
    -- "deliveries and losses show what was sent to its processes": whether it brings news; whether there is a message
    ∷ record {
      one = send 1 0 ∷ deliver 1 (deletion_list 3) ∷ send 0 2 ∷ send 1 0 ∷ [];
      first = accepts (made (deliver 3 (deletion_list 3))) [] [] [];
      another = send 1 0 ∷ deliver 1 (deletion_list 3) ∷ checkpoint 1 (deletion_list 3) ∷ send 0 2 ∷ send 1 0 ∷ [];
      second = accepts (made (deliver 3 (deletion_list 3))) (1 ∷ []) (0 ∷ 0 ∷ []) [];
    }
    ∷ record { one = []; first = meets (owner 1) (made (lose 1)) 25 []; another = send 1 0 ∷ []; second = meets (owner 1) (made (lose 1)) 0 [] }
    -- "line members"
    ∷ record {
      one = send 1 0 ∷ deliver 1 (deletion_list 3) ∷ [];
      first = accepts (made (line 2 (line_list 3))) [] [] (0 ∷ 9 ∷ 9 ∷ []);
      another = send 1 0 ∷ deliver 1 (deletion_list 3) ∷ checkpoint 1 (deletion_list 3) ∷ [];
      second = accepts (made (line 2 (line_list 3))) [] [] (1 ∷ 9 ∷ 9 ∷ []);
    }
    ∷ []

unfoldable pub consoles_right : Bool
consoles_right = every (console_case_right shared_state) console_cases && every (console_case_right (blank 17)) unsound_cases && every start_case_right start_cases && every leak_right leaks
