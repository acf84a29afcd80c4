-- Document 02, Note 13: "The console works on states reached by its own calls." Lists of console calls, the surviving history of one, and what is claimed of
-- the states that they reach.
-- Assumes nothing.
use Rattle.std.specs.Prelude.{◌≡◌, ◌∷◌, ◌++◌, ◌^◌, ◌<◌, Ok}
use Rattle.laws.specs.Basics.{List, [], ℕ}
use Prim.{tt}
use Rattle.model.specs.declared.Run.{Run}
use Rattle.whole_runs.specs.Outcomes.{checkpoint_report, send_report, deliver_report, lose_report, line_report, recover_report}
use Rattle.whole_runs.specs.Calls.{Call, checkpoint, send, deliver, lose, recover, line, earliest, Answered, answered, call, Exchange}
use Rattle.whole_runs.specs.{Survival.Surviving, Survival.surviving, Answers.AnswerIsRight}
use Rattle.whole_runs.specs.WholeRuns.{KeptIsRight, BlocksAreRight, LineIsRight, Reachable}
use Rattle.theory_roles.specs.declared.Caller.{Caller}
use Rattle.theory_roles.specs.Console.{console_start, console_checkpoint, console_send, console_deliver, console_lose, console_recover, console_line, console_earliest, console_list, console_counts, list_report}

-- What a caller asks of the console: one of the library's calls, a list, or the counts. A lent list is given as it stood before the call.
pub data Asked : Type 0 where
  made : Call → Asked
  -- the deletion list
  list : List ℕ → Asked
  -- the line list
  counts : List ℕ → Asked

pub record ConsoleCall : Type 0 where
  pub caller : Caller
  pub asked : Asked

-- A console call on a state, by the very outcomes that the contracts of the console's calls cite.
unfoldable pub console_answered : Caller → Run → Asked → Answered
console_answered c s (made (checkpoint i deleted)) = answered checkpoint_report (console_checkpoint c s i deleted)
console_answered c s (made (send i j)) = answered send_report (console_send c s i j)
console_answered c s (made (deliver m deleted)) = answered deliver_report (console_deliver c s m deleted)
console_answered c s (made (lose m)) = answered lose_report (console_lose c s m)
console_answered c s (made (recover F deleted lent)) = answered recover_report (console_recover c s F deleted lent)
console_answered c s (made (line F lent)) = answered line_report (console_line c s F lent)
console_answered c s (made (earliest l lent)) = answered line_report (console_earliest c s l lent)
console_answered c s (list deleted) = answered list_report (console_list c s deleted)
console_answered c s (counts lent) = answered line_report (console_counts c s lent)

unfoldable pub console_call : Run → ConsoleCall → Answered
console_call s k = console_answered k.caller s k.asked

-- Each gets the state that the one before it returned.
unfoldable pub state_after_console : Run → List ConsoleCall → Run
state_after_console s [] = s
state_after_console s (k ∷ l) = state_after_console (console_call s k).run l

-- The console's answers as document 01's history reads them: each of the library's calls with the answer that the console gave, 25 among them. A list and the
-- counts are no calls of the library and change nothing.
unfoldable pub exchanged : Caller → Run → Asked → List Exchange
exchanged c s (made k) = record { made = k; reply = (console_answered c s (made k)).reply } ∷ []
exchanged c s (list deleted) = []
exchanged c s (counts lent) = []

unfoldable pub console_transcript : Run → List ConsoleCall → List Exchange
console_transcript s [] = []
console_transcript s (k ∷ l) = exchanged k.caller s k.asked ++ console_transcript (console_call s k).run l

-- The surviving history of console calls after a console start: "built from the calls and their answers, and from nothing in the state".
unfoldable pub console_history : Caller → ℕ → List ℕ → List ConsoleCall → Surviving
console_history c n sizes calls = surviving n sizes (console_transcript (console_start c n sizes).run calls)

-- "states reached by its own calls": by an accepted start, with any block counts, and any list of console calls by any callers, refused ones among them.
unfoldable pub ConsoleReached : Run → Type 0
ConsoleReached s = (c : Caller) × (n : ℕ) × (sizes : List ℕ) × ((console_start c n sizes).answer ≡ Ok tt) × (calls : List ConsoleCall)
    × (s ≡ state_after_console (console_start c n sizes).run calls)

-- They are states that the library's own calls reach from an accepted start.
unfoldable pub ConsoleIsReachable : Type 0
ConsoleIsReachable = (s : Run) → ConsoleReached s → Reachable s

-- So demand 3 holds there: what is kept, the blocks, the line for every failed set, and the answer that the library gives to every further call, all judged by the
-- console's own history. The console gives that answer, but for 25 and for the places of an owner's line that are not its own (specs/Console).
unfoldable pub RightOverConsoleRuns : Type 0
RightOverConsoleRuns = (c : Caller) (n : ℕ) (sizes : List ℕ) → (console_start c n sizes).answer ≡ Ok tt → (calls : List ConsoleCall) →
    let s = state_after_console (console_start c n sizes).run calls in
    let h = console_history c n sizes calls in
    (KeptIsRight n s h) × (BlocksAreRight n s h) × ((F : ℕ) → F < 2 ^ n → LineIsRight n s h F)
    × ((k : Call) → AnswerIsRight n h (record { made = k; reply = (call s k).reply }))
