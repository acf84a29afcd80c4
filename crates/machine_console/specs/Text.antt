-- The facts of a script, one line a call, decimal, single spaces: the number of the call, from 1; 0 or the number of its refusal; if accepted, what the call answered and
-- wrote.
-- Assumes nothing.
use Rattle.std.specs.Prelude.{◌∷◌, ◌++◌, ◌+◌, ◌/◌, ◌%◌}
use Rattle.laws.specs.Basics.{List, [], Option, None, Some, ℕ, zero, suc, eqb, length, take, drop, pick}
use Rattle.model.specs.declared.{Run.Run, Refusal.Refusal, Refusal.TheVariants.NoFirstByte, Refusal.TheVariants.LeftOverBytes}
use Rattle.model.specs.Refusals.{number}
use Rattle.whole_runs.specs.{Calls.Reply, Listing.decimal, Listing.space, Listing.line_feed, Listing.value_text, Listing.deletions_text}
use Rattle.theory_roles.specs.{declared.Caller.Caller, declared.Operation.Operation, Console.entitled}
use Rattle.theory_roles.specs.declared.Operation.TheVariants.{Start, Checkpoint, Send, Deliver, Lose, Recover, Line, Earliest, List as Listing, Counts}
use Rattle.machine_console.specs.declared.script.Call.{Call}
use Rattle.machine_console.specs.{script.Script.call_of, Made.processes, Made.made_on, Made.opened}

-- A value after a space, or a hyphen where there is none.
unfoldable pub field_text : Option ℕ → List ℕ
field_text value = space ∷ value_text value

-- How many pairs, and each of them as process:index, from the front of a deletion list.
unfoldable pub pairs_text : ℕ → List ℕ → List ℕ
pairs_text count deleted = field_text (Some count) ++ deletions_text count deleted

-- The value of a list is its count.
unfoldable pub list_text : Option ℕ → List ℕ → List ℕ
list_text None deleted = []
list_text (Some count) deleted = pairs_text count deleted

-- The entries of a line list, all of which were written.
unfoldable pub entries_text : List ℕ → List ℕ
entries_text [] = []
entries_text (x ∷ l) = field_text (Some x) ++ entries_text l

-- "see its own members of a line for a failed set, other places left unchanged": the entry, whatever it is; none, a hyphen, where nothing was written.
unfoldable pub member_shown : Caller → ℕ → ℕ → ℕ → Option ℕ
member_shown c n p entry = pick (entitled c n p) (Some entry) None

-- The places of a line list from place p on, after a line call.
unfoldable pub members_text : Caller → ℕ → ℕ → List ℕ → List ℕ
members_text c n p [] = []
members_text c n p (x ∷ l) = field_text (member_shown c n p x) ++ members_text c n (suc p) l

-- What follows the 0 of an accepted call, by its operation, where n are the processes.
unfoldable pub answer_text : Operation → Caller → ℕ → Reply → List ℕ
-- the index; the deletions
answer_text Checkpoint c n r = field_text r.report.value ++ pairs_text r.report.deletions r.deleted
-- the message's number
answer_text Send c n r = field_text r.report.value
-- the forced index or a hyphen; the set of the entries that rose; the deletions
answer_text Deliver c n r = field_text r.report.value ++ (field_text (Some r.rose) ++ pairs_text r.report.deletions r.deleted)
answer_text Lose c n r = []
-- the members of the line; how many were rolled back; the deletions
answer_text Recover c n r = entries_text r.line ++ (field_text r.report.value ++ pairs_text r.report.deletions r.deleted)
answer_text Line c n r = members_text c n 0 r.line
answer_text Earliest c n r = entries_text r.line
answer_text Listing c n r = list_text r.report.value r.deleted
answer_text Counts c n r = entries_text r.line
answer_text Start c n r = []

-- A line: the number of the call, 0 or that of its refusal, and if it is accepted what follows.
unfoldable pub line_text : ℕ → ℕ → List ℕ → List ℕ
line_text call refused answer = decimal call ++ (field_text (Some refused) ++ (pick (eqb refused 0) answer [] ++ (line_feed ∷ [])))

-- The line of a refusal that belongs to the script and to no call.
unfoldable pub refused_text : ℕ → Refusal → List ℕ
refused_text call why = line_text call (number why) []

-- What is no call is never accepted.
unfoldable pub tail_text : Option Call → ℕ → Reply → List ℕ
tail_text None n r = []
tail_text (Some c) n r = answer_text c.operation c.caller n r

-- The line of the call with a number, which is made on a state.
unfoldable pub call_text : ℕ → Run → Option Call → List ℕ
call_text call s c = let r = (made_on s c).reply in line_text call r.report.refused (tail_text c (processes s) r)

-- Eight bytes are a call.
abbrev pub call_size : ℕ
call_size = 8

abbrev pub first_call : List ℕ → Option Call
first_call l = call_of (take call_size l)

-- The lines of the first k calls of what follows the first byte, after `done` calls, and the state after them.
unfoldable pub call_lines : ℕ → ℕ → Run → List ℕ → List ℕ
call_lines zero done s l = []
call_lines (suc k) done s l = call_text (done + 1) s (first_call l) ++ call_lines k (done + 1) (made_on s (first_call l)).run (drop call_size l)

unfoldable pub run_after : ℕ → Run → List ℕ → Run
run_after zero s l = s
run_after (suc k) s l = run_after k (made_on s (first_call l)).run (drop call_size l)

-- The number that the first byte is refused with, or 0 where the run is started.
unfoldable pub refused_at : ℕ → ℕ
refused_at n = (opened n).reply.report.refused

-- The lines of all calls of a script of which every byte is there. A first byte that is refused has a line of its own, and ends it.
unfoldable pub lines_of : List ℕ → List ℕ
lines_of [] = []
lines_of (n ∷ l) = pick (eqb (refused_at n) 0) (call_lines (length l / call_size) 0 (opened n).run l) (line_text 0 (refused_at n) [])

-- Bytes that are left over at the end of a script are 13, under the number of the call that they begin.
unfoldable pub left_over_of : ℕ → ℕ → List ℕ
left_over_of done buffered = pick (eqb buffered 0) [] (refused_text (done + 1) LeftOverBytes)

-- The facts of a whole script.
unfoldable pub facts_of : List ℕ → List ℕ
facts_of [] = refused_text 0 NoFirstByte
facts_of (n ∷ l) = lines_of (n ∷ l) ++ pick (eqb (refused_at n) 0) (left_over_of (length l / call_size) (length l % call_size)) []
